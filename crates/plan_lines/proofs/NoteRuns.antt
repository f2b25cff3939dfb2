-- Known notes that stand behind one another: what a reader answers of them, and how one note more is taken, held or forgotten.
use Rattle.std.proofs.Common.{◌≡◌, ◌≢◌, ℕ, zero, suc, ◌+◌, ◌-◌, ◌^◌, min, ◌%◌, ◌<◌, ◌≤◌, Bool, true, false, ◌||◌, ◌==◌, List, [], ◌∷◌, ◌++◌, length, map, replicate, set, get_or, Option, Some, None, Result, Ok, refl, ap, sym, subst, ◌∙◌, arith, inl, inr, All}
use Rattle.std.specs.Prelude.{◌⊎◌, is_some}
use Rattle.std.proofs.lemmas.Bool.{cases_eq, false_from_ne_true, le-leb, true≢false}
use Rattle.std.proofs.lemmas.List.{append_assoc, get_or-set_other, length-append, length_push, map-set, map_push}
use Rattle.std.proofs.lemmas.List.Elements.{All-head, All-nil, All-push, All-tail, All-weaker}
use Rattle.std.proofs.lemmas.Option.{none-some}
use Rattle.brake_base.specs.declared.mask.Mask.{Mask}
use Rattle.brake_base.proofs.Masks.{has_none}
use Rattle.brake_base.specs.declared.stroke.Key.{Key}
use Rattle.brake_base.specs.declared.reason.Reason.{Reason}
use Rattle.brake_base.specs.Actions.{IsActionAmong, number_of_action}
use Rattle.stage_lanes.specs.declared.actions.ActionSet.{ActionSet}
use Rattle.stage_lanes.specs.ActionSets.{place_of, has_place, ArePlaces, IsNone, places_of}
use Rattle.job_setup.specs.Setup.{JobData}
use Rattle.job_setup.specs.StrokeGroup.{is_lead}
use Rattle.cert_lines.specs.declared.format.Format.{Format}
use Rattle.cert_lines.specs.LineReading.{lines_in}
use Rattle.cert_lines.proofs.WholeLines.{cut_line, some_line}
use Rattle.plan_lines.specs.declared.item.Item.{Item}
use Rattle.plan_lines.specs.declared.item.Item.TheVariants as given
use Rattle.plan_lines.specs.declared.item.CertFault.{CertFault}
use Rattle.plan_lines.specs.declared.section.Section.{Section}
use Rattle.plan_lines.specs.declared.section.Section.TheVariants as sections
use Rattle.plan_lines.specs.declared.line_place.LinePlace.{LinePlace}
use Rattle.plan_lines.specs.declared.job_facts.JobFacts.{JobFacts}
use Rattle.plan_lines.specs.declared.note.KnownNote.{KnownNote}
use Rattle.plan_lines.specs.declared.job_facts.SetLeads.{SetLeads}
use Rattle.plan_lines.specs.declared.note_run.NoteRun.{NoteRun}
use Rattle.plan_lines.specs.Facts.{KeepsFacts, HasFew, AreAllEarlier}
use Rattle.plan_lines.specs.PlanReading.{noted}
use Rattle.plan_lines.specs.Items.{next_number, plan_items}
use Rattle.plan_lines.specs.NoteLines.{IsKnown}
use Rattle.plan_lines.specs.Reading.{LeavesPlan, LeavesIn, LeavesAt}
use Rattle.plan_lines.specs.NoteLines.{KnownReasons, number_at, reason_at, or_cover, note_told, notes_told, IsKnownAt, KnowsNoMore, KnowsAtMost, AreLeads, reason_of, known_reasons, line_of, MayStand, AreLines, IsRun, IsTaken, GivesAll, numbers_on}
use Rattle.plan_lines.proofs.NumberedActions.{none_at, one_kept}
use Rattle.plan_lines.proofs.PlanItems.{known_among, gives_again}
use Rattle.plan_lines.proofs.NoteSets.{no_places, last_place, place_below, number_of_place, stage_of_place, number_up}
use Rattle.plan_lines.proofs.PlanItems.{leaves_same, plan_taken}

-- the action of a known note, where at least as many bends and stages are allowed
pub among : (facts : JobFacts) (note : KnownNote) (bends stages : ℕ) → facts.bends ≤ bends → facts.stages ≤ stages → IsKnown facts.bends facts.stages note → IsActionAmong bends stages note.action
among facts note bends stages few few_too known =
    let own = known_among note facts.bends facts.stages known in
    let last = own.last in
    let stage = own.stage in
    record { first = own.first; last = omega (arith, last, few); stage = omega (arith, stage, few_too) }

-- facts that agree but for the format are kept of the same jobs
pub facts_same : (facts other : JobFacts) (job : JobData) → facts.bends ≡ other.bends → facts.stages ≡ other.stages → facts.earlier ≡ other.earlier → KeepsFacts facts job → KeepsFacts other job
facts_same facts other job bends stages earlier kept = record {
  bends = sym bends ∙ kept.bends;
  few_bends = subst (λ (n : ℕ). n ≤ 12) bends kept.few_bends;
  stages = sym stages ∙ kept.stages;
  few_stages = subst (λ (n : ℕ). n ≤ 6) stages kept.few_stages;
  faces = subst (λ (n : ℕ). n + 1 ≡ length job.part.faces) bends kept.faces;
  earlier = subst (λ (masks : List Mask). AreAllEarlier job masks) earlier kept.earlier;
}

-- ---- the reasons of the notes that are held
pub reason_is : (held : List (Option KnownNote)) (number : ℕ) → get_or (map reason_of held) number None ≡ reason_of (get_or held number None)
reason_is [] zero = refl
reason_is [] (suc number) = refl
reason_is (first ∷ held) zero = refl
reason_is (first ∷ held) (suc number) = reason_is held number

pub none_by : (n number : ℕ) → get_or (map reason_of (replicate n None)) number None ≡ None
none_by n number = reason_is (replicate n None) number ∙ ap (λ (o : Option KnownNote). reason_of o) (none_at n number)

-- where one note more is held, its reason alone is new
pub learned : (stages : ℕ) (held : List (Option KnownNote)) (number : ℕ) (note : KnownNote) → KnowsAtMost (known_reasons stages held) number note.reason (known_reasons stages (set held number (Some note)))
learned stages held number note = (
  refl,
  λ other known is.
      one_kept (λ m r. (get_or (map reason_of held) m None ≡ Some r) ⊎ ((m ≡ number) × (r ≡ note.reason))) (map reason_of held) number note.reason (inr (refl, refl)) (λ m r before. inl before) other known
      (subst (λ (reasons : List (Option Reason)). get_or reasons other None ≡ Some known) (map-set reason_of held number (Some note)) is),
)

-- and where none was held of its action, no reason is lost
pub none_lost : (stages : ℕ) (held : List (Option KnownNote)) (number : ℕ) (note : KnownNote) → get_or held number None ≡ None → KnowsNoMore (known_reasons stages (set held number (Some note))) (known_reasons stages held)
none_lost stages held number note free = (
  refl,
  λ other known is. elim (cases_eq other number) [
    | inl here ↦ absurd (none-some known (sym (reason_is held other ∙ ap (λ (o : Option KnownNote). reason_of o) (ap (λ (m : ℕ). get_or held m None) here ∙ free)) ∙ is))
    | inr apart ↦
        reason_is (set held number (Some note)) other ∙ ap (λ (o : Option KnownNote). reason_of o) (get_or-set_other held number other (Some note) None apart)
        ∙ sym (reason_is held other) ∙ is
  ],
)

pub both_known : (old between new : KnownReasons) (number : ℕ) (reason : Reason) → KnowsNoMore old between → KnowsAtMost between number reason new → KnowsAtMost old number reason new
both_known old between new number reason first then = (
  then.0 ∙ first.0,
  λ other known is. elim (then.1 other known is) [
    | inl before ↦ inl (first.1 other known before)
    | inr now ↦ inr now
  ],
)

-- ---- lines of known notes
pub no_lines : (facts : JobFacts) (known : KnownReasons) (leads : Mask) (least : ℕ) (set : ActionSet) → IsNone set → AreLines facts known leads least [] set 0 least
no_lines facts known leads least set none = record {
  told = λ format job key n behind kept are. ap (λ (places : List ℕ). map (note_told known) places ++ plan_items format job n (sections.Notes key least) (lines_in behind)) (sym (no_places set none));
  below = λ place inside is. absurd (let no = none place inside in cc);
  are_known = subst (All (IsKnownAt known)) (sym (no_places set none)) (All-nil (IsKnownAt known));
  count_is = ap (λ (places : List ℕ). length places) (no_places set none);
  few = omega arith;
  long = omega arith;
}

map_all : (f g : ℕ → Result Item CertFault) (xs : List ℕ) → All (λ x. f x ≡ g x) xs → map f xs ≡ map g xs
map_all f g [] same = refl
map_all f g (x ∷ xs) same = λ i. All-head (λ x. f x ≡ g x) x xs same i ∷ map_all f g xs (All-tail (λ x. f x ≡ g x) x xs same) i

-- the same where more is known
pub lines_still : (facts : JobFacts) (stages : ℕ) (old new : List (Option Reason)) (leads : Mask) (least count next : ℕ) (bytes : List ℕ) (notes : ActionSet) → KnowsNoMore (record { stages = stages; reasons = new }) (record { stages = stages; reasons = old })
    → AreLines facts (record { stages = stages; reasons = old }) leads least bytes notes count next → AreLines facts (record { stages = stages; reasons = new }) leads least bytes notes count next
lines_still facts stages old new leads least count next bytes notes more are = record {
  told = λ format job key n behind kept leads_are.
      are.told format job key n behind kept leads_are
      ∙ ap (λ (told : List (Result Item CertFault)). told ++ plan_items format job (numbers_on count n) (sections.Notes key next) (lines_in behind))
      (map_all (note_told was) (note_told is) (places_of notes) (All-weaker (IsKnownAt was) (λ place. note_told was place ≡ note_told is place) (λ place known. ap (λ (r : Option Reason). Ok (given.Note (number_at stages place) (or_cover r))) (sym (same place known.0))) (places_of notes) are.are_known));
  below = are.below;
  are_known = All-weaker (IsKnownAt was) (IsKnownAt is) (λ place known. (ap (λ (r : Option Reason). is_some r) (same place known.0) ∙ known.0, known.1)) (places_of notes) are.are_known;
  count_is = are.count_is;
  few = are.few;
  long = are.long;
}
  where
    was : KnownReasons
    was = record { stages = stages; reasons = old }

    is : KnownReasons
    is = record { stages = stages; reasons = new }

    stays : (o p : Option Reason) → is_some o ≡ true → ((r : Reason) → o ≡ Some r → p ≡ Some r) → p ≡ o
    stays None p some same = absurd cc
    stays (Some r) p some same = same r refl

    same : (place : ℕ) → is_some (reason_at was place) ≡ true → reason_at is place ≡ reason_at was place
    same place some = stays (reason_at was place) (reason_at is place) some (more.1 (number_at stages place))

noted_is : (facts : JobFacts) (job : JobData) (key : Key) (least : ℕ) (note : KnownNote) → KeepsFacts facts job → least ≤ number_of_action facts.stages note.action → is_lead job key.mask note.action.bend ≡ true
    → noted job key least note.action note.reason ≡ Some (given.Note (number_of_action facts.stages note.action) note.reason, sections.Notes key (number_of_action facts.stages note.action + 1))
unfolding noted
noted_is facts job key least note kept le lead = rw (← kept.stages, le-leb least (number_of_action facts.stages note.action) le, lead) refl

-- the reason by the place of a note that is held
reason_there : (facts : JobFacts) (held : List (Option KnownNote)) (leads : Mask) (least : ℕ) (note : KnownNote) → note.action.stage < 8 → MayStand facts held leads least note → reason_at (known_reasons facts.stages held) (place_of note.action) ≡ Some note.reason
reason_there facts held leads least note stage stands =
    ap (λ (m : ℕ). get_or (map reason_of held) m None) (number_of_place facts.stages note.action stage) ∙ reason_is held (number_of_action facts.stages note.action) ∙ ap (λ (o : Option KnownNote). reason_of o) stands.is_held

-- the line of a note that may stand at a key is answered by the note
note_first : (facts : JobFacts) (format : Format) (held : List (Option KnownNote)) (leads : Mask) (job : JobData) (key : Key) (n least : ℕ) (note : KnownNote) (behind : List ℕ) → facts.stages ≤ 6 → KeepsFacts facts job
    → AreLeads facts (record { folded = key.mask; leads = leads }) → MayStand facts held leads least note
    → plan_items format job n (sections.Notes key least) (lines_in (line_of note ++ behind))
    ≡ note_told (known_reasons facts.stages held) (place_of note.action) ∷ plan_items format job (next_number n) (sections.Notes key (number_of_action facts.stages note.action + 1)) (lines_in behind)
note_first facts format held leads job key n least note behind few kept leads_are stands =
    let number = number_of_action facts.stages note.action in
    let own = known_among note facts.bends facts.stages stands.known in
    let small = own.stage in
    let stage : note.action.stage < 8 = omega (arith, small, few) in
    let lead = leads_are job note.action.bend kept own.first own.last stands.is_lead in
    ap (λ (t : List ℕ). plan_items format job n (sections.Notes key least) (lines_in t)) (append_assoc note.line.now (10 ∷ []) behind)
    ∙ ap (λ (ls : List (List ℕ)). plan_items format job n (sections.Notes key least) ls) (cut_line note.line.now behind (stands.known).alone)
    ∙ plan_taken format job n (sections.Notes key least) note.line.now (lines_in behind) (given.Note number note.reason, sections.Notes key (number + 1)) refl (some_line behind)
    (gives_again facts format job key least note (given.Note number note.reason, sections.Notes key (number + 1)) stands.known kept (noted_is facts job key least note kept stands.from_least lead))
    ∙ (λ i. Ok (given.Note (sym (number_of_place facts.stages note.action stage) i) (or_cover (sym (reason_there facts held leads least note stage stands) i)))
    ∷ plan_items format job (next_number n) (sections.Notes key (number + 1)) (lines_in behind))

numbers_more : (count n : ℕ) → numbers_on (suc count) n ≡ next_number (numbers_on count n)
numbers_more zero n = refl
numbers_more (suc count) n = numbers_more count (next_number n)

-- one note more
pub lines_more : (facts : JobFacts) (held : List (Option KnownNote)) (leads : Mask) (least count next : ℕ) (bytes : List ℕ) (old new : ActionSet) (note : KnownNote) → HasFew facts → ArePlaces new (λ place. has_place old place || place == place_of note.action)
    → MayStand facts held leads next note → AreLines facts (known_reasons facts.stages held) leads least bytes old count next
    → AreLines facts (known_reasons facts.stages held) leads least (bytes ++ line_of note) new (count + 1) (number_of_action facts.stages note.action + 1)
lines_more facts held leads least count next bytes old new note few more stands are = record {
  told = λ format job key n behind kept leads_are.
      let rest : ℕ → List (Result Item CertFault) = λ m. plan_items format job m (sections.Notes key (number + 1)) (lines_in behind) in
      let one : suc count ≡ count + 1 = omega arith in
      let counted : next_number (numbers_on count n) ≡ numbers_on (count + 1) n = sym (numbers_more count n) ∙ ap (λ (m : ℕ). numbers_on m n) one in
      ap (λ (t : List ℕ). plan_items format job n (sections.Notes key least) (lines_in t)) (append_assoc bytes (line_of note) behind)
      ∙ are.told format job key n (line_of note ++ behind) kept leads_are
      ∙ ap (λ (answers : List (Result Item CertFault)). notes_told known old ++ answers) (note_first facts format held leads job key (numbers_on count n) next note behind few.stages kept leads_are stands)
      ∙ sym (append_assoc (notes_told known old) (note_told known place ∷ []) (rest (next_number (numbers_on count n))))
      ∙ (λ i. (sym (map_push (note_told known) (places_of old) place) ∙ ap (map (note_told known)) (sym places)) i ++ rest (counted i));
  below = λ other inside is. elim (cases_eq other place) [
    | inl here ↦ let same : number_at facts.stages other ≡ number = ap (λ (p : ℕ). number_at facts.stages p) here ∙ at in omega (arith, same)
    | inr apart ↦
        let before = are.below other inside (either (has_place old other) (other == place) (sym (more other inside) ∙ is) (differ other place apart)) in
        omega (arith, before, from)
  ];
  are_known = subst (All (IsKnownAt known)) (sym places)
      (All-push (IsKnownAt known) (places_of old) place are.are_known (ap (λ (r : Option Reason). is_some r) (reason_there facts held leads next note eight.stage stands), small));
  count_is = let before = are.count_is in ap (λ (ps : List ℕ). length ps) places ∙ omega (arith, before, length_push (places_of old) place);
  few = let before = are.few in omega (arith, before, from);
  long = let before = are.long in omega (arith, before, length-append bytes (line_of note), length-append note.line.now (10 ∷ []));
}
  where
    known : KnownReasons
    known = known_reasons facts.stages held

    number : ℕ
    number = number_of_action facts.stages note.action

    place : ℕ
    place = place_of note.action

    from : next ≤ number
    from = stands.from_least

    eight : IsActionAmong 12 8 note.action
    eight = let stages = few.stages in among facts note 12 8 few.bends (omega (arith, stages)) stands.known

    at : number_at facts.stages place ≡ number
    at = number_of_place facts.stages note.action eight.stage

    small : place % 8 < facts.stages
    small = subst (λ (s : ℕ). s < facts.stages) (sym (stage_of_place note.action eight.stage)) (known_among note facts.bends facts.stages stands.known).stage

    none : (other : ℕ) → place ≤ other → other < 192 → has_place old other ≡ false
    none other above inside = false_from_ne_true (has_place old other) (λ is.
        let less = are.below other inside is in
        let order = number_up facts.stages place other above small in
        omega (arith, less, order, at, from))

    places : places_of new ≡ places_of old ++ place ∷ []
    places = last_place old new place (place_below note.action eight) more none

    differ : (m n : ℕ) → m ≢ n → (m == n) ≡ false
    differ m n h = grind (arith, h)

    either : (s t : Bool) → (s || t) ≡ true → t ≡ false → s ≡ true
    either s t e f = grind (arith, e, f)

-- ---- runs of notes
-- what stands behind a run of notes, for a reader that keeps as much of the job
pub taken_by : (facts own : JobFacts) (known seen : KnownReasons) (leads : SetLeads) (folded : Mask) (least : ℕ) (text : List ℕ) (run : NoteRun) → known ≡ seen → AreLeads own leads → ((job : JobData) → KeepsFacts facts job → KeepsFacts own job)
    → leads.folded ≡ folded → IsRun own known leads.leads least text run → IsTaken facts seen folded least text run
taken_by facts own known seen leads folded least text run view leads_are same at is = subst (λ (k : KnownReasons). IsTaken facts k folded least text run) view (record {
  told = λ job key n behind kept here.
      ap (λ (t : List ℕ). plan_items facts.format job n (sections.Notes key least) (lines_in t)) (ap (λ (t : List ℕ). t ++ behind) is.is_text ∙ append_assoc is.front run.rest.now behind)
      ∙ (is.are).told facts.format job key n (run.rest.now ++ behind) (same job kept) (subst (λ (m : Mask). AreLeads own (record { folded = m; leads = leads.leads })) (at ∙ sym here) leads_are);
  cut = (is.front, is.is_text);
  shorter = let long = (is.are).long in let whole = ap (λ (t : List ℕ). length t) is.is_text in omega (arith, long, whole, length-append is.front run.rest.now);
  count_is = (is.are).count_is;
  are_known = (is.are).are_known;
})

-- the same of a run whatever bends are leads
pub taken_anyhow : (facts : JobFacts) (known : KnownReasons) (folded : Mask) (least : ℕ) (text : List ℕ) (run : NoteRun) → ((leads : Mask) → IsRun facts known leads least text run) → IsTaken facts known folded least text run
taken_anyhow facts known folded least text run is =
    taken_by facts facts known known (record { folded = folded; leads = record { 0 = 0 } }) folded least text run refl (λ job bend kept first last no. absurd (true≢false (sym no ∙ has_none bend))) (λ job kept. kept) refl (is (record { 0 = 0 }))

-- what is left is no longer than the text
pub rest_few : (facts : JobFacts) (known : KnownReasons) (leads : Mask) (least : ℕ) (text : List ℕ) (run : NoteRun) → IsRun facts known leads least text run → length run.rest.now ≤ length text
rest_few facts known leads least text run is = let whole = ap (λ (t : List ℕ). length t) is.is_text in omega (arith, whole, length-append is.front run.rest.now)

-- the line number counts on
pub numbers_are : (count n : ℕ) → n ≤ 2 ^ 32 - 1 → min (n + count) (2 ^ 32 - 1) ≡ numbers_on count n
numbers_are zero n few = omega (arith, few)
numbers_are (suc count) n few =
    let next : next_number n ≤ 2 ^ 32 - 1 = omega arith in
    let same : min (n + suc count) (2 ^ 32 - 1) ≡ min (next_number n + count) (2 ^ 32 - 1) = omega (arith, few) in
    same ∙ numbers_are count (next_number n) next

-- many answers at once
pub taken_given : (old : LinePlace) (known : KnownReasons) (key : Key) (least : ℕ) (text behind : List ℕ) (run : NoteRun) (answers : List (Result Item CertFault)) → old.section ≡ sections.Notes key least → IsTaken old.facts known key.mask least text run
    → LeavesAt old (text ++ behind) answers
    → GivesAll answers (notes_told known run.notes) (record { number = numbers_on run.count old.number; section = sections.Notes key run.least; facts = old.facts }) (run.rest.now ++ behind)
taken_given old known key least text behind run answers at taken left =
    let rest = run.rest.now ++ behind in
    let plan : LeavesPlan old (text ++ behind) answers = subst (λ (s : Section). LeavesIn s old (text ++ behind) answers) at left in (
      plan_items old.facts.format plan.job (numbers_on run.count old.number) (sections.Notes key run.least) (lines_in rest),
      plan.left ∙ ap (λ (s : Section). plan_items old.facts.format plan.job old.number s (lines_in (text ++ behind))) at ∙ taken.told plan.job key old.number behind plan.kept refl,
      leaves_same (numbers_on run.count old.number) (sections.Notes key run.least) old.facts rest plan.job plan.kept,
    )
