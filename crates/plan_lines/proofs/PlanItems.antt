-- The answers behind the job, one after the other; and the line at the front of a text: one that was read, that of a known note, and that of a row.
use Rattle.std.proofs.Common.{◌≡◌, ℕ, ◌<◌, Bool, true, false, cond, ◌==◌, eqb-true, List, [], ◌∷◌, ◌++◌, length, Option, Some, None, Result, Ok, Err, refl, sym, ap, ◌∙◌, arith, ◌+◌, ◌≤◌, codes, subst, append_assoc}
use Rattle.std.specs.Prelude.{if◌then◌else◌}
use Rattle.std.specs.List.{onto_first}
use Rattle.std.proofs.lemmas.Bool.{true≢false}
use Rattle.brake_text.specs.Lines.{is_line_feed}
use Rattle.job_setup.specs.Setup.{JobData, bend_count, stage_count}
use Rattle.cert_lines.specs.declared.format.Format.{Format}
use Rattle.plan_lines.specs.declared.item.Item.{Item}
use Rattle.plan_lines.specs.declared.item.Item.TheVariants as given
use Rattle.plan_lines.specs.declared.item.CertFault.{CertFault}
use Rattle.plan_lines.specs.declared.item.CertFault.TheVariants as faults
use Rattle.plan_lines.specs.declared.section.Section.{Section}
use Rattle.plan_lines.specs.declared.section.Section.TheVariants as sections
use Rattle.plan_lines.specs.declared.line_place.LinePlace.{LinePlace}
use Rattle.plan_lines.specs.declared.job_facts.JobFacts.{JobFacts}
use Rattle.plan_lines.specs.Facts.{KeepsFacts}
use Rattle.plan_lines.specs.PlanReading.{take_plan_line, first_section, may_be_row, noted, give, plan_words_in, plan_line_in}
use Rattle.cert_lines.specs.LineReading.{keyword_in, behind_keyword, lines_in, IsCut, only_if}
use Rattle.cert_lines.specs.JobLines.{JobLinesData}
use Rattle.plan_lines.specs.Items.{next_number, is_over, plan_item, end_before, end_or_fault, plan_items}
use Rattle.plan_lines.specs.Reading.{GivesLine, LeavesPlan, LeavesIn, LeavesAt, GivesNext, HoldsBefore, IsNextLine}
use Rattle.cert_lines.proofs.WholeLines.{uncut_before, some_line, behind_cut, cut_before, cut_shorter}
use Rattle.std.proofs.lemmas.List.{length-append}
use Rattle.std.proofs.lemmas.Int.{to_z-of_z}
use Rattle.brake_base.specs.declared.stroke.Key.{Key}
use Rattle.brake_base.specs.Actions.{IsActionAmong}
use Rattle.cert_words.specs.LineWords.{◌>>=◌}
use Rattle.cert_lines.specs.declared.row_head.RowHead.{RowHead}
use Rattle.cert_lines.specs.Lines.{CertLine, row_line, line_text}
use Rattle.cert_lines.proofs.TextLines.{line_bytes, one_line}
use Rattle.plan_lines.specs.declared.note.KnownNote.{KnownNote}
use Rattle.plan_lines.specs.NoteLines.{IsKnown}
use Rattle.plan_lines.specs.LinesFit.{IsRow}
use Rattle.plan_lines.proofs.PlanLineRead.{IsSmall, note_among, plan_lines_read}

pub ruleset pieces = (append_assoc, to_z-of_z)

-- nothing stands behind the end's line
pub ended_by : (text behind : List ℕ) → (length text == 0) ≡ true → behind ≡ [] → Ok given.End ≡ end_before (lines_in (text ++ behind))
ended_by [] behind none last = sym (ap (λ (t : List ℕ). end_before (lines_in t)) last)
ended_by (byte ∷ text) behind none last = absurd (let zero = eqb-true (length (byte ∷ text)) 0 none in omega (arith, zero))

-- something stands behind it
pub trailing_by : (text behind : List ℕ) → (length text == 0) ≡ false → Err faults.Trailing ≡ end_before (lines_in (text ++ behind))
trailing_by [] behind some = absurd (true≢false some)
trailing_by (byte ∷ text) behind some = by_test (is_line_feed byte) (lines_in (text ++ behind)) (some_line (text ++ behind))
  where
    by_test : (b : Bool) (ls : List (List ℕ)) → 0 < length ls → Err faults.Trailing ≡ end_before (cond b ([] ∷ ls) (onto_first byte ls))
    by_test b [] none = absurd (omega arith)
    by_test true (line ∷ ls) some = refl
    by_test false (line ∷ ls) some = refl

-- at the end no answer is left
over_items : (format : Format) (job : JobData) (n : ℕ) (lines : List (List ℕ)) → plan_items format job n sections.Over lines ≡ []
unfolding plan_items
over_items format job n [] = refl
over_items format job n (line ∷ rest) = refl

-- elsewhere a line gives an answer
one_item : (format : Format) (job : JobData) (n : ℕ) (section : Section) (line : List ℕ) (rest : List (List ℕ)) → is_over section ≡ false
    → plan_items format job n section (line ∷ rest) ≡ (plan_item format job n section line rest).0 ∷ plan_items format job (next_number n) (plan_item format job n section line rest).1 rest
unfolding plan_items
one_item format job n section line rest is =
    ap (λ (b : Bool). if b then [] else (plan_item format job n section line rest).0 ∷ plan_items format job (next_number n) (plan_item format job n section line rest).1 rest) is

-- what is left of a plan
pub left_in : (section : Section) (place : LinePlace) (text : List ℕ) (answers : List (Result Item CertFault)) → place.section ≡ section → LeavesPlan place text answers → LeavesIn section place text answers
left_in sections.Over place text answers is plan =
    plan.left ∙ ap (λ (s : Section). plan_items place.facts.format plan.job place.number s (lines_in text)) is ∙ over_items place.facts.format plan.job place.number (lines_in text)
left_in sections.Claim place text answers is plan = plan
left_in (sections.Steps steps) place text answers is plan = plan
left_in sections.Rows place text answers is plan = plan
left_in (sections.Notes key number) place text answers is plan = plan

-- some answer is left of a plan that isn't over
pub plan_left : (section : Section) (place : LinePlace) (text : List ℕ) (answers : List (Result Item CertFault)) → 0 < length answers → LeavesIn section place text answers → LeavesPlan place text answers × (is_over section ≡ false)
plan_left sections.Over place text answers some left = absurd (let none : length answers ≡ 0 = ap (λ (a : List (Result Item CertFault)). length a) left in omega arith)
plan_left sections.Claim place text answers some left = (left, refl)
plan_left (sections.Steps steps) place text answers some left = (left, refl)
plan_left sections.Rows place text answers some left = (left, refl)
plan_left (sections.Notes key number) place text answers some left = (left, refl)

-- what is left at a place of a job
pub leaves_same : (number : ℕ) (section : Section) (facts : JobFacts) (text : List ℕ) (job : JobData) → KeepsFacts facts job
    → LeavesAt (record { number = number; section = section; facts = facts }) text (plan_items facts.format job number section (lines_in text))
leaves_same number section facts text job kept =
    left_in section (record { number = number; section = section; facts = facts }) text (plan_items facts.format job number section (lines_in text)) refl (record { job = job; kept = kept; left = refl })

-- a whole line behind the job is answered
pub line_given : (old : LinePlace) (answers : List (Result Item CertFault)) (text rest behind : List ℕ) (given : Result Item CertFault × Section) → LeavesAt old (text ++ behind) answers → 0 < length answers
    → ((job : JobData) → KeepsFacts old.facts job → GivesLine old job (text ++ behind) given (rest ++ behind))
    → GivesNext answers given.0 (record { number = next_number old.number; section = given.1; facts = old.facts }) (rest ++ behind)
line_given old answers text rest behind given left some is =
    let (plan, on) = plan_left old.section old (text ++ behind) answers some left in
    let cut = is plan.job plan.kept in
    let first : answers ≡ given.0 ∷ plan_items old.facts.format plan.job (next_number old.number) given.1 (lines_in (rest ++ behind)) =
    plan.left ∙ ap (λ (ls : List (List ℕ)). plan_items old.facts.format plan.job old.number old.section ls) cut.1
    ∙ one_item old.facts.format plan.job old.number old.section cut.0 (lines_in (rest ++ behind)) on
    ∙ ap (λ (g : Result Item CertFault × Section). g.0 ∷ plan_items old.facts.format plan.job (next_number old.number) g.1 (lines_in (rest ++ behind))) (sym cut.2) in
    (plan_items old.facts.format plan.job (next_number old.number) given.1 (lines_in (rest ++ behind)), first, leaves_same (next_number old.number) given.1 old.facts (rest ++ behind) plan.job plan.kept)

-- the text ends within a line
pub line_unended : (old new : LinePlace) (answers : List (Result Item CertFault)) (given : Result Item CertFault) (text behind after : List ℕ) → LeavesAt old (text ++ behind) answers → 0 < length answers → behind ≡ []
    → lines_in text ≡ text ∷ [] → GivesNext (Err faults.Unended ∷ []) given new after → GivesNext answers given new after
line_unended old new answers given text behind after left some last cut gives =
    let (plan, on) = plan_left old.section old (text ++ behind) answers some left in
    let all : answers ≡ Err faults.Unended ∷ [] =
    plan.left ∙ ap (λ (ls : List (List ℕ)). plan_items old.facts.format plan.job old.number old.section ls) (uncut_before text behind last cut)
    ∙ one_item old.facts.format plan.job old.number old.section text [] on ∙ ap (λ (m : List (Result Item CertFault)). Err faults.Unended ∷ m) (over_items old.facts.format plan.job (next_number old.number) []) in
    (gives.0, all ∙ gives.1, gives.2)

-- a whole line gives what it is taken as, or the end or a refusal
whole_item : (format : Format) (job : JobData) (n : ℕ) (section : Section) (line : List ℕ) (rest : List (List ℕ)) (taken : Option (Item × Section)) → 0 < length rest → take_plan_line format job section (keyword_in line) (behind_keyword line) ≡ taken
    → plan_item format job n section line rest ≡ elim taken [ Some t ↦ (Ok t.0, t.1) | None ↦ (end_or_fault format job n section line rest, sections.Over) ]
whole_item format job n section line [] taken some e = absurd (omega arith)
whole_item format job n section line (next ∷ more) taken some e =
    ap (λ (o : Option (Item × Section)). elim o [ Some t ↦ (Ok t.0, t.1) | None ↦ (end_or_fault format job n section line (next ∷ more), sections.Over) ]) e

pub item_taken : (format : Format) (job : JobData) (n : ℕ) (section : Section) (line rest : List ℕ) (taken : Item × Section) → take_plan_line format job section (keyword_in line) (behind_keyword line) ≡ Some taken
    → (Ok taken.0, taken.1) ≡ plan_item format job n section line (lines_in rest)
item_taken format job n section line rest taken e = sym (whole_item format job n section line (lines_in rest) (Some taken) (some_line rest) e)

pub item_refused : (format : Format) (job : JobData) (n : ℕ) (section : Section) (line rest : List ℕ) → take_plan_line format job section (keyword_in line) (behind_keyword line) ≡ None
    → (end_or_fault format job n section line (lines_in rest), sections.Over) ≡ plan_item format job n section line (lines_in rest)
item_refused format job n section line rest e = sym (whole_item format job n section line (lines_in rest) None (some_line rest) e)

-- the job, behind which the first line's answer is left
pub job_given : (lines : JobLinesData) (n : ℕ) (line : List ℕ) (others : List (List ℕ)) (job : JobData) (answers : List (Result Item CertFault)) (facts : JobFacts) (text : List ℕ)
    → answers ≡ Ok (given.Job job) ∷ plan_items lines.format job n (first_section lines.format) (line ∷ others) → KeepsFacts facts job → facts.format ≡ lines.format → lines_in text ≡ line ∷ others
    → GivesNext answers (Ok (given.Job job)) (record { number = n; section = first_section lines.format; facts = facts }) text
job_given lines n line others job answers facts text is kept format_is cut =
    let section = first_section lines.format in (
      plan_items facts.format job n section (lines_in text),
      is ∙ (λ i. Ok (given.Job job) ∷ plan_items (sym format_is i) job n section (sym cut i)),
      leaves_same n section facts text job kept,
    )

-- the answers from a line on that gives an item, and from one on that doesn't
pub plan_taken : (format : Format) (job : JobData) (n : ℕ) (section : Section) (line : List ℕ) (rest : List (List ℕ)) (taken : Item × Section) → is_over section ≡ false → 0 < length rest
    → take_plan_line format job section (keyword_in line) (behind_keyword line) ≡ Some taken → plan_items format job n section (line ∷ rest) ≡ Ok taken.0 ∷ plan_items format job (next_number n) taken.1 rest
plan_taken format job n section line rest taken on some e =
    one_item format job n section line rest on
    ∙ ap (λ (g : Result Item CertFault × Section). g.0 ∷ plan_items format job (next_number n) g.1 rest) (whole_item format job n section line rest (Some taken) some e)

pub plan_refused : (format : Format) (job : JobData) (n : ℕ) (section : Section) (line : List ℕ) (rest : List (List ℕ)) → is_over section ≡ false → 0 < length rest
    → take_plan_line format job section (keyword_in line) (behind_keyword line) ≡ None → plan_items format job n section (line ∷ rest) ≡ end_or_fault format job n section line rest ∷ []
plan_refused format job n section line rest on some e =
    one_item format job n section line rest on
    ∙ ap (λ (g : Result Item CertFault × Section). g.0 ∷ plan_items format job (next_number n) g.1 rest) (whole_item format job n section line rest None some e)
    ∙ ap (λ (m : List (Result Item CertFault)). end_or_fault format job n section line rest ∷ m) (over_items format job (next_number n) rest)

-- a line that was cut off
pub line_next : (place : LinePlace) (text line rest : List ℕ) (given : Result Item CertFault × Section) → IsCut text line rest
    → ((job : JobData) (behind : List ℕ) → KeepsFacts place.facts job → HoldsBefore given.0 behind → given ≡ plan_item place.facts.format job place.number place.section line (lines_in (rest ++ behind))) → IsNextLine place text given rest
line_next place text line rest given cut gives = record {
  behind = behind_cut text line rest cut;
  shorter = cut_shorter text line rest cut;
  gives = λ job behind kept holds. (line, cut_before text line rest behind cut, gives job behind kept holds);
}

-- ---- a known note
-- its action is one of so many bends and stages
pub known_among : (note : KnownNote) (bends stages : ℕ) → IsKnown bends stages note → IsActionAmong bends stages note.action
known_among note bends stages known = note_among bends stages (behind_keyword note.line.now) note.action note.reason known.words

-- in a job of as many bends and stages it says the same
pub known_alike : (bends stages others more : ℕ) (note : KnownNote) → bends ≡ others → stages ≡ more → IsKnown bends stages note → IsKnown others more note
known_alike bends stages others more note same as_many known =
    subst (λ (b : ℕ). IsKnown b more note) same (subst (λ (s : ℕ). IsKnown bends s note) as_many known)

-- its line gives what its action and its reason give where it stands
pub gives_again : (facts : JobFacts) (format : Format) (job : JobData) (key : Key) (least : ℕ) (note : KnownNote) (taken : Item × Section) → IsKnown facts.bends facts.stages note → KeepsFacts facts job → noted job key least note.action note.reason ≡ Some taken
    → take_plan_line format job (sections.Notes key least) (keyword_in note.line.now) (behind_keyword note.line.now) ≡ Some taken
unfolding take_plan_line plan_line_in plan_words_in give
gives_again facts format job key least note taken known kept is =
    let told = known_alike facts.bends facts.stages (bend_count job) (stage_count job) note kept.bends kept.stages known in
    rw (told.keyword, told.words) is

-- what it gives, where it stands, is the next answer
pub note_next : (place : LinePlace) (key : Key) (least : ℕ) (note : KnownNote) (taken : Item × Section) (text rest : List ℕ) → place.section ≡ sections.Notes key least → IsKnown place.facts.bends place.facts.stages note → IsCut text note.line.now rest
    → ((job : JobData) → KeepsFacts place.facts job → noted job key least note.action note.reason ≡ Some taken) → IsNextLine place text (Ok taken.0, taken.1) rest
note_next place key least note taken text rest at known cut is =
    line_next place text note.line.now rest (Ok taken.0, taken.1) cut
    (λ job behind kept holds. subst (λ (s : Section). ◌≡◌ {A = Result Item CertFault × Section} (Ok taken.0, taken.1) (plan_item place.facts.format job place.number s note.line.now (lines_in (rest ++ behind)))) (sym at)
    (item_taken place.facts.format job place.number (sections.Notes key least) note.line.now (rest ++ behind) taken (gives_again place.facts place.facts.format job key least note taken known kept (is job kept))))

-- ---- a row
-- a row that fits the job and may stand here is given
row_taken : (place : LinePlace) (job : JobData) (row : RowHead) → KeepsFacts place.facts job → IsSmall job → IsRow job row → may_be_row place.facts.format place.facts.bends place.section row.key ≡ true
    → take_plan_line place.facts.format job place.section (keyword_in (line_bytes (row_line row))) (behind_keyword (line_bytes (row_line row))) ≡ Some (given.Row row, sections.Notes row.key 0)
unfolding take_plan_line give
row_taken place job row kept small fits may =
    ap (λ (o : Option CertLine). o >>= λ line. give place.facts.format job line place.section) ((plan_lines_read job small).back (row_line row) fits)
    ∙ ap (λ b. only_if b (Some (given.Row row, sections.Notes row.key 0))) (ap (λ n. may_be_row place.facts.format n place.section row.key) (sym kept.bends) ∙ may)

-- the line of a row at the front is the next one
pub row_next : (place : LinePlace) (text rest : List ℕ) (row : RowHead) → ((job : JobData) → KeepsFacts place.facts job → IsRow job row) → text ≡ line_text (row_line row) ++ rest
    → may_be_row place.facts.format place.facts.bends place.section row.key ≡ true → IsNextLine place text (Ok (given.Row row), sections.Notes row.key 0) rest
unfolding line_text
row_next place text rest row fits spelled may = record {
  behind = (line_text (row_line row), spelled);
  shorter =
      let whole : length text ≡ length (line_text (row_line row) ++ rest) = ap (λ (t : List ℕ). length t) spelled in
      omega (arith, whole, length-append (line_text (row_line row)) rest);
  gives = λ job behind kept holds.
      let small : IsSmall job = record { bends = subst (λ n. n ≤ 12) kept.bends kept.few_bends; stages = subst (λ n. n ≤ 6) kept.stages kept.few_stages } in
      let line = line_bytes (row_line row) in (
        line,
        ap (λ (t : List ℕ). lines_in (t ++ behind)) spelled ∙ ap (λ (t : List ℕ). lines_in t) (append_assoc (line_text (row_line row)) rest behind)
            ∙ one_line (row_line row) (rest ++ behind) ((plan_lines_read job small).plain (row_line row) (fits job kept)),
        item_taken place.facts.format job place.number place.section line (rest ++ behind) (given.Row row, sections.Notes row.key 0) (row_taken place job row kept small (fits job kept) may),
      );
}
