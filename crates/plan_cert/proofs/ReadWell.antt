-- Items that follow one another are those of a well formed certificate, and the items of one follow one another. Answers that give a certificate are items up to the end.
use Rattle.std.proofs.Common.{◌≡◌, ℕ, suc, ◌+◌, ◌<◌, ◌≤◌, Bool, true, false, ◌&&◌, nat_le, nat_lt, List, [], ◌∷◌, ◌++◌, length, map, filter, get_or, All, AllPairs, IsTrue, Some, Result, Ok, Err, refl, sym, ap, subst, ◌∙◌, append_assoc, inl, inr, lt-ltb, eq-eqb, arith}
use Rattle.std.specs.Prelude.{◌⊎◌}
use Rattle.std.specs.Bool.{Decides}
use Rattle.std.specs.List.{flat_map, enumerate_from}
use Rattle.std.proofs.lemmas.Bool.{false≢true, ltb-true, leb-true, le-leb, and_parts}
use Rattle.std.proofs.lemmas.Bool.Decides.{Decides-ltb, Decides-eqb, Decides-and, Decides-or, Decides-like}
use Rattle.std.proofs.lemmas.List.{length-append}
use Rattle.std.proofs.lemmas.List.Elements.{All-nil, All-cons, All-tail, All-weaker, All-filter}
use Rattle.std.proofs.lemmas.List.Kept.{AllPairs-cons, AllPairs-filter}
use Rattle.std.proofs.lemmas.Option.{same_Some}
use Rattle.std.proofs.Math.Seq.{get_or-append_seam}
use Rattle.brake_base.specs.declared.stroke.Step.{Step}
use Rattle.brake_base.specs.declared.stroke.Key.{Key}
use Rattle.brake_base.specs.declared.stroke.Worth.{Worth}
use Rattle.brake_base.specs.declared.stroke.Worth.TheVariants.{Cost, Blocked}
use Rattle.brake_base.specs.Actions.{number_of_action}
use Rattle.brake_base.specs.Keys.{key_numbers, KeyIsBefore}
use Rattle.brake_base.specs.Order.{IsBefore}
use Rattle.job_setup.specs.Setup.{JobData, bend_count, stage_count}
use Rattle.job_setup.specs.StrokeGroup.{is_lead}
use Rattle.cert_lines.specs.declared.format.Format.{Format}
use Rattle.plan_lines.specs.declared.item.Item.{Item}
use Rattle.plan_lines.specs.declared.item.Item.TheVariants as given
use Rattle.plan_lines.specs.declared.item.CertFault.{CertFault}
use Rattle.plan_lines.specs.declared.section.Section.{Section}
use Rattle.plan_lines.specs.declared.section.Section.TheVariants as sections
use Rattle.cert_lines.specs.declared.row_head.RowHead.{RowHead}
use Rattle.plan_lines.specs.declared.note.Note.{Note}
use Rattle.plan_cert.specs.Cert.{CertData}
use Rattle.cert_lines.specs.Lines.{action_at, IsWorth}
use Rattle.cert_lines.specs.LineReading.{only_if}
use Rattle.plan_lines.specs.LinesFit.{IsStep, IsRow}
use Rattle.plan_cert.specs.CertItems.{row_items, rows_items}
use Rattle.plan_cert.specs.WellFormed.{HasSteps, IsNote, NoteIsBefore, AreRows, IsWellFormed}
use Rattle.plan_lines.specs.PlanReading.{is_before, behind_claim, are_enough, may_leave, may_be_row, give, noted}
use Rattle.plan_cert.specs.CertReading.{CertFileData, no_cert, with_item, cert_of, with_job, version_in}
use Rattle.plan_lines.proofs.ActionNumbers.{number_is, number_below, bend_of_number}
use Rattle.plan_cert.proofs.NoteOrder.{is_of, of_another, tested, none_of, same_rows}
use Rattle.plan_cert.proofs.PlanWritten.{item_of, of_own}
use Rattle.plan_cert.proofs.Runs.{Follows, Run, ends_with, Ends}
use Rattle.plan_cert.proofs.Collecting.{end_is, passed}

-- the items behind the job
abbrev pub body_items : CertData → List Item
body_items cert = given.Claim cert.claim ∷ map given.Step cert.steps ++ rows_items cert.rows cert.notes

-- where a cost is claimed, the format asks for no more steps
abbrev pub HasEnough : Format → JobData → Worth → List Step → Type 0
HasEnough format job (Cost cost) steps = are_enough format (bend_count job) (length steps) ≡ true
HasEnough format job Blocked steps = Unit {0}

-- ---- the order of keys
through : (xs ys zs : List ℕ) → IsBefore xs ys → IsBefore ys zs → IsBefore xs zs
through [] ys zs first second = absurd first
through (x ∷ xs) [] zs first second = absurd first
through (x ∷ xs) (y ∷ ys) [] first second = absurd second
through (x ∷ xs) (y ∷ ys) (z ∷ zs) (inl less) (inl more) = inl (omega (arith, less, more))
through (x ∷ xs) (y ∷ ys) (z ∷ zs) (inl less) (inr next) = inl (omega (arith, less, next.0))
through (x ∷ xs) (y ∷ ys) (z ∷ zs) (inr next) (inl more) = inl (omega (arith, more, next.0))
through (x ∷ xs) (y ∷ ys) (z ∷ zs) (inr next) (inr more) = inr (next.0 ∙ more.0, through xs ys zs next.1 more.1)

decided : (a b : Key) → Decides (is_before a b) (KeyIsBefore a b)
decided a b =
    let stage : Decides (nat_lt a.stage b.stage) ((a.stage < b.stage) ⊎ ((a.stage ≡ b.stage) × ⊥)) = Decides-like (nat_lt a.stage b.stage) (λ less. inl less) last (Decides-ltb a.stage b.stage) in
    let turn = Decides-or _ _ (Decides-ltb a.attitude b.attitude) (Decides-and _ _ (Decides-eqb a.attitude b.attitude) stage) in
    Decides-or _ _ (Decides-ltb a.mask.0 b.mask.0) (Decides-and _ _ (Decides-eqb a.mask.0 b.mask.0) turn)
  where
    last : (a.stage < b.stage) ⊎ ((a.stage ≡ b.stage) × ⊥) → a.stage < b.stage
    last (inl less) = less
    last (inr none) = absurd none.1

-- ---- what follows is well formed
only_some : {A : Type 0} (b : Bool) (x y : A) → only_if b (Some x) ≡ Some y → (b ≡ true) × (x ≡ y)
only_some true x y e = (refl, same_Some x y e)
only_some false x y e = absurd (cc)

-- the run behind an item, where the item is known to lead
run_at : (format : Format) (job : JobData) (items : List Item) (x y : Item × Section) → x ≡ y → Run format job y.1 items → Run format job x.1 items
run_at format job items x y same run = subst (λ (t : Item × Section). Run format job t.1 items) (sym same) run

-- a note of the row, from the least action on, or one of a later row
abbrev StandsFrom : ℕ → ℕ → Note → Type 0
StandsFrom row least note = (row < note.row) ⊎ ((note.row ≡ row) × (least ≤ note.action))

above : (row least : ℕ) (note : Note) → StandsFrom (row + 1) 0 note → row < note.row
above row least note (inl less) = omega arith
above row least note (inr same) = omega (arith, same.0)

later : (row least action : ℕ) (note : Note) → least ≤ action → StandsFrom row (action + 1) note → StandsFrom row least note
later row least action note more (inl less) = inl less
later row least action note more (inr same) = inr (same.0, omega (arith, more, same.1))

before_all : (row : ℕ) (a b : Note) → a.row ≡ row → StandsFrom row (a.action + 1) b → NoteIsBefore a b
before_all row a b at (inl less) = inl (omega (arith, at, less))
before_all row a b at (inr same) = inr (at ∙ sym same.0, omega (arith, same.1))

-- behind a row of a number that stands behind others: its notes from the least action on, and rows with their notes
record Behind (job : JobData) (before : List RowHead) (i : ℕ) (head : RowHead) (least : ℕ) (items : List Item) : Type 0 where
  rows : List RowHead
  notes : List Note
  each_row : All (IsRow job) rows
  row_order : AllPairs KeyIsBefore (map (λ row. row.key) (head ∷ rows))
  each_note : All (IsNote job (before ++ head ∷ rows)) notes
  note_order : AllPairs NoteIsBefore notes
  from : All (StandsFrom i least) notes
  shown : items ≡ map item_of (filter (is_of i) notes) ++ flat_map (row_items notes) (enumerate_from (i + 1) rows)

behind_row : (format : Format) (job : JobData) (before : List RowHead) (i : ℕ) (head : RowHead) (least : ℕ) (items : List Item) → length before ≡ i → Run format job (sections.Notes head.key least) items → Behind job before i head least items
unfolding give noted
behind_row format job before i head least [] at run = record {
  rows = [];
  notes = [];
  each_row = All-nil (IsRow job);
  row_order = λ a b d less within. absurd (omega (arith, less, within));
  each_note = All-nil (IsNote job (before ++ head ∷ []));
  note_order = λ a b d less within. absurd (omega (arith, less, within));
  from = All-nil (StandsFrom i least);
  shown = refl;
}
behind_row format job before i head least (given.Row row ∷ items) at (next, (fits, gives), run) =
    let of = only_some (is_before head.key row.key) (given.Row row, sections.Notes row.key 0) (given.Row row, next) gives in
    let first = (decided head.key row.key).0 of.0 in
    let more = behind_row format job (before ++ head ∷ []) (i + 1) row 0 items (length-append before (head ∷ []) ∙ ap (λ (n : ℕ). n + 1) at) (run_at format job items _ _ of.1 run) in
    let keys = map (λ (r : RowHead). r.key) more.rows in
    let rest : All (KeyIsBefore head.key) keys =
    λ k d within. through (key_numbers head.key) (key_numbers row.key) (key_numbers (get_or keys k d)) first (more.row_order 0 (suc k) d (omega arith) (omega (arith, within))) in
    let others = All-weaker (StandsFrom (i + 1) 0) (λ note. i < note.row) (above i least) more.notes more.from in
    record {
      rows = row ∷ more.rows;
      notes = more.notes;
      each_row = All-cons (IsRow job) row more.rows fits more.each_row;
      row_order = AllPairs-cons KeyIsBefore head.key (row.key ∷ keys) (All-cons (KeyIsBefore head.key) row.key keys first rest) more.row_order;
      each_note = subst (λ (all : List RowHead). All (IsNote job all) more.notes) (append_assoc before (head ∷ []) (row ∷ more.rows)) more.each_note;
      note_order = more.note_order;
      from = λ k d within. inl (others k d within);
      shown = ap (λ (is : List Item). given.Row row ∷ is) more.shown
          ∙ ap (λ (own : List Note). map item_of own ++ flat_map (row_items more.notes) (enumerate_from (i + 1) (row ∷ more.rows))) (sym (none_of i more.notes others));
    }
behind_row format job before i head least (given.Note action reason ∷ items) at (next, (fits, gives), run) =
    let stages = stage_count job in
    let number = number_of_action stages (action_at stages action) in
    let same : number ≡ action = number_is stages action in
    let test = nat_le least number && is_lead job head.key.mask (action_at stages action).bend in
    let of = only_some test (given.Note number reason, sections.Notes head.key (number + 1)) (given.Note action reason, next) gives in
    let parts = and_parts (nat_le least number) (is_lead job head.key.mask (action_at stages action).bend) of.0 in
    let least_is : least ≤ action = omega (arith, leb-true least number parts.0, same) in
    let more = behind_row format job before i head (action + 1) items at (subst (λ (n : ℕ). Run format job (sections.Notes head.key (n + 1)) items) same (run_at format job items _ _ of.1 run)) in
    let note : Note = record { row = i; action = action; reason = reason } in
    let all = before ++ head ∷ more.rows in
    let here : (d : RowHead) → get_or all i d ≡ head = λ d. ap (λ (n : ℕ). get_or all n d) (sym at) ∙ get_or-append_seam before head more.rows d in
    let is_note : IsNote job all note = record {
      row = omega (arith, at, length-append before (head ∷ more.rows));
      action = omega (arith, number_below (bend_count job) stages (action_at stages action) fits.0.first fits.0.last fits.0.stage, same);
      reason = fits.1;
      lead = λ d. subst (λ (r : RowHead). IsTrue (is_lead job r.key.mask (action_at stages action).bend)) (sym (here d)) parts.1;
    } in
    record {
      rows = more.rows;
      notes = note ∷ more.notes;
      each_row = more.each_row;
      row_order = more.row_order;
      each_note = All-cons (IsNote job all) note more.notes is_note more.each_note;
      note_order = AllPairs-cons NoteIsBefore note more.notes (All-weaker (StandsFrom i (action + 1)) (NoteIsBefore note) (λ b from. before_all i note b refl from) more.notes more.from) more.note_order;
      from = All-cons (StandsFrom i least) note more.notes (inr (refl, least_is)) (All-weaker (StandsFrom i (action + 1)) (StandsFrom i least) (λ b from. later i least action b least_is from) more.notes more.from);
      shown = ap (λ (is : List Item). given.Note action reason ∷ is) more.shown
          ∙ ap (λ (own : List Note). map item_of own ++ flat_map (row_items more.notes) (enumerate_from (i + 1) more.rows)) (sym (tested i note more.notes true (eq-eqb i i refl)))
          ∙ ap (λ (is : List Item). map item_of (filter (is_of i) (note ∷ more.notes)) ++ is) (sym (same_rows (λ row own. given.Row row.1 ∷ map item_of own) (i + 1) more.rows (note ∷ more.notes) more.notes
          (λ j le. tested j note more.notes false (of_another i j (omega (arith, le))).0)));
    }
behind_row format job before i head least (_ ∷ items) at (next, (fits, gives), run) = absurd (cc)

-- rows and notes whose items these are
pub record RowsOf (job : JobData) (items : List Item) : Type 0 where
  pub rows : List RowHead
  pub notes : List Note
  pub are : AreRows job rows notes
  pub shown : items ≡ rows_items rows notes

pub none_are : (job : JobData) → AreRows job [] []
none_are job = record { each_row = All-nil (IsRow job); row_order = λ i j d less within. absurd (omega (arith, less, within)); each_note = All-nil (IsNote job []); note_order = λ i j d less within. absurd (omega (arith, less, within)) }

no_rows : (job : JobData) → RowsOf job []
unfolding rows_items
no_rows job = record { rows = []; notes = []; are = none_are job; shown = refl }

first_row : (format : Format) (job : JobData) (row : RowHead) (items : List Item) → IsRow job row → Run format job (sections.Notes row.key 0) items → RowsOf job (given.Row row ∷ items)
unfolding rows_items
first_row format job row items is run =
    let more = behind_row format job [] 0 row 0 items refl run in
    record {
      rows = row ∷ more.rows;
      notes = more.notes;
      are = record { each_row = All-cons (IsRow job) row more.rows is more.each_row; row_order = more.row_order; each_note = more.each_note; note_order = more.note_order };
      shown = ap (λ (is : List Item). given.Row row ∷ is) more.shown;
    }

pub rows_back : (format : Format) (job : JobData) (items : List Item) → Run format job sections.Rows items → RowsOf job items
unfolding give
rows_back format job [] run = no_rows job
rows_back format job (given.Row row ∷ items) (next, (fits, gives), run) = first_row format job row items fits (run_at format job items _ _ (same_Some (given.Row row, sections.Notes row.key 0) (given.Row row, next) gives) run)
rows_back format job (_ ∷ items) (next, (fits, gives), run) = absurd (cc)

-- behind so many steps: steps, and rows with their notes
record StepsOf (format : Format) (job : JobData) (count : ℕ) (items : List Item) : Type 0 where
  steps : List Step
  each : All (IsStep job) steps
  few : count + length steps ≤ bend_count job
  enough : are_enough format (bend_count job) (count + length steps) ≡ true
  behind : List Item
  rows : RowsOf job behind
  shown : items ≡ map given.Step steps ++ behind

no_steps : (format : Format) (job : JobData) (count : ℕ) (items : List Item) → count ≤ bend_count job → are_enough format (bend_count job) count ≡ true → RowsOf job items → StepsOf format job count items
no_steps format job count items few enough rows =
    let none : count ≡ count + 0 = omega arith in
    record { steps = []; each = All-nil (IsStep job); few = omega (arith, few); enough = subst (λ (n : ℕ). are_enough format (bend_count job) n ≡ true) none enough; behind = items; rows = rows; shown = refl }

steps_back : (format : Format) (job : JobData) (count : ℕ) (items : List Item) → count ≤ bend_count job → Run format job (sections.Steps count) items → StepsOf format job count items
unfolding give
steps_back format job count [] few run = no_steps format job count [] few run (no_rows job)
steps_back format job count (given.Row row ∷ items) few (next, (fits, gives), run) =
    let of = only_some (are_enough format (bend_count job) count) (given.Row row, sections.Notes row.key 0) (given.Row row, next) gives in
    no_steps format job count (given.Row row ∷ items) few of.0 (first_row format job row items fits (run_at format job items _ _ of.1 run))
steps_back format job count (given.Step step ∷ items) few (next, (fits, gives), run) =
    let of = only_some (nat_lt count (bend_count job)) (given.Step step, sections.Steps (count + 1)) (given.Step step, next) gives in
    let less = ltb-true count (bend_count job) of.0 in
    let more = steps_back format job (count + 1) items (omega (arith, less)) (run_at format job items _ _ of.1 run) in
    let long : (count + 1) + length more.steps ≡ count + length (step ∷ more.steps) = omega arith in
    record {
      steps = step ∷ more.steps;
      each = All-cons (IsStep job) step more.steps fits more.each;
      few = omega (arith, long, more.few);
      enough = subst (λ (n : ℕ). are_enough format (bend_count job) n ≡ true) long more.enough;
      behind = more.behind;
      rows = more.rows;
      shown = ap (λ (is : List Item). given.Step step ∷ is) more.shown;
    }
steps_back format job count (_ ∷ items) few (next, (fits, gives), run) = absurd (cc)

-- a certificate whose items these are
pub record CertOf (format : Format) (job : JobData) (items : List Item) : Type 0 where
  pub cert : CertData
  pub form : IsWellFormed job cert
  pub enough : HasEnough format job cert.claim cert.steps
  pub shown : items ≡ body_items cert

pub cert_back : (format : Format) (job : JobData) (items : List Item) → Run format job sections.Claim items → CertOf format job items
unfolding give
cert_back format job [] run = absurd (false≢true run)
cert_back format job (given.Claim claim ∷ items) (next, (fits, gives), run) = by_claim claim fits (run_at format job items _ _ (same_Some (given.Claim claim, behind_claim claim) (given.Claim claim, next) gives) run)
  where
    by_claim : (claim : Worth) → IsWorth claim → Run format job (behind_claim claim) items → CertOf format job (given.Claim claim ∷ items)
    by_claim (Cost cost) worth run =
        let of = steps_back format job 0 items (omega arith) run in
        let rows = of.rows in
        let all : 0 + length of.steps ≡ length of.steps = omega arith in
        record {
          cert = record { claim = Cost cost; steps = of.steps; rows = rows.rows; notes = rows.notes };
          form = record { claim = worth; has_steps = omega (arith, of.few); steps = of.each; rows = rows.are };
          enough = subst (λ (n : ℕ). are_enough format (bend_count job) n ≡ true) all of.enough;
          shown = ap (λ (is : List Item). given.Claim (Cost cost) ∷ is) (of.shown ∙ ap (λ (is : List Item). map given.Step of.steps ++ is) rows.shown);
        }
    by_claim Blocked worth run =
        let rows = rows_back format job items run in
        record {
          cert = record { claim = Blocked; steps = []; rows = rows.rows; notes = rows.notes };
          form = record { claim = tt; has_steps = refl; steps = All-nil (IsStep job); rows = rows.are };
          enough = tt;
          shown = ap (λ (is : List Item). given.Claim Blocked ∷ is) rows.shown;
        }
cert_back format job (_ ∷ items) (next, (fits, gives), run) = absurd (cc)

-- ---- what is well formed follows
note_follows : (format : Format) (job : JobData) (all : List RowHead) (row : RowHead) (least : ℕ) (note : Note) → IsNote job all note → get_or all note.row row ≡ row → least ≤ note.action → Follows format job (sections.Notes row.key least) (item_of note) (sections.Notes row.key (note.action + 1))
unfolding give noted
note_follows format job all row least note is here low =
    let stages = stage_count job in
    let among = bend_of_number (bend_count job) stages note.action is.action in
    let lead = subst (λ (r : RowHead). is_lead job r.key.mask (action_at stages note.action).bend ≡ true) here (is.lead row) in
    ((record { first = among.0; last = among.1; stage = among.2 }, is.reason), rw (number_is stages note.action, le-leb least note.action low, lead) refl)

-- the notes of a row
notes_run : (format : Format) (job : JobData) (all : List RowHead) (row : RowHead) (i least : ℕ) (own : List Note) (others : List Item) → get_or all i row ≡ row → All (IsNote job all) own → AllPairs NoteIsBefore own → All (λ note. note.row ≡ i) own → All (λ note. least ≤ note.action) own
    → ((n : ℕ) → Run format job (sections.Notes row.key n) others) → Run format job (sections.Notes row.key least) (map item_of own ++ others)
notes_run format job all row i least [] others here each pairs of low run = run least
notes_run format job all row i least (note ∷ own) others here each pairs of low run = (
  sections.Notes row.key (note.action + 1),
  note_follows format job all row least note (each 0 note (omega arith)) (ap (λ n. get_or all n row) (of 0 note (omega arith)) ∙ here) (low 0 note (omega arith)),
  notes_run format job all row i (note.action + 1) own others here (All-tail (IsNote job all) note own each) (λ a b d less within. pairs (suc a) (suc b) d (omega arith) (omega arith)) (All-tail (λ n. n.row ≡ i) note own of) after run,
)
  where
    by_order : (b : Note) → b.row ≡ i → NoteIsBefore note b → note.action + 1 ≤ b.action
    by_order b at (inl less) = absurd (omega (arith, less, at, of 0 note (omega arith)))
    by_order b at (inr same) = omega (arith, same.1)

    after : All (λ b. note.action + 1 ≤ b.action) own
    after k d within = by_order (get_or own k d) (of (suc k) d (omega arith)) (pairs 0 (suc k) d (omega arith) (omega arith))

-- the first of the rows may stand here, or what ends them
abbrev MayBegin : Format → JobData → Section → List RowHead → Type 0
MayBegin format job section [] = may_leave format (bend_count job) section ≡ true
MayBegin format job section (row ∷ rows) = may_be_row format (bend_count job) section row.key ≡ true

-- the rows from a number on, each with its notes
rows_run : (format : Format) (job : JobData) (all : List RowHead) (notes : List Note) (i : ℕ) (section : Section) (rest : List RowHead) → All (IsNote job all) notes → AllPairs NoteIsBefore notes
    → ((k : ℕ) (d : RowHead) → k < length rest → get_or all (i + k) d ≡ get_or rest k d) → All (IsRow job) rest → AllPairs KeyIsBefore (map (λ (r : RowHead). r.key) rest) → MayBegin format job section rest
    → Run format job section (flat_map (row_items notes) (enumerate_from i rest))
unfolding give
rows_run format job all notes i section [] each pairs at rows order may = may
rows_run format job all notes i section (row ∷ rest) each pairs at rows order may = (
  sections.Notes row.key 0,
  (rows 0 row (omega arith), ap (λ (b : Bool). only_if b (Some (given.Row row, sections.Notes row.key 0))) may),
  notes_run format job all row i 0 (filter (is_of i) notes) (flat_map (row_items notes) (enumerate_from (i + 1) rest)) here (All-filter (is_of i) (IsNote job all) notes each) (AllPairs-filter NoteIsBefore (is_of i) notes pairs) (of_own i notes) (λ k d within. omega arith)
      (λ n. rows_run format job all notes (i + 1) (sections.Notes row.key n) rest each pairs (λ k d within. ap (λ m. get_or all m d) (further k) ∙ at (suc k) d (omega arith)) (All-tail (IsRow job) row rest rows)
      (λ a b d less within. order (suc a) (suc b) d (omega arith) (omega arith)) (next_may n rest order)),
)
  where
    further : (k : ℕ) → (i + 1) + k ≡ i + suc k
    further k = omega arith

    here : get_or all i row ≡ row
    here = let same : i ≡ i + 0 = omega arith in ap (λ n. get_or all n row) same ∙ at 0 row (omega arith)

    next_may : (n : ℕ) (rest : List RowHead) → AllPairs KeyIsBefore (row.key ∷ map (λ (r : RowHead). r.key) rest) → MayBegin format job (sections.Notes row.key n) rest
    next_may n [] order = refl
    next_may n (next ∷ rest) order = (decided row.key next.key).1 (order 0 1 next.key (omega arith) (omega arith))

-- all rows, each with its notes
pub rows_all : (format : Format) (job : JobData) (rows : List RowHead) (notes : List Note) (section : Section) → AreRows job rows notes → may_leave format (bend_count job) section ≡ true → ((key : Key) → may_be_row format (bend_count job) section key ≡ true) → Run format job section (rows_items rows notes)
unfolding rows_items
rows_all format job rows notes section are leave may =
    rows_run format job rows notes 0 section rows are.each_note are.note_order (λ k d within. ap (λ n. get_or rows n d) (none k)) are.each_row are.row_order (begins rows)
  where
    none : (k : ℕ) → 0 + k ≡ k
    none k = omega arith

    begins : (rows : List RowHead) → MayBegin format job section rows
    begins [] = leave
    begins (row ∷ rows) = may row.key

-- steps before others
steps_run : (format : Format) (job : JobData) (count all : ℕ) (steps : List Step) (others : List Item) → count + length steps ≡ all → all ≤ bend_count job → All (IsStep job) steps → Run format job (sections.Steps all) others
    → Run format job (sections.Steps count) (map given.Step steps ++ others)
unfolding give
steps_run format job count all [] others long few each run = let none : all ≡ count = omega arith in subst (λ n. Run format job (sections.Steps n) others) none run
steps_run format job count all (step ∷ steps) others long few each run = (
  sections.Steps (count + 1),
  (each 0 step (omega arith), ap (λ (b : Bool). only_if b (Some (given.Step step, sections.Steps (count + 1)))) (lt-ltb count (bend_count job) (omega arith))),
  steps_run format job (count + 1) all steps others (omega arith) few (All-tail (IsStep job) step steps each) run,
)

pub cert_runs : (format : Format) (job : JobData) (cert : CertData) → IsWellFormed job cert → HasEnough format job cert.claim cert.steps → Run format job sections.Claim (body_items cert)
unfolding give
cert_runs format job cert form enough = (behind_claim cert.claim, (form.claim, refl), by_claim cert.claim form.has_steps enough)
  where
    rows : List Item
    rows = rows_items cert.rows cert.notes

    by_claim : (claim : Worth) → HasSteps job claim cert.steps → HasEnough format job claim cert.steps → Run format job (behind_claim claim) (map given.Step cert.steps ++ rows)
    by_claim (Cost cost) few enough =
        steps_run format job 0 (length cert.steps) cert.steps rows (omega arith) few form.steps (rows_all format job cert.rows cert.notes (sections.Steps (length cert.steps)) form.rows enough (λ key. enough))
    by_claim Blocked none enough = subst (λ (ss : List Step). Run format job sections.Rows (map given.Step ss ++ rows)) (sym none) (rows_all format job cert.rows cert.notes sections.Rows form.rows refl (λ key. refl))

-- ---- answers that give a certificate are items up to the end
accepted : (cert final : CertData) (answers : List (Result Item CertFault)) → Ends answers → cert_of cert answers ≡ Ok final → (items : List Item) × (answers ≡ ends_with items)
unfolding cert_of
accepted cert final [] ends e = absurd ends
accepted cert final (Err fault ∷ more) ends e = absurd (cc)
accepted cert final (Ok item ∷ more) (inl last) e = ([], ap (λ (a : List (Result Item CertFault)). Ok item ∷ a) last.1 ∙ ap (λ (i : Item). Ok i ∷ []) (end_is item last.0))
accepted cert final (Ok item ∷ more) (inr on) e =
    let rest = accepted (with_item cert item) final more on.1 (sym (passed cert item more on.0) ∙ e) in (item ∷ rest.0, ap (λ (a : List (Result Item CertFault)). Ok item ∷ a) rest.1)

-- the certificate behind a job that is read
behind_job : (text : List ℕ) (job : JobData) (more : List (Result Item CertFault)) (file : CertFileData) → with_job text (Ok (given.Job job) ∷ more) ≡ Ok file → cert_of no_cert more ≡ Ok file.cert
unfolding with_job
behind_job text job more file e = by_result (cert_of no_cert more) e
  where
    answer : Result CertData CertFault → Result CertFileData CertFault
    answer (Ok cert) = Ok (record { job = job; cert = cert; version = version_in text })
    answer (Err fault) = Err fault

    by_result : (r : Result CertData CertFault) → answer r ≡ Ok file → r ≡ Ok file.cert
    by_result (Ok cert) e = let same : (record { job = job; cert = cert; version = version_in text }) ≡ file = cc in ap (λ (f : CertFileData). Ok f.cert) same
    by_result (Err fault) e = absurd (cc)

pub accepted_file : (text : List ℕ) (file : CertFileData) (answers : List (Result Item CertFault)) → Ends answers → with_job text answers ≡ Ok file → (items : List Item) × (answers ≡ ends_with items)
unfolding with_job
accepted_file text file [] ends e = absurd ends
accepted_file text file (Err fault ∷ more) ends e = absurd (cc)
accepted_file text file (Ok (given.Job job) ∷ more) (inl last) e = absurd (false≢true last.0)
accepted_file text file (Ok (given.Job job) ∷ more) (inr on) e =
    let rest = accepted no_cert file.cert more on.1 (behind_job text job more file e) in (given.Job job ∷ rest.0, ap (λ (a : List (Result Item CertFault)). Ok (given.Job job) ∷ a) rest.1)
accepted_file text file (Ok _ ∷ more) ends e = absurd (cc)
