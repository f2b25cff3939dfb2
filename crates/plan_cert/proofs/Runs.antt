-- Items behind the job that follow one another up to the end: what lines give that are read to their end, and what gives them.
use Rattle.std.proofs.Common.{◌≡◌, ℕ, ◌+◌, ◌<◌, ◌≤◌, Bool, true, false, ◌&&◌, nat_le, nat_lt, List, [], ◌∷◌, ◌++◌, codes, length, map, Option, Some, None, Result, Ok, Err, refl, sym, ap, subst, ◌∙◌, inl, inr, arith}
use Rattle.std.specs.Prelude.{◌⊎◌, if◌then◌else◌}
use Rattle.std.proofs.lemmas.Bool.{false≢true, and_parts}
use Rattle.std.proofs.lemmas.Slice.Eq.{bytes_eq-Decides}
use Rattle.brake_base.specs.declared.stroke.Action.{Action}
use Rattle.brake_base.specs.declared.stroke.Worth.{Worth}
use Rattle.brake_base.specs.declared.stroke.Worth.TheVariants.{Cost, Blocked}
use Rattle.brake_base.specs.Actions.{number_of_action}
use Rattle.job_setup.specs.Setup.{JobData, bend_count, stage_count}
use Rattle.job_setup.specs.StrokeGroup.{is_lead}
use Rattle.job_setup.specs.ValidJob.{IsJob}
use Rattle.handling_cost.specs.StepCost.{IsActionOf}
use Rattle.cert_lines.specs.declared.format.TextKind.{TextKind}
use Rattle.cert_lines.specs.declared.format.Format.{Format}
use Rattle.cert_lines.specs.declared.format.Format.TheVariants.{Version1, Version2, Table}
use Rattle.plan_lines.specs.declared.item.Item.{Item}
use Rattle.plan_lines.specs.declared.item.Item.TheVariants as given
use Rattle.plan_lines.specs.declared.item.CertFault.{CertFault}
use Rattle.plan_lines.specs.declared.item.CertFault.TheVariants as faults
use Rattle.plan_lines.specs.declared.section.Section.{Section}
use Rattle.plan_lines.specs.declared.section.Section.TheVariants as sections
use Rattle.cert_lines.specs.Lines.{CertLine, claim_line, step_line, row_line, note_line, end_line, action_at}
use Rattle.cert_lines.specs.LineReading.{keyword_in, behind_keyword}
use Rattle.plan_lines.specs.PlanReading.{behind_claim, may_leave, may_be_row, give, noted, plan_line_in, take_plan_line, first_section, is_end_line}
use Rattle.plan_lines.specs.Items.{next_number, is_over, end_before, end_or_fault, plan_items, items_of_lines}
use Rattle.brake_base.specs.declared.stroke.Step.{Step}
use Rattle.plan_cert.specs.WellFormed.{HasSteps}
use Rattle.plan_cert.specs.CertReading.{is_last}
use Rattle.plan_lines.proofs.Actions.{few_actions}
use Rattle.plan_lines.proofs.ActionNumbers.{number_below, action_of_number}
use Rattle.plan_lines.proofs.PlanItems.{plan_taken, plan_refused}
use Rattle.plan_lines.proofs.JobSplits.{Shaped, Begins, lines_begin}
use Rattle.plan_lines.proofs.PlanLineRead.{IsSmall, IsPlanLine, plan_lines_read}
use Rattle.cert_lines.proofs.Each.{Each, each_then, each_only}
use Rattle.cert_lines.proofs.LinesTaken.{taken_written}
use Rattle.cert_lines.proofs.TextLines.{ArePlainLines, line_bytes}
use Rattle.plan_cert.proofs.PlanWritten.{oks}

pub small_of : (job : JobData) → IsJob job → IsSmall job
small_of job valid = record { bends = omega (arith, valid.part.few_faces); stages = valid.setup.stages.few_stages }

pub few_steps : (job : JobData) (claim : Worth) (steps : List Step) → IsSmall job → HasSteps job claim steps → length steps ≤ 12
few_steps job (Cost cost) steps small few = omega (arith, few, small.bends)
few_steps job Blocked steps small none = omega (arith, ap length none)

-- the line of an item behind the job, on a machine with so many stages
abbrev pub line_of_item : ℕ → Item → CertLine
line_of_item stages (given.Claim claim) = claim_line claim
line_of_item stages (given.Step step) = step_line step
line_of_item stages (given.Row row) = row_line row
line_of_item stages (given.Note action reason) = note_line (action_at stages action) reason
line_of_item stages _ = end_line

-- the item's line fits the job and gives the item here, and the next one stands there
abbrev pub Follows : Format → JobData → Section → Item → Section → Type 0
Follows format job section item next = IsPlanLine job (line_of_item (stage_count job) item) × (give format job (line_of_item (stage_count job) item) section ≡ Some (item, next))

-- items that follow one another from a place on, behind which the text may end
abbrev pub Run : Format → JobData → Section → List Item → Type 0
Run format job section [] = may_leave format (bend_count job) section ≡ true
Run format job section (item ∷ items) = (next : Section) × Follows format job section item next × Run format job next items

-- the answers behind the job, and their lines
abbrev pub ends_with : List Item → List (Result Item CertFault)
ends_with items = oks items ++ Ok given.End ∷ []

abbrev pub lines_for : ℕ → List Item → List (List ℕ)
lines_for stages items = map line_bytes (map (line_of_item stages) items) ++ line_bytes end_line ∷ [] ∷ []

-- the lines are those of the items, which follow one another
abbrev pub Runs : Format → JobData → Section → List Item → List (List ℕ) → Type 0
Runs format job section items lines = (lines ≡ lines_for (stage_count job) items) × Run format job section items

-- ---- what a line gives
-- it has this line and isn't the end, and another line has to follow
abbrev Own : ℕ → CertLine → Item × Section → Type 0
Own stages line taken = (line ≡ line_of_item stages taken.0) × (is_last taken.0 ≡ false) × (is_over taken.1 ≡ false)

claim_on : (claim : Worth) → is_over (behind_claim claim) ≡ false
claim_on (Cost cost) = refl
claim_on Blocked = refl

numbered : (job : JobData) (action : Action) → IsSmall job → IsActionOf job action → action ≡ action_at (stage_count job) (number_of_action (stage_count job) action)
numbered job action small is =
    let below = number_below (bend_count job) (stage_count job) action is.first is.last is.stage in
    action_of_number (stage_count job) action (record { first = is.first; last = omega (arith, is.last, small.bends); stage = is.stage }) (few_actions _ (bend_count job) (stage_count job) small.bends below)

own : (format : Format) (job : JobData) (line : CertLine) (section : Section) → IsSmall job → IsPlanLine job line → Each (Own (stage_count job) line) (give format job line section)
unfolding give noted
own format job (claim_line claim) sections.Claim small is = (refl, refl, claim_on claim)
own format job (step_line step) (sections.Steps steps) small is =
    each_only (Own (stage_count job) (step_line step)) (nat_lt steps (bend_count job)) (Some (given.Step step, sections.Steps (steps + 1))) (λ less. (refl, refl, refl))
own format job (row_line row) section small is =
    each_only (Own (stage_count job) (row_line row)) (may_be_row format (bend_count job) section row.key) (Some (given.Row row, sections.Notes row.key 0)) (λ may. (refl, refl, refl))
own format job (note_line action reason) (sections.Notes key least) small is =
    let number = number_of_action (stage_count job) action in
    each_only (Own (stage_count job) (note_line action reason)) (nat_le least number && is_lead job key.mask action.bend) (Some (given.Note number reason, sections.Notes key (number + 1)))
    (λ both. (ap (λ (a : Action). note_line a reason) (numbered job action small is.0), refl, refl))
own format job _ _ small is = tt

-- behind an item another line is read
goes_on : (format : Format) (job : JobData) (section : Section) (item : Item) (next : Section) → IsSmall job → Follows format job section item next → is_over next ≡ false
goes_on format job section item next small follows =
    let line = line_of_item (stage_count job) item in
    (subst (λ (o : Option (Item × Section)). Each (Own (stage_count job) line) o) follows.1 (own format job line section small follows.0)).2

-- what a text gives follows, and the text is its line
abbrev Gives : Format → JobData → Section → List ℕ → Item × Section → Type 0
Gives format job section text taken = Follows format job section taken.0 taken.1 × (text ≡ line_bytes (line_of_item (stage_count job) taken.0)) × (is_last taken.0 ≡ false) × (is_over taken.1 ≡ false)

each_found : {A : Type 0} (P Q : A → Type 0) (o : Option A) → ((a : A) → o ≡ Some a → P a → Q a) → Each P o → Each Q o
each_found P Q None on is = tt
each_found P Q (Some a) on is = on a refl is

gives : (format : Format) (job : JobData) (section : Section) (text : List ℕ) → IsSmall job → Each (Gives format job section text) (take_plan_line format job section (keyword_in text) (behind_keyword text))
unfolding take_plan_line
gives format job section text small =
    each_then (λ (line : CertLine). IsPlanLine job line × (text ≡ line_bytes line)) (Gives format job section text) (plan_line_in (bend_count job) (stage_count job) (keyword_in text) (behind_keyword text)) (λ line. give format job line section) ((plan_lines_read job small).only text)
    (λ line is. each_found (Own (stage_count job) line) (Gives format job section text) (give format job line section)
    (λ taken e o. ((subst (IsPlanLine job) o.0 is.0, ap (λ (l : CertLine). give format job l section) (sym o.0) ∙ e), is.1 ∙ ap (λ (l : CertLine). line_bytes l) o.0, o.1, o.2)) (own format job line section small is.0))

-- ---- the answers behind the job
-- a refusal, the end behind its line, or an item that follows, behind which the others stand
abbrev pub Reads : Format → JobData → Section → List (List ℕ) → List (Result Item CertFault) → Type 0
Reads format job section lines [] = ⊥
Reads format job section lines (Err fault ∷ more) = more ≡ []
Reads format job section lines (Ok item ∷ more) =
    ((is_last item ≡ true) × (more ≡ []) × Runs format job section [] lines)
    ⊎ ((next : Section) × (rest : List (List ℕ)) × (is_last item ≡ false) × Follows format job section item next × (lines ≡ line_bytes (line_of_item (stage_count job) item) ∷ rest) × Reads format job next rest more)

-- the end's line
reads_last : (format : Format) (job : JobData) (section : Section) (line next : List ℕ) (more : List (List ℕ)) → is_end_line line ≡ true → may_leave format (bend_count job) section ≡ true → Reads format job section (line ∷ next ∷ more) (end_before (next ∷ more) ∷ [])
reads_last format job section line [] [] is leave = inl (refl, refl, (ap (λ (l : List ℕ). l ∷ [] ∷ []) ((bytes_eq-Decides line (codes "end")).0 is), leave))
reads_last format job section line (byte ∷ next) [] is leave = refl
reads_last format job section line [] (other ∷ more) is leave = refl
reads_last format job section line (byte ∷ next) (other ∷ more) is leave = refl

reads_end : (format : Format) (job : JobData) (n : ℕ) (section : Section) (line next : List ℕ) (more : List (List ℕ)) → Reads format job section (line ∷ next ∷ more) (end_or_fault format job n section line (next ∷ more) ∷ [])
reads_end format job n section line next more = by_test (is_end_line line && may_leave format (bend_count job) section) refl
  where
    by_test : (b : Bool) → (is_end_line line && may_leave format (bend_count job) section) ≡ b → Reads format job section (line ∷ next ∷ more) ((if b then end_before (next ∷ more) else Err (faults.BadLine n)) ∷ [])
    by_test true is = let parts = and_parts (is_end_line line) (may_leave format (bend_count job) section) is in reads_last format job section line next more parts.0 parts.1
    by_test false is = refl

pub plan_reads : (format : Format) (job : JobData) (n : ℕ) (section : Section) (lines : List (List ℕ)) → IsSmall job → 0 < length lines → is_over section ≡ false → Reads format job section lines (plan_items format job n section lines)
unfolding plan_items
plan_reads format job n section [] small some on = absurd (omega arith)
plan_reads format job n section (line ∷ []) small some on = rw on refl
plan_reads format job n section (line ∷ next ∷ more) small some on =
    by_taken (take_plan_line format job section (keyword_in line) (behind_keyword line)) refl (gives format job section line small) (λ after goes. plan_reads format job (next_number n) after (next ∷ more) small (omega arith) goes)
  where
    rest : List (List ℕ)
    rest = next ∷ more

    by_taken : (taken : Option (Item × Section)) → take_plan_line format job section (keyword_in line) (behind_keyword line) ≡ taken → Each (Gives format job section line) taken
        → ((after : Section) → is_over after ≡ false → Reads format job after rest (plan_items format job (next_number n) after rest)) → Reads format job section (line ∷ rest) (plan_items format job n section (line ∷ rest))
    by_taken (Some taken) e is reads =
        subst (λ a. Reads format job section (line ∷ rest) a) (sym (plan_taken format job n section line rest taken on (omega arith) e)) (inr (taken.1, rest, is.2, is.0, ap (λ (l : List ℕ). l ∷ rest) is.1, reads taken.1 is.3))
    by_taken None e is reads = subst (λ a. Reads format job section (line ∷ rest) a) (sym (plan_refused format job n section line rest on (omega arith) e)) (reads_end format job n section line next more)

pub not_empty : (items : List Item) → [] ≡ ends_with items → ⊥
not_empty [] e = absurd (cc)
not_empty (item ∷ items) e = absurd (cc)

-- answers up to the end are of lines that run
pub reads_runs : (format : Format) (job : JobData) (section : Section) (lines : List (List ℕ)) (items : List Item) → Reads format job section lines (ends_with items) → Runs format job section items lines
reads_runs format job section lines [] (inl last) = last.2
reads_runs format job section lines [] (inr (next, rest, on, follows, is, reads)) = absurd (false≢true (sym on))
reads_runs format job section lines (item ∷ items) (inl last) = absurd (not_empty items (sym last.1))
reads_runs format job section lines (item ∷ items) (inr (next, rest, on, follows, is, reads)) =
    let behind = reads_runs format job next rest items reads in (is ∙ ap (λ (ls : List (List ℕ)). line_bytes (line_of_item (stage_count job) item) ∷ ls) behind.0, (next, follows, behind.1))

-- the last answer is the end or a refusal, and no other is
abbrev pub Ends : List (Result Item CertFault) → Type 0
Ends [] = ⊥
Ends (Err fault ∷ more) = more ≡ []
Ends (Ok item ∷ more) = ((is_last item ≡ true) × (more ≡ [])) ⊎ ((is_last item ≡ false) × Ends more)

ends : (format : Format) (job : JobData) (section : Section) (lines : List (List ℕ)) (answers : List (Result Item CertFault)) → Reads format job section lines answers → Ends answers
ends format job section lines [] reads = reads
ends format job section lines (Err fault ∷ more) reads = reads
ends format job section lines (Ok item ∷ more) (inl last) = inl (last.0, last.1)
ends format job section lines (Ok item ∷ more) (inr (next, rest, on, follows, is, reads)) = inr (on, ends format job next rest more reads)

pub first_on : (format : Format) → is_over (first_section format) ≡ false
first_on Version1 = refl
first_on Version2 = refl
first_on Table = refl

pub ends_lines : (kind : TextKind) (lines : List (List ℕ)) → 0 < length lines → Ends (items_of_lines kind lines)
ends_lines kind lines some = by_shape (lines_begin kind lines some)
  where
    by_shape : Shaped (items_of_lines kind lines) (Begins kind lines (items_of_lines kind lines)) → Ends (items_of_lines kind lines)
    by_shape (inl refused) = subst (λ a. Ends a) (sym refused.1) refl
    by_shape (inr begins) =
        let first = first_section begins.format in
        let reads = plan_reads begins.format begins.job begins.number first begins.rest (small_of begins.job begins.valid) begins.some (first_on begins.format) in
        subst (λ a. Ends a) (sym begins.behind) (inr (refl, ends begins.format begins.job first begins.rest (plan_items begins.format begins.job begins.number first begins.rest) reads))

-- ---- lines that are written
-- their words are plain
pub run_plain : (format : Format) (job : JobData) (section : Section) (items : List Item) → IsSmall job → Run format job section items → ArePlainLines (map (line_of_item (stage_count job)) items)
run_plain format job section [] small run = tt
run_plain format job section (item ∷ items) small (next, follows, run) = ((plan_lines_read job small).plain (line_of_item (stage_count job) item) follows.0, run_plain format job next items small run)

pub some_more : (lines : List CertLine) (rest : List (List ℕ)) → 0 < length rest → 0 < length (map line_bytes lines ++ rest)
some_more [] rest some = some
some_more (line ∷ lines) rest some = omega arith

-- the lines of items that follow one another give these items and the end
pub run_given : (format : Format) (job : JobData) (n : ℕ) (section : Section) (items : List Item) → IsSmall job → is_over section ≡ false → Run format job section items → plan_items format job n section (lines_for (stage_count job) items) ≡ ends_with items
unfolding take_plan_line plan_line_in
run_given format job n section [] small on run =
    plan_refused format job n section (line_bytes end_line) ([] ∷ []) on (omega arith) refl ∙ ap (λ (b : Bool). (if b then Ok given.End else Err (faults.BadLine n)) ∷ []) run
run_given format job n section (item ∷ items) small on (next, follows, run) =
    let line = line_of_item (stage_count job) item in
    let some = some_more (map (line_of_item (stage_count job)) items) (line_bytes end_line ∷ [] ∷ []) (omega arith) in
    plan_taken format job n section (line_bytes line) (lines_for (stage_count job) items) (item, next) on some (taken_written (plan_lines_read job small) (λ l. give format job l section) line follows.0 ∙ follows.1)
    ∙ ap (λ (a : List (Result Item CertFault)). Ok item ∷ a) (run_given format job (next_number n) next items small (goes_on format job section item next small follows) run)
