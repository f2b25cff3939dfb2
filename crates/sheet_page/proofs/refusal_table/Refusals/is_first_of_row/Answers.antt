use Rattle.std.proofs.Common.{◌≡◌, ◌∙◌, ◌≤◌, Bool, true, false, not, ◌||◌, length, get_or, take, ap, sym, arith}
use Rattle.std.specs.List.{list_any}
use Rattle.std.proofs.lemmas.List.{take_all, get_or-take, length-take}
use Rattle.std.proofs.lemmas.List.Folds.{list_any_at, list_any_more}
use Rattle.plan_lines.specs.declared.note.Note.{Note}
use Rattle.sheet_page.specs.Refused.{is_one_row}
use Rattle.sheet_page.proofs.refusal_table.Refusals.is_first_of_row.Goals as goal

pub returns-then-is_one_row : goal.returns-then-is_one_row
returns-then-is_one_row c = λ d.
    let notes = c.args.self.now.notes.now in
    let note = get_or notes c.args.at d in
    let same = λ (other : Note). is_one_row c.args.self.now.job.now c.args.self.now.mask other note in
    let front = length-take c.args.at notes in
    let low = c.loop-before-test.true in
    let one : same (get_or (take c.args.at notes) c.loop-before.before d) ≡ true =
    ap same (get_or-take c.args.at notes c.loop-before.before d low) ∙ sym (c.is_one_row.ensures d) ∙ c.if-is_one_row.true in
    let found = list_any_at same (take c.args.at notes) c.loop-before.before d (omega (arith, front, low, c.requires.at)) one in
    sym (ap not found)

pub loop-before-preserved : goal.loop-before-preserved
loop-before-preserved c = λ d.
    let notes = c.args.self.now.notes.now in
    let note = get_or notes c.args.at d in
    let same = λ (other : Note). is_one_row c.args.self.now.job.now c.args.self.now.mask other note in
    let front = length-take c.args.at notes in
    let low = c.loop-before-test.true in
    let one : same (get_or (take c.args.at notes) c.loop-before.before d) ≡ false =
    ap same (get_or-take c.args.at notes c.loop-before.before d low) ∙ sym (c.is_one_row.ensures d) ∙ c.if-is_one_row.false in
    list_any_more same (take c.args.at notes) c.loop-before.before d (omega (arith, front, low, c.requires.at))
    ∙ ap (λ (b : Bool). b || same (get_or (take c.args.at notes) c.loop-before.before d)) (c.loop-before.invariant d) ∙ one

pub returns : goal.returns
returns c = λ d.
    let notes = c.args.self.now.notes.now in
    let note = get_or notes c.args.at d in
    let same = λ (other : Note). is_one_row c.args.self.now.job.now c.args.self.now.mask other note in
    let front = length-take c.args.at notes in
    let past : length (take c.args.at notes) ≤ c.loop-before.before = omega (arith, front, c.loop-before-test.false) in
    sym (ap not (ap (list_any same) (sym (take_all c.loop-before.before (take c.args.at notes) past)) ∙ c.loop-before.invariant d))
