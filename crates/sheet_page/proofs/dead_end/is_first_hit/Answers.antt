use Rattle.std.proofs.Common.{◌≡◌, ◌∙◌, ◌+◌, not, get_or, take, ap, sym, arith}
use Rattle.std.specs.List.{list_any}
use Rattle.plan_lines.specs.declared.note.Note.{Note}
use Rattle.sheet_page.specs.Pictured.{is_one_hit}
use Rattle.sheet_page.specs.Refused.{is_one_row, row_firsts}
use Rattle.sheet_page.proofs.Firsts.{none_more, found_more, firsts_any_kept}
use Rattle.sheet_page.proofs.dead_end.is_first_hit.Goals as goal

pub returns-then-is_first_with_hit : goal.returns-then-is_first_with_hit
returns-then-is_first_with_hit c = λ d.
    let refusals = c.args.refusals.now in
    let notes = refusals.notes.now in
    let row = is_one_row refusals.job.now refusals.mask in
    let hit = λ (other : Note). is_one_hit refusals.job.now other (get_or notes c.args.at d) in
    let low = c.loop-before-test.true in
    let found = found_more row hit notes c.loop-before.before d (omega (arith, low, c.requires.at)) (sym (c.is_first_with_hit.ensures d) ∙ c.if-is_first_with_hit.true) in
    sym (ap not (firsts_any_kept row hit notes (c.loop-before.before + 1) c.args.at (omega (arith, low)) found))

pub loop-before-preserved : goal.loop-before-preserved
loop-before-preserved c = λ d.
    let refusals = c.args.refusals.now in
    let notes = refusals.notes.now in
    let row = is_one_row refusals.job.now refusals.mask in
    let hit = λ (other : Note). is_one_hit refusals.job.now other (get_or notes c.args.at d) in
    none_more row hit notes c.loop-before.before d (omega (arith, c.loop-before-test.true, c.requires.at)) (c.loop-before.invariant d) (sym (c.is_first_with_hit.ensures d) ∙ c.if-is_first_with_hit.false)

pub returns : goal.returns
returns c = λ d.
    let refusals = c.args.refusals.now in
    let notes = refusals.notes.now in
    let hit = λ (other : Note). is_one_hit refusals.job.now other (get_or notes c.args.at d) in
    let past : c.args.at ≡ c.loop-before.before = omega (arith, c.loop-before-test.false, c.loop-before.auto.before-end) in
    sym (ap not (ap (λ n. list_any hit (row_firsts refusals.job.now refusals.mask (take n notes))) past ∙ c.loop-before.invariant d))
