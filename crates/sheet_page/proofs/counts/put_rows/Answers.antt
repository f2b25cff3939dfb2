use Rattle.std.proofs.Common.{◌≡◌, ◌∙◌, ◌-◌, ◌++◌, ℕ, flat_map, sym, append-nil, ap, arith}
use Rattle.brake_base.specs.Masks.{numbers_to}
use Rattle.job_setup.specs.Setup.{bend_count}
use Rattle.sheet_page.specs.Counts.{count_row}
use Rattle.sheet_page.specs.Kept.{count_in}
use Rattle.sheet_page.proofs.Numbered.{told_next}
use Rattle.sheet_page.proofs.counts.put_rows.Goals as goal

pub loop-bend-init : goal.loop-bend-init
loop-bend-init c = sym (append-nil _)

pub loop-bend-preserved : goal.loop-bend-preserved
loop-bend-preserved c = told_next (count_row c.args.job.now (count_in c.args.counts.now)) c.loop-bend.bend _ _ (omega arith) c.loop-bend.invariant c.in_ok-put_row.ensures

pub returns : goal.returns
returns c =
    let past : c.loop-bend.bend - 1 ≡ bend_count c.args.job.now = omega (arith, c.loop-bend.auto.bend-end, c.loop-bend-test.false, c.bends-bend-end.ensures.value) in
    c.loop-bend.invariant ∙ ap (λ (n : ℕ). c.args.out.now.items ++ flat_map (count_row c.args.job.now (count_in c.args.counts.now)) (numbers_to n)) past
