use Rattle.std.proofs.Common.{◌≡◌, ◌∙◌, ◌-◌, ◌++◌, ℕ, flat_map, sym, append-nil, ap, arith}
use Rattle.brake_base.specs.Masks.{numbers_to}
use Rattle.job_setup.specs.Setup.{bend_count}
use Rattle.sheet_page.specs.Refused.{left_row}
use Rattle.sheet_page.proofs.Numbered.{told_next}
use Rattle.sheet_page.proofs.refusal_table.Refusals.put_left_rows.Goals as goal

pub loop-bend-init : goal.loop-bend-init
loop-bend-init c = sym (append-nil _)

pub loop-bend-preserved : goal.loop-bend-preserved
loop-bend-preserved c =
    told_next (left_row c.args.self.now.job.now c.args.self.now.mask c.args.self.now.notes.now) c.loop-bend.bend _ _ (omega arith) c.loop-bend.invariant c.in_ok-put_left_row.ensures

pub returns : goal.returns
returns c =
    let past : c.loop-bend.bend - 1 ≡ bend_count c.args.self.now.job.now = omega (arith, c.loop-bend.auto.bend-end, c.loop-bend-test.false, c.bends-bend-end.ensures.value) in
    c.loop-bend.invariant ∙ ap (λ (n : ℕ). c.args.out.now.items ++ flat_map (left_row c.args.self.now.job.now c.args.self.now.mask c.args.self.now.notes.now) (numbers_to n)) past
