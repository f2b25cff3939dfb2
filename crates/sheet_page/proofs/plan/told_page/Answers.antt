use Rattle.std.proofs.Common.{◌++◌, ◌∙◌, ℕ, ℤ, pos, List, ap, length, FitsSigned, to_z-of_z, w64, subst, ◌^◌, arith}
use Rattle.std.specs.Prelude.{unsigned_abs}
use Rattle.std.proofs.lemmas.Int.{ints}
use Rattle.algebra.proofs.Widths.{fits_64}
use Rattle.handling_cost.specs.Plan.{start}
use Rattle.sheet_page.specs.Blocks.{AreBlocks}
use Rattle.sheet_page.specs.Page.{plan_head, order_part, HasParts}
use Rattle.sheet_page.proofs.Joined.{begun}
use Rattle.sheet_page.proofs.Sizes.{size_is}
use Rattle.sheet_page.proofs.plan.told_page.Goals as goal

pub returns : goal.returns
returns c =
    let job = c.args.job.now in
    let steps = c.args.steps.now in
    let head = simp (to_z-of_z c.ranges.size) at c.in_ok-put_plan_head.ensures in
    let front =
    begun (plan_head job (length steps) c.args.cost (pos (unsigned_abs c.args.size))) c.new-out.ensures.items
    (head ∙ ap (λ (z : ℤ). c.new-out.result.items ++ plan_head job (length steps) c.args.cost z) (size_is c.args.size c.requires.size)) in
    let range = c.first_figure.ensures.range in
    let fits : FitsSigned w64 c.first_figure.result = fits_64 _ (2 ^ 20) (omega (arith, ints, range.low, range.high)) (omega arith) in
    let told : AreBlocks job (length steps) 1 c.first_figure.result start steps c.put_parts.new.out.items c.put_strokes.new.out.items = simp to_z-of_z at c.in_ok-put_strokes.ensures in
    record {
      told = c.put_parts.new.out.items;
      parts = subst (λ (t : List ℕ). HasParts job (length steps) (order_part job steps c.args.cost) t c.put_parts.new.out.items) front c.in_ok-put_parts.ensures;
      blocks = c.put_strokes.new.out.items;
      strokes = subst (λ (f : ℤ). AreBlocks job (length steps) 1 f start steps c.put_parts.new.out.items c.put_strokes.new.out.items) c.first_figure.ensures.value told;
      text = c.in_ok-put_line.ensures;
    }
