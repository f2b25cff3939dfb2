use Rattle.std.proofs.Common.{◌≡◌, ℕ, List, ◌++◌, subst}
use Rattle.std.specs.List.{flat_map}
use Rattle.sheet_figures.specs.Bodies.{lines_at}
use Rattle.sheet_figures.proofs.body.put_painted.Goals as goal

pub returns : goal.returns
returns c = record {
  order = c.order_of-order.result.items;
  each = c.order_of-order.ensures.each;
  law = c.order_of-order.ensures.law;
  text = subst (λ (order : List ℕ). c.put_in_order.new.out.items ≡ c.args.out.now.items ++ flat_map (lines_at c.args.window.now c.args.boxes.now) order) c.as_slice.ensures.value c.in_ok-put_in_order.ensures;
}
