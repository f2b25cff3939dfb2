-- The order of painting names boxes that there are.
use Rattle.std.proofs.Common.{ℕ, ◌<◌, List, length, map, subst, arith}
use Rattle.std.specs.Prelude.{All}
use Rattle.std.proofs.lemmas.List.{length-map, get_or_default}
use Rattle.box_paint.specs.Painting.{IsOrder}
use Rattle.sheet_views.specs.declared.part_views.DrawnBox.{DrawnBox}

pub order_within : (boxes : List DrawnBox) (order : List ℕ) → IsOrder (map (λ (b : DrawnBox). b.body) boxes) order → All (λ (at : ℕ). at < length boxes) order
order_within boxes order is k d inside =
    let long = length-map boxes (λ (b : DrawnBox). b.body) in
    let first = (is.next k inside).left.0 in
    subst (λ (at : ℕ). at < length boxes) (get_or_default order k 0 d inside) (omega (arith, long, first))
