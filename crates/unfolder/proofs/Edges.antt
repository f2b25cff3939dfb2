-- A map of the sheet onto itself takes the edges of a rectangle to edges of its image.
use Rattle.std.proofs.Common.{◌≡◌, ℕ, ◌<◌, ℤ, pos, ◌+ℤ◌, ◌-ℤ◌, ◌≤ℤ◌, refl, sym, subst, arith}
use Rattle.std.specs.Int.{int_min, int_max}
use Rattle.std.proofs.lemmas.Int.{ints, clamps}
use Rattle.brake_base.specs.declared.space.V3.{V3}
use Rattle.brake_base.specs.Vectors.{vector}
use Rattle.brake_base.specs.Turns.{quarter_turns, Map, mapped}
use Rattle.brake_base.proofs.Vectors.{same_point}
use Rattle.unfolder.specs.declared.blank.FlatRect.{FlatRect}
use Rattle.unfolder.specs.declared.blank.BendLine.{BendLine}
use Rattle.unfolder.specs.Cores.{in_plane}
use Rattle.unfolder.specs.Blank.{flat_image, line_image}
use Rattle.unfolder.specs.Edges.{AreBetween, IsOnEdge}
use Rattle.unfolder.specs.Edges.IsOnEdge.{left, right, lower, upper}
use Rattle.unfolder.proofs.Quarters.{by_four, mapped_0, mapped_1, mapped_2, mapped_3}
use Rattle.unfolder.proofs.FlatMaps.{IsFlatMap}

-- the rectangle through two corners, and a line with other ends
abbrev through : V3 → V3 → FlatRect
through a c = record { x0 = int_min a.x c.x; x1 = int_max a.x c.x; y0 = int_min a.y c.y; y1 = int_max a.y c.y }

abbrev between : BendLine → V3 → V3 → BendLine
between line from to = record { bend = line.bend; from = in_plane from; to = in_plane to; dir = line.dir }

-- an end x or y of the image is a shift of an end of the rectangle, or of its opposite
low_kept : (s n lo hi : ℤ) → lo ≤ℤ hi → n ≡ lo → (s +ℤ n) ≡ int_min (s +ℤ lo) (s +ℤ hi)
low_kept s n lo hi order at = omega (arith, ints, clamps)

high_kept : (s n lo hi : ℤ) → lo ≤ℤ hi → n ≡ hi → (s +ℤ n) ≡ int_max (s +ℤ lo) (s +ℤ hi)
high_kept s n lo hi order at = omega (arith, ints, clamps)

low_turned : (s n lo hi : ℤ) → lo ≤ℤ hi → n ≡ lo → (s -ℤ n) ≡ int_max (s -ℤ lo) (s -ℤ hi)
low_turned s n lo hi order at = omega (arith, ints, clamps)

high_turned : (s n lo hi : ℤ) → lo ≤ℤ hi → n ≡ hi → (s -ℤ n) ≡ int_min (s -ℤ lo) (s -ℤ hi)
high_turned s n lo hi order at = omega (arith, ints, clamps)

between_kept : (s lo hi a b : ℤ) → AreBetween lo hi a b → AreBetween (int_min (s +ℤ lo) (s +ℤ hi)) (int_max (s +ℤ lo) (s +ℤ hi)) (s +ℤ a) (s +ℤ b)
between_kept s lo hi a b within =
    let a_low = within.a_low in
    let a_high = within.a_high in
    let b_low = within.b_low in
    let b_high = within.b_high in
    record { a_low = omega (arith, ints, clamps); a_high = omega (arith, ints, clamps); b_low = omega (arith, ints, clamps); b_high = omega (arith, ints, clamps) }

between_turned : (s lo hi a b : ℤ) → AreBetween lo hi a b → AreBetween (int_min (s -ℤ lo) (s -ℤ hi)) (int_max (s -ℤ lo) (s -ℤ hi)) (s -ℤ a) (s -ℤ b)
between_turned s lo hi a b within =
    let a_low = within.a_low in
    let a_high = within.a_high in
    let b_low = within.b_low in
    let b_high = within.b_high in
    record { a_low = omega (arith, ints, clamps); a_high = omega (arith, ints, clamps); b_low = omega (arith, ints, clamps); b_high = omega (arith, ints, clamps) }

-- the four turns, with their images written out
abbrev at_0 : ℤ → ℤ → ℤ → ℤ → V3
at_0 u v x y = vector (u +ℤ x) (v +ℤ y) (pos 0)

abbrev at_1 : ℤ → ℤ → ℤ → ℤ → V3
at_1 u v x y = vector (u -ℤ y) (v +ℤ x) (pos 0)

abbrev at_2 : ℤ → ℤ → ℤ → ℤ → V3
at_2 u v x y = vector (u -ℤ x) (v -ℤ y) (pos 0)

abbrev at_3 : ℤ → ℤ → ℤ → ℤ → V3
at_3 u v x y = vector (u +ℤ y) (v -ℤ x) (pos 0)

-- the image of the rectangle and of the line under a map of points
abbrev EdgeKept : (ℤ → ℤ → V3) → FlatRect → BendLine → Type 0
EdgeKept at r line = IsOnEdge (through (at r.x0 r.y0) (at r.x1 r.y1)) (between line (at line.from.0 line.from.1) (at line.to.0 line.to.1))

edge_0 : (u v : ℤ) (r : FlatRect) (line : BendLine) → r.x0 ≤ℤ r.x1 → r.y0 ≤ℤ r.y1 → IsOnEdge r line → EdgeKept (at_0 u v) r line
edge_0 u v r line wide long (left from to within) = left (low_kept u _ _ _ wide from) (low_kept u _ _ _ wide to) (between_kept v _ _ _ _ within)
edge_0 u v r line wide long (right from to within) = right (high_kept u _ _ _ wide from) (high_kept u _ _ _ wide to) (between_kept v _ _ _ _ within)
edge_0 u v r line wide long (lower from to within) = lower (low_kept v _ _ _ long from) (low_kept v _ _ _ long to) (between_kept u _ _ _ _ within)
edge_0 u v r line wide long (upper from to within) = upper (high_kept v _ _ _ long from) (high_kept v _ _ _ long to) (between_kept u _ _ _ _ within)

edge_1 : (u v : ℤ) (r : FlatRect) (line : BendLine) → r.x0 ≤ℤ r.x1 → r.y0 ≤ℤ r.y1 → IsOnEdge r line → EdgeKept (at_1 u v) r line
edge_1 u v r line wide long (left from to within) = lower (low_kept v _ _ _ wide from) (low_kept v _ _ _ wide to) (between_turned u _ _ _ _ within)
edge_1 u v r line wide long (right from to within) = upper (high_kept v _ _ _ wide from) (high_kept v _ _ _ wide to) (between_turned u _ _ _ _ within)
edge_1 u v r line wide long (lower from to within) = right (low_turned u _ _ _ long from) (low_turned u _ _ _ long to) (between_kept v _ _ _ _ within)
edge_1 u v r line wide long (upper from to within) = left (high_turned u _ _ _ long from) (high_turned u _ _ _ long to) (between_kept v _ _ _ _ within)

edge_2 : (u v : ℤ) (r : FlatRect) (line : BendLine) → r.x0 ≤ℤ r.x1 → r.y0 ≤ℤ r.y1 → IsOnEdge r line → EdgeKept (at_2 u v) r line
edge_2 u v r line wide long (left from to within) = right (low_turned u _ _ _ wide from) (low_turned u _ _ _ wide to) (between_turned v _ _ _ _ within)
edge_2 u v r line wide long (right from to within) = left (high_turned u _ _ _ wide from) (high_turned u _ _ _ wide to) (between_turned v _ _ _ _ within)
edge_2 u v r line wide long (lower from to within) = upper (low_turned v _ _ _ long from) (low_turned v _ _ _ long to) (between_turned u _ _ _ _ within)
edge_2 u v r line wide long (upper from to within) = lower (high_turned v _ _ _ long from) (high_turned v _ _ _ long to) (between_turned u _ _ _ _ within)

edge_3 : (u v : ℤ) (r : FlatRect) (line : BendLine) → r.x0 ≤ℤ r.x1 → r.y0 ≤ℤ r.y1 → IsOnEdge r line → EdgeKept (at_3 u v) r line
edge_3 u v r line wide long (left from to within) = upper (low_turned v _ _ _ wide from) (low_turned v _ _ _ wide to) (between_kept u _ _ _ _ within)
edge_3 u v r line wide long (right from to within) = lower (high_turned v _ _ _ wide from) (high_turned v _ _ _ wide to) (between_kept u _ _ _ _ within)
edge_3 u v r line wide long (lower from to within) = left (low_kept u _ _ _ long from) (low_kept u _ _ _ long to) (between_turned v _ _ _ _ within)
edge_3 u v r line wide long (upper from to within) = right (high_kept u _ _ _ long from) (high_kept u _ _ _ long to) (between_turned v _ _ _ _ within)

-- the same of a turn by its number
abbrev turned : ℕ → ℤ → ℤ → ℤ → ℤ → V3
turned r u v x y = mapped (record { turn = quarter_turns r; shift = vector u v (pos 0) }) (vector x y (pos 0))

moved : (at other : ℤ → ℤ → V3) → ((x y : ℤ) → at x y ≡ other x y) → (r : FlatRect) (line : BendLine) → EdgeKept at r line → EdgeKept other r line
moved at other same r line kept =
    subst (λ (p : V3 × V3 × V3 × V3). IsOnEdge (through p.0 p.1) (between line p.2 p.3)) (λ i. (same r.x0 r.y0 i, same r.x1 r.y1 i, same line.from.0 line.from.1 i, same line.to.0 line.to.1 i)) kept

edge_of_turn : (n : ℕ) → n < 4 → (u v : ℤ) (r : FlatRect) (line : BendLine) → r.x0 ≤ℤ r.x1 → r.y0 ≤ℤ r.y1 → IsOnEdge r line → EdgeKept (turned n u v) r line
edge_of_turn = by_four (λ n. (u v : ℤ) (r : FlatRect) (line : BendLine) → r.x0 ≤ℤ r.x1 → r.y0 ≤ℤ r.y1 → IsOnEdge r line → EdgeKept (turned n u v) r line)
    (λ u v r line wide long on. moved (at_0 u v) (turned 0 u v) (λ x y. sym (mapped_0 u v x y)) r line (edge_0 u v r line wide long on))
    (λ u v r line wide long on. moved (at_1 u v) (turned 1 u v) (λ x y. sym (mapped_1 u v x y)) r line (edge_1 u v r line wide long on))
    (λ u v r line wide long on. moved (at_2 u v) (turned 2 u v) (λ x y. sym (mapped_2 u v x y)) r line (edge_2 u v r line wide long on))
    (λ u v r line wide long on. moved (at_3 u v) (turned 3 u v) (λ x y. sym (mapped_3 u v x y)) r line (edge_3 u v r line wide long on))

-- a line on an edge stays on an edge
pub edge_image : (m : Map) → IsFlatMap m → (r : FlatRect) (line : BendLine) → r.x0 ≤ℤ r.x1 → r.y0 ≤ℤ r.y1 → IsOnEdge r line → IsOnEdge (flat_image m r) (line_image m line)
edge_image m flat r line wide long on =
    let same : record { turn = quarter_turns flat.turns; shift = vector m.shift.x m.shift.y (pos 0) } ≡ m = λ i. record { turn = sym flat.turn i; shift = same_point (vector m.shift.x m.shift.y (pos 0)) m.shift refl refl (sym flat.level) i } in
    subst (λ (k : Map). IsOnEdge (flat_image k r) (line_image k line)) same (edge_of_turn flat.turns flat.few m.shift.x m.shift.y r line wide long on)
