-- How long the lines of a group are.
use Rattle.std.proofs.Common.{◌≡◌, ℕ, ◌+◌, ◌-◌, ◌*◌, ◌<◌, ◌≤◌, ℤ, pos, ◌+ℤ◌, ◌-ℤ◌, ◌≤ℤ◌, unsigned_abs, Bool, true, false, cond, List, [], ◌∷◌, ◌++◌, map, filter, length, refl, sym, ap, ◌∙◌, arith}
use Rattle.std.specs.Prelude.{fold}
use Rattle.std.specs.List.{range_with_len}
use Rattle.std.proofs.lemmas.Int.{ints}
use Rattle.std.proofs.lemmas.List.{map-append, append-nil}
use Rattle.algebra.proofs.Widths.{abs_in}
use Rattle.part_file.specs.declared.part.Side.TheVariants.{E, W}
use Rattle.part_file.specs.Part.{is_bent}
use Rattle.unfolder.specs.Cores.{if_bent}
use Rattle.fold_boxes.specs.Shapes.{ShapeData, IsShape, core_width, line_length}
use Rattle.fold_boxes.proofs.Columns.{half_bounds, line_is}
use Rattle.fold_boxes.proofs.Picked.{filter_more}

taken : (bent : Bool) (q : ℤ) → pos 0 ≤ℤ q → q ≤ℤ pos 100000 → (pos 0 ≤ℤ if_bent bent q) × (if_bent bent q ≤ℤ pos 100000)
taken true q low high = (low, high)
taken false q low high = (omega (arith, ints), omega (arith, ints))

pub line_near : (shape : ShapeData) (b : ℕ) → IsShape shape → b < length shape.part.faces → unsigned_abs (line_length shape b) ≤ 10200000
line_near shape b fit inside =
    let wide = (fit.part.each_face b inside).placed.sizes.wide in
    let half = half_bounds shape.part.thickness fit.part.sheet.thickness.range.bottom fit.part.sheet.thickness.range.top in
    let low : pos 0 ≤ℤ shape.q = omega (arith, ints, half.0, fit.q_low) in
    let west = taken (is_bent shape.part.faces b W) shape.q low fit.q_high in
    let east = taken (is_bent shape.part.faces b E) shape.q low fit.q_high in
    let width : core_width shape b ≡ line_length shape b = line_is shape b in
    abs_in (line_length shape b) 10200000 (omega (arith, ints, wide.bottom, wide.top, west.0, west.1, east.0, east.1, width)) (omega (arith, ints, wide.bottom, wide.top, west.0, west.1, east.0, east.1, width))

total_append : (a : ℤ) (xs : List ℤ) (x : ℤ) → fold ◌+ℤ◌ a (xs ++ x ∷ []) ≡ (fold ◌+ℤ◌ a xs +ℤ x)
total_append a [] x = refl
total_append a (y ∷ xs) x = total_append (a +ℤ y) xs x

-- the total of one line more
pub total_more : (g : ℕ → ℤ) (set : ℕ → Bool) (bend : ℕ) → 0 < bend → set bend ≡ true
    → fold ◌+ℤ◌ (pos 0) (map g (filter set (range_with_len 1 (bend + 1 - 1)))) ≡ (fold ◌+ℤ◌ (pos 0) (map g (filter set (range_with_len 1 (bend - 1)))) +ℤ g bend)
total_more g set bend some in_set =
    let same : bend + 1 - 1 ≡ (bend - 1) + 1 = omega arith in
    let before = filter set (range_with_len 1 (bend - 1)) in
    ap (λ (n : ℕ). fold ◌+ℤ◌ (pos 0) (map g (filter set (range_with_len 1 n)))) same
    ∙ ap (λ (ns : List ℕ). fold ◌+ℤ◌ (pos 0) (map g ns)) (filter_more set 1 (bend - 1) bend (omega arith) ∙ ap (λ (t : Bool). before ++ cond t (bend ∷ []) []) in_set)
    ∙ ap (fold ◌+ℤ◌ (pos 0)) (map-append g before (bend ∷ [])) ∙ total_append (pos 0) (map g before) (g bend)

pub total_same : (g : ℕ → ℤ) (set : ℕ → Bool) (bend : ℕ) → 0 < bend → set bend ≡ false
    → fold ◌+ℤ◌ (pos 0) (map g (filter set (range_with_len 1 (bend + 1 - 1)))) ≡ fold ◌+ℤ◌ (pos 0) (map g (filter set (range_with_len 1 (bend - 1))))
total_same g set bend some out =
    let same : bend + 1 - 1 ≡ (bend - 1) + 1 = omega arith in
    let before = filter set (range_with_len 1 (bend - 1)) in
    ap (λ (n : ℕ). fold ◌+ℤ◌ (pos 0) (map g (filter set (range_with_len 1 n)))) same
    ∙ ap (λ (ns : List ℕ). fold ◌+ℤ◌ (pos 0) (map g ns)) (filter_more set 1 (bend - 1) bend (omega arith) ∙ ap (λ (t : Bool). before ++ cond t (bend ∷ []) []) out ∙ append-nil before)
