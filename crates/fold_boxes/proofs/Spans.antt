-- The span of the bends so far, and of all.
use Rattle.std.proofs.Common.{◌≡◌, ℕ, ℤ, pos, ◌+ℤ◌, ◌-ℤ◌, Bool, true, false, cond, List, [], ◌∷◌, ◌++◌, map, append-nil, refl, sym, ◌∙◌, ap, Some, arith, ◌+◌, ◌-◌, ◌<◌, filter}
use Rattle.std.specs.Prelude.{unwrap_or, fold}
use Rattle.std.specs.Int.{int_min, int_max}
use Rattle.std.specs.List.{range_with_len}
use Rattle.std.proofs.lemmas.Int.{ints}
use Rattle.std.proofs.lemmas.List.{map-append}
use Rattle.std.proofs.lemmas.List.Sums.{fold-append}
use Rattle.part_file.specs.declared.part.Side.{Side}
use Rattle.part_file.specs.declared.part.Side.TheVariants.{N, E, S, W}
use Rattle.part_file.specs.declared.part.Joint.{Joint}
use Rattle.part_file.specs.Part.{FaceData, face_at, is_bent, start, along}
use Rattle.unfolder.specs.declared.blank.FlatRect.{FlatRect}
use Rattle.unfolder.specs.Cores.{joint_of, side_point, if_bent, core}
use Rattle.unfolder.specs.Extent.{least, greatest}
use Rattle.unfolder.specs.Fold.{dot, minus}
use Rattle.fold_boxes.specs.Shapes.{ShapeData}
use Rattle.fold_boxes.specs.Groups.{line_from, line_to}
use Rattle.fold_boxes.specs.Spans.{enclosing_range, range_of_lines}
use Rattle.fold_boxes.proofs.Picked.{filter_more}

-- a fold over a list with one item more
fold_more : (h : ℤ → ℤ → ℤ) (f : ℕ → ℤ) (a : ℤ) (bs : List ℕ) (b : ℕ) → fold h a (map f (bs ++ b ∷ [])) ≡ h (fold h a (map f bs)) (f b)
fold_more h f a bs b = ap (fold h a) (map-append f bs (b ∷ [])) ∙ fold-append h a (map f bs) (f b ∷ [])

range_of_more_lines : (shape : ShapeData) (bs : List ℕ) (b : ℕ) → range_of_lines shape (bs ++ b ∷ []) ≡ Some (enclosing_range (range_of_lines shape bs) (line_from shape b, line_to shape b))
range_of_more_lines shape [] b = refl
range_of_more_lines shape (c ∷ cs) b = λ i. Some (fold_more int_min (line_from shape) (line_from shape c) cs b i, fold_more int_max (line_to shape) (line_to shape c) cs b i)

-- the bends of a set up to one more
pub cover_next : (shape : ShapeData) (set : ℕ → Bool) (b : ℕ) → 0 < b → set b ≡ true
    → range_of_lines shape (filter set (range_with_len 1 (b + 1 - 1))) ≡ Some (enclosing_range (range_of_lines shape (filter set (range_with_len 1 (b - 1)))) (line_from shape b, line_to shape b))
cover_next shape set b some in_set =
    let same : b + 1 - 1 ≡ (b - 1) + 1 = omega arith in
    let more = filter_more set 1 (b - 1) b (omega arith) ∙ ap (λ t. filter set (range_with_len 1 (b - 1)) ++ cond t (b ∷ []) []) in_set in
    ap (λ n. range_of_lines shape (filter set (range_with_len 1 n))) same ∙ ap (range_of_lines shape) more ∙ range_of_more_lines shape (filter set (range_with_len 1 (b - 1))) b

pub skip_next : (shape : ShapeData) (set : ℕ → Bool) (b : ℕ) → 0 < b → set b ≡ false
    → range_of_lines shape (filter set (range_with_len 1 (b + 1 - 1))) ≡ range_of_lines shape (filter set (range_with_len 1 (b - 1)))
skip_next shape set b some not_in =
    let same : b + 1 - 1 ≡ (b - 1) + 1 = omega arith in
    let more = filter_more set 1 (b - 1) b (omega arith) ∙ ap (λ t. filter set (range_with_len 1 (b - 1)) ++ cond t (b ∷ []) []) not_in in
    ap (λ n. range_of_lines shape (filter set (range_with_len 1 n))) same ∙ ap (range_of_lines shape) more ∙ ap (range_of_lines shape) (append-nil (filter set (range_with_len 1 (b - 1))))

pub span_is : (shape : ShapeData) (bs : List ℕ) → unwrap_or (range_of_lines shape bs) (pos 0, pos 0) ≡ (least (map (line_from shape) bs), greatest (map (line_to shape) bs))
span_is shape [] = refl
span_is shape (b ∷ bs) = refl

-- how far along a side its points lie
pub along_from_start : (side : Side) (face : FaceData) (distance depth : ℤ) → dot (minus (side_point side face distance depth) (start side face)) (along side) ≡ distance
along_from_start N face distance depth = omega (arith, ints)
along_from_start E face distance depth = omega (arith, ints)
along_from_start S face distance depth = omega (arith, ints)
along_from_start W face distance depth = omega (arith, ints)

-- the line of a bend begins and ends where the child's core does, so far along the side
pub line_from_is : (shape : ShapeData) (b : ℕ) (joint : Joint) (core_of_child : FlatRect) → joint ≡ joint_of shape.part.faces b → core_of_child ≡ core shape.part.faces shape.q b → (joint.at +ℤ core_of_child.x0) ≡ line_from shape b
line_from_is shape b joint child joint_is child_is =
    let ours = joint_of shape.part.faces b in
    let at = ours.at +ℤ if_bent (is_bent shape.part.faces b W) shape.q in
    (λ i. (joint_is i).at +ℤ (child_is i).x0) ∙ sym (along_from_start ours.side (face_at shape.part.faces ours.on) at shape.q)

pub line_to_is : (shape : ShapeData) (b : ℕ) (joint : Joint) (core_of_child : FlatRect) → joint ≡ joint_of shape.part.faces b → core_of_child ≡ core shape.part.faces shape.q b → (joint.at +ℤ core_of_child.x1) ≡ line_to shape b
line_to_is shape b joint child joint_is child_is =
    let ours = joint_of shape.part.faces b in
    let width = (face_at shape.part.faces b).width in
    let east = if_bent (is_bent shape.part.faces b E) shape.q in
    let apart : (ours.at +ℤ (width -ℤ east)) ≡ ((ours.at +ℤ width) -ℤ east) = omega (arith, ints) in
    (λ i. (joint_is i).at +ℤ (child_is i).x1) ∙ apart ∙ sym (along_from_start ours.side (face_at shape.part.faces ours.on) ((ours.at +ℤ width) -ℤ east) shape.q)
