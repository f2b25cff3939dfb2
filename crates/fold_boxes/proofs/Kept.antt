-- What the code reads from the lists that a shape keeps.
use Rattle.std.proofs.Common.{◌≡◌, ℕ, ◌+◌, ◌<◌, List, map, length, get_or, ◌∙◌, ap, subst, arith}
use Rattle.std.specs.List.{range_with_len}
use Rattle.std.proofs.lemmas.List.FromFn.{length-map-range_with_len, get_or-map-range_with_len}
use Rattle.unfolder.specs.declared.blank.FlatRect.{FlatRect}
use Rattle.unfolder.specs.Cores.{core}
use Rattle.fold_boxes.specs.declared.hinge.Hinge.{Hinge}
use Rattle.fold_boxes.specs.Shapes.{ShapeData}
use Rattle.fold_boxes.specs.Hinges.{Keeps}

kept_by : (kept shape : ShapeData) (cores : List FlatRect) (hinges : List Hinge) → kept ≡ shape → Keeps kept cores hinges → Keeps shape cores hinges
kept_by kept shape cores hinges e h = subst (λ (s : ShapeData). Keeps s cores hinges) e h

-- the list that holds g at each number, at an index
pub listed_at : {X : Type 0} (g : ℕ → X) (a n i j : ℕ) (xs ys : List X) (d : X) → ys ≡ xs → xs ≡ map g (range_with_len a n) → i < n → a + i ≡ j → (i < length ys) × (get_or ys i d ≡ g j)
listed_at g a n i j xs ys d same listed inside number =
    let long : length ys ≡ n = ap length same ∙ ap length listed ∙ length-map-range_with_len g a n in
    (omega (arith, long), ap (λ zs. get_or zs i d) (same ∙ listed) ∙ get_or-map-range_with_len g a n i j d inside number)

pub core_at : (kept shape : ShapeData) (cores ys : List FlatRect) (hinges : List Hinge) (i f : ℕ) (d : FlatRect) → kept ≡ shape → Keeps kept cores hinges → ys ≡ cores → i ≡ f → f < length shape.part.faces
    → (i < length ys) × (get_or ys i d ≡ core shape.part.faces shape.q f)
core_at kept shape cores ys hinges i f d e h same at inside =
    let keeps = kept_by kept shape cores hinges e h in
    listed_at (core shape.part.faces shape.q) 0 (length shape.part.faces) i f cores ys d same keeps.cores_are (omega (arith, at)) (omega (arith, at))
