-- The stages that a choice of pieces makes, one by one.
use Rattle.std.proofs.Common.{◌≡◌, ℕ, zero, suc, ◌<◌, ◌++◌, ℤ, List, [], ◌∷◌, map, take, length, get_or}
use Rattle.std.proofs.Common.{refl, ap, arith}
use Rattle.machine_file.specs.Machine.{StageTextData}
use Rattle.setup_choice.specs.Setups.{StageWantData}
use Rattle.setup_choice.specs.Fitting.{made_of, made_of_choice}

-- one more stage is made
pub made_more : {X Y : Type 0} (f : X → StageWantData) (g : Y → List ℤ) (xs : List X) (ys : List Y)
    (i : ℕ) (x : X) (y : Y) → i < length xs → i < length ys → x ≡ get_or xs i x
    → y ≡ get_or ys i y → take (suc i) (made_of_choice (map f xs) (map g ys))
    ≡ take i (made_of_choice (map f xs) (map g ys)) ++ made_of (f x, g y) ∷ []
made_more f g [] ys i x y within also here there = absurd (omega arith)
made_more f g (one ∷ xs) [] i x y within also here there = absurd (omega arith)
made_more f g (one ∷ xs) (it ∷ ys) zero x y within also here there =
    let first : made_of (f one, g it) ≡ made_of (f x, g y) =
    rw (here, there) refl in
    ap (λ (t : StageTextData). t ∷ []) first
made_more f g (one ∷ xs) (it ∷ ys) (suc i) x y within also here there =
    ap (λ (ts : List StageTextData). made_of (f one, g it) ∷ ts)
    (made_more f g xs ys i x y (omega arith) (omega arith) here there)

pub made_length : (stages : List StageWantData) (choice : List (List ℤ))
    → length choice ≡ length stages → length (made_of_choice stages choice) ≡ length stages
made_length [] choice same = refl
made_length (s ∷ stages) [] same = absurd (omega arith)
made_length (s ∷ stages) (pieces ∷ choice) same =
    ap suc (made_length stages choice (omega arith))
