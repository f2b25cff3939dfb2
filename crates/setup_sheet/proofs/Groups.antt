-- The bends that are bent together with a lead.
use Rattle.std.proofs.Common.{◌≡◌, ℕ, Bool, true, false, not, ◌&&◌, ◌==◌, List, [], ◌∷◌, filter, refl, sym, ◌∙◌, ap}
use Rattle.brake_base.specs.declared.mask.Mask.{Mask}
use Rattle.brake_base.specs.Masks.{has, numbers_to, bends_of}
use Rattle.job_setup.specs.Setup.{JobData}
use Rattle.job_setup.specs.StrokeGroup.{group_of}
use Rattle.setup_sheet.specs.OrderSheet.{bent_with}

-- a filter by both of two tests is one filter after the other
filter_both : (first second both : ℕ → Bool) → ((n : ℕ) → both n ≡ (first n && second n)) → (numbers : List ℕ) → filter both numbers ≡ filter second (filter first numbers)
filter_both first second both is [] = refl
filter_both first second both is (n ∷ numbers) = by_tests (first n) (second n) refl refl (filter_both first second both is numbers)
  where
    by_tests : (s t : Bool) → first n ≡ s → second n ≡ t → filter both numbers ≡ filter second (filter first numbers) → filter both (n ∷ numbers) ≡ filter second (filter first (n ∷ numbers))
    by_tests true true one other rest = rw (is n, one, other) (ap (λ (l : List ℕ). n ∷ l) rest)
    by_tests true false one other rest = rw (is n, one, other) rest
    by_tests false t one other rest = rw (is n, one) rest

-- the mask of the others, by its bends
pub others_are : (job : JobData) (mask group others : Mask) (lead : ℕ) → group ≡ group_of job mask lead → ((b : ℕ) → has others b ≡ (has group b && not (b == lead))) → bends_of others ≡ bent_with job mask lead
unfolding bends_of bent_with
others_are job mask group others lead is each =
    filter_both (has group) (λ b. not (b == lead)) (has others) each (numbers_to 16)
    ∙ ap (λ (m : Mask). filter (λ b. not (b == lead)) (filter (has m) (numbers_to 16))) is
