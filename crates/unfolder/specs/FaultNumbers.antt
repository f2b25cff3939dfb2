-- The numbers of a refusal of the blank.
use Rattle.std.specs.Prelude.{ℕ, List, [], ◌∷◌}
use Rattle.unfolder.specs.declared.blank.UnfoldFault.{UnfoldFault}
use Rattle.unfolder.specs.declared.blank.UnfoldFault.TheVariants.{CoreTooSmall, BendOffFace}
use Rattle.unfolder.specs.declared.blank.UnfoldFault.TheVariants.{FlatOverlap}

-- the number of the refusal, and then its own numbers
abbrev pub unfold_numbers : UnfoldFault → List ℕ
unfold_numbers (CoreTooSmall face) = 1 ∷ face ∷ []
unfold_numbers (BendOffFace bend) = 2 ∷ bend ∷ []
unfold_numbers (FlatOverlap a b) = 3 ∷ a ∷ b ∷ []
