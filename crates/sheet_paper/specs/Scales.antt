-- The scale of a picture: how many micrometres a tenth of a millimetre of paper shows.
use Rattle.std.specs.Prelude.{◌≡◌, ℕ, ◌*◌, ℤ, pos, ◌*ℤ◌, ◌≤ℤ◌, List, [], ◌∷◌, ◌++◌, map}
use Rattle.std.specs.List.{flat_map, Contains}

-- The round scales below 1:100, and those up to 1:1000 from there, which come again at each power
-- of ten.
abbrev pub small_scales : List ℤ
small_scales =
    pos 1 ∷ pos 2 ∷ pos 4 ∷ pos 5 ∷ pos 8 ∷ pos 10 ∷ pos 16 ∷ pos 20 ∷ pos 25 ∷ pos 40 ∷ pos 50
    ∷ pos 80 ∷ []

abbrev pub decade : List ℕ
decade = 100 ∷ 125 ∷ 150 ∷ 200 ∷ 250 ∷ 300 ∷ 400 ∷ 500 ∷ 600 ∷ 800 ∷ []

-- all scales that are used
abbrev pub scales : List ℤ
scales =
    small_scales
    ++ flat_map (λ power. map (λ scale. pos (scale * power)) decade) (1 ∷ 10 ∷ 100 ∷ 1000 ∷ 10000 ∷ [])

-- a width and a height have room in so many tenths of a millimetre
abbrev pub HasRoom : (width height across upright scale : ℤ) → Type 0
HasRoom width height across upright scale =
    (width ≤ℤ (across *ℤ scale)) × (height ≤ℤ (upright *ℤ scale))

-- the least of the scales at which they have room, and the last where there is none
pub record IsLeastScale (width height across upright scale : ℤ) : Type 0 where
  pub one : Contains scales scale
  pub least :
      (other : ℤ) → Contains scales other → HasRoom width height across upright other
      → HasRoom width height across upright scale × (scale ≤ℤ other)
  pub last : (HasRoom width height across upright scale → ⊥) → scale ≡ pos 8000000
