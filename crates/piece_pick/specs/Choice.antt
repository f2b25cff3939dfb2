-- A choice of tool pieces for the stages of a setup, and which of two comes first. Lengths are in
-- micrometres. That a stage's tools are made of sections that stand side by side is the trade's
-- practice; the order of choices is the program's own.
use Rattle.std.specs.Prelude.{◌≡◌, ℕ, ◌<◌, ◌≤◌, ℤ, pos, ◌+ℤ◌, ◌≤ℤ◌, ◌<ℤ◌, List, [], ◌∷◌, length}
use Rattle.std.specs.Prelude.{map, AllPairs, ◌⊎◌, Option, Some, None}
use Rattle.arrayvec.specs.ArrayVec.{ArrayVec}
use Rattle.tool_library.specs.Tools.{ToolsData}
use Rattle.piece_pick.specs.declared.want.Want.{Want}
use Rattle.piece_pick.specs.declared.stock.Tool.{Tool}
use Rattle.tool_library.specs.Stock.{held}
use Rattle.piece_pick.specs.Stock.{sections_of, taken}

-- the greatest number of a want's pieces
abbrev pub most_pieces : ℕ
most_pieces = 32

-- a want's tools are there, and its length is at least 1
pub record IsWant (tools : ToolsData) (want : Want) : Type 0 where
  pub punch : want.punch < length tools.punches
  pub die : want.die < length tools.dies
  pub long : pos 1 ≤ℤ want.length

-- how long pieces are together
abbrev pub total : List ℤ → ℤ
total [] = pos 0
total (piece ∷ pieces) = piece +ℤ total pieces

-- pieces make up a length: one to 32, none longer than the one before it
pub record MakesUp (wanted : ℤ) (pieces : List ℤ) : Type 0 where
  pub some : 0 < length pieces
  pub few : length pieces ≤ most_pieces
  pub falling : AllPairs (λ a b. b ≤ℤ a) pieces
  pub sum : total pieces ≡ wanted

-- there is one list for each want, which makes up its length
abbrev pub AreMadeUp : List Want → List (List ℤ) → Type 0
AreMadeUp [] [] = Unit {0}
AreMadeUp (want ∷ wants) (pieces ∷ lists) = MakesUp want.length pieces × AreMadeUp wants lists
AreMadeUp _ _ = ⊥

-- a choice: lists that make up the wants, with no more pieces of a length from a punch or from a
-- die than its sections hold
pub record IsChoice (tools : ToolsData) (wants : List Want) (choice : List (List ℤ)) : Type 0 where
  pub each : AreMadeUp wants choice
  pub stock : (tool : Tool) (piece : ℤ)
      → taken tool piece wants choice ≤ held (sections_of tools tool) piece

-- the first list has the greater piece at the first place where the two differ
abbrev pub IsAhead : List ℤ → List ℤ → Type 0
IsAhead (a ∷ pieces) (b ∷ others) = (b <ℤ a) ⊎ ((a ≡ b) × IsAhead pieces others)
IsAhead _ _ = ⊥

-- the same of two choices, want by want
abbrev pub ComesFirst : List (List ℤ) → List (List ℤ) → Type 0
ComesFirst (a ∷ lists) (b ∷ others) = IsAhead a b ⊎ ((a ≡ b) × ComesFirst lists others)
ComesFirst _ _ = ⊥

-- a choice that comes before each other one
pub record IsFirstChoice (tools : ToolsData) (wants : List Want)
    (lists : List (List ℤ)) : Type 0 where
  pub choice : IsChoice tools wants lists
  pub first : (other : List (List ℤ)) → IsChoice tools wants other
      → (other ≡ lists) ⊎ ComesFirst lists other

-- the first choice, or none exactly where there is none
abbrev pub IsPick : ToolsData → List Want → Option (List (List ℤ)) → Type 0
IsPick tools wants (Some choice) = IsFirstChoice tools wants choice
IsPick tools wants None = (choice : List (List ℤ)) → IsChoice tools wants choice → ⊥

-- what contracts see of the lists of several wants
abbrev pub lists_of : List (ArrayVec ℤ) → List (List ℤ)
lists_of picked = map (λ pieces. pieces.items) picked
