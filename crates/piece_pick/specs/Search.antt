-- The states of the search for the first choice. Lengths are in micrometres.
use Rattle.std.specs.Prelude.{◌≡◌, ℕ, ◌-◌, ◌≤◌, min, ℤ, pos, ◌+ℤ◌, ◌≤ℤ◌, ◌<ℤ◌, List, [], ◌∷◌, ◌++◌}
use Rattle.std.specs.Prelude.{length, drop, All, AllPairs, Bool, true, false, if◌then◌else◌, ◌⊎◌}
use Rattle.std.specs.Ordering.{int_eq}
use Rattle.tool_library.specs.Tools.{ToolsData, IsTools}
use Rattle.piece_pick.specs.declared.want.Want.{Want}
use Rattle.piece_pick.specs.declared.stock.Tool.{Tool}
use Rattle.piece_pick.specs.declared.stock.Tool.TheVariants.{Punch, Die}
use Rattle.piece_pick.specs.declared.dead_states.DeadState.{DeadState}
use Rattle.tool_library.specs.Stock.{held, count_of}
use Rattle.piece_pick.specs.Stock.{sections_of, taken}
use Rattle.piece_pick.specs.Choice.{most_pieces, total, IsWant, MakesUp, IsChoice, ComesFirst}

-- how many pieces of a length the lists of the first wants leave of a tool
abbrev pub left : ToolsData → List Want → List (List ℤ) → Tool → ℤ → ℕ
left tools wants before tool piece =
    held (sections_of tools tool) piece - taken tool piece wants before

-- how many of them both tools of a want have, and one want may take
abbrev pub left_for : ToolsData → List Want → List (List ℤ) → Want → ℤ → ℕ
left_for tools wants before want piece =
    min (min (left tools wants before (Punch want.punch) piece)
    (left tools wants before (Die want.die) piece)) most_pieces

-- pieces that a want may take, the longest first
pub record IsSupply (supply : List ℤ) : Type 0 where
  pub long : All (λ piece. pos 1 ≤ℤ piece) supply
  pub falling : AllPairs (λ a b. b ≤ℤ a) supply

-- they are those that the lists of the first wants leave
abbrev pub IsLeftFor : ToolsData → List Want → List (List ℤ) → Want → List ℤ → Type 0
IsLeftFor tools wants before want supply =
    (piece : ℤ) → count_of piece supply ≡ left_for tools wants before want piece

-- pieces of a supply in its order, some left out
abbrev pub IsDrawn : List ℤ → List ℤ → Type 0
IsDrawn [] supply = Unit {0}
IsDrawn (piece ∷ pieces) [] = ⊥
IsDrawn (piece ∷ pieces) (next ∷ supply) =
    ((piece ≡ next) × IsDrawn pieces supply) ⊎ IsDrawn (piece ∷ pieces) supply

-- at most so many drawn pieces are as long as a rest
pub record IsFill (supply : List ℤ) (rest : ℤ) (room : ℕ) (pieces : List ℤ) : Type 0 where
  pub drawn : IsDrawn pieces supply
  pub sum : total pieces ≡ rest
  pub few : length pieces ≤ room

-- no pieces are
abbrev pub HasNoFill : List ℤ → ℤ → ℕ → Type 0
HasNoFill supply rest room = (pieces : List ℤ) → IsFill supply rest room pieces → ⊥

-- a state that is kept is dead, where its rest is above 0
abbrev pub IsDead : List ℤ → DeadState → Type 0
IsDead supply state = pos 0 <ℤ state.rest → HasNoFill (drop state.from supply) state.rest state.room

-- what is left of a supply without the pieces of a length at its front
abbrev pub shorter : ℤ → List ℤ → List ℤ
shorter piece [] = []
shorter piece (next ∷ supply) = if int_eq next piece then shorter piece supply else next ∷ supply

-- lists of pieces make up the first wants
abbrev pub AreBegun : List Want → List (List ℤ) → Type 0
AreBegun wants [] = Unit {0}
AreBegun [] (pieces ∷ lists) = ⊥
AreBegun (want ∷ wants) (pieces ∷ lists) = MakesUp want.length pieces × AreBegun wants lists

-- and the stock holds them
pub record IsPart (tools : ToolsData) (wants : List Want) (before : List (List ℤ)) : Type 0 where
  pub each : AreBegun wants before
  pub stock : (tool : Tool) (piece : ℤ)
      → taken tool piece wants before ≤ held (sections_of tools tool) piece

-- the want is the next after those that have their pieces
abbrev pub IsNext : List Want → List (List ℤ) → Want → Type 0
IsNext [] before want = ⊥
IsNext (next ∷ wants) [] want = next ≡ want
IsNext (next ∷ wants) (pieces ∷ lists) want = IsNext wants lists want

-- a choice that begins with lists
pub record Begins (before choice : List (List ℤ)) : Type 0 where
  pub lists : List (List ℤ)
  pub is : choice ≡ before ++ lists

-- a choice that goes on with pieces, and then with some that are drawn from a supply
pub record GoesOn (before : List (List ℤ)) (pieces supply : List ℤ)
    (choice : List (List ℤ)) : Type 0 where
  pub more : List ℤ
  pub lists : List (List ℤ)
  pub drawn : IsDrawn more supply
  pub is : choice ≡ before ++ (pieces ++ more) ∷ lists

-- of the choices of a kind the first
pub record IsFirst (tools : ToolsData) (wants : List Want) (Kind : List (List ℤ) → Type 0)
    (lists : List (List ℤ)) : Type 0 where
  pub choice : IsChoice tools wants lists
  pub kind : Kind lists
  pub first : (other : List (List ℤ)) → IsChoice tools wants other → Kind other
      → (other ≡ lists) ⊎ ComesFirst lists other

-- there is no choice of a kind
abbrev pub HasNone : ToolsData → List Want → (List (List ℤ) → Type 0) → Type 0
HasNone tools wants Kind = (other : List (List ℤ)) → IsChoice tools wants other → Kind other → ⊥

-- what a search leaves: the first choice of a kind, or what was there before
abbrev pub Finds : ToolsData → List Want → (List (List ℤ) → Type 0) → List (List ℤ) → Bool
    → List (List ℤ) → Type 0
Finds tools wants Kind before true now = IsFirst tools wants Kind now
Finds tools wants Kind before false now = HasNone tools wants Kind × (now ≡ before)

-- the pieces that a want has go on with any that are drawn from the rest of its supply, and lack a
-- rest of its length
pub record IsAt (wanted : ℤ) (supply pieces : List ℤ) (from : ℕ) (rest : ℤ) : Type 0 where
  pub within : from ≤ length supply
  pub least : pos 0 ≤ℤ rest
  pub sum : (total pieces +ℤ rest) ≡ wanted
  pub drawn : (more : List ℤ) → IsDrawn more (drop from supply) → IsDrawn (pieces ++ more) supply

-- what is asked of the search: tools, and few wants of them
pub record IsAsked (tools : ToolsData) (wants : List Want) : Type 0 where
  pub tools_are : IsTools tools
  pub few : length wants ≤ 6
  pub wants_are : All (IsWant tools) wants

-- where it stands: the first wants have their pieces, the next one some of its own
pub record IsState (tools : ToolsData) (wants : List Want) (before : List (List ℤ)) (want : Want)
    (supply pieces : List ℤ) (from : ℕ) (rest : ℤ) : Type 0 where
  pub asked : IsAsked tools wants
  pub part : IsPart tools wants before
  pub next : IsNext wants before want
  pub left : IsLeftFor tools wants before want supply
  pub at : IsAt want.length supply pieces from rest
