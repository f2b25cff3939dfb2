-- The lines of a row's notes as one text.
use Rattle.std.specs.Prelude.{◌≡◌, ℕ, ◌<◌, ◌==◌, ◌&&◌, not, false, IsTrue, List, [], slice_index_or}
use Rattle.std.specs.List.{flat_map}
use Rattle.stage_lanes.specs.declared.actions.ActionSet.{ActionSet}
use Rattle.stage_lanes.specs.ActionSets.{has_place, places_of, ArePlaces}
use Rattle.row_text.specs.declared.block.NoteBlock.{NoteBlock}

-- of lines by the places of actions in sets those of a set, one after the other
abbrev pub block_text : List (List ℕ) → ActionSet → List ℕ
block_text lines set = flat_map (λ place. slice_index_or lines place []) (places_of set)

-- the block has the lines of its actions
abbrev pub IsBlock : List (List ℕ) → NoteBlock → Type 0
IsBlock lines block = block.text.items ≡ block_text lines block.notes

-- the place is that of a set's first action, and the rest is the set without it
pub record IsFirstSplit (set : ActionSet) (place : ℕ) (rest : ActionSet) : Type 0 where
  pub within : place < 192
  pub member : IsTrue (has_place set place)
  pub none_before : (other : ℕ) → other < place → has_place set other ≡ false
  pub without : ArePlaces rest (λ other. has_place set other && not (other == place))
