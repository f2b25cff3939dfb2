-- What a writer keeps.
use Rattle.std.specs.Prelude.{◌≡◌, ℕ, ◌+◌, ◌*◌, ◌<◌, ◌≤◌, IsTrue, List, [], length, slice_index_or}
use Rattle.stage_lanes.specs.ActionSets.{has_place}
use Rattle.cert_lines.specs.Lines.{line_text, note_line, action_at}
use Rattle.row_text.specs.declared.block.NoteBlock.{NoteBlock}
use Rattle.row_text.specs.RowWords.{row_start, key_words}
use Rattle.plan_lines.specs.NoteLines.{number_at}
use Rattle.row_text.specs.Notes.{SetNotes, AreOfStages, reason_at}
use Rattle.row_text.specs.Blocks.{IsBlock}

-- the words of each attitude and each of six stages, by the attitude and then by the stage
pub record AreKeyWords (keys : List (List ℕ)) : Type 0 where
  pub count : length keys ≡ 144
  pub words : (attitude stage : ℕ) → attitude < 24 → stage < 6
      → slice_index_or keys (attitude * 6 + stage) [] ≡ key_words attitude stage

-- each action that has a reason has the line of its note, by the action's place in sets
abbrev pub AreLines : SetNotes → List (List ℕ) → Type 0
AreLines said lines = (place : ℕ) → place < 192 → IsTrue (has_place said.known place)
    → slice_index_or lines place []
    ≡ line_text (note_line (action_at 8 place) (reason_at said (number_at said.stages place)))

-- the texts that a writer keeps are those of what it is seen as
pub record IsWriter (said : SetNotes) (start : List ℕ) (keys lines : List (List ℕ))
    (block : NoteBlock) : Type 0 where
  pub few : said.stages ≤ 6
  pub begins : start ≡ row_start said.mask.0
  pub words : AreKeyWords keys
  pub count : length lines ≡ 192
  pub stages : AreOfStages said.stages said.known
  pub are_lines : AreLines said lines
  pub is_block : IsBlock lines block
