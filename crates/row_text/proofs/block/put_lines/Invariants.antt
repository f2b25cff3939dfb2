use Rattle.std.proofs.Common.{◌≡◌, ◌++◌, length}
use Rattle.stage_lanes.specs.ActionSets.{places_of}
use Rattle.row_text.specs.Blocks.{block_text}
use Rattle.row_text.proofs.block.put_lines.Given as goal

-- what is put and the lines of what is left are the lines of all
abbrev pub invariant-loop-place : goal.invariant-loop-place
invariant-loop-place l = l.out.items ++ block_text l.lines l.rest ≡ l.initial.out.items ++ block_text l.lines l.fn.notes

abbrev pub decreases-loop-place : goal.decreases-loop-place
decreases-loop-place l = length (places_of l.rest)
