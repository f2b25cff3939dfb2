use Rattle.std.proofs.Common.{◌≡◌, length, map, take}
use Rattle.std.specs.Prelude.{All}
use Rattle.sheet_figures.specs.Flats.{IsFlatLine}
use Rattle.sheet_figures.specs.MovedBlanks.{moved_line}
use Rattle.sheet_figures.proofs.blank.moved_lines.Given as goal

abbrev pub invariant-loop-line : goal.invariant-loop-line
invariant-loop-line l = record {
  value : l.moved.items ≡ map (moved_line l.extent) (take l.line-index l.lines);
  same : length l.moved.items ≡ l.line-index;
  near : All IsFlatLine l.moved.items;
}
