use Rattle.std.proofs.Common.{◌≡◌, ◌*◌, ◌≤◌, length, take}
use Rattle.std.specs.Prelude.{flat_map}
use Rattle.sector_geom.specs.declared.sector.Sweep.TheVariants.{Eighth}
use Rattle.sweep_check.specs.Pieces.{box_pieces}
use Rattle.sweep_check.proofs.pieces.all_pieces.Given as goal

abbrev pub invariant-loop-body : goal.invariant-loop-body
invariant-loop-body l = record {
  few : length l.pieces.items ≤ 4 * l.body-index;
  value : l.pieces.items ≡ flat_map (box_pieces l.job Eighth) (take l.body-index l.boxes);
}
