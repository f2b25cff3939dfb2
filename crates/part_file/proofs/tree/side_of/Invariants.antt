use Rattle.std.proofs.Common.{◌<◌, ◌↔◌, length}
use Rattle.part_file.specs.Part.{part_data, IsBeyond}
use Rattle.part_file.proofs.tree.side_of.Given as goal

abbrev pub invariant-loop-inner : goal.invariant-loop-inner
invariant-loop-inner l = record {
  within : l.inner < length l.part.faces.items;
  same : IsBeyond (part_data l.part).faces l.bend l.inner ↔ IsBeyond (part_data l.part).faces l.bend l.fn.face;
}

abbrev pub decreases-loop-inner : goal.decreases-loop-inner
decreases-loop-inner l = l.inner
