use Rattle.std.proofs.Common.{◌≡◌, map, length, drop, take}
use Rattle.toml.specs.View.{view}
use Rattle.toml_fields.specs.Lists.{integers}
use Rattle.toml_fields.proofs.Integers.{with_integers}
use Rattle.toml_fields.proofs.lists.integers_of.Given as goal

abbrev pub invariant-loop-i : goal.invariant-loop-i
invariant-loop-i g l = record {
  room : length l.integers ≡ g.row.N;
  reads : with_integers (take l.i l.integers) (integers (map view (drop l.i l.items))) ≡ integers (map view l.items);
}
