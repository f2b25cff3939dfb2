use Rattle.std.proofs.Common.{ℕ, ◌<◌}
use Rattle.cert_merge.specs.SetWorths.{AreLaneRows, AreChangedFrom, lanes_of}
use Rattle.cert_merge.proofs.set_worths.all_changed.Given as goal

-- the first so many attitudes are done
abbrev pub invariant-loop-from : goal.invariant-loop-from
invariant-loop-from l = record {
  rows : AreLaneRows l.changed;
  done : (from : ℕ) → from < l.from → AreChangedFrom l.facts l.proved from (lanes_of l.changed from);
}
