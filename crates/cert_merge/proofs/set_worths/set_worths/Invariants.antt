use Rattle.std.proofs.Common.{◌≡◌, length}
use Rattle.cert_merge.proofs.SettledWorths.{AreLeastBelow}
use Rattle.cert_merge.proofs.set_worths.set_worths.Given as goal

-- the worths of the first so many keys are found
abbrev pub invariant-loop-place : goal.invariant-loop-place
invariant-loop-place l = record {
  count : length l.worths ≡ 144;
  found : AreLeastBelow l.job l.mask l.nexts l.place l.worths;
}
