use Rattle.std.proofs.Common.{◌≡◌, ℕ, ◌+◌, ◌-◌, ◌<◌, length, map, None}
use Rattle.std.specs.Prelude.{find}
use Rattle.std.specs.List.{range_with_len}
use Rattle.job_setup.specs.Setup.{stage_data}
use Rattle.job_setup.specs.Places.{is_overlap_of}
use Rattle.job_setup.proofs.places.first_overlap.Given as goal

abbrev pub invariant-loop-a : goal.invariant-loop-a
invariant-loop-a l = (k : ℕ) → k < l.a → find (λ b. is_overlap_of (map stage_data l.stages) (k, b)) (range_with_len (k + 1) (length l.stages - (k + 1))) ≡ None
