-- The place of a key among all keys that a job can have.
use Rattle.std.specs.Prelude.{ℕ, ◌+◌, ◌*◌, ◌^◌}
use Rattle.brake_base.specs.declared.stroke.Key.{Key}
use Rattle.job_setup.specs.Setup.{JobData, bend_count}

-- the number of a key: each set of folded bends has 144, by the attitude and then by the stage
abbrev pub key_place : Key → ℕ
key_place key = (key.mask.0 * 24 + key.attitude) * 6 + key.stage

-- the number of the keys of a job with six stages
abbrev pub key_count : JobData → ℕ
key_count job = 144 * 2 ^ bend_count job
