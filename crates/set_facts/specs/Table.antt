-- How the table keeps what belongs to each set.
use Rattle.std.specs.Prelude.{◌≡◌, ◌^◌, List, length, slice_index_or, Option, Some, None}
use Rattle.brake_base.specs.declared.mask.Mask.{Mask}
use Rattle.job_setup.specs.Setup.{JobData, bend_count}
use Rattle.set_facts.specs.declared.facts.SetFacts.{SetFacts}
use Rattle.set_facts.specs.Facts.{IsFacts}

-- there is a place for each set of the job's bends, and what stands there belongs to it
pub record IsFactTable (job : JobData) (facts : List (Option SetFacts)) : Type 0 where
  pub places : length facts ≡ 2 ^ bend_count job
  pub each :
      (mask : Mask) (of_set : SetFacts) → slice_index_or facts mask.0 None ≡ Some of_set
      → IsFacts job mask of_set
