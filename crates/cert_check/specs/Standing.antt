-- The part as it stands.
use Rattle.std.specs.Prelude.{◌≡◌, List, length}
use Rattle.brake_base.specs.declared.mask.Mask.{Mask}
use Rattle.brake_base.specs.declared.space.Place.{Place}
use Rattle.fold_boxes.specs.Places.{ArePlaces}
use Rattle.job_setup.specs.Setup.{JobData, shape_of}

-- the places of the faces of the part as it stands
pub record IsStanding (job : JobData) (mask : Mask) (places : List Place) : Type 0 where
  pub count : length places ≡ length job.part.faces
  pub each : ArePlaces (shape_of job) mask places
