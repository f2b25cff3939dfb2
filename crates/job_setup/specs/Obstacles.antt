-- What stands around the part at a stage: y runs to the back, z up from the punch's tip, at which
-- the sheet's upper surface lies. Lengths are in micrometres.
use Rattle.std.specs.Prelude.{◌≡◌, ℕ, ℤ, pos, ◌≤ℤ◌, ◌+ℤ◌, ◌-ℤ◌, neg_ℤ, int_le, int_div, Bool, ◌&&◌}
use Rattle.std.specs.Prelude.{◌||◌, List, [], ◌∷◌, ◌++◌, map, flat_map, Option, Some, None}
use Rattle.std.specs.List.{enumerate_from}
use Rattle.brake_base.specs.declared.plane.Rect.{Rect}
use Rattle.machine_file.specs.declared.machine.Fixed.{Fixed}
use Rattle.job_setup.specs.declared.obstacle.Group.TheVariants.{Upper, Lower}
use Rattle.job_setup.specs.declared.obstacle.Obstacle.{Obstacle}
use Rattle.job_setup.specs.Setup.{StageData, JobData}
use Rattle.job_setup.specs.StageOf.{stage_of}

-- the rectangle, moved up by so much
abbrev pub raised : ℤ → Rect → Rect
raised by r = record { y0 = r.y0; y1 = r.y1; z0 = r.z0 +ℤ by; z1 = r.z1 +ℤ by }

abbrev pub raised_box : ℤ → Fixed → Fixed
raised_box by box = record { x0 = box.x0; x1 = box.x1; rect = raised by box.rect }

-- a box of a tool's profile, along the stage on which the tool stands
abbrev pub along_stage : StageData → Rect → Fixed
along_stage stage profile = record { x0 = stage.x0; x1 = stage.x1; rect = profile }

-- The beam and the punches: the machine's boxes on top of the punches, which are equally high, then
-- those of each stage's punch.
abbrev pub upper_boxes : JobData → List Fixed
upper_boxes job =
    map (raised_box (stage_of job 0).punch.height) job.setup.upper
    ++ flat_map (λ stage. map (along_stage stage) stage.punch.body) job.setup.stages

-- The bed and the dies, where the dies' upper edges lie at z = 0: the machine's boxes under the
-- dies, then those of each stage's die.
abbrev pub lower_boxes : JobData → List Fixed
lower_boxes job =
    map (raised_box (neg_ℤ (stage_of job 0).die.height)) job.setup.lower
    ++ flat_map (λ stage. map (along_stage stage) stage.die.body) job.setup.stages

-- half of the opening of a stage's die, which is even
abbrev pub half_opening : StageData → ℤ
half_opening stage = int_div stage.die.v (pos 2)

-- A lower box that the rising sheet can't meet: not above the die's edges, and behind, before, or
-- as deep as half the opening.
abbrev pub is_sunk : ℤ → Rect → Bool
is_sunk half r =
    int_le r.z1 (pos 0)
    && ((int_le half r.y0 || int_le r.y1 (neg_ℤ half)) || int_le r.z1 (neg_ℤ half))

-- where a lower box stands while the sheet is bent: below the sheet's thickness to begin with, and
-- risen by at most half the opening
abbrev pub swept_rect : ℤ → ℤ → Rect → Rect
swept_rect thickness half r = record {
  y0 = r.y0;
  y1 = r.y1;
  z0 = r.z0 -ℤ thickness;
  z1 = (r.z1 -ℤ thickness) +ℤ half;
}

abbrev pub upper_obstacle : ℕ × Fixed → Obstacle
upper_obstacle box = record {
  index = box.0;
  x0 = box.1.x0;
  x1 = box.1.x1;
  rect = box.1.rect;
  group = Upper;
}

abbrev pub lower_obstacle : ℤ → ℤ → ℕ × Fixed → Obstacle
lower_obstacle thickness half box = record {
  index = box.0;
  x0 = box.1.x0;
  x1 = box.1.x1;
  rect = swept_rect thickness half box.1.rect;
  group = Lower (is_sunk half box.1.rect);
}

-- the upper group, numbered from 0, which rests
abbrev pub upper_group : JobData → List Obstacle
upper_group job = map upper_obstacle (enumerate_from 0 (upper_boxes job))

-- the lower group, numbered from 0, for a stroke at the stage of a number
abbrev pub lower_group : JobData → ℕ → List Obstacle
lower_group job stage =
    map (lower_obstacle job.part.thickness (half_opening (stage_of job stage)))
    (enumerate_from 0 (lower_boxes job))

-- all obstacles of a stroke, in order
abbrev pub obstacles_of : JobData → ℕ → List Obstacle
obstacles_of job stage = upper_group job ++ lower_group job stage

-- a sheet's thickness, and half of a die's opening
pub record AreBendSizes (thickness half : ℤ) : Type 0 where
  pub thin : pos 0 ≤ℤ thickness
  pub thick : thickness ≤ℤ pos 50000
  pub narrow : pos 0 ≤ℤ half
  pub wide : half ≤ℤ pos 500000

-- the first of the list is given, and the others are left; nothing where the list is empty
abbrev pub GivesFirst : List Obstacle → Option Obstacle → List Obstacle → Type 0
GivesFirst before None after = (before ≡ []) × (after ≡ [])
GivesFirst before (Some first) after = before ≡ first ∷ after
