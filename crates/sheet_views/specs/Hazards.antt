-- What the rules don't test of the stop fingers as they stand before the stroke, and a drawn sheet
-- warns of. Lengths are in micrometres.
use Rattle.std.specs.Prelude.{ℕ, ◌<◌, ℤ, pos, neg_ℤ, int_lt, Bool, true, false, ◌&&◌, ◌||◌}
use Rattle.std.specs.Prelude.{List, ◌++◌, length, take, flat_map, option_to_list}
use Rattle.std.specs.Prelude.{Option, Some, None, option_map}
use Rattle.std.specs.List.{list_any, range_with_len}
use Rattle.brake_base.specs.declared.plane.Rect.{Rect}
use Rattle.brake_base.specs.declared.space.Box3.{Box3}
use Rattle.brake_base.specs.Vectors.{vector}
use Rattle.machine_file.specs.declared.machine.Fixed.{Fixed}
use Rattle.job_setup.specs.Setup.{StageData, JobData}
use Rattle.job_setup.specs.StageOf.{stage_of}
use Rattle.job_setup.specs.Places.{is_overlap}
use Rattle.job_setup.specs.Obstacles.{raised_box, along_stage, upper_boxes, lower_boxes}
use Rattle.job_setup.specs.Reasons.{x_range}
use Rattle.sheet_views.specs.declared.fingers.Fingers.{Fingers}
use Rattle.sheet_views.specs.declared.hazards.Finger.{Finger}
use Rattle.sheet_views.specs.declared.hazards.Finger.TheVariants.{Left, Right, Both}
use Rattle.sheet_views.specs.declared.hazards.Hazard.{Hazard}
use Rattle.sheet_views.specs.declared.hazards.Hazard.TheVariants.{Bed, Die, Beam, Punch}
use Rattle.sheet_views.specs.declared.hazards.Hazard.TheVariants.{SideFrame, BesideBed}
use Rattle.sheet_views.specs.declared.hazards.Warning.{Warning}

-- a box of a tool or the machine in space
abbrev pub body_of : Fixed → Box3
body_of b = record {
  lo = vector b.x0 b.rect.y0 b.rect.z0;
  hi = vector b.x1 b.rect.y1 b.rect.z1;
}

-- the interiors of the boxes share a point: on each axis their ranges overlap
abbrev pub overlaps : Box3 → Box3 → Bool
overlaps a b =
    is_overlap (a.lo.x, a.hi.x) (b.lo.x, b.hi.x)
    && (is_overlap (a.lo.y, a.hi.y) (b.lo.y, b.hi.y)
    && is_overlap (a.lo.z, a.hi.z) (b.lo.z, b.hi.z))

-- the finger reaches into the box, which is moved up by so much
abbrev pub is_met : Box3 → ℤ → Fixed → Bool
is_met finger by b = overlaps finger (body_of (raised_box by b))

-- it reaches into one of the boxes
abbrev pub is_some_met : Box3 → ℤ → List Fixed → Bool
is_some_met finger by boxes = list_any (is_met finger by) boxes

-- it reaches into one of the boxes of a tool that stands on a stage
abbrev pub is_tool_met : Box3 → ℤ → StageData → List Rect → Bool
is_tool_met finger by stage profile = list_any (λ r. is_met finger by (along_stage stage r)) profile

-- The hazard is there for a finger. The lower group is lowered by the sheet's thickness; the first
-- boxes of a group are the machine's.
abbrev pub is_hazard : JobData → Box3 → Hazard → Bool
is_hazard job finger Bed =
    is_some_met finger (neg_ℤ job.part.thickness)
    (take (length job.setup.lower) (lower_boxes job))
is_hazard job finger (Die i) =
    let stage = stage_of job i in
    is_tool_met finger (neg_ℤ job.part.thickness) stage stage.die.body
is_hazard job finger Beam =
    is_some_met finger (pos 0) (take (length job.setup.upper) (upper_boxes job))
is_hazard job finger (Punch i) =
    let stage = stage_of job i in is_tool_met finger (pos 0) stage stage.punch.body
is_hazard job finger SideFrame = list_any (is_overlap (x_range finger)) job.setup.frames
is_hazard job finger BesideBed =
    int_lt finger.lo.x job.setup.bed.0 || int_lt job.setup.bed.1 finger.hi.x

-- which of the fingers, by whether it is the left one and whether it is the right one
abbrev pub which : Bool → Bool → Option Finger
which true true = Some Both
which true false = Some Left
which false true = Some Right
which false false = None

-- the warning of a hazard, where it is there for a finger
abbrev pub warning_of : JobData → Fingers → Hazard → List Warning
warning_of job fingers hazard =
    let left = is_hazard job fingers.left hazard in
    let right = is_hazard job fingers.right hazard in
    option_to_list
    (option_map (λ finger. record { finger = finger; hazard = hazard }) (which left right))

-- the warnings of a kind of hazard that each station has
abbrev pub by_station : JobData → Fingers → (ℕ → Hazard) → List Warning
by_station job fingers hazard =
    flat_map (λ i. warning_of job fingers (hazard i)) (range_with_len 0 (length job.setup.stages))

-- The warnings of a stroke: each hazard once, for one finger or for both.
abbrev pub warnings : JobData → Fingers → List Warning
warnings job fingers =
    warning_of job fingers Bed
    ++ (by_station job fingers Die
    ++ (warning_of job fingers Beam
    ++ (by_station job fingers Punch
    ++ (warning_of job fingers SideFrame ++ warning_of job fingers BesideBed))))

-- the station of the hazard is one of the first n, where the hazard is a station's
abbrev pub IsHazardOf : ℕ → Hazard → Type 0
IsHazardOf n Bed = Unit {0}
IsHazardOf n (Die i) = i < n
IsHazardOf n Beam = Unit {0}
IsHazardOf n (Punch i) = i < n
IsHazardOf n SideFrame = Unit {0}
IsHazardOf n BesideBed = Unit {0}
