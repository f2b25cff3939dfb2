-- Why a stroke is refused, in words. Lengths are in micrometres.
use Rattle.std.specs.Prelude.{ℕ, ◌+◌, ◌==◌, ℤ, pos, neg_ℤ, ◌+ℤ◌, ◌-ℤ◌, ◌*ℤ◌, int_le, int_lt, nat_lt}
use Rattle.std.specs.Prelude.{Bool, not, ◌&&◌, List, ◌++◌, codes, length, filter, find, fold, unwrap_or}
use Rattle.std.specs.Prelude.{Option, Some, None, if◌then◌else◌}
use Rattle.std.specs.Ordering.{int_eq}
use Rattle.std.specs.Fmt.{signed_decimal}
use Rattle.std.specs.List.{slice_index_or}
use Rattle.brake_base.specs.declared.space.Box3.{Box3}
use Rattle.brake_base.specs.declared.mask.Mask.{Mask}
use Rattle.brake_base.specs.declared.stroke.Back.{Back}
use Rattle.brake_base.specs.declared.stroke.Back.TheVariants.{Parent, Child}
use Rattle.brake_base.specs.declared.stroke.Half.{Half}
use Rattle.brake_base.specs.declared.stroke.Half.TheVariants.{Back as BackHalf, Front as FrontHalf}
use Rattle.brake_base.specs.declared.stroke.Action.{Action}
use Rattle.brake_base.specs.declared.reason.Reason.{Reason}
use Rattle.brake_base.specs.declared.reason.Reason.TheVariants.{Cover, Rest, Frame, Upper, Nose}
use Rattle.brake_base.specs.declared.reason.Reason.TheVariants.{Lower, SelfHit, NoGauge, Load}
use Rattle.brake_base.specs.Vectors.{origin}
use Rattle.brake_base.specs.Masks.{has, bends_of}
use Rattle.unfolder.specs.Cores.{joint_of}
use Rattle.unfolder.specs.Blank.{face_numbers}
use Rattle.svg_text.specs.Decimals.{decimal_text}
use Rattle.fold_boxes.specs.declared.posed_part.PoseBox.{PoseBox}
use Rattle.fold_boxes.specs.Shapes.{ShapeData}
use Rattle.fold_boxes.specs.Groups.{span}
use Rattle.fold_boxes.specs.Pose.{PoseData}
use Rattle.machine_file.specs.declared.machine.GaugeRule.{GaugeRule}
use Rattle.job_setup.specs.Setup.{StageData, JobData, shape_of}
use Rattle.job_setup.specs.StageOf.{stage_of}
use Rattle.job_setup.specs.Places.{is_overlap}
use Rattle.job_setup.specs.Reasons.{side_in, lines_total, x_range}
use Rattle.sheet_words.specs.declared.phrases.TheConstants.{BEND_NEEDS, FROM_BEND_LINE, IN_SIDE_FRAME, MACHINE_GIVES, NEEDS_AT_LEAST, NO_FLAT_EDGE, ROOM_FOR_FINGERS, TOOLS_BEAR, TOOLS_BEND_AT_MOST}
use Rattle.sheet_words.specs.Lists.{mm}
use Rattle.sheet_words.specs.Faces.{face_words, box_words}
use Rattle.sheet_words.specs.Tools.{punch_words, die_words, upper_words, lower_words}

-- the words before the length of a group's lines, and those behind it
unfoldable pub span_word : Mask → List ℕ
span_word group =
    if length (bends_of group) == 1 then codes "the bend line is "
    else codes "the bend lines span "

unfoldable pub long_word : Mask → List ℕ
long_word group =
    if length (bends_of group) == 1 then codes " mm long, and " else codes " mm, and "

-- how long the span of a group is, how long a station, and how long a line may be that it bends
abbrev pub span_length : JobData → Mask → ℤ
span_length job group =
    let lines = span (shape_of job) (has group) in lines.1 -ℤ lines.0

abbrev pub station_length : JobData → (stage : ℕ) → ℤ
station_length job stage = (stage_of job stage).x1 -ℤ (stage_of job stage).x0

abbrev pub longest_line : JobData → (stage : ℕ) → ℤ
longest_line job stage = station_length job stage +ℤ (pos 2 *ℤ job.setup.uncovered)

-- Cover: these three
unfoldable pub cover_words : JobData → Mask → (stage : ℕ) → List ℕ
cover_words job group stage =
    span_word group ++ mm (span_length job group) ++ long_word group
    ++ mm (station_length job stage)
    ++ TOOLS_BEND_AT_MOST.now ++ mm (longest_line job stage) ++ codes " mm"

-- how far a box of a half reaches from the bend line
abbrev pub reach_in : Half → Box3 → ℤ
reach_in BackHalf body = body.hi.y
reach_in FrontHalf body = neg_ℤ body.lo.y

-- what stands past the last box
abbrev pub no_box : PoseBox
no_box = record { id = 0; half = BackHalf; body = record { lo = origin; hi = origin } }

-- how far a face reaches from the line: the box of face i has the place i
abbrev pub reach_of : PoseData → Half → ℕ → ℤ
reach_of pose half face = reach_in half (slice_index_or pose.boxes face no_box).body

-- the face stands on a line of the group, on this side of it: their parent, or one of the flanges
abbrev pub is_on_line : ShapeData → PoseData → Back → ℕ → Bool
is_on_line shape pose Parent face = face == (joint_of shape.part.faces pose.bend).on
is_on_line shape pose Child face = nat_lt 0 face && has pose.group face

-- of two faces the one that reaches less, or the first
abbrev pub shorter : (ℕ → ℤ) → Option ℕ → ℕ → ℕ
shorter reach None face = face
shorter reach (Some first) face = if int_le (reach first) (reach face) then first else face

-- the face of a half on the line that reaches least, the first of equal ones; face 0 where there is
-- none
abbrev pub shortest : JobData → PoseData → Back → Half → ℕ
shortest job pose back half =
    unwrap_or
    (fold (λ least face. Some (shorter (reach_of pose half) least face)) None
    (filter (is_on_line (shape_of job) pose (side_in half back)) (face_numbers job.part.faces)))
    0

-- the words for a half
unfoldable pub half_word : Half → List ℕ
half_word BackHalf = codes " at the back reaches "
half_word FrontHalf = codes " at the front reaches "

-- how far a face of a half reaches, and how far a stage's die needs it
unfoldable pub reach_words : JobData → PoseData → Half → (face : ℕ) → List ℕ
reach_words job pose half face =
    face_words job face ++ half_word half ++ mm (reach_of pose half face)

unfoldable pub flange_words : JobData → (stage : ℕ) → List ℕ
flange_words job stage =
    die_words job stage stage ++ NEEDS_AT_LEAST.now ++ mm (stage_of job stage).die.least_flange
    ++ codes " mm"

-- Rest: both, of the shortest face
unfoldable pub rest_words : JobData → Action → PoseData → Half → List ℕ
rest_words job action pose half =
    reach_words job pose half (shortest job pose action.back half) ++ FROM_BEND_LINE.now
    ++ flange_words job action.stage

-- the first side frame that the box of a number meets, and (0, 0) where there is none
abbrev pub frame_of : List (ℤ × ℤ) → Option PoseBox → ℤ × ℤ
frame_of frames None = (pos 0, pos 0)
frame_of frames (Some b) = unwrap_or (find (is_overlap (x_range b.body)) frames) (pos 0, pos 0)

abbrev pub frame_met : List (ℤ × ℤ) → List PoseBox → ℕ → ℤ × ℤ
frame_met frames boxes id = frame_of frames (find (λ b. b.id == id) boxes)

-- a range
unfoldable pub range_words : ℤ × ℤ → List ℕ
range_words range = mm range.0 ++ codes " to " ++ mm range.1 ++ codes " mm"

-- Frame: the box, and from where to where the frame stands
unfoldable pub frame_words : JobData → PoseData → ℕ → List ℕ
frame_words job pose id =
    box_words job id ++ IN_SIDE_FRAME.now ++ range_words (frame_met job.setup.frames pose.boxes id)

-- the box, and what it would hit
unfoldable pub hit_words : JobData → ℕ → List ℕ
hit_words job id = box_words job id ++ codes " would hit "

unfoldable pub upper_hit : JobData → (id index in_use : ℕ) → List ℕ
upper_hit job id index in_use = hit_words job id ++ upper_words job index in_use

unfoldable pub lower_hit : JobData → (id index in_use : ℕ) → List ℕ
lower_hit job id index in_use = hit_words job id ++ lower_words job index in_use

unfoldable pub nose_hit : JobData → (id stage in_use : ℕ) → List ℕ
nose_hit job id stage in_use =
    hit_words job id ++ codes "the nose of " ++ punch_words job stage in_use

unfoldable pub self_hit : JobData → (id other : ℕ) → List ℕ
self_hit job id other = hit_words job id ++ box_words job other ++ codes " of the part itself"

-- NoGauge: how near and how far an edge may be
unfoldable pub no_gauge_words : GaugeRule → List ℕ
no_gauge_words rule =
    NO_FLAT_EDGE.now ++ mm rule.near ++ codes " to " ++ mm rule.far
    ++ ROOM_FOR_FINGERS.now

-- the load and that of the tools, and the force, in thousandths of newtons, and that of the machine,
-- in newtons
unfoldable pub newtons : (load : ℤ) → List ℕ
newtons load = signed_decimal load ++ codes " N/mm"

unfoldable pub load_words : StageData → List ℕ
load_words stage = newtons stage.load ++ TOOLS_BEAR.now ++ newtons stage.limit

unfoldable pub needed_force : ℤ → List ℕ
needed_force force = decimal_text 6 force ++ codes " kN"

unfoldable pub given_force : ℤ → List ℕ
given_force force = decimal_text 3 force ++ codes " kN"

unfoldable pub force_words : (needed given : ℤ) → List ℕ
force_words needed given =
    needed_force needed ++ MACHINE_GIVES.now ++ given_force given

-- a stage's load is above the limit of its tools, and the force that it takes over a group's lines
abbrev pub is_over_limit : StageData → Bool
is_over_limit stage = not (int_eq stage.limit (pos 0)) && int_lt stage.limit stage.load

abbrev pub needed : JobData → Mask → StageData → ℤ
needed job group stage = stage.load *ℤ lines_total (shape_of job) (has group)

-- Load: what the stroke needs, and what the tools bear or the machine gives
unfoldable pub need_words : JobData → Mask → StageData → List ℕ
need_words job group stage =
    if is_over_limit stage then load_words stage
    else force_words (needed job group stage) job.setup.force

unfoldable pub overload_words : JobData → Mask → (stage : ℕ) → List ℕ
overload_words job group stage = BEND_NEEDS.now ++ need_words job group (stage_of job stage)

-- a reason against the stroke of an action, with the part in this pose before it
abbrev pub reason_words : JobData → Action → PoseData → Reason → List ℕ
reason_words job action pose Cover = cover_words job pose.group action.stage
reason_words job action pose (Rest half) = rest_words job action pose half
reason_words job action pose (Frame id) = frame_words job pose id
reason_words job action pose (Upper id quarter index) = upper_hit job id index action.stage
reason_words job action pose (Nose id quarter stage) = nose_hit job id stage action.stage
reason_words job action pose (Lower id quarter index) = lower_hit job id index action.stage
reason_words job action pose (SelfHit id quarter other) = self_hit job id other
reason_words job action pose NoGauge = no_gauge_words job.setup.gauge
reason_words job action pose Load = overload_words job pose.group action.stage

-- a kind of reasons, by its number
unfoldable pub kind_words : ℕ → List ℕ
kind_words kind =
    if kind == 1 then codes "bend line longer than the station"
    else if kind == 2 then codes "flange too short for the die"
    else if kind == 3 then codes "side frame in the way"
    else if kind == 4 then codes "punch or beam in the way"
    else if kind == 5 then codes "punch nose in the way"
    else if kind == 6 then codes "die or bed in the way"
    else if kind == 7 then codes "part in its own way"
    else if kind == 8 then codes "no edge for the stop fingers"
    else codes "force too great"
