-- The boxes of a job's pose at a stage.
use Rattle.std.proofs.Common.{◌≡◌, ℕ, zero, suc, ◌+◌, ◌-◌, ◌<◌, ◌≤◌, Bool, true, ◌||◌, List, map, length, get_or, filter, refl, sym, ap, subst, ◌∙◌, arith}
use Rattle.std.specs.Prelude.{if◌then◌else◌}
use Rattle.std.specs.List.{range_with_len}
use Rattle.std.proofs.lemmas.List.{length-map, length-append, get_or-map, get_or_append_left}
use Rattle.std.proofs.lemmas.List.FromFn.{length-range_with_len, get_or-range_with_len}
use Rattle.brake_base.specs.declared.mask.Mask.{Mask}
use Rattle.brake_base.specs.declared.stroke.Back.{Back}
use Rattle.brake_base.specs.declared.stroke.Back.TheVariants.{Parent, Child}
use Rattle.brake_base.specs.Masks.{has}
use Rattle.part_file.specs.Part.{FaceData}
use Rattle.unfolder.specs.Cores.{joint_of}
use Rattle.unfolder.specs.Blank.{bend_numbers}
use Rattle.fold_boxes.specs.declared.posed_part.PoseBox.{PoseBox}
use Rattle.fold_boxes.specs.Shapes.{ShapeData}
use Rattle.fold_boxes.specs.Pose.{PoseData, IsGroup, lead_of, is_on_way, is_beyond_some, face_of_box, half_of_child, half_of_parent, half_of, pose_box, box_ids}
use Rattle.fold_boxes.proofs.Leads.{lead_is}
use Rattle.fold_boxes.proofs.PoseLists.{is_face}
use Rattle.job_setup.specs.Setup.{JobData, shape_of}
use Rattle.job_setup.specs.StageOf.{stage_of}
use Rattle.job_setup.specs.ValidJob.{IsJob}
use Rattle.job_setup.specs.Reasons.{pose_at, IsPoseAt}
use Rattle.job_setup.proofs.Validity.{shape_of_job}
use Rattle.sweep_check.specs.FirstReasons.{back_by, no_box, back_in}
use Rattle.sweep_check.specs.Pieces.{AreSolidBoxes}
use Rattle.sweep_check.proofs.StrokeBoxes.{stroke_near, stroke_solid, stroke_ascend, stroke_few}

pub pose_solid : (job : JobData) (stage : ℕ) (pose : PoseData) → IsJob job → IsPoseAt job stage pose → AreSolidBoxes pose.boxes
pose_solid job stage pose valid at =
    let near = stroke_near job valid stage pose at in
    let solid = stroke_solid job valid stage pose at in
    record {
      solid = λ k d within. record { near = near k d within; solid = solid k d within };
      few = stroke_few job valid stage pose at;
      ascend = stroke_ascend job valid stage pose at;
    }

-- ---- the side at the back
-- the lead is beyond itself
lead_beyond : (faces : List FaceData) (set : ℕ → Bool) (b : ℕ) → 0 < b → set b ≡ true → is_beyond_some faces set b ≡ true
unfolding is_beyond_some
lead_beyond faces set zero some member = absurd (omega (arith, some))
lead_beyond faces set (suc b) some member = ap (λ (t : Bool). t || is_on_way faces set b (joint_of faces (suc b)).on) member

child_half : (back : Back) → back_by (half_of_child back) ≡ back
child_half Child = refl
child_half Parent = refl

face_at_face : (f : ℕ) → f ≤ 12 → face_of_box f ≡ f
face_at_face f few = ap (λ (t : Bool). if t then f else f - 12) (is_face f few)

half_is : (shape : ShapeData) (group : Mask) (back : Back) (b : ℕ) → b ≤ 12 → is_beyond_some shape.part.faces (has group) b ≡ true → half_of shape group back b ≡ half_of_child back
half_is shape group back b few beyond =
    ap (λ (f : ℕ). if is_beyond_some shape.part.faces (has group) f then half_of_child back else half_of_parent back) (face_at_face b few)
    ∙ ap (λ (t : Bool). if t then half_of_child back else half_of_parent back) beyond

lead_id : (shape : ShapeData) (mask : Mask) (b : ℕ) → b < length shape.part.faces → (b < length (box_ids shape mask)) × (get_or (box_ids shape mask) b 0 ≡ b)
lead_id shape mask b inside =
    let n = length shape.part.faces in
    let rest = map (λ b. 12 + b) (filter (has mask) (bend_numbers shape.part.faces)) in
    let all = length-append (range_with_len 0 n) rest in
    let faces = length-range_with_len 0 n in
    let within : b < length (range_with_len 0 n) = omega (arith, faces, inside) in
    let same : 0 + b ≡ b = omega arith in
    (omega (arith, all, faces, inside), get_or_append_left (range_with_len 0 n) rest 0 b within ∙ get_or-range_with_len 0 n b 0 inside ∙ same)

posed_back : (job : JobData) → IsJob job → (mask group : Mask) (back : Back) (stage : ℕ) → IsGroup (shape_of job) mask group
    → ((pose_at job mask group back stage).bend < length (pose_at job mask group back stage).boxes) × (back_in (pose_at job mask group back stage).boxes (pose_at job mask group back stage).bend ≡ back)
posed_back job valid mask group back stage is_group =
    let shape = shape_of job in
    let at = stage_of job stage in
    let b = lead_of shape group in
    let lead = lead_is shape group is_group.some in
    let few = (shape_of_job job valid).part.few_faces in
    let ids = box_ids shape mask in
    let posed = pose_box shape mask group back at.x0 at.x1 in
    let id = lead_id shape mask b lead.inside in
    let long = length-map ids posed in
    let is : get_or (map posed ids) b no_box ≡ posed b = get_or-map posed ids b 0 no_box id.0 ∙ ap posed id.1 in
    let beyond = lead_beyond shape.part.faces (has group) b lead.some is_group.some in
    let low = id.0 in
    let half : half_of shape group back b ≡ half_of_child back = half_is shape group back b (let inside = lead.inside in omega (arith, inside, few)) beyond in
    (omega (arith, long, low), ap (λ (box : PoseBox). back_by box.half) is ∙ ap back_by half ∙ child_half back)

pub lead_within : (job : JobData) (stage : ℕ) (pose : PoseData) → IsJob job → IsPoseAt job stage pose → pose.bend < length pose.boxes
lead_within job stage pose valid at = subst (λ (p : PoseData). p.bend < length p.boxes) (sym at.value) (posed_back job valid at.mask at.group at.back stage at.stroke).0

pub back_is : (job : JobData) (stage : ℕ) (pose : PoseData) → IsJob job → (at : IsPoseAt job stage pose) → back_in pose.boxes pose.bend ≡ at.back
back_is job stage pose valid at = subst (λ (p : PoseData). back_in p.boxes p.bend ≡ at.back) (sym at.value) (posed_back job valid at.mask at.group at.back stage at.stroke).1
