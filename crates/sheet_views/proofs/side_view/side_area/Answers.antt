use Rattle.std.proofs.Common.{◌≡◌, ◌++◌, List, ap, sym, subst, to_z, of_z, w64, arith, All}
use Rattle.std.specs.Prelude.{flat_map, Option}
use Rattle.std.proofs.lemmas.Int.{ints}
use Rattle.part_file.specs.Part.{PartData}
use Rattle.fold_boxes.specs.declared.posed_part.PoseBox.{PoseBox}
use Rattle.fold_boxes.specs.Posing.{IsNearPoseBox}
use Rattle.job_setup.specs.StageOf.{stage_of}
use Rattle.job_setup.specs.ValidJob.{IsStage}
use Rattle.sheet_views.specs.declared.fingers.Fingers.{Fingers}
use Rattle.sheet_views.specs.declared.side_view.Point.{Point}
use Rattle.sheet_views.specs.SideArea.{tool_corners, box_corners, finger_corners, IsLeastRect}
use Rattle.sheet_views.proofs.LeastRects.{grows_none}
use Rattle.sheet_views.proofs.NearPoints.{area_near}
use Rattle.sheet_views.proofs.side_view.side_area.Goals as goal

pub tools_area-tools-requires-clause-thin : goal.tools_area-tools-requires-clause-thin
tools_area-tools-requires-clause-thin c =
    let thick = c.part.ensures.valid.part.sheet.thickness.range in
    let thickness = ap (λ (p : PartData). p.thickness) c.part.ensures.value in
    omega (arith, ints, thickness, thick.bottom, thick.top)

pub with_boxes-part-requires : goal.with_boxes-part-requires
with_boxes-part-requires c = record { near = subst (λ (boxes : List PoseBox). All IsNearPoseBox boxes) (sym c.as_slice.ensures.value) c.requires.near }

pub returns-in-Some-clause-value : goal.returns-in-Some-clause-value
returns-in-Some-clause-value c =
    let job = c.args.job.now in
    let thick = c.part.ensures.valid.part.sheet.thickness.range in
    let thickness = ap (λ (p : PartData). p.thickness) c.part.ensures.value in
    let same : to_z w64 (of_z w64 c.part.result.now.thickness) ≡ job.part.thickness = omega (arith, ints, thickness, thick.bottom, thick.top) in
    let corners = tool_corners job.part.thickness (stage_of job c.args.stage) in
    let tools : IsLeastRect corners c.tools_area-tools.result = subst (λ (ps : List Point). IsLeastRect ps c.tools_area-tools.result) (λ i. tool_corners (same i) (c.stage_at.ensures.value i)) c.tools_area-tools.ensures in
    let part = subst (λ (boxes : List PoseBox). IsLeastRect (corners ++ flat_map box_corners boxes) c.with_boxes-part.result) c.as_slice.ensures.value (c.with_boxes-part.ensures corners tools) in
    let shown = corners ++ flat_map box_corners c.args.pose.now.boxes.items in
    subst (λ (fingers : Option Fingers). IsLeastRect (shown ++ finger_corners fingers) c.with_fingers.result) (sym c.in-Some.is) (c.with_fingers.ensures shown part)

pub returns-in-None-clause-value : goal.returns-in-None-clause-value
returns-in-None-clause-value c =
    let job = c.args.job.now in
    let thick = c.part.ensures.valid.part.sheet.thickness.range in
    let thickness = ap (λ (p : PartData). p.thickness) c.part.ensures.value in
    let same : to_z w64 (of_z w64 c.part.result.now.thickness) ≡ job.part.thickness = omega (arith, ints, thickness, thick.bottom, thick.top) in
    let corners = tool_corners job.part.thickness (stage_of job c.args.stage) in
    let tools : IsLeastRect corners c.tools_area-tools.result = subst (λ (ps : List Point). IsLeastRect ps c.tools_area-tools.result) (λ i. tool_corners (same i) (c.stage_at.ensures.value i)) c.tools_area-tools.ensures in
    let part = subst (λ (boxes : List PoseBox). IsLeastRect (corners ++ flat_map box_corners boxes) c.with_boxes-part.result) c.as_slice.ensures.value (c.with_boxes-part.ensures corners tools) in
    let shown = corners ++ flat_map box_corners c.args.pose.now.boxes.items in
    subst (λ (fingers : Option Fingers). IsLeastRect (shown ++ finger_corners fingers) c.with_boxes-part.result) (sym c.in-None.is) (grows_none c.with_boxes-part.result shown part)

pub returns-in-Some-clause-near : goal.returns-in-Some-clause-near
returns-in-Some-clause-near c =
    let job = c.args.job.now in
    let thick = c.part.ensures.valid.part.sheet.thickness.range in
    let stage = subst IsStage c.stage_at.ensures.value c.stage_at.ensures.valid in
    area_near job c.args.stage c.args.pose.now.boxes.items c.args.fingers _ (returns-in-Some-clause-value c) stage (omega (arith, ints, thick.bottom)) (omega (arith, ints, thick.top)) c.requires.near c.requires.fingers

pub returns-in-None-clause-near : goal.returns-in-None-clause-near
returns-in-None-clause-near c =
    let job = c.args.job.now in
    let thick = c.part.ensures.valid.part.sheet.thickness.range in
    let stage = subst IsStage c.stage_at.ensures.value c.stage_at.ensures.valid in
    area_near job c.args.stage c.args.pose.now.boxes.items c.args.fingers _ (returns-in-None-clause-value c) stage (omega (arith, ints, thick.bottom)) (omega (arith, ints, thick.top)) c.requires.near c.requires.fingers
