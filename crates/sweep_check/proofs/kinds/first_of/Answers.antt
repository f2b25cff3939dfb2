use Rattle.std.proofs.Common.{sym, subst, Some, None, ℕ, arith}
use Rattle.fold_boxes.specs.Pose.{pose_data}
use Rattle.sweep_check.specs.FirstReasons.{IsFirstAmong, pose_of_boxes}
use Rattle.sweep_check.specs.Pieces.{AreSolidBoxes}
use Rattle.sweep_check.proofs.Alike.{of_boxes}
use Rattle.sweep_check.proofs.Orders.{lifted, joined, among_seen}
use Rattle.sweep_check.proofs.kinds.first_of.Goals as goal

pub first_of_boxes-requires-clause-boxes : goal.first_of_boxes-requires-clause-boxes
first_of_boxes-requires-clause-boxes c = subst AreSolidBoxes (sym c.as_slice-boxes.ensures.value) c.requires.boxes

pub first_of_halves-requires : goal.first_of_halves-requires
first_of_halves-requires c = record { boxes = subst AreSolidBoxes (sym c.as_slice-boxes.ensures.value) c.requires.boxes }

pub returns-in-Some : goal.returns-in-Some
returns-in-Some c =
    let job = c.args.job.now in
    let pose = pose_data c.args.pose.now in
    lifted job pose c.args.back c.args.stage 1 2 8 c.in-Some.reason (omega arith) (among_seen job pose c.args.back c.args.stage 1 2 c.first_at_lines.result (Some c.in-Some.reason) c.in-Some.is c.first_at_lines.ensures)

pub returns-in-Some-first_of_boxes : goal.returns-in-Some-first_of_boxes
returns-in-Some-first_of_boxes c =
    let job = c.args.job.now in
    let pose = pose_data c.args.pose.now in
    let back = c.args.back in
    let stage = c.args.stage in
    let reason = c.in-Some-first_of_boxes.reason in
    let lines = among_seen job pose back stage 1 2 c.first_at_lines.result None c.in_default.is c.first_at_lines.ensures in
    let at_stage = subst (λ (s : ℕ). IsFirstAmong job (pose_of_boxes c.as_slice-boxes.result.now) back s 3 6 c.first_of_boxes.result) c.at.ensures.stage (c.first_of_boxes.ensures back) in
    let boxes = of_boxes job pose c.as_slice-boxes.result.now back stage 3 6 c.first_of_boxes.result (Some reason) c.as_slice-boxes.ensures.value c.in-Some-first_of_boxes.is (omega arith) (omega arith) at_stage in
    joined job pose back stage 1 2 8 (Some reason) (omega arith) lines (lifted job pose back stage 3 6 8 reason (omega arith) boxes)

pub returns-in-Some-first_of_halves : goal.returns-in-Some-first_of_halves
returns-in-Some-first_of_halves c =
    let job = c.args.job.now in
    let pose = pose_data c.args.pose.now in
    let back = c.args.back in
    let stage = c.args.stage in
    let reason = c.in-Some-first_of_halves.reason in
    let lines = among_seen job pose back stage 1 2 c.first_at_lines.result None c.in_default.is c.first_at_lines.ensures in
    let at_stage = subst (λ (s : ℕ). IsFirstAmong job (pose_of_boxes c.as_slice-boxes.result.now) back s 3 6 c.first_of_boxes.result) c.at.ensures.stage (c.first_of_boxes.ensures back) in
    let boxes = of_boxes job pose c.as_slice-boxes.result.now back stage 3 6 c.first_of_boxes.result None c.as_slice-boxes.ensures.value c.in_default-first_of_boxes.is (omega arith) (omega arith) at_stage in
    let before = joined job pose back stage 1 2 6 None (omega arith) lines boxes in
    let halves = of_boxes job pose c.as_slice-boxes.result.now back stage 7 7 c.first_of_halves.result (Some reason) c.as_slice-boxes.ensures.value c.in-Some-first_of_halves.is (omega arith) (omega arith) (c.first_of_halves.ensures back stage) in
    joined job pose back stage 1 6 8 (Some reason) (omega arith) before (lifted job pose back stage 7 7 8 reason (omega arith) halves)

pub returns : goal.returns
returns c =
    let job = c.args.job.now in
    let pose = pose_data c.args.pose.now in
    let back = c.args.back in
    let stage = c.args.stage in
    let lines = among_seen job pose back stage 1 2 c.first_at_lines.result None c.in_default.is c.first_at_lines.ensures in
    let at_stage = subst (λ (s : ℕ). IsFirstAmong job (pose_of_boxes c.as_slice-boxes.result.now) back s 3 6 c.first_of_boxes.result) c.at.ensures.stage (c.first_of_boxes.ensures back) in
    let boxes = of_boxes job pose c.as_slice-boxes.result.now back stage 3 6 c.first_of_boxes.result None c.as_slice-boxes.ensures.value c.in_default-first_of_boxes.is (omega arith) (omega arith) at_stage in
    let before = joined job pose back stage 1 2 6 None (omega arith) lines boxes in
    let halves = of_boxes job pose c.as_slice-boxes.result.now back stage 7 7 c.first_of_halves.result None c.as_slice-boxes.ensures.value c.in_default-first_of_halves.is (omega arith) (omega arith) (c.first_of_halves.ensures back stage) in
    joined job pose back stage 1 7 8 c.load_reason.result (omega arith) (joined job pose back stage 1 6 7 None (omega arith) before halves) (c.load_reason.ensures back)
