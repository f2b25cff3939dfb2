use Rattle.std.proofs.Common.{◌≡◌, ◌∙◌, ◌<◌, ◌||◌, ◌==◌, Bool, List, length, ap, sym, arith}
use Rattle.brake_base.specs.Masks.{has}
use Rattle.part_file.specs.Part.{PartData, FaceData}
use Rattle.unfolder.specs.Cores.{joint_of}
use Rattle.fold_boxes.specs.Groups.{is_mate, same_joint}
use Rattle.fold_boxes.proofs.MatesSoFar.{one_more, none_more, as_joints}
use Rattle.fold_boxes.proofs.groups.mates.Goals.{then-is_mate, else-is_mate}
use Rattle.fold_boxes.proofs.groups.mates.Goals as goal

pub loop-other-preserved : goal.loop-other-preserved
loop-other-preserved c =
    let shape = c.args.shape.now in
    let bend = c.args.bend in
    let other = c.loop-other.other in
    let faces_are = ap (λ (p : PartData). p.faces) c.part-part.ensures.value in
    let ours : c.joint_of-ours.result ≡ joint_of shape.part.faces bend = c.joint_of-ours.ensures.value ∙ ap (λ (fs : List FaceData). joint_of fs bend) faces_are in
    let theirs : c.joint_of.result ≡ joint_of shape.part.faces other = c.joint_of.ensures.value ∙ ap (λ (fs : List FaceData). joint_of fs other) faces_are in
    let same : c.is_mate.result ≡ same_joint (joint_of shape.part.faces bend) (joint_of shape.part.faces other) = c.is_mate.ensures ∙ (λ i. same_joint (ours i) (theirs i)) in
    let inside : other < length shape.part.faces = omega (arith, c.loop-other-test.true, c.faces-other-end.ensures.value) in
    let test : is_mate shape bend other ≡ c.is_mate.result = as_joints other (length shape.part.faces) (same_joint (joint_of shape.part.faces bend) (joint_of shape.part.faces other)) (omega (arith, c.loop-other.auto.other)) inside ∙ sym same in
    elim c.if-is_mate.branch [
      | then-is_mate w ↦ λ d. ap (λ m. has m d) w.mates-is ∙ w.with-mates.ensures d ∙ ap (λ (t : Bool). t || (d == other)) (c.loop-other.invariant d) ∙ one_more (is_mate shape bend) d other (test ∙ w.if-is_mate.true)
      | else-is_mate w ↦ λ d. ap (λ m. has m d) w.mates-is ∙ c.loop-other.invariant d ∙ none_more (is_mate shape bend) d other (test ∙ w.if-is_mate.false)
    ]
