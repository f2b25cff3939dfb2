use Rattle.std.proofs.Common.{◌≡◌, ◌∙◌, ap, sym, ℕ, Option, Some, length, arith}
use Rattle.std.specs.Prelude.{unwrap_or}
use Rattle.fold_boxes.specs.Pose.{pose_data}
use Rattle.brake_base.specs.declared.stroke.Back.{Back}
use Rattle.job_setup.specs.Setup.{shape_of}
use Rattle.job_setup.specs.Reasons.{side_in}
use Rattle.fold_boxes.specs.Shapes.{ShapeData}
use Rattle.sheet_words.specs.Reasons.{is_on_line, shorter, reach_of}
use Rattle.sheet_words.proofs.Shortest.{best_below, best_more, best_same}
use Rattle.sheet_words.proofs.flanges.shortest.Goals.{then-is_on_line, else-is_on_line}
use Rattle.sheet_words.proofs.flanges.shortest.Goals as goal

pub loop-face-preserved : goal.loop-face-preserved
loop-face-preserved c =
    let pose = pose_data c.args.pose.now in
    let reach = reach_of pose c.args.half in
    let set = is_on_line (shape_of c.args.job.now) pose c.side_in-side.result in
    let face = c.loop-face.face in
    let seen = ap (λ (s : ShapeData). is_on_line s pose c.side_in-side.result face) (sym c.shape-shape.ensures.value) ∙ sym c.is_on_line.ensures in
    elim c.if-is_on_line.branch [
      | then-is_on_line w ↦ w.least-is ∙ ap Some (w.shorter.ensures ∙ ap (λ (o : Option ℕ). shorter reach o face) c.loop-face.invariant) ∙ sym (best_more reach set face (seen ∙ w.if-is_on_line.true))
      | else-is_on_line w ↦ w.least-is ∙ c.loop-face.invariant ∙ sym (best_same reach set face (seen ∙ w.if-is_on_line.false))
    ]

pub returns : goal.returns
returns c =
    let pose = pose_data c.args.pose.now in
    let reach = reach_of pose c.args.half in
    let job = c.args.job.now in
    let sides : best_below reach (is_on_line (shape_of job) pose c.side_in-side.result) c.loop-face.face ≡ best_below reach (is_on_line (shape_of job) pose (side_in c.args.half c.args.back)) c.loop-face.face =
    ap (λ (b : Back). best_below reach (is_on_line (shape_of job) pose b) c.loop-face.face) c.side_in-side.ensures in
    let same = ap (λ (s : ShapeData). length s.part.faces) c.shape-shape.ensures.value in
    let end : c.loop-face.face ≡ length job.part.faces = omega (arith, c.loop-face-test.false, c.loop-face.auto.face-end, c.faces-face-end.ensures.value, same) in
    c.unwrap_or.ensures ∙ ap (λ (o : Option ℕ). unwrap_or o 0) (c.loop-face.invariant ∙ sides ∙ ap (best_below reach (is_on_line (shape_of job) pose (side_in c.args.half c.args.back))) end)
