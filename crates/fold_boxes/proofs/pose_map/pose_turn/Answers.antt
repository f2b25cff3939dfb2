use Rattle.std.proofs.Common.{◌≡◌, ◌∙◌, ap, sym}
use Rattle.brake_base.specs.Turns.{Matrix, turn_of, multiply, transpose}
use Rattle.brake_base.proofs.Maps.{multiply_assoc}
use Rattle.part_file.specs.declared.part.Side.TheVariants.{N}
use Rattle.unfolder.specs.Blank.{side_matrix}
use Rattle.fold_boxes.specs.Pose.{frame_turn}
use Rattle.fold_boxes.proofs.Numbered.{from_side}
use Rattle.fold_boxes.proofs.pose_map.pose_turn.Goals as goal

pub returns-clause-value : goal.returns-clause-value
returns-clause-value c =
    let side = c.args.joint.now.side in
    let dir = c.args.joint.now.dir in
    let back = c.args.back in
    let parent = transpose (turn_of c.args.parent) in
    let out : turn_of c.inverse-out_of_side.result ≡ transpose (side_matrix side) = c.inverse-out_of_side.ensures.turn ∙ ap transpose c.side_turn.ensures in
    let first : turn_of c.then.result ≡ multiply (transpose (side_matrix side)) parent = c.then.ensures.turn ∙ (λ i. multiply (out i) (c.inverse.ensures.turn i)) in
    c.then-2.ensures.turn ∙ (λ i. multiply (c.north_turn.ensures i) (first i))
    ∙ sym (multiply_assoc (frame_turn N dir back) (transpose (side_matrix side)) parent) ∙ ap (λ (t : Matrix). multiply t parent) (from_side side dir back)

pub returns-clause-undone : goal.returns-clause-undone
returns-clause-undone c = ap (λ (t : Matrix). multiply t (turn_of c.args.parent)) (sym c.inverse.ensures.turn) ∙ c.inverse.ensures.undone
