use Rattle.fold_boxes.proofs.SolePose.{sole_map}
use Rattle.fold_boxes.proofs.posing.pose.Goals as goal

pub returns-clause-sole : goal.returns-clause-sole
returns-clause-sole c = sole_map c.args.shape.now c.place_faces.ensures.rules c.args.mask c.args.group c.requires.group c.args.back c.args.x0 c.args.x1
