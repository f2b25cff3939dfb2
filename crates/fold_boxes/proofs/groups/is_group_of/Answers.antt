use Rattle.std.proofs.Common.{◌<◌, length, arith}
use Rattle.fold_boxes.proofs.Leads.{least_some, group_by_mates}
use Rattle.fold_boxes.proofs.groups.is_group_of.Goals as goal

pub mates-requires-clause-some : goal.mates-requires-clause-some
mates-requires-clause-some c = least_some c.args.group c.args.lead c.requires.member

pub returns-then-lead-faces : goal.returns-then-lead-faces
returns-then-lead-faces c =
    let shape = c.args.shape.now in
    let inside : c.args.lead < length shape.part.faces = omega (arith, c.if-lead-faces.true, c.faces.ensures.value) in
    let by_mates = group_by_mates shape c.args.mask c.args.group c.mates.result c.without.result c.args.lead c.requires inside c.mates.ensures c.without.ensures in
    ((λ held. by_mates.0 (c.is_subset.ensures.0 held)), λ is. c.is_subset.ensures.1 (by_mates.1 is))
