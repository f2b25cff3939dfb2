use Rattle.std.proofs.Common.{arith}
use Rattle.setup_sheet.proofs.order.put_stroke.Goals as goal

pub bent_with-requires-clause-few : goal.bent_with-requires-clause-few
bent_with-requires-clause-few c = let few = c.name_of.ensures.valid.part.few_faces in omega (arith, few, c.requires.bend)
