use Rattle.std.proofs.lemmas.List.Elements.{All-get_or}
use Rattle.unfolder.specs.Near.{IsRectWithin}
use Rattle.unfolder.specs.Tables.{no_rect}
use Rattle.fold_boxes.proofs.Kept.{core_at}
use Rattle.fold_boxes.proofs.shape.Shape.core.Goals as goal

pub bounds-as_slice-from : goal.bounds-as_slice-from
bounds-as_slice-from c = (core_at _ c.args.self.now c.self.inside.cores.items c.as_slice.result.now c.self.inside.hinges.items c.from.result c.args.face no_rect c.self.view_is c.self.invariant c.as_slice.ensures.value c.from.ensures c.requires).0

pub returns-clause-value : goal.returns-clause-value
returns-clause-value c = (core_at _ c.args.self.now c.self.inside.cores.items c.as_slice.result.now c.self.inside.hinges.items c.from.result c.args.face _ c.self.view_is c.self.invariant c.as_slice.ensures.value c.from.ensures c.requires).1

pub returns-clause-near : goal.returns-clause-near
returns-clause-near c = All-get_or (IsRectWithin 21000000) _ _ _ (bounds-as_slice-from c) (rw c.as_slice.ensures.value c.self.invariant.cores_near)
