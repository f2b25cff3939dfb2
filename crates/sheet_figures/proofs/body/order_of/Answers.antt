use Rattle.std.proofs.Common.{List, ◌^◌, sym, subst, ◌∙◌}
use Rattle.std.specs.Prelude.{All}
use Rattle.std.proofs.lemmas.List.Elements.{All-map}
use Rattle.brake_base.specs.declared.space.Box3.{Box3}
use Rattle.brake_base.specs.Boxes.{IsBoxWithin}
use Rattle.box_paint.specs.Painting.{IsOrder, HidesNone}
use Rattle.sheet_views.specs.declared.part_views.DrawnBox.{DrawnBox}
use Rattle.sheet_figures.proofs.Painted.{order_within}
use Rattle.sheet_figures.proofs.body.order_of.Goals as goal

pub painting_order-requires-clause-near : goal.painting_order-requires-clause-near
painting_order-requires-clause-near c = subst (All (IsBoxWithin (2 ^ 40))) (sym (c.as_slice.ensures.value ∙ c.bodies_of-bodies.ensures)) (All-map (IsBoxWithin (2 ^ 40)) (λ (b : DrawnBox). b.body) c.args.boxes.now c.requires.near)

pub returns-clause-each : goal.returns-clause-each
returns-clause-each c = subst (λ (bodies : List Box3). IsOrder bodies c.painting_order.result.items) (c.as_slice.ensures.value ∙ c.bodies_of-bodies.ensures) c.painting_order.ensures.order

pub returns-clause-law : goal.returns-clause-law
returns-clause-law c = subst (λ (bodies : List Box3). HidesNone bodies c.painting_order.result.items) (c.as_slice.ensures.value ∙ c.bodies_of-bodies.ensures) c.painting_order.ensures.law

pub returns-clause-within : goal.returns-clause-within
returns-clause-within c = order_within c.args.boxes.now c.painting_order.result.items (returns-clause-each c)
