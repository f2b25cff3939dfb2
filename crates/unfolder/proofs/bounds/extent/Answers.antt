use Rattle.std.proofs.Common.{sym, ◌∙◌, ap, subst}
use Rattle.unfolder.specs.Extent.{extent_of, IsExtent}
use Rattle.unfolder.proofs.Extents.{extent_is, extent_is_near}
use Rattle.unfolder.proofs.bounds.extent.Goals as goal

pub returns-clause-least : goal.returns-clause-least
returns-clause-least c =
    let value = c.outline.ensures ∙ ap extent_of c.as_slice.ensures.value in
    subst (IsExtent c.args.blank.now.faces.items) (sym value) (extent_is c.args.blank.now.faces.items c.requires)

pub returns-clause-near : goal.returns-clause-near
returns-clause-near c = λ near.
    let value = c.outline.ensures ∙ ap extent_of c.as_slice.ensures.value in
    extent_is_near c.args.blank.now.faces.items c.outline.result (subst (IsExtent c.args.blank.now.faces.items) (sym value) (extent_is c.args.blank.now.faces.items c.requires)) near.faces
