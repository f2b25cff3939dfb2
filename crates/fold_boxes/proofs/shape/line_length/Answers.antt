use Rattle.std.proofs.Common.{◌∙◌, rules, w64, SFits}
use Rattle.unfolder.proofs.Signed.{stored}
use Rattle.fold_boxes.proofs.Columns.{line_is}
use Rattle.fold_boxes.proofs.shape.line_length.Goals as goal

pub returns : goal.returns
returns c =
    let fits : SFits w64 c.core.result.0 = search rules in
    stored _ _ fits (c.core.ensures.width ∙ line_is c.args.shape.now c.args.bend)
