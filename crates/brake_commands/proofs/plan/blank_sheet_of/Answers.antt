use Rattle.unfolder.specs.Blank.{blank_data}
use Rattle.setup_sheet.proofs.Bounds.{blank_is_bounded}
use Rattle.brake_commands.proofs.plan.blank_sheet_of.Goals as goal

pub blank_sheet-requires-clause-bounded : goal.blank_sheet-requires-clause-bounded
blank_sheet-requires-clause-bounded c = blank_is_bounded (blank_data c.in-Ok.blank) c.in-Ok.ensures.near
