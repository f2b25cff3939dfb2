use Rattle.std.proofs.Common.{◌≡◌, Err, sym, FitsSigned, to_z-of_z, w64, rules}
use Rattle.unfolder.specs.Blank.{blank_data, blank_of_part}
use Rattle.setup_sheet.proofs.Bounds.{blank_is_bounded}
use Rattle.brake_commands.specs.SetupStops.{job_files_data}
use Rattle.brake_commands.proofs.SetupsAnswers.{no_deduction, no_blank}
use Rattle.brake_commands.proofs.setups.blank_sheet_of.Goals as goal

pub blank_sheet-requires-clause-bounded : goal.blank_sheet-requires-clause-bounded
blank_sheet-requires-clause-bounded c = blank_is_bounded (blank_data c.in-Ok-unfold.blank) c.in-Ok-unfold.ensures.near

pub unreachable-requires : goal.unreachable-requires
unreachable-requires c =
    let files = job_files_data c.args.files.now in
    let fits : FitsSigned w64 c.in-Ok.q = search rules in
    let refused : blank_of_part files.part c.in-Ok.q ≡ Err c.in-Err-unfold.field-0 = simp to_z-of_z at c.in-Err-unfold.ensures.value in
    no_blank files.part files.tools c.in-Ok.q c.in-Err-unfold.field-0 c.requires.fits (sym c.in-Ok.ensures.value) refused

pub unreachable-requires-in-Err : goal.unreachable-requires-in-Err
unreachable-requires-in-Err c =
    let files = job_files_data c.args.files.now in
    no_deduction files.part files.tools c.in-Err.field-0 c.requires.fits (sym c.in-Err.ensures.value)
