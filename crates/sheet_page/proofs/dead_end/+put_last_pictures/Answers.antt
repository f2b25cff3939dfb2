use Rattle.std.proofs.Common.{◌^◌, pos, get_or, take, FitsSigned, to_z-of_z, w64, arith}
use Rattle.std.specs.Prelude.{int_lt, ◌&&◌}
use Rattle.std.proofs.lemmas.Int.{ints}
use Rattle.algebra.proofs.Widths.{fits_64}
use Rattle.brake_base.specs.declared.reason.Reason.TheVariants.{Cover}
use Rattle.plan_lines.specs.declared.note.Note.{Note}
use Rattle.sheet_page.specs.Pictured.{is_pictured, GoesOn}
use Rattle.sheet_page.proofs.Pictures.{last_more}
use Rattle.sheet_page.proofs.dead_end.+put_last_pictures.Goals as goal

no_note : Note
no_note = record { row = 0; action = 0; reason = Cover }

pub returns-clause-value : goal.returns-clause-value
returns-clause-value t c =
    let refusals = c.args.refusals.now in
    let job = refusals.job.now in
    let mask = refusals.mask in
    let notes = refusals.notes.now in
    let figure = c.args.figure in
    let put = c.args.put in
    let next = c.in_ok-next.next in
    let few = c.in_ok-next.ensures.count in
    let note = get_or notes c.args.at no_note in
    let fits : FitsSigned w64 put = c.ranges.put in
    let fits_figure : FitsSigned w64 figure = c.ranges.figure in
    let fits_next : FitsSigned w64 next = fits_64 _ (2 ^ 20) (omega (arith, ints, few.low, few.high)) (omega arith) in
    let goes : GoesOn (int_lt put (pos 2) && is_pictured job mask (take c.args.at notes) note) job mask note figure put next c.args.out.now.items c.put_picture_at.new.out.items = simp to_z-of_z at (c.in_ok-next.ensures.value no_note) in
    let rest = simp to_z-of_z at c.put_last_pictures.ensures.value in
    last_more job mask notes figure c.args.at no_note put next c.args.out.now.items c.put_picture_at.new.out.items _ c.put_last_pictures.result (omega (arith, c.if-at-refusals.false)) goes rest
