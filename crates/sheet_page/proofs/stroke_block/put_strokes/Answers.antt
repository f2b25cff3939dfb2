use Rattle.std.proofs.Common.{sym, subst, arith, length, FitsSigned, to_z-of_z, w64}
use Rattle.std.specs.Prelude.{OnOk}
use Rattle.std.proofs.lemmas.Int.{ints}
use Rattle.brake_base.specs.declared.stroke.Key.{Key}
use Rattle.setup_sheet.specs.OrderSheet.{AreSteps}
use Rattle.sheet_page.specs.Blocks.{AreBlocks}
use Rattle.sheet_page.proofs.stroke_block.put_strokes.Goals as goal

pub put_last_strokes-requires-clause-steps : goal.put_last_strokes-requires-clause-steps
put_last_strokes-requires-clause-steps c = subst (λ (k : Key). AreSteps c.args.job.now k c.args.steps.now) (sym c.first_key-key.ensures.value) c.requires.steps

pub put_last_strokes-requires-clause-figure : goal.put_last_strokes-requires-clause-figure
put_last_strokes-requires-clause-figure c = record { low = omega (arith, ints, c.requires.figure.low, c.requires.figure.high); high = omega (arith, ints, c.requires.figure.low, c.requires.figure.high) }

pub returns : goal.returns
returns c =
    let fits : FitsSigned w64 c.args.figure = c.ranges.figure in
    let blocks = simp to_z-of_z at c.put_last_strokes.ensures in
    subst (λ (k : Key). OnOk c.put_last_strokes.result (AreBlocks c.args.job.now (length c.args.steps.now) 1 c.args.figure k c.args.steps.now c.args.out.now.items c.put_last_strokes.new.out.items)) c.first_key-key.ensures.value blocks
