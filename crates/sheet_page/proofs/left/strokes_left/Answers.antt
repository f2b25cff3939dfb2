use Rattle.std.proofs.Common.{arith}
use Rattle.sheet_page.specs.Left.{left_of}
use Rattle.sheet_page.proofs.Numbered.{sum_next}
use Rattle.sheet_page.proofs.left.strokes_left.Goals as goal

pub loop-bend-preserved : goal.loop-bend-preserved
loop-bend-preserved c =
    let next = sum_next (left_of c.args.job.now c.args.mask c.args.notes.now) c.loop-bend.bend (omega (arith, c.loop-bend.auto.bend)) in
    record {
      value = omega (arith, next, c.loop-bend.invariant.value, c.left_of-count.ensures.value);
      few = omega (arith, c.loop-bend.invariant.few, c.left_of-count.ensures.few, c.loop-bend.auto.bend);
    }
