use Rattle.std.proofs.Common.{pos, get_or, arith}
use Rattle.std.proofs.lemmas.Int.{ints, to_z-of_z}
use Rattle.std.proofs.lemmas.List.Sums.{fold_more}
use Rattle.machine_file.specs.Machine.{IsPiece}
use Rattle.job_setup.proofs.stages.total.Goals as goal

pub loop-piece-preserved : goal.loop-piece-preserved
loop-piece-preserved c =
    let within : IsPiece (get_or c.args.pieces.now c.loop-piece.piece-index (pos 0)) = c.requires.pieces c.loop-piece.piece-index (pos 0) c.loop-piece-test.true in
    (grind (arith, ints, to_z-of_z, fold_more), omega (arith, ints, within.bottom, within.top), omega (arith, ints, within.bottom, within.top))
