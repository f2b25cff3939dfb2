use Rattle.std.proofs.Common.{rules, refl}
use Rattle.brake_io.proofs.Parts.{gone_on, all_done, fewer_turns_of}
use Rattle.brake_io.proofs.pieces.append_all.Goals as goal

pub loop-is_more-init : goal.loop-is_more-init
loop-is_more-init g c = (refl, λ none. cc)

pub loop-is_more-smaller : goal.loop-is_more-smaller
loop-is_more-smaller g c = fewer_turns_of _ _ _ _ (search rules) c.in_ok-is_more.ensures.more c.in_ok-is_more.ensures.last

pub loop-is_more-preserved : goal.loop-is_more-preserved
loop-is_more-preserved g c =
    let (piece, appended, split) = c.in_ok-is_more.ensures.piece in
    (gone_on _ _ _ _ _ _ c.loop-is_more.invariant.0 appended split, c.in_ok-is_more.ensures.last)

pub returns : goal.returns
returns g c = all_done _ _ _ c.loop-is_more.invariant.0 (c.loop-is_more.invariant.1 (search rules))
