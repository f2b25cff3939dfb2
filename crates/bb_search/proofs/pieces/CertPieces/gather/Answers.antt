use Rattle.std.proofs.Common.{◌++◌, ℕ, List, ap, rules}
use Rattle.brake_io.proofs.Parts.{gone_on, all_done, fewer_turns_of}
use Rattle.bb_search.proofs.pieces.CertPieces.gather.Goals as goal

pub loop-is_more-init : goal.loop-is_more-init
loop-is_more-init c = (ap (λ (t : List ℕ). t ++ c.args.self) c.new-text.ensures.items, λ none. cc)

pub loop-is_more-smaller : goal.loop-is_more-smaller
loop-is_more-smaller c = fewer_turns_of _ _ _ _ (search rules) c.in_ok-is_more.ensures.more c.in_ok-is_more.ensures.last

pub loop-is_more-preserved : goal.loop-is_more-preserved
loop-is_more-preserved c =
    let (piece, appended, split) = c.in_ok-is_more.ensures.piece in
    (gone_on _ _ _ _ _ _ c.loop-is_more.invariant.0 appended split, c.in_ok-is_more.ensures.last)

pub returns : goal.returns
returns c = all_done _ _ _ c.loop-is_more.invariant.0 (c.loop-is_more.invariant.1 (search rules))
