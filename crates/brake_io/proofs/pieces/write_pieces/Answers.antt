use Rattle.std.proofs.Common.{rules, refl, [], sym, subst, ◌++◌}
use Rattle.std.specs.Io.KnownBytes.{Appends}
use Rattle.std.proofs.KnownBytes.{Appends-nil}
use Rattle.brake_io.specs.Meanings.{AppendsPart}
use Rattle.brake_io.proofs.Parts.{gone_on, all_done, fewer_turns_of, written_on, part_of_next, part_done, next_split}
use Rattle.brake_io.proofs.pieces.write_pieces.Goals as goal

pub loop-is_more-init : goal.loop-is_more-init
loop-is_more-init g c = ([], refl, Appends-nil _, λ none. cc)

pub loop-is_more-smaller : goal.loop-is_more-smaller
loop-is_more-smaller g c = fewer_turns_of _ _ _ _ (search rules) c.in_ok-is_more.ensures.more c.in_ok-is_more.ensures.last

pub loop-is_more-preserved : goal.loop-is_more-preserved
loop-is_more-preserved g c =
    let (done, so_far, appended, last) = c.loop-is_more.invariant in
    let (piece, is, split) = c.in_ok-is_more.ensures.piece in
    (done ++ piece, gone_on _ done _ piece _ _ so_far refl split, written_on _ _ _ done piece c.deref.result.now appended (search rules) (search rules), c.in_ok-is_more.ensures.last)

pub returns-in_err-is_more-clause-part : goal.returns-in_err-is_more-clause-part
returns-in_err-is_more-clause-part g c =
    let (done, so_far, appended, last) = c.loop-is_more.invariant in
    let part = part_done _ _ _ done _ (sym so_far) appended in
    search (rules, part)

pub returns-then-not-write_whole-clause-part : goal.returns-then-not-write_whole-clause-part
returns-then-not-write_whole-clause-part g c =
    let (done, so_far, appended, last) = c.loop-is_more.invariant in
    let (piece, is, split) = c.in_ok-is_more.ensures.piece in
    let part : AppendsPart (g.W.Write.contents c.args.to.now) (g.W.Write.contents c.write_whole.new.to) (g.P.Pieces.left c.args.pieces.now) =
    part_of_next _ _ _ _ done piece _ c.deref.result.now (next_split _ done piece _ _ so_far split) appended (search rules) (search rules) in
    search (rules, part)

pub returns-clause-all : goal.returns-clause-all
returns-clause-all g c =
    let (done, so_far, appended, last) = c.loop-is_more.invariant in
    subst (Appends _ _) (all_done _ _ _ so_far (last (search rules))) appended
