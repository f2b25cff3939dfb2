use Rattle.std.proofs.Common.{◌≡◌, Err, refl, rules}
use Rattle.brake_io.specs.declared.shelf.StoreFault.TheVariants.{Failed}
use Rattle.command_runner.specs.Answers.{one_stored}
use Rattle.command_runner.specs.Delivery.{AreStoredUpTo}
use Rattle.command_runner.proofs.Storing.{one_whole, one_part, one_due, same_error}
use Rattle.command_runner.proofs.delivery.store_pieces.Goals as goal

pub returns-in_err-store_by-clause-err : goal.returns-in_err-store_by-clause-err
returns-in_err-store_by-clause-err g c =
    let now = c.in_err-store_by.ensures in
    let part : AreStoredUpTo (one_stored c.args.name.now (g.P.Pieces.left c.args.pieces.now)) (g.H.Shelf.state c.args.shelf.now) (g.H.Shelf.state c.store_by.new.self) =
    one_part _ _ _ _ now.others now.err now.calls now.longs in
    search (rules, part)

pub returns-in_err-store_by-clause-cause : goal.returns-in_err-store_by-clause-cause
returns-in_err-store_by-clause-cause g c = λ fails.
    let stopped : c.from_residual.result ≡ Err c.in_err-store_by.field-0.0 = search rules in
    let failed : c.in_err-store_by.field-0.0 ≡ Failed = same_error c.from_residual.result c.in_err-store_by.field-0.0 Failed stopped fails in
    one_due (g.H.Shelf.state c.args.shelf.now) (g.H.Shelf.state c.store_by.new.self) (c.in_err-store_by.ensures.cause (rw failed refl))

pub returns-clause-ok : goal.returns-clause-ok
returns-clause-ok g c =
    let now = c.in_ok-store_by.ensures in
    one_whole _ _ _ _ now.others now.ok now.calls now.longs
