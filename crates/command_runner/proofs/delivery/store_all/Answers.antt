use Rattle.std.proofs.Common.{◌≡◌, Err, refl, ◌∙◌, rules, arith, map}
use Rattle.std.proofs.lemmas.List.{take_all}
use Rattle.brake_io.specs.declared.shelf.StoreFault.TheVariants.{Failed}
use Rattle.command_runner.specs.Answers.{stored_data}
use Rattle.command_runner.specs.Delivery.{AreStoredUpTo}
use Rattle.command_runner.proofs.Storing.{nothing_stored, stored_more, stored_up_to, stored_due, none_falls, same_error}
use Rattle.command_runner.proofs.delivery.store_all.Goals as goal

pub loop-one-init : goal.loop-one-init
loop-one-init g c = record {
  stored = nothing_stored (g.H.Shelf.state c.args.shelf.now);
  falls = record { calls = omega arith; faults = omega arith; longs = omega arith };
  faults = refl;
}

pub loop-one-preserved : goal.loop-one-preserved
loop-one-preserved g c =
    let so_far = c.loop-one.invariant in
    let now = c.in_ok-store.ensures in
    record {
      stored = stored_more c.args.stored.now c.loop-one.one-index c.one-item.result c.as_str.result.now c.as_slice.result.now (g.H.Shelf.state c.args.shelf.now) (g.H.Shelf.state c.loop-one.shelf) (g.H.Shelf.state c.store.new.self)
          c.loop-one-test.true c.one-item.is c.as_str.ensures.value c.as_slice.ensures.value so_far.stored now.others now.ok now.calls now.longs;
      falls = none_falls _ _ _ so_far.falls now.never_falls;
      faults = now.faults (λ fails. cc) ∙ so_far.faults;
    }

pub returns-in_err-store-clause-err : goal.returns-in_err-store-clause-err
returns-in_err-store-clause-err g c =
    let so_far = c.loop-one.invariant in
    let now = c.in_err-store.ensures in
    let part : AreStoredUpTo (map stored_data c.args.stored.now) (g.H.Shelf.state c.args.shelf.now) (g.H.Shelf.state c.store.new.self) =
    stored_up_to c.args.stored.now c.loop-one.one-index c.one-item.result c.as_str.result.now c.as_slice.result.now (g.H.Shelf.state c.args.shelf.now) (g.H.Shelf.state c.loop-one.shelf) (g.H.Shelf.state c.store.new.self)
    c.loop-one-test.true c.one-item.is c.as_str.ensures.value c.as_slice.ensures.value so_far.stored now.others now.err now.calls now.longs in
    search (rules, part)

pub returns-in_err-store-clause-never_falls : goal.returns-in_err-store-clause-never_falls
returns-in_err-store-clause-never_falls g c = none_falls _ _ _ c.loop-one.invariant.falls c.in_err-store.ensures.never_falls

pub returns-in_err-store-clause-cause : goal.returns-in_err-store-clause-cause
returns-in_err-store-clause-cause g c = λ fails.
    let stopped : c.from_residual.result ≡ Err c.in_err-store.field-0.0 = search rules in
    let failed : c.in_err-store.field-0.0 ≡ Failed = same_error c.from_residual.result c.in_err-store.field-0.0 Failed stopped fails in
    stored_due _ (g.H.Shelf.state c.args.shelf.now) (g.H.Shelf.state c.loop-one.shelf) (g.H.Shelf.state c.store.new.self) c.loop-one.invariant.stored c.loop-one.invariant.falls (c.in_err-store.ensures.cause (rw failed refl))

pub returns-clause-ok : goal.returns-clause-ok
returns-clause-ok g c = rw (take_all c.loop-one.one-index c.args.stored.now c.loop-one-test.false) at c.loop-one.invariant.stored
