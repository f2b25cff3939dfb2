use Rattle.std.proofs.Common.{◌≡◌, suc, Err, map, option_map, refl, add-one, rules}
use Rattle.brake_io.specs.declared.shelf.StoreFault.TheVariants.{Failed}
use Rattle.command_runner.specs.Ends.{StoresBeginning}
use Rattle.command_runner.proofs.Storing.{none_falls, same_error}
use Rattle.command_runner.proofs.Rests.{due_later}
use Rattle.brake_commands.specs.SetupStops.{fitted_data}
use Rattle.brake_commands.specs.Attempts.{attempt_data, planned_data, AttemptData}
use Rattle.brake_commands.specs.SetupsAnswer.{all_stored}
use Rattle.brake_commands.specs.Begun.{IsTriedBeginning}
use Rattle.brake_commands.proofs.NumberedLists.{seen_in}
use Rattle.brake_commands.proofs.Begun.{tried_more, begun_so_far, begun_part}
use Rattle.brake_commands.proofs.attempts.try_all.Goals as goal

pub returns-in_err-planned-clause-err : goal.returns-in_err-planned-clause-err
returns-in_err-planned-clause-err g c =
    let fits = map fitted_data c.args.fits.now in
    let fit = fitted_data c.index-fits-place.result in
    let here = seen_in fitted_data c.args.fits.now c.loop-place.place c.index-fits-place.result c.loop-place-test.true c.index-fits-place.is in
    let begun : StoresBeginning (IsTriedBeginning c.args.name.now (map fitted_data c.args.fits.now)) (g.H.Shelf.state c.args.shelf.now) (g.H.Shelf.state c.plan_fit.new.shelf) =
    begun_part c.args.name.now fits c.loop-place.place fit (map attempt_data c.loop-place.attempts.items) (g.H.Shelf.state c.args.shelf.now) (g.H.Shelf.state c.loop-place.shelf) (g.H.Shelf.state c.plan_fit.new.shelf)
    here c.loop-place.invariant.tried c.in_err-planned.ensures.err in
    search (rules, begun)

pub returns-in_err-planned-clause-cause : goal.returns-in_err-planned-clause-cause
returns-in_err-planned-clause-cause g c = λ fails.
    let so_far = c.loop-place.invariant in
    let stopped : c.from_residual.result ≡ Err c.in_err-planned.field-0.0 = search rules in
    let failed : c.in_err-planned.field-0.0 ≡ Failed = same_error c.from_residual.result c.in_err-planned.field-0.0 Failed stopped fails in
    due_later (all_stored c.args.name.now so_far.tried.attempts) (g.H.Shelf.state c.args.shelf.now) (g.H.Shelf.state c.loop-place.shelf) (g.H.Shelf.state c.plan_fit.new.shelf)
    so_far.tried.are_stored so_far.falls.calls (c.in_err-planned.ensures.cause (rw failed refl))

pub returns-in_err-keep-clause-err : goal.returns-in_err-keep-clause-err
returns-in_err-keep-clause-err g c =
    let fits = map fitted_data c.args.fits.now in
    let fit = fitted_data c.index-fits-place.result in
    let here = seen_in fitted_data c.args.fits.now c.loop-place.place c.index-fits-place.result c.loop-place-test.true c.index-fits-place.is in
    let one : AttemptData = record { name = fit.name; planned = option_map planned_data c.in_ok-planned.planned } in
    let more = tried_more c.args.name.now fits c.loop-place.place fit here (map attempt_data c.loop-place.attempts.items) (g.H.Shelf.state c.args.shelf.now) (g.H.Shelf.state c.loop-place.shelf) (g.H.Shelf.state c.plan_fit.new.shelf)
    c.loop-place.invariant.tried one refl c.in_ok-planned.ensures.ok in
    let begun : StoresBeginning (IsTriedBeginning c.args.name.now (map fitted_data c.args.fits.now)) (g.H.Shelf.state c.args.shelf.now) (g.H.Shelf.state c.plan_fit.new.shelf) =
    begun_so_far c.args.name.now fits (suc c.loop-place.place) _ (g.H.Shelf.state c.args.shelf.now) (g.H.Shelf.state c.plan_fit.new.shelf) more in
    search (rules, begun)

pub loop-place-preserved : goal.loop-place-preserved
loop-place-preserved g c =
    let fits = map fitted_data c.args.fits.now in
    let fit = fitted_data c.index-fits-place.result in
    let here = seen_in fitted_data c.args.fits.now c.loop-place.place c.index-fits-place.result c.loop-place-test.true c.index-fits-place.is in
    let one : AttemptData = record { name = fit.name; planned = option_map planned_data c.in_ok-planned.planned } in
    let more = tried_more c.args.name.now fits c.loop-place.place fit here (map attempt_data c.loop-place.attempts.items) (g.H.Shelf.state c.args.shelf.now) (g.H.Shelf.state c.loop-place.shelf) (g.H.Shelf.state c.plan_fit.new.shelf)
    c.loop-place.invariant.tried one refl c.in_ok-planned.ensures.ok in
    record {
      tried = rw (add-one, c.in_ok-keep.ensures) more;
      falls = none_falls _ _ _ c.loop-place.invariant.falls c.in_ok-planned.ensures.never_falls;
    }
