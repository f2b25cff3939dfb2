use Rattle.std.proofs.Common.{refl, map, take}
use Rattle.std.proofs.lemmas.List.{take-map}
use Rattle.job_setup.proofs.Lists.{all_at}
use Rattle.setup_choice.specs.Setups.{one_setup_data, IsOneSetup}
use Rattle.brake_commands.specs.SetupStops.{job_files_data, fitted_data, IsFitted}
use Rattle.brake_commands.proofs.NumberedLists.{zipped_next, seen_in}
use Rattle.brake_commands.proofs.Trying.{all_stand}
use Rattle.brake_commands.proofs.setup_list.fit_all.Goals as goal

pub fit-requires-clause-setup : goal.fit-requires-clause-setup
fit-requires-clause-setup c = all_at IsOneSetup one_setup_data c.args.setups.now c.loop-place.place c.index-setups-place.result c.requires.setups c.loop-place-test.true c.index-setups-place.is

pub returns-in-Err : goal.returns-in-Err
returns-in-Err c =
    let files = job_files_data c.args.files.now in
    let before = all_stand files (map one_setup_data (take c.loop-place.place c.args.setups.now)) (map fitted_data c.loop-place.fits.items) c.loop-place.invariant in
    record {
      one = one_setup_data c.index-setups-place.result;
      listed = seen_in one_setup_data c.args.setups.now c.loop-place.place c.index-setups-place.result c.loop-place-test.true c.index-setups-place.is;
      refused = c.in-Err.ensures;
      before = rw (take-map one_setup_data c.loop-place.place c.args.setups.now) before;
    }

pub loop-place-preserved : goal.loop-place-preserved
loop-place-preserved c =
    rw c.in_ok-push-in-Ok.ensures.items
    (zipped_next (IsFitted (job_files_data c.args.files.now)) one_setup_data fitted_data c.loop-place.place c.args.setups.now c.index-setups-place.result c.loop-place.fits.items (record { name = c.index-setups-place.result.name; fit = c.in-Ok.fit })
    c.loop-place-test.true c.index-setups-place.is c.loop-place.invariant (record { name = refl; fits = c.in-Ok.ensures }))
