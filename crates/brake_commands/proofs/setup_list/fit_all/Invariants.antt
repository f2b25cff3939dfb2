use Rattle.std.proofs.Common.{map, take}
use Rattle.std.specs.List.{AllZip}
use Rattle.setup_choice.specs.Setups.{one_setup_data}
use Rattle.brake_commands.specs.SetupStops.{job_files_data, fitted_data, IsFitted}
use Rattle.brake_commands.proofs.setup_list.fit_all.Given as goal

-- those so far
abbrev pub invariant-loop-place : goal.invariant-loop-place
invariant-loop-place l = AllZip (IsFitted (job_files_data l.files)) (map one_setup_data (take l.place l.setups)) (map fitted_data l.fits.items)
