use Rattle.std.proofs.Common.{map, take}
use Rattle.brake_io.specs.Meanings.{NoCountFalls}
use Rattle.brake_commands.specs.SetupStops.{fitted_data}
use Rattle.brake_commands.specs.Attempts.{attempt_data}
use Rattle.brake_commands.specs.Begun.{StoresTried}
use Rattle.brake_commands.proofs.attempts.try_all.Given as goal

-- those so far are tried, and their certificates stored
abbrev pub invariant-loop-place : goal.invariant-loop-place
invariant-loop-place g l = record {
  tried : StoresTried l.name (take l.place (map fitted_data l.fits)) (map attempt_data l.attempts.items) (g.H.Shelf.state l.initial.shelf) (g.H.Shelf.state l.shelf);
  falls : NoCountFalls (g.H.Shelf.state l.initial.shelf) (g.H.Shelf.state l.shelf);
}
