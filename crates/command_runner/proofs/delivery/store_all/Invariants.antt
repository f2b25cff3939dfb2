use Rattle.std.proofs.Common.{◌≡◌, map, take}
use Rattle.brake_io.specs.Meanings.{NoCountFalls}
use Rattle.command_runner.specs.Answers.{stored_data}
use Rattle.command_runner.specs.Delivery.{AreStored}
use Rattle.command_runner.proofs.delivery.store_all.Given as goal

abbrev pub invariant-loop-one : goal.invariant-loop-one
invariant-loop-one g l = record {
  stored : AreStored (map stored_data (take l.one-index l.stored)) (g.H.Shelf.state l.initial.shelf) (g.H.Shelf.state l.shelf);
  falls : NoCountFalls (g.H.Shelf.state l.initial.shelf) (g.H.Shelf.state l.shelf);
  faults : (g.H.Shelf.state l.shelf).faults ≡ (g.H.Shelf.state l.initial.shelf).faults;
}
