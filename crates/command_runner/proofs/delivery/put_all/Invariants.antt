use Rattle.std.proofs.Common.{◌≡◌, map, take}
use Rattle.std.specs.Vec.{vec_items}
use Rattle.brake_io.specs.Meanings.{Puts}
use Rattle.command_runner.specs.Answers.{concatenation}
use Rattle.command_runner.proofs.delivery.put_all.Given as goal

abbrev pub invariant-loop-text : goal.invariant-loop-text
invariant-loop-text g l = record {
  put : Puts (g.K.Sink.state l.initial.out) (g.K.Sink.state l.out) (concatenation (map vec_items (take l.text-index l.texts)));
  faults : (g.K.Sink.state l.out).faults ≡ (g.K.Sink.state l.initial.out).faults;
}
