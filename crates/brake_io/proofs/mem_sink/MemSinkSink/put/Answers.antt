use Rattle.std.proofs.Common.{arith, ◌≡◌, ℕ, Some, ap, ◌∙◌, refl}
use Rattle.std.proofs.lemmas.Grind.{common_steps}
use Rattle.std.proofs.lemmas.List.{take_min}
use Rattle.brake_io.specs.Rose.{raised}
use Rattle.brake_io.specs.MemSinkState.{FailurePlace, IsToFailAfter}
use Rattle.brake_io.proofs.mem_sink.MemSinkSink.put.Goals as goal
use Rattle.brake_io.proofs.mem_sink.MemSinkSink.put.Goals.{in-Ok, in-Err}

pub returns-then-from-self-clause-at_place : goal.returns-then-from-self-clause-at_place
returns-then-from-self-clause-at_place c = λ failed.
    let taken = c.in-Some.failure.taken in
    let place : ℕ → FailurePlace = λ call. record { call = call; taken = taken } in
    let number : c.in-Some.failure.call ≡ raised c.args.self.now.calls = grind (arith, common_steps) in
    let held : c.args.self.now.fails_at ≡ Some (place c.in-Some.failure.call) = rw (← c.self.view_is, c.in-Some.is) refl in
    let at_place : IsToFailAfter c.args.self.now taken = held ∙ ap (λ call. Some (place call)) number in
    (taken, at_place, elim c.match-extend_from_slice.branch [ in-Ok w ↦ grind (arith, common_steps, take_min) | in-Err w ↦ grind (arith, common_steps) ])
