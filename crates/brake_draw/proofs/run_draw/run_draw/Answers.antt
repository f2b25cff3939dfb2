use Rattle.std.proofs.Common.{◌≡◌, true, false, map, string_bytes, sym, ◌∙◌}
use Rattle.command_runner.proofs.Outcomes.{outcome_of}
use Rattle.brake_draw.specs.Run.{is_drawing}
use Rattle.brake_draw.proofs.run_draw.run_draw.Goals as goal

pub returns-then-is_drawing-clause-ends : goal.returns-then-is_drawing-clause-ends
returns-then-is_drawing-clause-ends g c =
    let drawing : is_drawing (map string_bytes c.args.words.now) ≡ true = sym c.is_drawing.ensures.value ∙ c.if-is_drawing.true in
    rw drawing c.run.ensures.ends

pub returns-then-is_drawing-clause-outcome : goal.returns-then-is_drawing-clause-outcome
returns-then-is_drawing-clause-outcome g c = outcome_of _ _ _ _ _ _ _ (returns-then-is_drawing-clause-ends g c)

pub returns-else-is_drawing-clause-ends : goal.returns-else-is_drawing-clause-ends
returns-else-is_drawing-clause-ends g c =
    let other : is_drawing (map string_bytes c.args.words.now) ≡ false = sym c.is_drawing.ensures.value ∙ c.if-is_drawing.false in
    rw other c.put_at_once.ensures.ends

pub returns-else-is_drawing-clause-outcome : goal.returns-else-is_drawing-clause-outcome
returns-else-is_drawing-clause-outcome g c = outcome_of _ _ _ _ _ _ _ (returns-else-is_drawing-clause-ends g c)

pub returns-then-is_drawing-clause-cause : goal.returns-then-is_drawing-clause-cause
returns-then-is_drawing-clause-cause g c =
    let drawing : is_drawing (map string_bytes c.args.words.now) ≡ true = sym c.is_drawing.ensures.value ∙ c.if-is_drawing.true in
    rw drawing c.run.ensures.cause
