use Rattle.std.proofs.Common.{ℕ, List, [], ◌∷◌, Some, None, map, ap, ◌∙◌}
use Rattle.setup_choice.specs.Best.{IsBest}
use Rattle.command_runner.specs.Answers.{stored_data}
use Rattle.brake_commands.specs.Attempts.{attempt_data, planned_data, tried_all}
use Rattle.brake_commands.specs.PlanAnswer.{no_plan_line}
use Rattle.brake_commands.specs.SetupsAnswer.{best_texts, with_best, without}
use Rattle.brake_commands.proofs.Trying.{has_planned}
use Rattle.brake_commands.proofs.Kept.{steps_at}
use Rattle.brake_commands.proofs.setups.tried_answer.Goals as goal

pub planned_at-requires : goal.planned_at-requires
planned_at-requires c =
    let attempts = map attempt_data c.args.attempts.now in
    let best : IsBest (tried_all attempts) (Some c.in-Some.place) = rw c.in-Some.is at c.in_ok-best.ensures in
    has_planned attempts c.in-Some.place best.0 best.1.has

pub texts_with_best-requires : goal.texts_with_best-requires
texts_with_best-requires c =
    let attempts = map attempt_data c.args.attempts.now in
    let best : IsBest (tried_all attempts) (Some c.in-Some.place) = rw c.in-Some.is at c.in_ok-best.ensures in
    steps_at attempts c.in-Some.place (planned_data c.planned_at.result.now) best.0 c.requires.kept c.planned_at.ensures best.1.has

pub returns-in_ok-texts_with_best-in-Some-clause-answer : goal.returns-in_ok-texts_with_best-in-Some-clause-answer
returns-in_ok-texts_with_best-in-Some-clause-answer c =
    let attempts = map attempt_data c.args.attempts.now in
    let planned = planned_data c.planned_at.result.now in
    let best : IsBest (tried_all attempts) (Some c.in-Some.place) = rw c.in-Some.is at c.in_ok-best.ensures in
    record {
      ending = best_texts c.in-Some.place planned;
      ends = with_best c.in-Some.place planned best c.planned_at.ensures;
      stores = ap (map stored_data) c.new.ensures.items;
      texts = c.in_ok-texts_with_best-in-Some.ensures ∙ ap (λ (lines : List ℕ). c.args.sheet.items ∷ lines ∷ best_texts c.in-Some.place planned) c.in_ok-tries.ensures;
    }

pub returns-in_ok-texts_without_plan-in-None-clause-answer : goal.returns-in_ok-texts_without_plan-in-None-clause-answer
returns-in_ok-texts_without_plan-in-None-clause-answer c =
    let attempts = map attempt_data c.args.attempts.now in
    let best : IsBest (tried_all attempts) None = rw c.in-None.is at c.in_ok-best.ensures in
    record {
      ending = no_plan_line ∷ [];
      ends = without best;
      stores = ap (map stored_data) c.new-in-None.ensures.items;
      texts = c.in_ok-texts_without_plan-in-None.ensures ∙ ap (λ (lines : List ℕ). c.args.sheet.items ∷ lines ∷ no_plan_line ∷ []) c.in_ok-tries.ensures;
    }
