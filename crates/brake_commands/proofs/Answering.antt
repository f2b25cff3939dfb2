-- Where the shelf tells what it holds, `blank` has one answer.
use Rattle.std.proofs.Common.{◌≡◌, ◌⊎◌, inl, inr, ℕ, List, Option, Some, None, Result, Ok, Err, refl, sym, ap, ◌∙◌, subst}
use Rattle.std.specs.Prelude.{IfSome, IsSomeAnd, option_map}
use Rattle.brake_io.specs.Meanings.{Content}
use Rattle.command_runner.specs.declared.status.Status.{Status}
use Rattle.command_runner.specs.Answers.{AnswerData}
use Rattle.command_runner.specs.Fetching.{IsFetched, files_of, all_fetched}
use Rattle.command_runner.specs.Delivery.{IsCutShort, Outside}
use Rattle.command_runner.specs.Ends.{Leaves, IsOutcome, cut_short, answered, refused_long}
use Rattle.command_runner.proofs.Told.{told_fetched}
use Rattle.brake_commands.specs.declared.command.Command.{Command}
use Rattle.brake_commands.specs.declared.command.Command.TheVariants.{Blank, Plan, Check, CheckFiles, Trial, Why, Setups, Settle, Merge, Prove}
use Rattle.brake_commands.specs.Run.{form_for, meaning_for, blank_after, told_blank, TellsBlankBy}

module _ (part tools : ℕ) (words : List (List ℕ)) (before now : Outside) (status : Status) (content : Content) (told : before.shelf.content ≡ Some content) where
  -- what follows what was fetched is the one answer
  left : (fetched : Result (List (List ℕ)) ℕ) (answer : AnswerData) → IsFetched before.shelf now.shelf (files_of (form_for (Some (Blank part tools))) words) fetched → blank_after fetched ≡ answer → Leaves answer before now status
      → IsSomeAnd (told_blank (Blank part tools) content.held words) (λ answer. Leaves answer before now status)
  left fetched answer is follows leaves =
      let there : told_blank (Blank part tools) content.held words ≡ Some answer =
      ap (option_map blank_after) (told_fetched before.shelf now.shelf content (files_of (form_for (Some (Blank part tools))) words) fetched told is) ∙ ap (λ (a : AnswerData). Some a) follows in
      subst (λ (o : Option AnswerData). IsSomeAnd o (λ a. Leaves a before now status)) (sym there) leaves

  told_over : IsOutcome (form_for (Some (Blank part tools))) (meaning_for (Some (Blank part tools))) words before now status
      → IsCutShort status ⊎ IsSomeAnd (told_blank (Blank part tools) content.held words) (λ answer. Leaves answer before now status)
  told_over (cut_short short) = inl short
  told_over (refused_long long) = inr (left (Err long.number) (blank_after (Err long.number)) long.is_fetched refl long.leaves)
  told_over (answered run) = inr (left (Ok run.contents) run.answer (all_fetched run.contents run.are_fetched run.longs refl) (sym run.is_answer) run.leaves)

over_shelf : (part tools : ℕ) (words : List (List ℕ)) (before now : Outside) (status : Status) (o : Option Content) → before.shelf.content ≡ o
    → IsOutcome (form_for (Some (Blank part tools))) (meaning_for (Some (Blank part tools))) words before now status
    → IfSome o (λ content. IsCutShort status ⊎ IsSomeAnd (told_blank (Blank part tools) content.held words) (λ answer. Leaves answer before now status))
over_shelf part tools words before now status None told outcome = tt
over_shelf part tools words before now status (Some content) told outcome = told_over part tools words before now status content told outcome

-- a run of any command
pub run_tells : (command : Option Command) (words : List (List ℕ)) (before now : Outside) (status : Status) → IsOutcome (form_for command) (meaning_for command) words before now status → TellsBlankBy command words before now status
run_tells (Some (Blank part tools)) words before now status outcome = over_shelf part tools words before now status before.shelf.content refl outcome
run_tells None words before now status outcome = tt
run_tells (Some (Plan part tools machine cert budget)) words before now status outcome = tt
run_tells (Some (Check cert)) words before now status outcome = tt
run_tells (Some (CheckFiles cert part tools machine)) words before now status outcome = tt
run_tells (Some (Trial n)) words before now status outcome = tt
run_tells (Some (Why part tools machine)) words before now status outcome = tt
run_tells (Some (Setups part tools machine setups cert)) words before now status outcome = tt
run_tells (Some (Settle part tools machine out low high base)) words before now status outcome = tt
run_tells (Some (Merge a b out)) words before now status outcome = tt
run_tells (Some (Prove table)) words before now status outcome = tt
