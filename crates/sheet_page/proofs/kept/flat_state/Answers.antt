use Rattle.std.proofs.Common.{◌∙◌, sym, subst}
use Rattle.std.specs.Prelude.{Option}
use Rattle.sheet_page.specs.declared.kept.State.{State}
use Rattle.sheet_page.specs.Kept.{IsFlatState}
use Rattle.sheet_page.proofs.KeptStates.{flat_kept, flat_found, flat_none}
use Rattle.sheet_page.proofs.kept.flat_state.Goals as goal

pub returns-in-Some : goal.returns-in-Some
returns-in-Some c = λ j all states is are. flat_kept j all states c.args.state is c.in-Some.flat (subst (λ (o : Option State). IsFlatState j all states o) c.in-Some.is are)

pub returns-then-is_empty : goal.returns-then-is_empty
returns-then-is_empty c = λ j all states is are. flat_found j all states c.args.state is (subst (λ (o : Option State). IsFlatState j all states o) c.in-None.is are) (sym c.is_empty.ensures.number ∙ c.if-is_empty.true)

pub returns-else-is_empty : goal.returns-else-is_empty
returns-else-is_empty c = λ j all states is are. flat_none j all states c.args.state is (subst (λ (o : Option State). IsFlatState j all states o) c.in-None.is are) (sym c.is_empty.ensures.number ∙ c.if-is_empty.false)
