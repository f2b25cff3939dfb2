use Rattle.std.proofs.Common.{◌^◌, ◌<◌, ℕ, List, Option, Some, None, sym, ◌∙◌, ap, subst}
use Rattle.std.specs.Prelude.{slice_index_or, slice_set}
use Rattle.job_setup.specs.Setup.{JobData, bend_count}
use Rattle.set_facts.specs.declared.facts.SetFacts.{SetFacts}
use Rattle.set_facts.specs.Facts.{IsFacts}
use Rattle.set_facts.specs.Table.{IsFactTable}
use Rattle.set_facts.proofs.Places.{facts_set}
use Rattle.set_facts.proofs.table.FactTable.facts.Goals as goal

pub known_at-requires : goal.known_at-requires
known_at-requires c = rw (c.deref.ensures.value, c.from-place.ensures, c.self.invariant.places, c.self.view_is) c.requires

pub invariant_of-self : goal.invariant_of-self
invariant_of-self c =
    let job = c.self.inside.job in
    let facts = c.self.inside.facts.items in
    let within : c.args.mask.0 < 2 ^ bend_count job = subst (λ (j : JobData). c.args.mask.0 < 2 ^ bend_count j) (sym c.self.view_is) c.requires in
    subst (λ (place : ℕ). IsFactTable job (slice_set facts place (Some c.of-facts.result))) (sym c.from-place.ensures)
    (facts_set job facts c.args.mask c.of-facts.result within c.of-facts.ensures c.self.invariant)

pub returns-in-Some-clause-facts : goal.returns-in-Some-clause-facts
returns-in-Some-clause-facts c =
    let facts = c.self.inside.facts.items in
    let at_place = ap (λ (xs : List (Option SetFacts)). slice_index_or xs c.from-place.result None) c.deref.ensures.value ∙ ap (λ (place : ℕ). slice_index_or facts place None) c.from-place.ensures in
    subst (λ (job : JobData). IsFacts job c.args.mask c.in-Some.facts) c.self.view_is
    (c.self.invariant.each c.args.mask c.in-Some.facts (sym at_place ∙ (sym c.known_at.ensures ∙ c.in-Some.is)))

pub returns-in-None-clause-facts : goal.returns-in-None-clause-facts
returns-in-None-clause-facts c = subst (λ (job : JobData). IsFacts job c.args.mask c.of-facts.result) c.self.view_is c.of-facts.ensures
