use Rattle.std.proofs.Common.{◌≡◌, List, Option, Some, None, refl, sym, subst}
use Rattle.job_setup.specs.Setup.{JobData}
use Rattle.set_facts.specs.declared.facts.SetFacts.{SetFacts}
use Rattle.set_facts.specs.Table.{IsFactTable}
use Rattle.set_facts.proofs.Places.{table_starts}
use Rattle.set_facts.proofs.table.FactTable.open.Goals as goal

none_alone : (IsClone : Option SetFacts → Type 0) → ((found : SetFacts) → IsClone (Some found) → ⊥) → (kept : Option SetFacts) → IsClone kept → kept ≡ None
none_alone IsClone never None of = refl
none_alone IsClone never (Some found) of = absurd (never found of)

pub invariant_of-result : goal.invariant_of-result
invariant_of-result c =
    let job = c.args.job.now in
    let none = c.in_ok-facts.ensures.items_if_clones_equal (none_alone _ (λ found of. of)) in
    let empty = subst (λ (facts : List (Option SetFacts)). IsFactTable job facts) (sym none) (table_starts job c.set_count.result c.set_count.ensures.value) in
    subst (λ (j : JobData). IsFactTable j c.in_ok-facts.facts.items) (sym c.copy.ensures.value) empty
