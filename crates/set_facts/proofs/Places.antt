-- What stands in the table.
use Rattle.std.proofs.Common.{◌≡◌, inl, inr, ℕ, zero, suc, replicate, ◌^◌, ◌<◌, List, length, set, get_or, Option, Some, None, sym, ◌∙◌, ap, subst, length-set}
use Rattle.std.proofs.lemmas.Bool.Decides.{eqb_tells}
use Rattle.std.proofs.lemmas.List.{length-replicate, get_or-set_same, get_or-set_other}
use Rattle.std.proofs.lemmas.Option.{same_Some, none-some}
use Rattle.brake_base.specs.declared.mask.Mask.{Mask}
use Rattle.job_setup.specs.Setup.{JobData, bend_count}
use Rattle.set_facts.specs.declared.facts.SetFacts.{SetFacts}
use Rattle.set_facts.specs.Facts.{IsFacts}
use Rattle.set_facts.specs.Table.{IsFactTable}

same_mask : (a b : Mask) → a.0 ≡ b.0 → a ≡ b
same_mask a b same = λ i. record { 0 = same i }

-- what is found for a set is put at its place
pub facts_set : (job : JobData) (facts : List (Option SetFacts)) (mask : Mask) (found : SetFacts) → mask.0 < 2 ^ bend_count job → IsFacts job mask found → IsFactTable job facts → IsFactTable job (set facts mask.0 (Some found))
facts_set job facts mask found within is table =
    record {
      places = length-set facts mask.0 (Some found) ∙ table.places;
      each = λ other of_set read. elim (eqb_tells other.0 mask.0) [
        | inl here ↦
            let inside : mask.0 < length facts = rw table.places within in
            let one : Some found ≡ Some of_set =
            sym (get_or-set_same facts mask.0 (Some found) None inside) ∙ (ap (λ (n : ℕ). get_or (set facts mask.0 (Some found)) n None) (sym here.1) ∙ read) in
            subst (λ (m : Mask). IsFacts job m of_set) (same_mask mask other (sym here.1)) (subst (IsFacts job mask) (same_Some found of_set one) is)
        | inr there ↦ table.each other of_set (sym (get_or-set_other facts mask.0 other.0 (Some found) None there.1) ∙ read)
      ];
    }

none_read : (n i : ℕ) (found : SetFacts) → get_or (replicate n None) i None ≡ Some found → ⊥
none_read zero i found read = none-some found read
none_read (suc n) zero found read = none-some found read
none_read (suc n) (suc i) found read = none_read n i found read

-- a table in which nothing has been found
pub table_starts : (job : JobData) (n : ℕ) → n ≡ 2 ^ bend_count job → IsFactTable job (replicate n None)
table_starts job n all = record { places = length-replicate n None ∙ all; each = λ mask found read. absurd (none_read n mask.0 found read) }
