-- What is kept by number, as reasons against actions; and the actions that can be tried.
use Rattle.std.proofs.Common.{◌≡◌, ℕ, replicate, ◌*◌, ◌<◌, IsTrue, List, set, get_or, Option, Some, None, inl, inr, zero, suc, [], ◌∷◌, sym, ◌∙◌, ap, subst, refl}
use Rattle.brake_base.specs.declared.mask.Mask.{Mask}
use Rattle.brake_base.specs.declared.stroke.Key.{Key}
use Rattle.brake_base.specs.declared.reason.Reason.{Reason}
use Rattle.job_setup.specs.Setup.{JobData, bend_count, stage_count}
use Rattle.job_setup.specs.StrokeGroup.{is_lead}
use Rattle.handling_cost.specs.StepCost.{IsActionAt}
use Rattle.handling_cost.specs.Plan.{IsReasonFor}
use Rattle.cert_lines.specs.Lines.{action_at}
use Rattle.plan_lines.proofs.ActionNumbers.{bend_of_number}
use Rattle.std.proofs.lemmas.Bool.{cases_eq}
use Rattle.std.proofs.lemmas.List.{get_or-set_other}
use Rattle.std.proofs.lemmas.Option.{same_Some, none-some}

-- of nothing nothing is kept
pub none_at : {A : Type 0} (n number : ℕ) → ◌≡◌ {A = Option A} (get_or (replicate n None) number None) None
none_at zero number = refl
none_at (suc n) zero = refl
none_at (suc n) (suc number) = none_at n number

module _ {A : Type 0} (P : ℕ → A → Type 0) where
  -- it holds of each that is kept
  abbrev pub AreKept : List (Option A) → Type 0
  AreKept kept = (number : ℕ) (a : A) → get_or kept number None ≡ Some a → P number a

  -- of nothing that is kept
  pub none_kept : (n : ℕ) → AreKept (replicate n None)
  none_kept n number a read = absurd (none-some a (sym (none_at n number) ∙ read))

  read_back : (kept : List (Option A)) (number : ℕ) (a found : A) → get_or (set kept number (Some a)) number None ≡ Some found → Some a ≡ Some found
  read_back [] zero a found read = absurd (none-some found read)
  read_back [] (suc number) a found read = absurd (none-some found read)
  read_back (other ∷ kept) zero a found read = read
  read_back (other ∷ kept) (suc number) a found read = read_back kept number a found read

  -- of one more
  pub one_kept : (kept : List (Option A)) (number : ℕ) (a : A) → P number a → AreKept kept → AreKept (set kept number (Some a))
  one_kept kept number a is are other found read = elim (cases_eq other number) [
    | inl here ↦
        let one = read_back kept number a found (ap (λ (n : ℕ). get_or (set kept number (Some a)) n None) (sym here) ∙ read) in
        subst (λ (n : ℕ). P n found) (sym here) (subst (P number) (same_Some a found one) is)
    | inr apart ↦ are other found (sym (get_or-set_other kept number other (Some a) None apart) ∙ read)
  ]

-- the action of a number whose bend is a lead can be tried
pub tried_at : (job : JobData) (key : Key) (number : ℕ) → number < 2 * bend_count job * stage_count job → IsTrue (is_lead job key.mask (action_at (stage_count job) number).bend) → IsActionAt job key (action_at (stage_count job) number)
tried_at job key number below lead =
    let ranged = bend_of_number (bend_count job) (stage_count job) number below in record { first = ranged.0; last = ranged.1; stage = ranged.2; lead = lead }

-- reasons that hold against actions, by their numbers
abbrev pub AreHeldAt : JobData → Mask → List (Option Reason) → Type 0
AreHeldAt job mask held = (number : ℕ) (reason : Reason) → get_or held number None ≡ Some reason → IsReasonFor job mask (action_at (stage_count job) number) reason

pub held_none : (job : JobData) (mask : Mask) (n : ℕ) → AreHeldAt job mask (replicate n None)
held_none job mask n = none_kept (λ number reason. IsReasonFor job mask (action_at (stage_count job) number) reason) n

pub held_on : (job : JobData) (mask : Mask) (held : List (Option Reason)) (number : ℕ) (reason : Reason) → IsReasonFor job mask (action_at (stage_count job) number) reason → AreHeldAt job mask held
    → AreHeldAt job mask (set held number (Some reason))
held_on job mask held number reason is known = one_kept (λ n r. IsReasonFor job mask (action_at (stage_count job) n) r) held number reason is known
