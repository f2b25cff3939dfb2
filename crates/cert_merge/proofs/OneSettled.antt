-- There is one settled table: the greatest masks rest on the base alone, and each other on greater ones.
use Rattle.std.proofs.Common.{◌≡◌, inl, inr, ℕ, zero, suc, ◌+◌, ◌*◌, ◌^◌, ◌<◌, ◌≤◌, Bool, true, false, Option, Some, None, refl, sym, ◌∙◌, ap, subst, arith}
use Rattle.std.specs.Prelude.{◌⊎◌}
use Rattle.std.proofs.lemmas.Bool.{cases_lt, false≢true}
use Rattle.brake_base.specs.declared.mask.Mask.{Mask}
use Rattle.brake_base.specs.declared.stroke.Key.{Key}
use Rattle.brake_base.specs.declared.stroke.Action.{Action}
use Rattle.brake_base.specs.declared.stroke.Worth.{Worth}
use Rattle.brake_base.specs.declared.stroke.Worth.TheVariants.{Cost}
use Rattle.brake_base.specs.declared.reason.Reason.{Reason}
use Rattle.brake_base.specs.Worths.{IsAtMost}
use Rattle.brake_base.proofs.Worths.{at_most_both}
use Rattle.job_setup.specs.Setup.{JobData, bend_count, stage_count}
use Rattle.job_setup.specs.StrokeGroup.{is_lead}
use Rattle.handling_cost.specs.StepCost.{IsKeyOf}
use Rattle.handling_cost.specs.Bound.{bound_of}
use Rattle.cert_lines.specs.Lines.{action_at}
use Rattle.plan_lines.proofs.NumberedActions.{tried_at}
use Rattle.plan_cert.proofs.RowOrder.{no_row, row_of}
use Rattle.plan_lines.specs.LinesFit.{IsRow}
use Rattle.cert_merge.specs.Entries.{Settled, merged_at}
use Rattle.cert_merge.specs.Merged.{settled_at}
use Rattle.cert_merge.specs.Table.{TableData, IsTable}
use Rattle.cert_merge.specs.TableChecks.{proved_by}
use Rattle.cert_merge.specs.Settled.{IsNumberAt, IsFirstFor, IsFirstNoted, IsOpen, IsLeastWorth, capped, IsSettledBy, IsInRange, IsSettled, IsOneSettled}
use Rattle.cert_merge.specs.Settling.{with_said}
use Rattle.cert_merge.proofs.Orders.{reason_either}
use Rattle.cert_merge.proofs.MergedClosed.{said_have}
use Rattle.cert_merge.proofs.MergeLaws.{merge_laws}
use Rattle.cert_merge.proofs.TableChecking.{table_rows, row_key}
use Rattle.cert_merge.proofs.SettledSets.{settled_moved}
use Rattle.cert_merge.proofs.SettledTable.{said_proves}

-- ---- of a key one thing is settled by what is proved of others
one_first : (job : JobData) (mask : Mask) (action : Action) (a b : Option Reason) → IsFirstFor job mask action a → IsFirstFor job mask action b → a ≡ b
one_first job mask action None None first second = refl
one_first job mask action None (Some r) first second = absurd (first r second.holds)
one_first job mask action (Some r) None first second = absurd (second r first.holds)
one_first job mask action (Some r) (Some s) first second = elim (reason_either r s) [
  | inl before ↦ absurd (second.first r first.holds before)
  | inr (inl same) ↦ ap Some same
  | inr (inr after) ↦ absurd (first.first s second.holds after)
]

is_number : (job : JobData) (key : Key) (number : ℕ) → IsNumberAt job key number ⊎ (IsNumberAt job key number → ⊥)
is_number job key number = elim (cases_lt number (2 * bend_count job * stage_count job)) [
  | inl below ↦ by_lead below (is_lead job key.mask (action_at (stage_count job) number).bend) refl
  | inr past ↦ inr (λ at. let less = at.0 in omega (arith, less, past))
]
  where
    by_lead : number < 2 * bend_count job * stage_count job → (b : Bool) → is_lead job key.mask (action_at (stage_count job) number).bend ≡ b → IsNumberAt job key number ⊎ (IsNumberAt job key number → ⊥)
    by_lead below true e = inl (below, tried_at job key number below e)
    by_lead below false e = inr (λ at. false≢true (sym e ∙ at.1.lead))

nothing : {X : Type 0} (o : Option X) → ((x : X) → o ≡ Some x → ⊥) → o ≡ None
nothing None never = refl
nothing (Some x) never = absurd (never x refl)

one_noted : (job : JobData) (key : Key) (number : ℕ) (a b : Option Reason) → IsFirstNoted job key number a → IsFirstNoted job key number b → a ≡ b
one_noted job key number a b first second = elim (is_number job key number) [
  | inl at ↦ one_first job key.mask (action_at (stage_count job) number) a b (first.here at) (second.here at)
  | inr none ↦ nothing a (λ reason e. none (first.only reason e)) ∙ sym (nothing b (λ reason e. none (second.only reason e)))
]

least_low : (A : Worth → Type 0) (a b : Worth) → IsLeastWorth A a → IsLeastWorth A b → IsAtMost a b
least_low A a b first second = elim second.one [
  | inl blocked ↦ subst (IsAtMost a) (sym blocked) tt
  | inr among ↦ first.least b among
]

module _ (job : JobData) (P : Key → Worth) (key : Key) (a b : Settled) (first : IsSettledBy job P key a) (second : IsSettledBy job P key b) where
  same_reasons : a.reasons ≡ b.reasons
  same_reasons i number = one_noted job key number (a.reasons number) (b.reasons number) (first.noted number) (second.noted number) i

  same_least : first.least ≡ second.least
  same_least =
      let moved = subst (λ (r : ℕ → Option Reason). IsLeastWorth (IsOpen job P key r) first.least) same_reasons first.is_least in
      at_most_both first.least second.least
      (least_low (IsOpen job P key b.reasons) first.least second.least moved second.is_least)
      (least_low (IsOpen job P key b.reasons) second.least first.least second.is_least moved)

  pub one_said : a ≡ b
  one_said =
      let worth : a.worth ≡ b.worth = first.worth ∙ (ap capped same_least ∙ sym second.worth) in
      λ i. record { worth = worth i; reasons = same_reasons i }

-- a key of which a table says something is one of the job
pub key_of_row : (job : JobData) (x : TableData) → IsTable job x → (key : Key) (said : Settled) → settled_at x key ≡ Some said → IsKeyOf job key
key_of_row job x is_x key said e =
    let row = row_of job is_x.valid x.rows (table_rows job x is_x) key said.worth (said_have job x is_x key said e) in
    row_key job (record { key = key; worth = said.worth }) (subst (IsRow job) (row.2 no_row) (is_x.rows.each_row row.0 no_row row.1))

-- ---- so of each key, from the greatest mask downwards
module _ (job : JobData) (base t u : TableData) (low high : ℕ) (is_t : IsTable job t) (is_u : IsTable job u) (of_t : IsSettled job base low high t) (of_u : IsSettled job base low high u) where
  proves_same : (key : Key) → settled_at t key ≡ settled_at u key → proved_by job t.rows key ≡ proved_by job u.rows key
  proves_same key same =
      said_proves job t is_t key ∙ (ap (with_said (Cost (bound_of job key))) same ∙ sym (said_proves job u is_u key))

  by_new : (key : Key) → settled_at of_t.new key ≡ settled_at of_u.new key → settled_at t key ≡ settled_at u key
  by_new key same = of_t.merged key ∙ (ap (merged_at (settled_at base key)) same ∙ sym (of_u.merged key))

  outside : (key : Key) → (IsInRange job low high key → ⊥) → settled_at t key ≡ settled_at u key
  outside key out =
      by_new key
      (nothing (settled_at of_t.new key) (λ said e. out (of_t.new_rows.only key said e)) ∙ sym (nothing (settled_at of_u.new key) (λ said e. out (of_u.new_rows.only key said e))))

  -- what is said of the keys of so many masks from the greatest is the same
  abbrev AreSame : ℕ → Type 0
  AreSame fuel = (key : Key) → IsKeyOf job key → 2 ^ bend_count job ≤ key.mask.0 + fuel → settled_at t key ≡ settled_at u key

  inside : (fuel : ℕ) → AreSame fuel → (key : Key) → 2 ^ bend_count job ≤ key.mask.0 + suc fuel → IsInRange job low high key → settled_at t key ≡ settled_at u key
  inside fuel before key from range =
      let one = of_t.new_rows.each key range in
      let two = of_u.new_rows.each key range in
      let P : Key → Worth = proved_by job t.rows in
      let moved : IsSettledBy job P key two.0 =
      settled_moved job is_t.valid (proved_by job u.rows) P key two.0 range.of_job (λ k ranged more. sym (proves_same k (before k ranged (omega (arith, from, more))))) two.2 in
      by_new key (one.1 ∙ (ap Some (one_said job P key one.0 two.0 one.2 moved) ∙ sym two.1))

  all_same : (fuel : ℕ) → AreSame fuel
  all_same zero key ranged from = let mask = ranged.mask in absurd (omega (arith, from, mask))
  all_same (suc fuel) key ranged from = elim (cases_lt key.mask.0 low) [
    | inl early ↦ outside key (λ range. let first = range.first in omega (arith, early, first))
    | inr start ↦ elim (cases_lt high key.mask.0) [
      | inl late ↦ outside key (λ range. let last = range.last in omega (arith, late, last))
      | inr end ↦ inside fuel (all_same fuel) key from (record { of_job = ranged; first = start; last = end })
    ]
  ]

  pub one_settled : t ≡ u
  one_settled = merge_laws.one job t t t u is_t is_u (merge_laws.keeps t) (λ key. sym (same key) ∙ merge_laws.keeps t key)
    where
      same : (key : Key) → settled_at t key ≡ settled_at u key
      same key = by_said (settled_at t key) (settled_at u key) refl refl
        where
          by_said : (a b : Option Settled) → settled_at t key ≡ a → settled_at u key ≡ b → settled_at t key ≡ settled_at u key
          by_said (Some said) b e f = all_same (2 ^ bend_count job) key (key_of_row job t is_t key said e) (omega arith)
          by_said None (Some said) e f = all_same (2 ^ bend_count job) key (key_of_row job u is_u key said f) (omega arith)
          by_said None None e f = e ∙ sym f

pub settled_one : (job : JobData) (base t : TableData) (low high : ℕ) → IsTable job t → IsSettled job base low high t → IsOneSettled job base low high t
settled_one job base t low high is_t is u is_u of_u = one_settled job base u t low high is_u is_t of_u is
