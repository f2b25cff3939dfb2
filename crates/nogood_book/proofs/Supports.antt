-- The support as a set: its bends, and that sets agree on it.
use Rattle.std.proofs.Common.{◌≡◌, ◌⊎◌, inl, inr, ℕ, zero, suc, ◌-◌, ◌^◌, ◌<◌, ◌≤◌, Bool, true, false, ◌&&◌, ◌==◌, nat_le, IsTrue, refl, sym, ◌∙◌, ap, arith}
use Rattle.std.specs.Int.Bits.{bit_and}
use Rattle.std.proofs.Math.Pow.{pow_pos}
use Rattle.std.proofs.lemmas.Bool.{cases_lt, le-leb, leb-true, and_from, and_parts, or_left, false_from_ne_true}
use Rattle.std.proofs.lemmas.Nat.{and_le_r}
use Rattle.brake_base.specs.declared.mask.Mask.{Mask}
use Rattle.brake_base.specs.declared.reason.Reason.{Reason}
use Rattle.brake_base.specs.Masks.{has, mask_of}
use Rattle.brake_base.proofs.Masks.{full_is, subset_is}
use Rattle.brake_base.proofs.MaskNumbers.{has_mask_of, mask_of_fits, has_none_above, is_mask_of}
use Rattle.job_setup.specs.Setup.{JobData, bend_count}
use Rattle.job_setup.specs.StrokeGroup.{in_group}
use Rattle.handling_cost.proofs.Mates.{grouped_self}
use Rattle.box_support.proofs.Sets.{none_at_zero, none_past}
use Rattle.nogood_book.specs.Support.{is_bend, is_in_support, support_of, AgreeOnSupport}
use Rattle.nogood_book.specs.Nogood.{IsSetOf}

-- ---- bends past the last
-- each bend of a set is one of the job's, or none
is_bend_or_none : (job : JobData) (mask : Mask) → IsSetOf job mask → (bend : ℕ) → IsTrue (is_bend job bend) ⊎ (has mask bend ≡ false)
is_bend_or_none job mask set zero = inr (none_at_zero mask)
is_bend_or_none job mask set (suc k) = elim (cases_lt (bend_count job) (suc k)) [
  | inl past ↦ inr (none_past mask (bend_count job) (suc k) set past)
  | inr last ↦ inl (and_from (nat_le 1 (suc k)) (nat_le (suc k) (bend_count job)) (le-leb 1 (suc k) (omega arith)) (le-leb (suc k) (bend_count job) last))
]

pub bend_is : (job : JobData) (bend : ℕ) → 1 ≤ bend → bend ≤ bend_count job → is_bend job bend ≡ true
bend_is job bend first last = and_from (nat_le 1 bend) (nat_le bend (bend_count job)) (le-leb 1 bend first) (le-leb bend (bend_count job) last)

bend_range : (job : JobData) (bend : ℕ) → is_bend job bend ≡ true → (1 ≤ bend) × (bend ≤ bend_count job)
bend_range job bend is = let parts = and_parts (nat_le 1 bend) (nat_le bend (bend_count job)) is in (leb-true 1 bend parts.0, leb-true bend (bend_count job) parts.1)

-- a set without a bend past the job's last is one of its bends
pub set_by_bends : (job : JobData) → bend_count job ≤ 12 → (mask : Mask) → mask.0 < 2 ^ 16 → ((c : ℕ) → IsTrue (has mask c) → IsTrue (is_bend job c)) → IsSetOf job mask
set_by_bends job few mask fits bends =
    let full : Mask = record { 0 = 2 ^ bend_count job - 1 } in
    let within : bit_and mask.0 (2 ^ bend_count job - 1) ≡ mask.0 = (subset_is mask full fits).1 (λ c member. full_is (bend_count job) c few ∙ bends c member) in
    let most = and_le_r mask.0 (2 ^ bend_count job - 1) in
    let some : 0 < 2 ^ bend_count job = pow_pos (bend_count job) in
    omega (arith, within, most, some)

-- ---- the bends of the support
-- the bends of a set of some of the bends up to 12
has_few : (p : ℕ → Bool) (bend : ℕ) → p 0 ≡ false → ((c : ℕ) → 12 < c → p c ≡ false) → has (mask_of p) bend ≡ p bend
has_few p zero none few = none_at_zero (mask_of p) ∙ sym none
has_few p (suc k) none few = elim (cases_lt k 16) [
  | inl low ↦ has_mask_of p (suc k) (omega arith) (omega arith)
  | inr high ↦ has_none_above (mask_of p) (suc k) (mask_of_fits p) (omega arith) ∙ sym (few (suc k) (omega arith))
]

pub no_bend_past : (job : JobData) (c : ℕ) (other : Bool) → bend_count job < c → (is_bend job c && other) ≡ false
no_bend_past job c other past = false_from_ne_true (is_bend job c && other) (λ both. let range = bend_range job c (and_parts (is_bend job c) other both).0 in omega (arith, range.1))

pub no_bend_0 : (job : JobData) (other : Bool) → (is_bend job 0 && other) ≡ false
no_bend_0 job other = false_from_ne_true (is_bend job 0 && other) (λ both. let range = bend_range job 0 (and_parts (is_bend job 0) other both).0 in omega (arith, range.0))

pub has_support : (job : JobData) → bend_count job ≤ 12 → (b : ℕ) (reason : Reason) (bend : ℕ) → has (support_of job b reason) bend ≡ (is_bend job bend && is_in_support job b reason bend)
unfolding support_of
has_support job few b reason bend =
    has_few (λ c. is_bend job c && is_in_support job b reason c) bend (no_bend_0 job (is_in_support job b reason 0)) (λ c past. no_bend_past job c (is_in_support job b reason c) (omega (arith, few, past)))

-- the bends of the support that pass a test
abbrev pub part_of : JobData → ℕ → Reason → (ℕ → Bool) → Mask
part_of job b reason p = mask_of (λ bend. has (support_of job b reason) bend && p bend)

pub has_part : (job : JobData) → bend_count job ≤ 12 → (b : ℕ) (reason : Reason) (p : ℕ → Bool) (bend : ℕ) → has (part_of job b reason p) bend ≡ (has (support_of job b reason) bend && p bend)
has_part job few b reason p bend =
    has_few (λ c. has (support_of job b reason) c && p c) bend (none 0 (none_at_zero (support_of job b reason)))
    (λ c past. none c (has_support job few b reason c ∙ no_bend_past job c (is_in_support job b reason c) (omega (arith, few, past))))
  where
    none : (c : ℕ) → has (support_of job b reason) c ≡ false → (has (support_of job b reason) c && p c) ≡ false
    none c without = ap (λ t. t && p c) without

pub part_fits : (job : JobData) (b : ℕ) (reason : Reason) (p : ℕ → Bool) → (part_of job b reason p).0 < 2 ^ 16
part_fits job b reason p = mask_of_fits (λ bend. has (support_of job b reason) bend && p bend)

pub part_is : (job : JobData) → bend_count job ≤ 12 → (b : ℕ) (reason : Reason) (p : ℕ → Bool) → IsSetOf job (part_of job b reason p)
part_is job few b reason p = set_by_bends job few (part_of job b reason p) (part_fits job b reason p) (λ c member.
    let supported = and_parts (has (support_of job b reason) c) (p c) (sym (has_part job few b reason p c) ∙ member) in
    (and_parts (is_bend job c) (is_in_support job b reason c) (sym (has_support job few b reason c) ∙ supported.0)).0)

-- a set with those bends is theirs
pub is_part : (job : JobData) (b : ℕ) (reason : Reason) (support mask : Mask) (p : ℕ → Bool) → support ≡ support_of job b reason → mask.0 < 2 ^ 16 → ((bend : ℕ) → has mask bend ≡ (has support bend && p bend)) → mask ≡ part_of job b reason p
is_part job b reason support mask p same fits bends =
    is_mask_of mask (λ bend. has (support_of job b reason) bend && p bend) fits (λ bend first last. bends bend ∙ ap (λ (m : Mask). has m bend && p bend) same)

-- a set with the bends of the support is the support
pub is_support : (job : JobData) (b : ℕ) (reason : Reason) (mask : Mask) → mask.0 < 2 ^ 16 → ((bend : ℕ) → has mask bend ≡ (is_bend job bend && is_in_support job b reason bend)) → mask ≡ support_of job b reason
unfolding support_of
is_support job b reason mask fits bends = is_mask_of mask (λ bend. is_bend job bend && is_in_support job b reason bend) fits (λ bend first last. bends bend)

-- a bend is in the supports of the reasons against its own strokes
pub own_supports : (job : JobData) (b : ℕ) (reason : Reason) → 1 ≤ b → b ≤ bend_count job → is_in_support job b reason b ≡ true
own_supports job b reason first last = or_left (in_group job (λ c. false) b b) _ (grouped_self job (λ c. false) job.setup.gang b first last refl)

-- ---- agreement
-- sets of the job's bends that agree on the bends of the support's set agree on the support
pub agree_by_set : (job : JobData) → bend_count job ≤ 12 → (b : ℕ) (reason : Reason) (s t : Mask) → IsSetOf job s → IsSetOf job t
    → ((bend : ℕ) → IsTrue (has (support_of job b reason) bend) → has s bend ≡ has t bend) → AgreeOnSupport job b reason s t
agree_by_set job few b reason s t of_s of_t agree bend member = elim (is_bend_or_none job s of_s bend) [
  | inl is ↦ agree bend (has_support job few b reason bend ∙ and_from (is_bend job bend) (is_in_support job b reason bend) is member)
  | inr none ↦ elim (is_bend_or_none job t of_t bend) [
    | inl is ↦ agree bend (has_support job few b reason bend ∙ and_from (is_bend job bend) (is_in_support job b reason bend) is member)
    | inr neither ↦ none ∙ sym neither
  ]
]
