-- What an action changes: its group is folded, the other leads stay leads of the same groups, and fewer bends are left.
use Rattle.std.proofs.Common.{◌≡◌, inl, inr, ℕ, ◌+◌, ◌<◌, ◌≤◌, Bool, true, false, not, ◌&&◌, ◌||◌, ◌==◌, nat_lt, length, [], filter, arith, refl, sym, ◌∙◌, ap}
use Rattle.std.specs.List.{range_with_len, list_all}
use Rattle.std.proofs.lemmas.Bool.{and_parts, and_from, lt-ltb, le-ltb, cases_lt, not-true, not_from_false, not_from_true, false_from_ne_true, ne_eqb}
use Rattle.brake_base.specs.declared.mask.Mask.{Mask}
use Rattle.brake_base.specs.declared.stroke.Key.{Key}
use Rattle.brake_base.specs.declared.stroke.Action.{Action}
use Rattle.brake_base.specs.Masks.{has}
use Rattle.brake_base.proofs.Masks.{has_none}
use Rattle.brake_base.proofs.MaskNumbers.{has_mask_of, has_none_above}
use Rattle.job_setup.specs.Setup.{JobData, bend_count}
use Rattle.job_setup.specs.ValidJob.{IsJob}
use Rattle.job_setup.specs.StrokeGroup.{in_group, group_of, is_lead}
use Rattle.job_setup.proofs.GroupMasks.{has_group_of, group_of_fits}
use Rattle.handling_cost.specs.StepCost.{IsActionAt, IsFull, left, key_after}
use Rattle.handling_cost.specs.Bound.{leads_left}
use Rattle.handling_cost.proofs.Counts.{one_more, fewer, none_pass, all_of_range, range_from_all, at_most_all}
use Rattle.handling_cost.proofs.Mates.{grouped_back, grouped_flat, grouped_shared, grouped_range, grouped_self, regrouped}

-- a job has at most 12 bends
pub few_bends : (job : JobData) → IsJob job → bend_count job ≤ 12
few_bends job is_job = let few : length job.part.faces ≤ 13 = is_job.part.few_faces in omega (arith, few)

-- a lead is unfolded, and no lesser bend is in its group
pub record IsLead (job : JobData) (mask : Mask) (b : ℕ) : Type 0 where
  pub flat : has mask b ≡ false
  pub least : (c : ℕ) → 1 ≤ c → c ≤ bend_count job → c < b → in_group job (has mask) b c ≡ false

abbrev is_no_lesser : JobData → Mask → ℕ → ℕ → Bool
is_no_lesser job mask b c = not (nat_lt c b && in_group job (has mask) b c)

pub lead_is : (job : JobData) (mask : Mask) (b : ℕ) → is_lead job mask b ≡ true → IsLead job mask b
unfolding is_lead
lead_is job mask b lead =
    let parts = and_parts (not (has mask b)) (list_all (is_no_lesser job mask b) (range_with_len 1 (bend_count job))) lead in
    record {
      flat = not-true (has mask b) parts.0;
      least = λ c first last below.
          let none = not-true (nat_lt c b && in_group job (has mask) b c) (all_of_range (is_no_lesser job mask b) 1 (bend_count job) parts.1 c first (omega arith)) in
          rw (lt-ltb c b below) at none;
    }

pub lead_from : (job : JobData) (mask : Mask) (b : ℕ) → IsLead job mask b → is_lead job mask b ≡ true
unfolding is_lead
lead_from job mask b lead =
    and_from (not (has mask b)) (list_all (is_no_lesser job mask b) (range_with_len 1 (bend_count job))) (not_from_false (has mask b) lead.flat)
    (range_from_all (is_no_lesser job mask b) 1 (bend_count job) each)
  where
    each : (c : ℕ) → 1 ≤ c → c < 1 + bend_count job → is_no_lesser job mask b c ≡ true
    each c first last = elim (cases_lt c b) [
      | inl below ↦ let none : in_group job (has mask) b c ≡ false = lead.least c first (omega arith) below in rw (lt-ltb c b below, none) refl
      | inr above ↦ rw (le-ltb c b above) refl
    ]

pub has_zero : (mask : Mask) (c : ℕ) → c ≡ 0 → has mask c ≡ false
unfolding has
has_zero mask c is = rw is refl

-- the bends of a group's mask are exactly those in the group
pub group_bends : (job : JobData) → bend_count job ≤ 12 → (mask : Mask) (b : ℕ) → 1 ≤ b → b ≤ bend_count job → (c : ℕ) → has (group_of job mask b) c ≡ in_group job (has mask) b c
group_bends job few mask b first last c = elim (cases_lt c 1) [
  | inl below ↦ has_zero (group_of job mask b) c (omega arith) ∙ sym (outside (λ low high. omega arith))
  | inr above ↦ elim (cases_lt c 17) [
    | inl low ↦ has_group_of job mask b c above (omega arith)
    | inr high ↦ has_none_above (group_of job mask b) c (group_of_fits job mask b) (omega arith) ∙ sym (outside (λ one most. omega arith))
  ]
]
  where
    outside : (1 ≤ c → c ≤ bend_count job → ⊥) → in_group job (has mask) b c ≡ false
    outside not_in = false_from_ne_true (in_group job (has mask) b c) (λ within. let range = grouped_range job (has mask) job.setup.gang b c first last within in not_in range.0 range.1)

nonempty : (mask : Mask) (b : ℕ) → has mask b ≡ true → (mask.0 == 0) ≡ false
nonempty mask b some = ne_eqb mask.0 0 (λ none. let no : has mask b ≡ false = ap (λ (n : ℕ). has (record { 0 = n }) b) none ∙ has_none b in cc)

or_left : (s t : Bool) → (s || t) ≡ false → s ≡ false
or_left true t none = none
or_left false t none = refl

pub neither : (s t : Bool) → s ≡ false → t ≡ false → (s || t) ≡ false
neither s t first second = rw (first, second) refl

or_second : (s t : Bool) → t ≡ true → (s || t) ≡ true
or_second true t second = refl
or_second false t second = second

module _ (job : JobData) (few : bend_count job ≤ 12) (key : Key) (action : Action) (at : IsActionAt job key action) where
  -- the bends that are folded after the action
  pub folds : (c : ℕ) → 1 ≤ c → c ≤ bend_count job → has (key_after job key action).mask c ≡ (has key.mask c || in_group job (has key.mask) action.bend c)
  unfolding key_after
  folds c first last =
      has_mask_of (λ bend. has key.mask bend || has (group_of job key.mask action.bend) bend) c first (omega arith)
      ∙ ap (λ t. has key.mask c || t) (has_group_of job key.mask action.bend c first (omega arith))

  lead : IsLead job key.mask action.bend
  lead = lead_is job key.mask action.bend at.lead

  pub folds_own : has (key_after job key action).mask action.bend ≡ true
  folds_own =
      folds action.bend at.first at.last
      ∙ or_second (has key.mask action.bend) (in_group job (has key.mask) action.bend action.bend) (grouped_self job (has key.mask) job.setup.gang action.bend at.first at.last lead.flat)

  pub keeps_folded : (c : ℕ) → 1 ≤ c → c ≤ bend_count job → has key.mask c ≡ true → has (key_after job key action).mask c ≡ true
  keeps_folded c first last folded = folds c first last ∙ rw folded refl

  pub next_is_nonempty : ((key_after job key action).mask.0 == 0) ≡ false
  next_is_nonempty = nonempty (key_after job key action).mask action.bend folds_own

  -- less is left to fold
  pub fewer_left : left job (key_after job key action) < left job key
  unfolding left
  fewer_left =
      fewer (λ c. not (has (key_after job key action).mask c)) (λ c. not (has key.mask c)) 1 (bend_count job) action.bend
      (λ c first last unfolded. not_from_false (has key.mask c) (or_left (has key.mask c) (in_group job (has key.mask) action.bend c)
      (sym (folds c first (omega arith)) ∙ not-true (has (key_after job key action).mask c) unfolded)))
      at.first (omega (arith, at.last)) (not_from_true (has (key_after job key action).mask action.bend) folds_own) (not_from_false (has key.mask action.bend) lead.flat)

  module _ (b : ℕ) (first : 1 ≤ b) (last : b ≤ bend_count job) (other : b ≡ action.bend → ⊥) (before : IsLead job key.mask b) where
    -- another lead isn't in the action's group
    apart : in_group job (has key.mask) action.bend b ≡ false
    apart = false_from_ne_true (in_group job (has key.mask) action.bend b) (λ within.
        let back = grouped_back job (has key.mask) job.setup.gang action.bend b at.first at.last lead.flat within in
        elim (cases_lt b action.bend) [
          | inl below ↦ let no = lead.least b first last below in cc
          | inr above ↦ elim (cases_lt action.bend b) [
            | inl below ↦ let no = before.least action.bend at.first at.last below in cc
            | inr same ↦ other (omega arith)
          ]
        ])

    stays_flat : has (key_after job key action).mask b ≡ false
    stays_flat = folds b first last ∙ neither (has key.mask b) (in_group job (has key.mask) action.bend b) before.flat apart

    -- none of its group is folded
    spared : (c : ℕ) → in_group job (has key.mask) b c ≡ true → has (key_after job key action).mask c ≡ false
    spared c within =
        let gang = job.setup.gang in
        let range = grouped_range job (has key.mask) gang b c first last within in
        let flat = grouped_flat job (has key.mask) gang b c before.flat within in
        let out : in_group job (has key.mask) action.bend c ≡ false = false_from_ne_true (in_group job (has key.mask) action.bend c) (λ folded.
        let to_own = grouped_back job (has key.mask) gang action.bend c at.first at.last lead.flat folded in
        let to_other = grouped_back job (has key.mask) gang b c first last before.flat within in
        let both : in_group job (has key.mask) action.bend b ≡ true = grouped_shared job (has key.mask) gang c action.bend b to_own to_other in
        let no = apart in cc) in
        folds c range.0 range.1 ∙ neither (has key.mask c) (in_group job (has key.mask) action.bend c) flat out

    -- so its group stays the same, and it stays its lead
    pub same_group : (c : ℕ) → in_group job (has (key_after job key action).mask) b c ≡ in_group job (has key.mask) b c
    same_group c = regrouped job (has key.mask) (has (key_after job key action).mask) job.setup.gang b c (spared c) (λ low high folded. keeps_folded c low high folded)

    pub stays_lead : IsLead job (key_after job key action).mask b
    stays_lead = record { flat = stays_flat; least = λ c low high below. same_group c ∙ before.least c low high below }

  -- at most one lead fewer is left
  pub one_lead_less : length (leads_left job key.mask) ≤ 1 + length (leads_left job (key_after job key action).mask)
  one_lead_less =
      one_more (is_lead job key.mask) (is_lead job (key_after job key action).mask) 1 (bend_count job) action.bend
      (λ c first last other before. lead_from job (key_after job key action).mask c (stays_lead c first (omega arith) other (lead_is job key.mask c before)))

-- where every bend is folded no lead is left, and there is no action
pub full_has_no_lead : (job : JobData) (key : Key) → IsFull job key → (c : ℕ) → 1 ≤ c → c ≤ bend_count job → is_lead job key.mask c ≡ false
unfolding IsFull
full_has_no_lead job key full c first last = false_from_ne_true (is_lead job key.mask c) (λ lead. let flat = (lead_is job key.mask c lead).flat in let folded = full c first last in cc)

pub no_leads : (job : JobData) (key : Key) → IsFull job key → filter (is_lead job key.mask) (range_with_len 1 (bend_count job)) ≡ []
no_leads job key full = none_pass (is_lead job key.mask) 1 (bend_count job) (λ c first last. full_has_no_lead job key full c first (omega arith))

pub few_left : (job : JobData) → IsJob job → (key : Key) → left job key ≤ 12
unfolding left
few_left job is_job key = let all = at_most_all (λ c. not (has key.mask c)) 1 (bend_count job) in omega (arith, all, few_bends job is_job)

pub few_leads : (job : JobData) → IsJob job → (mask : Mask) → length (leads_left job mask) ≤ 12
few_leads job is_job mask = let all = at_most_all (is_lead job mask) 1 (bend_count job) in omega (arith, all, few_bends job is_job)
