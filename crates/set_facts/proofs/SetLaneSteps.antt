-- What belongs to a set, from what belongs to the set after the stroke of its least unfolded bend.
use Rattle.std.proofs.Common.{◌≡◌, inl, inr, ℕ, ◌+◌, ◌^◌, ◌<◌, ◌≤◌, Bool, true, false, not, ◌&&◌, ◌||◌, ◌==◌, nat_le, List, [], ◌∷◌, length, map, filter, get_or, arith, refl, sym, ◌∙◌, ap}
use Rattle.std.specs.Prelude.{max, slice_index_or}
use Rattle.std.specs.List.{range_with_len}
use Rattle.std.specs.Int.Bits.{bit_and}
use Rattle.std.proofs.Math.Pow.{pow_mono}
use Rattle.std.proofs.lemmas.Bool.{cases_lt, le-leb, leb-true, and_parts, not-true, false_from_ne_true}
use Rattle.std.proofs.lemmas.Bool.Decides.{eqb_tells}
use Rattle.std.proofs.lemmas.Nat.{and_le_r}
use Rattle.brake_base.specs.declared.mask.Mask.{Mask}
use Rattle.brake_base.specs.declared.stroke.Action.{Action}
use Rattle.brake_base.specs.declared.stroke.Back.TheVariants.{Parent}
use Rattle.brake_base.specs.Masks.{has, union, IsEmpty, IsSubset, IsLeast}
use Rattle.brake_base.proofs.Masks.{subset_is}
use Rattle.brake_base.proofs.MaskNumbers.{has_mask_of, has_none_above}
use Rattle.job_setup.specs.Setup.{JobData, bend_count, stage_count}
use Rattle.job_setup.specs.ValidJob.{IsJob}
use Rattle.job_setup.specs.StageOf.{stage_of}
use Rattle.job_setup.specs.Reasons.{meets}
use Rattle.job_setup.specs.StrokeGroup.{in_group, group_of, is_lead}
use Rattle.handling_cost.specs.StepCost.{IsActionAt, IsFull, key_after}
use Rattle.handling_cost.specs.Bound.{leads_left, meeting_stages, nearest, greatest, farthest, bound_with, bound_of}
use Rattle.handling_cost.proofs.Counts.{filter_same}
use Rattle.handling_cost.proofs.Mates.{grouped_flat}
use Rattle.handling_cost.proofs.Actions.{IsLead, lead_from, few_bends, folds_own, has_zero, full_has_no_lead, no_leads}
use Rattle.handling_cost.proofs.Keys.{some_stage, next_in_range}
use Rattle.set_facts.specs.Facts.{AreLeads, HasNoneBeyond}
use Rattle.set_facts.specs.FirstLeft.{IsFirstLeft, AreMeeting, AreNearest}
use Rattle.set_facts.specs.LaneFacts.{key_at, HasBounds, HasFarthest}
use Rattle.set_facts.proofs.LeadSteps.{clash, others_stay, leads_after, farthest_after}
use Rattle.set_facts.proofs.LaneTables.{lanes_by_stage}

-- the first stroke of a bend
abbrev pub stroke_of : ℕ → Action
stroke_of bend = record { bend = bend; back = Parent; stage = 0 }

module _ (job : JobData) (is_job : IsJob job) (mask : Mask) (bend : ℕ) (left : IsFirstLeft job mask bend) where
  -- the least unfolded bend is a lead: each lesser bend is folded, so in no group
  first_lead : IsLead job mask bend
  first_lead = record {
    flat = left.flat;
    least = λ c low high below. false_from_ne_true (in_group job (has mask) bend c) (λ member.
        clash (has mask c) (grouped_flat job (has mask) job.setup.gang bend c left.flat member) (left.least c low below));
  }

  pub may_stroke : IsActionAt job (key_at mask 0) (stroke_of bend)
  may_stroke = record { first = left.first; last = left.last; stage = some_stage job is_job; lead = lead_from job mask bend first_lead }

  pub after_is : (key_after job (key_at mask 0) (stroke_of bend)).mask ≡ union mask (group_of job mask bend)
  unfolding key_after
  after_is = refl

  -- the set after it has a greater number, within those of the job's sets
  module _ (within : mask.0 < 2 ^ bend_count job) where
    pub after_within : (union mask (group_of job mask bend)).0 < 2 ^ bend_count job
    after_within = rw (sym after_is) (next_in_range job is_job (key_at mask 0) (stroke_of bend) (record { mask = within; attitude = omega arith; stage = some_stage job is_job }) may_stroke).mask

    small : mask.0 < 2 ^ 16
    small = let most : 2 ^ bend_count job ≤ 2 ^ 12 = pow_mono (few_bends job is_job) in omega (arith, within, most)

    keeps : IsSubset mask (union mask (group_of job mask bend))
    keeps c member = elim (cases_lt c 1) [
      | inl none ↦ absurd (clash (has mask c) (has_zero mask c (omega (arith, none))) member)
      | inr some ↦ elim (cases_lt 16 c) [
        | inl past ↦ absurd (clash (has mask c) (has_none_above mask c small past) member)
        | inr low ↦ has_mask_of (λ b. has mask b || has (group_of job mask bend) b) c some (omega (arith, low)) ∙ rw member refl
      ]
    ]

    differs : mask.0 ≡ (union mask (group_of job mask bend)).0 → ⊥
    differs same =
        let folded : has (union mask (group_of job mask bend)) bend ≡ true = ap (λ (m : Mask). has m bend) (sym after_is) ∙ folds_own job (few_bends job is_job) (key_at mask 0) (stroke_of bend) may_stroke in
        clash (has mask bend) left.flat (ap (λ (n : ℕ). has (record { 0 = n }) bend) same ∙ folded)

    pub after_is_greater : mask.0 + 1 ≤ (union mask (group_of job mask bend)).0
    after_is_greater =
        let after = union mask (group_of job mask bend) in
        let both : bit_and mask.0 after.0 ≡ mask.0 = (subset_is mask after small).1 keeps in
        let low = and_le_r mask.0 after.0 in
        elim (cases_lt mask.0 after.0) [
          | inl less ↦ omega (arith, less)
          | inr more ↦ absurd (differs (omega (arith, both, low, more)))
        ]

  -- the leads, their number and the farthest distance, from those after the stroke
  pub leads_before : (after with : Mask) → AreLeads job (union mask (group_of job mask bend)) after → ((other : ℕ) → has with other ≡ (has after other || (other == bend))) → AreLeads job mask with
  leads_before after with are is c low high = elim (eqb_tells c bend) [
    | inl here ↦ is c ∙ second (has after c) (c == bend) here.0 ∙ sym (ap (is_lead job mask) here.1 ∙ lead_from job mask bend first_lead)
    | inr there ↦ is c ∙ first (has after c) (c == bend) there.0 ∙ (are c low high
        ∙ (sym (ap (λ (m : Mask). is_lead job m c) after_is) ∙ sym (others_stay job (few_bends job is_job) (key_at mask 0) (stroke_of bend) may_stroke c low high there.1)))
  ]
    where
      second : (s t : Bool) → t ≡ true → (s || t) ≡ true
      second true t is = refl
      second false t is = is

      first : (s t : Bool) → t ≡ false → (s || t) ≡ s
      first true t is = refl
      first false t is = is

  pub none_beyond_before : (after with : Mask) → HasNoneBeyond job after → ((other : ℕ) → has with other ≡ (has after other || (other == bend))) → HasNoneBeyond job with
  none_beyond_before after with none is c past = elim (eqb_tells c bend) [
    | inl here ↦ absurd (let same = here.1 in let last = left.last in omega (arith, past, same, last))
    | inr there ↦ is c ∙ rw (none c past, there.0) refl
  ]

  left_after : leads_left job mask ≡ bend ∷ leads_left job (union mask (group_of job mask bend))
  left_after = leads_after job (few_bends job is_job) (key_at mask 0) (stroke_of bend) may_stroke left.least ∙ ap (λ (m : Mask). bend ∷ leads_left job m) after_is

  pub count_before : length (leads_left job mask) ≡ length (leads_left job (union mask (group_of job mask bend))) + 1
  count_before = let count = ap length left_after in omega (arith, count)

  pub farthest_before : (from : ℕ) → farthest job mask from ≡ max (nearest from (meeting_stages job mask bend)) (farthest job (union mask (group_of job mask bend)) from)
  farthest_before from =
      farthest_after job (few_bends job is_job) (key_at mask 0) (stroke_of bend) may_stroke left.least from
      ∙ ap (λ (m : Mask). max (nearest from (meeting_stages job mask bend)) (farthest job m from)) after_is

  -- the same of what is kept
  pub count_joined : (count : ℕ) → count ≡ length (leads_left job (union mask (group_of job mask bend))) → count + 1 ≡ length (leads_left job mask)
  count_joined count is = ap (λ (n : ℕ). n + 1) is ∙ sym count_before

  pub farthest_joined : (ways after here : List ℕ) → AreNearest job mask bend ways → HasFarthest job (union mask (group_of job mask bend)) after
      → ((stage d : ℕ) → stage < 6 → get_or here stage d ≡ max (get_or ways stage d) (get_or after stage d)) → HasFarthest job mask here
  farthest_joined ways after here near are is stage d below =
      let few = is_job.setup.stages.few_stages in
      is stage d (omega (arith, below, few)) ∙ ((λ i. max (near stage d below i) (are stage d below i)) ∙ sym (farthest_before stage))

-- where every bend is folded no lead is left, and no way is far
module _ (job : JobData) (mask : Mask) (full : IsFull job (key_at mask 0)) where
  pub no_lead_left : (empty : Mask) → IsEmpty empty → AreLeads job mask empty
  no_lead_left empty none c low high = none c ∙ sym (full_has_no_lead job (key_at mask 0) full c low high)

  none_left : leads_left job mask ≡ []
  none_left = no_leads job (key_at mask 0) full

  pub count_full : length (leads_left job mask) ≡ 0
  count_full = ap length none_left

  pub farthest_full : (from : ℕ) → farthest job mask from ≡ 0
  unfolding farthest
  farthest_full from = ap (λ (bs : List ℕ). greatest (map (λ b. nearest from (meeting_stages job mask b)) bs)) none_left

-- ---- the least bend that is left to fold, of the set of those that are left
abbrev pub AreLeft : JobData → Mask → Mask → Type 0
AreLeft job mask rest = (b : ℕ) → has rest b ≡ ((nat_le 1 b && nat_le b (bend_count job)) && not (has mask b))

pub left_is : (job : JobData) (mask rest : Mask) (b : ℕ) → AreLeft job mask rest → 1 ≤ b → b ≤ bend_count job → has rest b ≡ not (has mask b)
left_is job mask rest b are first last = are b ∙ rw (le-leb 1 b first, le-leb b (bend_count job) last) refl

folded_from : (t : Bool) → not t ≡ false → t ≡ true
folded_from true none = refl
folded_from false none = sym none

pub first_left_is : (job : JobData) (mask rest : Mask) (bend : ℕ) → AreLeft job mask rest → IsLeast rest bend → IsFirstLeft job mask bend
first_left_is job mask rest bend are least =
    let parts = and_parts (nat_le 1 bend && nat_le bend (bend_count job)) (not (has mask bend)) (sym (are bend) ∙ least.member) in
    let range = and_parts (nat_le 1 bend) (nat_le bend (bend_count job)) parts.0 in
    let last : bend ≤ bend_count job = leb-true bend (bend_count job) range.1 in
    record {
      first = leb-true 1 bend range.0;
      last = last;
      flat = not-true (has mask bend) parts.1;
      least = λ b low below. folded_from (has mask b) (sym (left_is job mask rest b are low (omega (arith, below, last))) ∙ least.least b below);
    }

pub none_left_is_full : (job : JobData) (mask rest : Mask) → AreLeft job mask rest → IsEmpty rest → IsFull job (key_at mask 0)
unfolding IsFull
none_left_is_full job mask rest are empty b first last = folded_from (has mask b) (sym (left_is job mask rest b are first last) ∙ empty b)

-- ---- by stage
-- the stages that are marked are those that meet the group
pub nearest_marked : (job : JobData) (mask : Mask) (bend : ℕ) (marked : List Bool) (from stages : ℕ) → stages ≡ stage_count job → AreMeeting job mask bend marked
    → nearest from (filter (λ stage. slice_index_or marked stage false) (range_with_len 0 stages)) ≡ nearest from (meeting_stages job mask bend)
nearest_marked job mask bend marked from stages all marks =
    let is_marked : ℕ → Bool = λ stage. slice_index_or marked stage false in
    let meets_here : ℕ → Bool = λ stage. meets job (in_group job (has mask) bend) (stage_of job stage) in
    ap (λ (n : ℕ). nearest from (filter is_marked (range_with_len 0 n))) all
    ∙ ap (λ (ss : List ℕ). nearest from ss) (filter_same is_marked meets_here 0 (stage_count job) (λ stage low high. marks stage (omega (arith, high))))

-- bounds at the stages
pub bounds_by_stage : (job : JobData) (mask : Mask) (bounds : List ℕ) (stages : ℕ) → stages ≡ stage_count job
    → ((stage d : ℕ) → stage < stages → get_or bounds stage d ≡ bound_with job mask (length (leads_left job mask)) (farthest job mask stage))
    → ((stage d : ℕ) → stages ≤ stage → stage < 8 → get_or bounds stage d ≡ 536870912) → HasBounds job mask bounds
unfolding bound_of
bounds_by_stage job mask bounds stages all each past = lanes_by_stage job (λ stage. bound_of job (key_at mask stage)) bounds stages all each past
