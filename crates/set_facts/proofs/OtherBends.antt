-- Where all bends but those of a group are folded, the group is that of its least bend there too, and no other lead is left.
use Rattle.std.proofs.Common.{◌≡◌, ℕ, ◌-◌, ◌^◌, ◌<◌, ◌≤◌, Bool, true, false, not, ◌&&◌, ◌||◌, nat_le, max, filter, arith, refl, sym, ◌∙◌, ap}
use Rattle.std.specs.List.{range_with_len}
use Rattle.std.specs.Int.Bits.{bit_and}
use Rattle.std.proofs.lemmas.Bool.{and_parts, false_from_ne_true}
use Rattle.std.proofs.lemmas.Nat.{and_le_r, pow_pos}
use Rattle.brake_base.specs.declared.mask.Mask.{Mask}
use Rattle.brake_base.specs.Masks.{has, union, IsSubset}
use Rattle.brake_base.proofs.Masks.{subset_is}
use Rattle.brake_base.proofs.MaskNumbers.{has_mask_of}
use Rattle.job_setup.specs.Setup.{JobData, bend_count, stage_count}
use Rattle.job_setup.specs.ValidJob.{IsJob}
use Rattle.job_setup.specs.StageOf.{stage_of}
use Rattle.job_setup.specs.Reasons.{meets}
use Rattle.job_setup.specs.StrokeGroup.{in_group, group_of}
use Rattle.handling_cost.specs.StepCost.{IsFull}
use Rattle.handling_cost.specs.Bound.{meeting_stages, nearest, farthest}
use Rattle.handling_cost.proofs.Mates.{grouped_flat, grouped_range, grouped_self, regrouped}
use Rattle.handling_cost.proofs.Actions.{few_bends, group_bends}
use Rattle.set_facts.specs.FirstLeft.{IsFirstLeft}
use Rattle.set_facts.specs.LaneFacts.{key_at}
use Rattle.set_facts.proofs.LeadSteps.{clash}
use Rattle.set_facts.proofs.SetLaneSteps.{AreLeft, left_is, farthest_before, farthest_full}

-- a set without some of its bends is one of the job's, where it has no bend past the last
pub within_full : (job : JobData) (full taken rest : Mask) (bends : ℕ) → bends ≡ bend_count job → full.0 ≡ 2 ^ bends - 1
    → ((b : ℕ) → has rest b ≡ (has full b && not (has taken b))) → rest.0 < 2 ^ 16 → rest.0 < 2 ^ bend_count job
within_full job full taken rest bends all number without fits =
    let subset : IsSubset rest full = λ b member. (and_parts (has full b) (not (has taken b)) (sym (without b) ∙ member)).0 in
    let both : bit_and rest.0 full.0 ≡ rest.0 = (subset_is rest full fits).1 subset in
    let least = and_le_r rest.0 full.0 in
    let most : full.0 ≡ 2 ^ bend_count job - 1 = number ∙ ap (λ (n : ℕ). 2 ^ n - 1) all in
    let some = pow_pos (bend_count job) in
    omega (arith, both, least, most, some)

one_of_both : (t : Bool) → (not t || t) ≡ true
one_of_both true = refl
one_of_both false = refl

max_zero : (n : ℕ) → max n 0 ≡ n
max_zero n = omega arith

-- the bends up to the job's last, without a group
pub others_are : (job : JobData) (mask : Mask) (bend bends : ℕ) (group full others : Mask) → bends ≡ bend_count job → group ≡ group_of job mask bend
    → ((b : ℕ) → has full b ≡ (nat_le 1 b && nat_le b bends)) → ((b : ℕ) → has others b ≡ (has full b && not (has group b))) → AreLeft job (group_of job mask bend) others
others_are job mask bend bends group full others all is each without b =
    without b ∙ (λ i. (each b ∙ ap (λ (n : ℕ). nat_le 1 b && nat_le b n) all) i && not (has (is i) b))

module _ (job : JobData) (is_job : IsJob job) (mask : Mask) (bend : ℕ) (left : IsFirstLeft job mask bend)
    (others : Mask) (are : AreLeft job (group_of job mask bend) others) where
  few : bend_count job ≤ 12
  few = few_bends job is_job

  -- a bend of the job is among the others or in the group
  other_is : (c : ℕ) → 1 ≤ c → c ≤ bend_count job → has others c ≡ not (in_group job (has mask) bend c)
  other_is c first last = left_is job (group_of job mask bend) others c are first last ∙ ap not (group_bends job few mask bend left.first left.last c)

  keeps : (c : ℕ) → 1 ≤ c → c ≤ bend_count job → has mask c ≡ true → has others c ≡ true
  keeps c first last folded =
      other_is c first last ∙ ap not (false_from_ne_true (in_group job (has mask) bend c) (λ within.
      clash (has mask c) (grouped_flat job (has mask) job.setup.gang bend c left.flat within) folded))

  same_group : (c : ℕ) → in_group job (has others) bend c ≡ in_group job (has mask) bend c
  same_group c =
      regrouped job (has mask) (has others) job.setup.gang bend c
      (λ within. let range = grouped_range job (has mask) job.setup.gang bend c left.first left.last within in other_is c range.0 range.1 ∙ ap not within)
      (keeps c)

  first_there : IsFirstLeft job others bend
  first_there = record {
    first = left.first;
    last = left.last;
    flat = other_is bend left.first left.last ∙ ap not (grouped_self job (has mask) job.setup.gang bend left.first left.last left.flat);
    least = λ b low below. let last = left.last in keeps b low (omega (arith, below, last)) (left.least b low below);
  }

  all_folded : IsFull job (key_at (union others (group_of job others bend)) 0)
  unfolding IsFull
  all_folded b first last =
      has_mask_of (λ c. has others c || has (group_of job others bend) c) b first (omega (arith, few, last))
      ∙ rw (other_is b first last, group_bends job few others bend left.first left.last b ∙ same_group b) (one_of_both (in_group job (has mask) bend b))

  same_stages : meeting_stages job others bend ≡ meeting_stages job mask bend
  same_stages = λ i. filter (λ stage. meets job (λ c. same_group c i) (stage_of job stage)) (range_with_len 0 (stage_count job))

  -- the way there to the nearest stage that meets the group is the farthest
  pub farthest_there : (from : ℕ) → farthest job others from ≡ nearest from (meeting_stages job mask bend)
  farthest_there from =
      farthest_before job is_job others bend first_there from
      ∙ ap (max (nearest from (meeting_stages job others bend))) (farthest_full job (union others (group_of job others bend)) all_folded from)
      ∙ max_zero (nearest from (meeting_stages job others bend)) ∙ ap (nearest from) same_stages
