-- A verified nogood is true, and what is learned from a reason that holds is verified.
use Rattle.std.proofs.Common.{◌≡◌, ◌≢◌, ◌⊎◌, inl, inr, ℕ, ◌≤◌, Bool, true, false, not, ◌&&◌, IsTrue, refl, sym, ◌∙◌, ap}
use Rattle.std.proofs.lemmas.Bool.{and_from, and_parts, or_left, not-true, not_from_false, false_from_ne_true, true≢false}
use Rattle.brake_base.specs.declared.mask.Mask.{Mask}
use Rattle.brake_base.specs.declared.stroke.Action.{Action}
use Rattle.brake_base.specs.declared.reason.Reason.{Reason}
use Rattle.brake_base.specs.declared.reason.Reason.TheVariants.{NoGauge}
use Rattle.brake_base.specs.Masks.{has}
use Rattle.job_setup.specs.Setup.{JobData, bend_count}
use Rattle.job_setup.specs.StrokeGroup.{in_group, is_lead}
use Rattle.job_setup.specs.ValidJob.{IsJob}
use Rattle.handling_cost.specs.StepCost.{IsActionAt}
use Rattle.handling_cost.specs.Plan.{IsReasonFor}
use Rattle.handling_cost.proofs.Actions.{few_bends, lead_is}
use Rattle.handling_cost.proofs.ActionGroups.{action_is_least, action_leads}
use Rattle.nogood_book.specs.declared.nogood.Nogood.{Nogood}
use Rattle.nogood_book.specs.Support.{support_of, is_bend, is_in_support, AgreeOnSupport}
use Rattle.nogood_book.specs.Nogood.{IsSetOf, key_at, Matches, IsTrueNogood, IsCovered, IsVerified, learned}
use Rattle.nogood_book.proofs.Supports.{has_support, bend_is, own_supports, agree_by_set, has_part, part_is}
use Rattle.box_support.proofs.Groups.{lead_alike}
use Rattle.nogood_book.proofs.ReasonSupport.{IsStrokeOf, support_decides}
use Rattle.nogood_book.proofs.NamedBoxes.{names_boxes}

stroke_of : (job : JobData) → IsJob job → (mask : Mask) (action : Action) → IsActionAt job (key_at mask) action → IsStrokeOf job mask action.bend
stroke_of job fit mask action at = record {
  lead = action_leads job (few_bends job fit) (key_at mask) action at;
  member = (action_is_least job (few_bends job fit) (key_at mask) action at).member;
}

-- what holds against an action at one set holds against it at each that agrees with it on the support, and it can be tried there
record HoldsThere (job : JobData) (mask : Mask) (action : Action) (reason : Reason) : Type 0 where
  lead : IsTrue (is_lead job mask action.bend)
  holds : IsReasonFor job mask action reason

holds_there : (job : JobData) → IsJob job → (action : Action) (reason : Reason) (s t : Mask) → IsActionAt job (key_at s) action → reason ≢ NoGauge → AgreeOnSupport job action.bend reason s t → IsReasonFor job s action reason
    → HoldsThere job t action reason
unfolding IsReasonFor
holds_there job fit action reason s t at kind agree holds =
    let same = lead_alike job s t action.bend (agree action.bend (own_supports job action.bend reason at.first at.last)) (λ c h. agree c (or_left (in_group job (λ d. false) action.bend c) _ h)) in
    record {
      lead = sym same ∙ at.lead;
      holds = (support_decides job fit s t action.bend action.back action.stage reason kind (stroke_of job fit s action at) agree).0 holds;
    }

-- ---- a verified nogood
-- a set that it matches agrees on the support with its folded bends
matched_agrees : (job : JobData) → IsJob job → (nogood : Nogood) → IsVerified job nogood → (mask : Mask) → IsSetOf job mask → Matches nogood mask → AgreeOnSupport job nogood.action.bend nogood.reason nogood.folded mask
matched_agrees job fit nogood verified mask set matches = agree_by_set job (few_bends job fit) nogood.action.bend nogood.reason nogood.folded mask verified.folded set each
  where
    each : (bend : ℕ) → IsTrue (has (support_of job nogood.action.bend nogood.reason) bend) → has nogood.folded bend ≡ has mask bend
    each bend member = elim (verified.covered bend member) [
      | inl folded ↦ folded ∙ sym (matches.folded bend folded)
      | inr flat ↦ false_from_ne_true (has nogood.folded bend) (λ yes. true≢false (sym flat ∙ verified.disjoint bend yes)) ∙ sym (matches.flat bend flat)
    ]

pub verified_at : (job : JobData) (nogood : Nogood) → IsVerified job nogood → IsActionAt job (key_at nogood.folded) nogood.action
verified_at job nogood verified = record { first = verified.action.first; last = verified.action.last; stage = verified.action.stage; lead = verified.lead }

pub verified_is_true : (job : JobData) → IsJob job → (nogood : Nogood) → IsVerified job nogood → IsTrueNogood job nogood
verified_is_true job fit nogood verified mask set matches =
    let there = holds_there job fit nogood.action nogood.reason nogood.folded mask (verified_at job nogood verified) verified.kind (matched_agrees job fit nogood verified mask set matches) verified.holds in
    record { lead = there.lead; reason = there.holds }

-- ---- what is learned
never_both : (x y : Bool) → y ≡ true → (x && not y) ≡ false
never_both true true h = refl
never_both true false h = absurd cc
never_both false y h = refl

module _ (job : JobData) (fit : IsJob job) (mask : Mask) (set : IsSetOf job mask) (action : Action) (reason : Reason) (at : IsActionAt job (key_at mask) action) where
  few : bend_count job ≤ 12
  few = few_bends job fit

  -- the bends of its two sets
  has_folded : (bend : ℕ) → has (learned job mask action reason).folded bend ≡ (has (support_of job action.bend reason) bend && has mask bend)
  has_folded bend = has_part job few action.bend reason (has mask) bend

  has_flat : (bend : ℕ) → has (learned job mask action reason).flat bend ≡ (has (support_of job action.bend reason) bend && not (has mask bend))
  has_flat bend = has_part job few action.bend reason (λ c. not (has mask c)) bend

  was_folded : (bend : ℕ) → IsTrue (has (learned job mask action reason).folded bend) → has mask bend ≡ true
  was_folded bend member = (and_parts (has (support_of job action.bend reason) bend) (has mask bend) (sym (has_folded bend) ∙ member)).1

  was_flat : (bend : ℕ) → IsTrue (has (learned job mask action reason).flat bend) → has mask bend ≡ false
  was_flat bend member = not-true (has mask bend) (and_parts (has (support_of job action.bend reason) bend) (not (has mask bend)) (sym (has_flat bend) ∙ member)).1

  pub learned_matches : Matches (learned job mask action reason) mask
  learned_matches = record { folded = was_folded; flat = was_flat }

  folded_agrees : AgreeOnSupport job action.bend reason mask (learned job mask action reason).folded
  folded_agrees = agree_by_set job few action.bend reason mask (learned job mask action reason).folded set (part_is job few action.bend reason (has mask)) (λ bend member. sym (has_folded bend ∙ ap (λ t. t && has mask bend) member))

  own_is_flat : IsTrue (has (learned job mask action reason).flat action.bend)
  own_is_flat =
      let supported = has_support job few action.bend reason action.bend ∙ and_from (is_bend job action.bend) (is_in_support job action.bend reason action.bend) (bend_is job action.bend at.first at.last) (own_supports job action.bend reason at.first at.last) in
      has_flat action.bend ∙ and_from (has (support_of job action.bend reason) action.bend) (not (has mask action.bend)) supported (not_from_false (has mask action.bend) (lead_is job mask action.bend at.lead).flat)

  covers : IsCovered job (learned job mask action reason)
  covers bend member = by_test (has mask bend) refl
    where
      by_test : (t : Bool) → has mask bend ≡ t → IsTrue (has (learned job mask action reason).folded bend) ⊎ IsTrue (has (learned job mask action reason).flat bend)
      by_test true is = inl (has_folded bend ∙ and_from (has (support_of job action.bend reason) bend) (has mask bend) member is)
      by_test false is = inr (has_flat bend ∙ and_from (has (support_of job action.bend reason) bend) (not (has mask bend)) member (not_from_false (has mask bend) is))

  pub learned_is_verified : reason ≢ NoGauge → IsReasonFor job mask action reason → IsVerified job (learned job mask action reason)
  learned_is_verified kind holds =
      let there = holds_there job fit action reason mask (learned job mask action reason).folded at kind folded_agrees holds in
      record {
        action = record { first = at.first; last = at.last; stage = at.stage };
        folded = part_is job few action.bend reason (has mask);
        flat = part_is job few action.bend reason (λ c. not (has mask c));
        disjoint = λ bend member. has_flat bend ∙ never_both (has (support_of job action.bend reason) bend) (has mask bend) (was_folded bend member);
        kind = kind;
        boxes = names_boxes job fit mask action reason holds;
        own = own_is_flat;
        lead = there.lead;
        covered = covers;
        holds = there.holds;
      }
