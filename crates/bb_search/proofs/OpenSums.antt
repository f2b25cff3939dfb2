-- The sums of the actions that a key's settling explores: those of the untested ones, and what no
-- way on costs at all others.
use Rattle.std.proofs.Common.{◌≡◌, inl, inr, ℕ, ◌+◌, ◌/◌, ◌<◌, ◌≤◌, ◌==◌, ◌&&◌, not, Bool, true, false, if◌then◌else◌}
use Rattle.std.proofs.Common.{arith, refl, sym, ◌∙◌, ap}
use Rattle.brake_base.specs.declared.mask.Mask.{Mask}
use Rattle.brake_base.specs.declared.stroke.Key.{Key}
use Rattle.brake_base.specs.declared.stroke.Action.{Action}
use Rattle.brake_base.specs.Masks
use Rattle.stage_lanes.specs.declared.actions.ActionSet.{ActionSet}
use Rattle.stage_lanes.specs.ActionSets.{place_of, has_place, ArePlaces}
use Rattle.action_lanes.specs.declared.costs.ActionCosts.{ActionCosts}
use Rattle.action_lanes.specs.Costs.{cost_at, AreCosts, IsCheapest}
use Rattle.action_lanes.specs.Cheapest.{AreOnly, AreOf, AreCheapest}
use Rattle.set_facts.specs.Facts.{AreLeads}
use Rattle.job_setup.specs.Setup.{JobData}
use Rattle.job_setup.specs.ValidJob.{IsJob}
use Rattle.bb_search.specs.declared.known.KnownActions.{KnownActions}
use Rattle.bb_search.specs.LaneSums.{AreSums, AreOpenSums}
use Rattle.bb_search.specs.KnownActions.{AreOpen}
use Rattle.bb_search.proofs.KnownLemmas.{place_small, among_lanes}
use Rattle.bb_search.proofs.ChoiceLemmas.{place_bend}

module _ (sums only : ActionCosts) (untested : ActionSet) (are : AreOnly sums untested only) where
  -- an untested action has its sum
  pub untested_cost :
      (place : ℕ) → place < 192 → has_place untested place ≡ true
      → cost_at only place ≡ cost_at sums place
  untested_cost place within its =
      are place within ∙ ap (λ (t : Bool). if t then cost_at sums place else 536870912) its

  -- the first of them is the first by the sums of all
  pub cheapest_by_sums :
      (action : Action) → IsCheapest only untested action → IsCheapest sums untested action
  cheapest_by_sums action is =
      let own = untested_cost (place_of action) (place_small action is.among) is.member in
      record {
        among = is.among;
        member = is.member;
        none_earlier = λ place within its earlier.
            let same = untested_cost place within its in
            is.none_earlier place within its (elim earlier [
              | inl less ↦ inl (omega (arith, less, same, own))
              | inr tie ↦ inr (let e = tie.0 in omega (arith, e, same, own), tie.1)
            ]);
      }

-- other costs that are the same at the set's actions
pub cheapest_by_others :
    (old new : ActionCosts) (set part : ActionSet)
    → ((place : ℕ) → place < 192 → has_place set place ≡ true → cost_at old place ≡ cost_at new place)
    → AreCheapest old set part → AreCheapest new set part
cheapest_by_others old new set part same are = record {
  among = are.among;
  least = λ place other within inside t its.
      let here = same place within (are.among place within t) in
      let there = same other inside its in
      elim (are.least place other within inside t its) [
        | inl less ↦ inl (omega (arith, less, here, there))
        | inr tie ↦ inr (let e = tie.0 in omega (arith, e, here, there), tie.1)
      ];
}

by_place :
    (here its : Bool) (kept sum : ℕ) → kept ≡ (if its then sum else 536870912)
    → (if here then 536870912 else kept) ≡ (if its && not here then sum else 536870912)
by_place true true kept sum is = refl
by_place true false kept sum is = refl
by_place false true kept sum is = is
by_place false false kept sum is = is

-- an action is untested no more
pub only_later :
    (sums only next : ActionCosts) (action : Action) (untested later : ActionSet)
    → ArePlaces later (λ place. has_place untested place && not (place == place_of action))
    → AreCosts next (λ place. if place == place_of action then 536870912 else cost_at only place)
    → AreOnly sums untested only → AreOnly sums later next
only_later sums only next action untested later later_are set_are are place within =
    set_are place within
    ∙ by_place (place == place_of action) (has_place untested place) (cost_at only place) (cost_at sums place) (are place within)
    ∙ ap (λ (t : Bool). if t then cost_at sums place else 536870912) (sym (later_are place within))

module _ (job : JobData) (is_job : IsJob job) (key : Key) (leads : Mask) (best : ℕ) (at : KnownActions)
    (untested : ActionSet) (open_are : AreOpen job key at best untested) where
  -- they are actions of the key's leads
  pub of_leads : AreLeads job key.mask leads → AreOf leads untested
  of_leads leads_are place within its =
      let found = open_are.only place within its in
      let bend : place / 16 + 1 ≡ found.0.bend =
      ap (λ (n : ℕ). n / 16 + 1) (sym found.2) ∙ place_bend found.0 (among_lanes job is_job key found.0 found.1) in
      ap (Masks.has leads) bend ∙ leads_are found.0.bend found.1.first found.1.last ∙ found.1.lead

  -- no sum of theirs is above what no way on costs
  pub open_sums :
      (sums only : ActionCosts) → AreSums job key leads sums → AreOnly sums untested only
      → best ≤ 536870912 → AreOpenSums untested only
  open_sums sums only sums_are are capped = record {
    small = λ place within its.
        let found = open_are.only place within its in
        let own = untested_cost sums only untested are place within its in
        let placed : cost_at sums place ≡ cost_at sums (place_of found.0) = ap (cost_at sums) (sym found.2) in
        let sum = sums_are.each found.0 found.1 in
        let most = open_are.most found.0 found.1 (ap (has_place untested) found.2 ∙ its) in
        omega (arith, own, placed, sum, most, capped);
    others = λ place within out.
        are place within ∙ ap (λ (t : Bool). if t then cost_at sums place else 536870912) out;
  }
