-- The bends of an action are a group, whose lead is the action's bend.
use Rattle.std.proofs.Common.{◌≡◌, inl, inr, ℕ, ◌+◌, ◌<◌, ◌≤◌, Bool, true, false, not, ◌&&◌, ◌==◌, cond, length, IsTrue, arith, refl, sym, ◌∙◌, ap, subst}
use Rattle.std.proofs.lemmas.Bool.{and_parts, cases_lt, false_from_ne_true, eqb-true}
use Rattle.brake_base.specs.declared.mask.Mask.{Mask}
use Rattle.brake_base.specs.declared.stroke.Key.{Key}
use Rattle.brake_base.specs.declared.stroke.Action.{Action}
use Rattle.brake_base.specs.Masks.{has, IsLeast}
use Rattle.fold_boxes.specs.Groups.{is_mate}
use Rattle.fold_boxes.specs.Pose.{lead_of, IsGroup}
use Rattle.fold_boxes.proofs.Leads.{lead_found}
use Rattle.job_setup.specs.Setup.{JobData, shape_of, bend_count}
use Rattle.job_setup.specs.StrokeGroup.{in_group, group_of}
use Rattle.handling_cost.specs.StepCost.{IsActionAt}
use Rattle.handling_cost.proofs.Mates.{grouped, grouped_self, grouped_flat, grouped_range, grouped_shared, self_mate}
use Rattle.handling_cost.proofs.Actions.{IsLead, lead_is, group_bends}

-- a bend of a group is a mate of the group's own bend
mate_of : (job : JobData) (folded : ℕ → Bool) (gang : Bool) (b c : ℕ) → 1 ≤ b → b ≤ bend_count job → grouped gang job folded b c ≡ true → is_mate (shape_of job) b c ≡ true
mate_of job folded true b c first last within = (and_parts (is_mate (shape_of job) b c) (not (folded c)) within).0
mate_of job folded false b c first last within = ap (is_mate (shape_of job) b) (eqb-true c b within) ∙ self_mate (shape_of job) b first (omega arith)

module _ (job : JobData) (few : bend_count job ≤ 12) (key : Key) (action : Action) (at : IsActionAt job key action) where
  lead : IsLead job key.mask action.bend
  lead = lead_is job key.mask action.bend at.lead

  bends : (c : ℕ) → has (group_of job key.mask action.bend) c ≡ in_group job (has key.mask) action.bend c
  bends = group_bends job few key.mask action.bend at.first at.last

  -- the bend of an action is the least of its group
  pub action_is_least : IsLeast (group_of job key.mask action.bend) action.bend
  action_is_least = record {
    member = bends action.bend ∙ grouped_self job (has key.mask) job.setup.gang action.bend at.first at.last lead.flat;
    least = λ other below. bends other ∙ none_below other below;
  }
    where
      none_below : (other : ℕ) → other < action.bend → in_group job (has key.mask) action.bend other ≡ false
      none_below other below = false_from_ne_true (in_group job (has key.mask) action.bend other) (λ within.
          let range = grouped_range job (has key.mask) job.setup.gang action.bend other at.first at.last within in
          let none = lead.least other range.0 range.1 below in
          absurd cc)

  -- the lead of an action's group is its bend
  pub action_leads : lead_of (shape_of job) (group_of job key.mask action.bend) ≡ action.bend
  action_leads = lead_found (shape_of job) (group_of job key.mask action.bend) action.bend action_is_least (omega (arith, at.first, at.last))

  -- the bends of an action may be bent in one stroke
  pub action_groups : IsGroup (shape_of job) key.mask (group_of job key.mask action.bend)
  action_groups = record {
    some = ap (has (group_of job key.mask action.bend)) action_leads ∙ action_is_least.member;
    mates = λ b member. ap (λ l. is_mate (shape_of job) l b) action_leads ∙ mate_of job (has key.mask) job.setup.gang action.bend b at.first at.last (sym (bends b) ∙ member);
    flat = λ b member. grouped_flat job (has key.mask) job.setup.gang action.bend b lead.flat (sym (bends b) ∙ member);
  }
