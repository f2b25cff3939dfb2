-- Notes whose lines are known again: of each the reason is the first that holds.
use Rattle.std.proofs.Common.{◌≡◌, inl, inr, ℕ, ◌*◌, ◌<◌, Some, sym, ◌∙◌, subst}
use Rattle.brake_base.specs.declared.reason.Reason.{Reason}
use Rattle.brake_base.specs.declared.mask.Mask.{Mask}
use Rattle.brake_base.specs.declared.stroke.Action.{Action}
use Rattle.brake_base.specs.Actions.{number_of_action, IsActionAmong}
use Rattle.stage_lanes.specs.Codes.{code_of, IsCode, IsCoded}
use Rattle.job_setup.specs.Setup.{JobData, stage_count}
use Rattle.job_setup.specs.StrokeGroup.{group_of}
use Rattle.handling_cost.specs.Plan.{IsReasonFor}
use Rattle.stroke_table.specs.Strokes.{IsFirstAt}
use Rattle.stroke_table.specs.Codes.{IsFirstCode}
use Rattle.cert_lines.specs.Lines.{action_at}
use Rattle.plan_lines.specs.NoteLines.{KnownReasons, KnowsNoMore, KnowsAtMost}
use Rattle.plan_lines.proofs.ActionNumbers.{action_of_number}
use Rattle.cert_check.specs.declared.row_notes.RowNotes.{RowNotes}
use Rattle.cert_check.specs.KnownNotes.{HoldsNow, KnowsSound}

-- the code of a first reason, or of none, against an action
abbrev pub IsCodeFor : JobData → Mask → Action → ℕ → Type 0
IsCodeFor job mask action code =
    IsFirstCode job mask (group_of job mask action.bend) action.back action.stage code

pub is_code : (job : JobData) (mask : Mask) (action : Action) (code : ℕ) → IsCodeFor job mask action code → IsCode code
is_code job mask action code is = elim is [
  | inl free ↦ inl free.0
  | inr some ↦ inr (some.0, some.1, some.2)
]

first_for : (job : JobData) (mask : Mask) (action : Action) (reason : Reason) → IsFirstAt job mask (group_of job mask action.bend) action.back action.stage (Some reason) → IsReasonFor job mask action reason
unfolding IsReasonFor
first_for job mask action reason is = is.holds

-- what is known depends on the bends that are folded and on the unsound note alone
pub knows_alike : (job : JobData) (old new : RowNotes) (known : KnownReasons) → new.folded.mask ≡ old.folded.mask → new.unsound ≡ old.unsound → KnowsSound job old known → KnowsSound job new known
knows_alike job old new known mask unsound knows = record {
  stages = knows.stages;
  sound = λ none number reason is. subst (λ (m : Mask). IsReasonFor job m (action_at (stage_count job) number) reason) (sym mask) (knows.sound (sym unsound ∙ none) number reason is);
}

-- at most the first reason against an action is known then that wasn't
pub knows_again : (job : JobData) (notes : RowNotes) (old new : KnownReasons) (action : Action) (number code : ℕ) → action ≡ action_at (stage_count job) number → IsCodeFor job notes.folded.mask action code
    → ((reason : Reason) → IsCoded reason → code_of reason ≡ code → KnowsAtMost old number reason new) → (code ≡ 65535 → KnowsNoMore old new) → KnowsSound job notes old → KnowsSound job notes new
knows_again job notes old new action number code at is some none knows = elim is [
  | inl free ↦
      let no_more = none free.0 in
      record {
        stages = no_more.0 ∙ knows.stages;
        sound = λ unsound other known told. knows.sound unsound other known (no_more.1 other known told);
      }
  | inr first ↦
      let reason = first.0 in
      let more = some reason first.1 first.2 in
      let holds = subst (λ (a : Action). IsReasonFor job notes.folded.mask a reason) at (first_for job notes.folded.mask action reason first.3) in
      record {
        stages = more.0 ∙ knows.stages;
        sound = λ unsound other known told. elim (more.1 other known told) [
          | inl before ↦ knows.sound unsound other known before
          | inr now ↦ subst (λ (n : ℕ). HoldsNow job notes n known) (sym now.0) (subst (λ (r : Reason). HoldsNow job notes number r) (sym now.1) holds)
        ];
      }
]

-- an action is that of its number
pub at_number : (stages number : ℕ) (action : Action) → IsActionAmong 12 stages action → number ≡ number_of_action stages action → number < 24 * stages → action ≡ action_at stages number
at_number stages number action among is below =
    subst (λ (n : ℕ). action ≡ action_at stages n) (sym is) (action_of_number stages action among (subst (λ (n : ℕ). n < 24 * stages) is below))
