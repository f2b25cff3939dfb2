-- What is proved of a key, and the actions of a row.
use Rattle.std.proofs.Common.{◌≡◌, inl, inr, ℕ, ◌+◌, IsTrue, Bool, true, false, not, List, Some, None, arith, refl, sym, subst}
use Rattle.std.proofs.lemmas.Bool.Decides.{eqb_tells}
use Rattle.brake_base.specs.declared.mask.Mask.{Mask}
use Rattle.brake_base.specs.declared.stroke.Key.{Key}
use Rattle.brake_base.specs.declared.stroke.Action.{Action}
use Rattle.brake_base.specs.declared.stroke.Worth.{Worth}
use Rattle.brake_base.specs.declared.stroke.Worth.TheVariants.{Cost}
use Rattle.stage_lanes.specs.declared.actions.ActionSet.{ActionSet}
use Rattle.brake_base.specs.Masks.{union}
use Rattle.brake_base.specs.Worths.{IsAtMost, plus}
use Rattle.job_setup.specs.Setup.{JobData, stage_count}
use Rattle.job_setup.specs.StrokeGroup.{group_of}
use Rattle.handling_cost.specs.StepCost.{IsKeyOf, attitude_at, key_after}
use Rattle.handling_cost.specs.Bound.{bound_of}
use Rattle.cert_lines.specs.declared.row_head.RowHead.{RowHead}
use Rattle.plan_lines.specs.LinesFit.{IsRow}
use Rattle.cert_check.specs.RowTable.{IsWorthAt}
use Rattle.plan_cert.specs.RowFaults.{IsTried}
use Rattle.cert_check.specs.Rows.{ProvesAfter, ClosesAt, IsMet, AreMet, NumberAnswer}
use Rattle.cert_check.specs.RowNotes.{is_noted}
use Rattle.cert_lines.specs.Lines.{action_at}
use Rattle.std.specs.Prelude.{◌↔◌}

module _ (job : JobData) (rows : List RowHead) (key : Key) (cost : ℕ) (worth : Worth) where
  pub proved_by_bound : IsAtMost worth (Cost (cost + bound_of job key)) → ProvesAfter job rows key cost worth
  proved_by_bound enough = (Cost (bound_of job key), inl refl, enough)

  pub proved_by_row : (next : Worth) → IsWorthAt rows key (Some next) → IsAtMost worth (plus cost next) → ProvesAfter job rows key cost worth
  proved_by_row next at enough = (next, inr at.0, enough)

  pub not_proved_by_row : (next : Worth) → (IsAtMost worth (Cost (cost + bound_of job key)) → ⊥) → IsWorthAt rows key (Some next) → (IsAtMost worth (plus cost next) → ⊥) → ProvesAfter job rows key cost worth → ⊥
  not_proved_by_row next low at less (other, inl bound, enough) = low (subst (λ (w : Worth). IsAtMost worth (plus cost w)) bound enough)
  not_proved_by_row next low at less (other, inr row, enough) = less (subst (λ (w : Worth). IsAtMost worth (plus cost w)) (at.1 other row) enough)

  pub not_proved_by_none : (IsAtMost worth (Cost (cost + bound_of job key)) → ⊥) → IsWorthAt rows key None → ProvesAfter job rows key cost worth → ⊥
  not_proved_by_none low none (other, inl bound, enough) = low (subst (λ (w : Worth). IsAtMost worth (plus cost w)) bound enough)
  not_proved_by_none low none (other, inr row, enough) = none other row

-- the key to which an action leads
pub next_is : (job : JobData) (key : Key) (action : Action) (mask : Mask) (attitude : ℕ) → mask ≡ union key.mask (group_of job key.mask action.bend) → attitude ≡ attitude_at job key.mask action
    → record { mask = mask; attitude = attitude; stage = action.stage } ≡ key_after job key action
unfolding key_after
next_is job key action mask attitude masks attitudes = λ i. record { mask = masks i; attitude = attitudes i; stage = action.stage }

-- the key of a row is in range
pub row_key : (job : JobData) (head : RowHead) → IsRow job head → IsKeyOf job head.key
row_key job head row = let mask = row.mask in record { mask = omega (arith, mask); attitude = row.attitude; stage = row.stage }

-- ---- the actions of a row one after the other
pub met_on : (job : JobData) (rows : List RowHead) (head : RowHead) (noted : ActionSet) (count : ℕ) → AreMet job rows head noted count → (IsTried job head count → IsMet job rows head noted count)
    → AreMet job rows head noted (count + 1)
met_on job rows head noted count met here number less tried = elim (eqb_tells number count) [
  | inl same ↦ subst (IsMet job rows head noted) (sym same.1) (here (subst (IsTried job head) same.1 tried))
  | inr other ↦ met number (let no = other.1 in omega (arith, less, no)) tried
]

-- an action that can be tried and isn't noted is open or closed
pub number_answer : (job : JobData) (rows : List RowHead) (head : RowHead) (noted : ActionSet) (number : ℕ) (shut : Bool) → IsTried job head number → is_noted job noted number ≡ false → IsTrue shut ↔ ClosesAt job rows head (action_at (stage_count job) number)
    → NumberAnswer job rows head noted number (not shut)
number_answer job rows head noted number true tried unnoted is = λ again. inr (is.0 refl)
number_answer job rows head noted number false tried unnoted is = record { tried = tried; unnoted = unnoted; unclosed = λ closed. absurd (let one = is.1 closed in cc) }

pub true_unless : (b : Bool) → (b ≡ false → ⊥) → b ≡ true
true_unless true never = refl
true_unless false never = absurd (never refl)
