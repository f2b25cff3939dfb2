-- What closes actions, the leads one after the other.
use Rattle.std.proofs.Common.{◌≡◌, inl, inr, ℕ, ◌+◌, ◌<◌, ◌≤◌, IsTrue, List, slice_index, min, arith, sym, subst}
use Rattle.std.proofs.lemmas.Bool.Decides.{eqb_tells}
use Rattle.stage_lanes.specs.declared.actions.ActionSet.{ActionSet}
use Rattle.job_setup.specs.Setup.{JobData, stage_count}
use Rattle.job_setup.specs.StrokeGroup.{is_lead}
use Rattle.cert_check.specs.declared.proved_costs.ProvedCosts.{ProvedCosts}
use Rattle.cert_check.specs.ClosingCosts.{ClosesBend, ClosesBelow}

module _ (job : JobData) (proved : ProvedCosts) (noted : ActionSet) (attitude : ℕ) (few : stage_count job ≤ 8) where
  -- lanes that are no greater close the same
  pub lesser_below : (bend : ℕ) (lanes lesser : List ℕ) → ((stage : ℕ) → stage < 8 → slice_index lesser stage ≤ slice_index lanes stage) → ClosesBelow job proved noted attitude bend lanes → ClosesBelow job proved noted attitude bend lesser
  lesser_below bend lanes lesser less closes lead first low is back stage inside = elim (closes lead first low is back stage inside) [
    | inl known ↦ inl known
    | inr most ↦ inr (let here = less stage (omega (arith, few, inside)) in omega (arith, here, most))
  ]

  lesser_bend : (bend : ℕ) (lanes lesser : List ℕ) → ((stage : ℕ) → stage < 8 → slice_index lesser stage ≤ slice_index lanes stage) → ClosesBend job proved noted attitude bend lanes → ClosesBend job proved noted attitude bend lesser
  lesser_bend bend lanes lesser less closes back stage inside = elim (closes back stage inside) [
    | inl known ↦ inl known
    | inr most ↦ inr (let here = less stage (omega (arith, few, inside)) in omega (arith, here, most))
  ]

  -- the lesser of what closes the leads below a bend, and of what closes it
  pub bend_closed : (bend : ℕ) (lanes more lesser : List ℕ) → ((stage : ℕ) → stage < 8 → slice_index lesser stage ≡ min (slice_index lanes stage) (slice_index more stage))
      → ClosesBelow job proved noted attitude bend lanes → ClosesBend job proved noted attitude bend more → ClosesBelow job proved noted attitude (bend + 1) lesser
  bend_closed bend lanes more lesser is below here lead first low lead_is = elim (eqb_tells lead bend) [
    | inl same ↦ subst (λ (n : ℕ). ClosesBend job proved noted attitude n lesser) (sym same.1) (lesser_bend bend more lesser (λ stage wide. let e = is stage wide in omega (arith, e)) here)
    | inr other ↦ lesser_below bend lanes lesser (λ stage wide. let e = is stage wide in omega (arith, e)) below lead first (let no = other.1 in omega (arith, low, no)) lead_is
  ]

-- a bend that is no lead is passed over
pub bend_passed_over : (job : JobData) (proved : ProvedCosts) (noted : ActionSet) (attitude bend : ℕ) (lanes : List ℕ) → (IsTrue (is_lead job proved.mask bend) → ⊥) → ClosesBelow job proved noted attitude bend lanes
    → ClosesBelow job proved noted attitude (bend + 1) lanes
bend_passed_over job proved noted attitude bend lanes none below lead first low is = elim (eqb_tells lead bend) [
  | inl same ↦ absurd (none (subst (λ (n : ℕ). IsTrue (is_lead job proved.mask n)) same.1 is))
  | inr other ↦ below lead first (let not_here = other.1 in omega (arith, low, not_here)) is
]
