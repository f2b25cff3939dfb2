-- The bound is admissible: every rest from a key costs at least its bound.
use Rattle.std.proofs.Common.{◌≡◌, inl, inr, ℕ, ◌+◌, ◌*◌, ◌==◌, ◌≤◌, Bool, true, false, cond, List, [], ◌∷◌, length, filter, arith, refl, subst}
use Rattle.std.specs.List.{range_with_len}
use Rattle.std.proofs.Math.Nat.{mul-add, mul-le-mul_left}
use Rattle.std.proofs.lemmas.Bool.Decides.{eqb_tells}
use Rattle.brake_base.specs.declared.mask.Mask.{Mask}
use Rattle.brake_base.specs.declared.stroke.Key.{Key}
use Rattle.brake_base.specs.declared.stroke.Step.{Step}
use Rattle.brake_base.specs.Masks.{has}
use Rattle.job_setup.specs.Setup.{JobData, bend_count, stage_count}
use Rattle.job_setup.specs.ValidJob.{IsJob}
use Rattle.job_setup.specs.StrokeGroup.{in_group, is_lead}
use Rattle.job_setup.specs.StageOf.{stage_of}
use Rattle.job_setup.specs.Reasons.{meets}
use Rattle.handling_cost.specs.StepCost.{IsFull, key_after, distance, stage_cost, cost_to, cost_of}
use Rattle.handling_cost.specs.Plan.{IsRest, total}
use Rattle.handling_cost.specs.Bound.{leads_left, meeting_stages, nearest, farthest, bound_of}
use Rattle.handling_cost.proofs.Counts.{with_greatest}
use Rattle.handling_cost.proofs.Ways.{nearest_at_most, nearest_through}
use Rattle.handling_cost.proofs.Actions.{lead_is, few_bends, next_is_nonempty, one_lead_less, same_group, stays_lead, lead_from, full_has_no_lead, no_leads}
use Rattle.handling_cost.proofs.Legal.{legal_meets}

-- sums of products: n strokes of s each, a way of w for each stage, a step that costs c, and t for the steps after it
strokes_sum : (s n m c t : ℕ) → n ≤ 1 + m → s ≤ c → s * m ≤ t → s * n ≤ c + t
strokes_sum s n m c t fewer first others =
    let more : s * n ≤ s * (1 + m) = mul-le-mul_left s fewer in
    let parts : s * (1 + m) ≡ s * 1 + s * m = mul-add s 1 m in
    omega (arith, more, parts, first, others)

way_here : (s n m w d near c t : ℕ) → n ≤ 1 + m → s + w * d ≤ c → s * m ≤ t → near ≤ d → s * n + w * near ≤ c + t
way_here s n m w d near c t fewer first others close =
    let more : s * n ≤ s * (1 + m) = mul-le-mul_left s fewer in
    let parts : s * (1 + m) ≡ s * 1 + s * m = mul-add s 1 m in
    let less : w * near ≤ w * d = mul-le-mul_left w close in
    omega (arith, more, parts, less, first, others)

way_later : (s n m w d near far c t : ℕ) → n ≤ 1 + m → s + w * d ≤ c → s * m + w * near ≤ t → far ≤ d + near → s * n + w * far ≤ c + t
way_later s n m w d near far c t fewer first others through =
    let more : s * n ≤ s * (1 + m) = mul-le-mul_left s fewer in
    let parts : s * (1 + m) ≡ s * 1 + s * m = mul-add s 1 m in
    let less : w * far ≤ w * (d + near) = mul-le-mul_left w through in
    let ways : w * (d + near) ≡ w * d + w * near = mul-add w d near in
    omega (arith, more, parts, less, ways, first, others)

first_of_sum : (s x w : ℕ) → s ≤ s + x + w
first_of_sum s x w = omega arith

ends_of_sum : (s x w : ℕ) → s + w ≤ s + x + w
ends_of_sum s x w = omega arith

stroke_paid : (job : JobData) (key : Key) (attitude stage : ℕ) → job.setup.cost.stroke ≤ cost_to job key attitude stage
unfolding cost_to
stroke_paid job key attitude stage = first_of_sum job.setup.cost.stroke _ _

way_paid : (job : JobData) (key : Key) (attitude stage : ℕ) → (key.mask.0 == 0) ≡ false → job.setup.cost.stroke + job.setup.cost.stage * distance key.stage stage ≤ cost_to job key attitude stage
unfolding cost_to stage_cost
way_paid job key attitude stage some = rw some (ends_of_sum job.setup.cost.stroke _ (job.setup.cost.stage * distance key.stage stage))

stage_after : (job : JobData) (key : Key) (step : Step) → (key_after job key step.action).stage ≡ step.action.stage
unfolding key_after
stage_after job key step = refl

module _ (job : JobData) (few : bend_count job ≤ 12) where
  same_stages : (mask next : Mask) (b : ℕ) → ((c : ℕ) → in_group job (has next) b c ≡ in_group job (has mask) b c) → meeting_stages job next b ≡ meeting_stages job mask b
  same_stages mask next b same = λ i. filter (λ stage. meets job (λ c. same c i) (stage_of job stage)) (range_with_len 0 (stage_count job))

  -- a stroke for each lead
  strokes_paid : (key : Key) (steps : List Step) → IsRest job key steps → job.setup.cost.stroke * length (leads_left job key.mask) ≤ total job key steps
  strokes_paid key [] rest = rw (no_leads job key rest) (omega arith)
  strokes_paid key (step ∷ steps) rest =
      let next = key_after job key step.action in
      strokes_sum job.setup.cost.stroke (length (leads_left job key.mask)) (length (leads_left job next.mask)) (cost_of job key step.action) (total job next steps)
      (one_lead_less job few key step.action rest.0.action) (stroke_paid job key _ step.action.stage) (strokes_paid next steps rest.1)

  -- and the way to a stage that meets the group of a lead, which is bent there in the end
  ways_paid : (key : Key) (steps : List Step) (b : ℕ) → IsRest job key steps → (key.mask.0 == 0) ≡ false → 1 ≤ b → b ≤ bend_count job → is_lead job key.mask b ≡ true
      → job.setup.cost.stroke * length (leads_left job key.mask) + job.setup.cost.stage * nearest key.stage (meeting_stages job key.mask b) ≤ total job key steps
  ways_paid key [] b rest some first last lead = let none = full_has_no_lead job key rest b first last in absurd cc
  ways_paid key (step ∷ steps) b rest some first last lead =
      let next = key_after job key step.action in
      let at = rest.0.action in
      elim (eqb_tells b step.action.bend) [
        | inl here ↦
            way_here job.setup.cost.stroke (length (leads_left job key.mask)) (length (leads_left job next.mask)) job.setup.cost.stage (distance key.stage step.action.stage)
            (nearest key.stage (meeting_stages job key.mask b)) (cost_of job key step.action) (total job next steps)
            (one_lead_less job few key step.action at) (way_paid job key _ step.action.stage some) (strokes_paid next steps rest.1)
            (rw here.1 (nearest_at_most (λ stage. meets job (in_group job (has key.mask) step.action.bend) (stage_of job stage)) (stage_count job) key.stage step.action.stage at.stage (legal_meets job few key step rest.0)))
        | inr other ↦
            let before = lead_is job key.mask b lead in
            let after = stays_lead job few key step.action at b first last other.1 before in
            let later = ways_paid next steps b rest.1 (next_is_nonempty job few key step.action at) first last (lead_from job next.mask b after) in
            let same = same_stages key.mask next.mask b (same_group job few key step.action at b first last other.1 before) in
            let near : nearest next.stage (meeting_stages job next.mask b) ≡ nearest step.action.stage (meeting_stages job key.mask b) = λ i. nearest (stage_after job key step i) (same i) in
            way_later job.setup.cost.stroke (length (leads_left job key.mask)) (length (leads_left job next.mask)) job.setup.cost.stage (distance key.stage step.action.stage)
            (nearest step.action.stage (meeting_stages job key.mask b)) (nearest key.stage (meeting_stages job key.mask b)) (cost_of job key step.action) (total job next steps)
            (one_lead_less job few key step.action at) (way_paid job key _ step.action.stage some)
            (subst (λ (n : ℕ). job.setup.cost.stroke * length (leads_left job next.mask) + job.setup.cost.stage * n ≤ total job next steps) near later)
            (nearest_through key.stage step.action.stage (meeting_stages job key.mask b))
      ]

  bounded : (key : Key) (steps : List Step) → IsRest job key steps → (empty : Bool) → (key.mask.0 == 0) ≡ empty
      → job.setup.cost.stroke * length (leads_left job key.mask) + cond empty 0 (job.setup.cost.stage * farthest job key.mask key.stage) ≤ total job key steps
  unfolding farthest
  bounded key steps rest true none = let paid = strokes_paid key steps rest in omega (arith, paid)
  bounded key steps rest false some =
      with_greatest (is_lead job key.mask) (λ b. nearest key.stage (meeting_stages job key.mask b)) (job.setup.cost.stroke * length (leads_left job key.mask)) job.setup.cost.stage (total job key steps)
      (strokes_paid key steps rest) 1 (bend_count job) (λ b first last lead. ways_paid key steps b rest some first (omega arith) lead)

pub bound_is_admissible : (job : JobData) → IsJob job → (key : Key) (steps : List Step) → IsRest job key steps → bound_of job key ≤ total job key steps
unfolding bound_of
bound_is_admissible job is_job key steps rest = bounded job (few_bends job is_job) key steps rest (key.mask.0 == 0) refl

-- where every bend is folded the bound is 0
pub full_has_no_bound : (job : JobData) → IsJob job → (key : Key) → IsFull job key → bound_of job key ≡ 0
full_has_no_bound job is_job key full = let most = bound_is_admissible job is_job key [] full in omega (arith, most)
