-- No more keys are reached than there are.
use Rattle.std.proofs.Common.{◌≡◌, ◌⊎◌, inl, inr, ℕ, zero, suc, ◌+◌, ◌-◌, ◌*◌, ◌^◌, ◌<◌, List, [], ◌∷◌, length, get_or, arith, refl, sym, ◌∙◌, ap, subst}
use Rattle.std.proofs.Math.Nat.{mul_comm, mul_assoc}
use Rattle.std.proofs.lemmas.Bool.Decides.{eqb_tells}
use Rattle.std.proofs.lemmas.Nat.{mul-add-lt, same_from_place}
use Rattle.brake_base.specs.declared.stroke.Key.{Key}
use Rattle.brake_base.specs.declared.stroke.Step.{Step}
use Rattle.job_setup.specs.Setup.{JobData, bend_count, stage_count}
use Rattle.job_setup.specs.ValidJob.{IsJob}
use Rattle.handling_cost.specs.StepCost.{IsKeyOf, IsFull}
use Rattle.handling_cost.specs.Plan.{start}
use Rattle.handling_cost.specs.Reach.{Leads, IsReached, ReachIsAbove, nodes}
use Rattle.handling_cost.proofs.Actions.{few_bends, next_is_nonempty}
use Rattle.handling_cost.proofs.Keys.{start_in_range, next_in_range, below_full}
use Rattle.handling_cost.proofs.Pigeonhole.{at_most}

-- what a reached key is: in range, and the start where no bend is folded
record IsSpot (job : JobData) (key : Key) : Type 0 where
  in_range : IsKeyOf job key
  first : key.mask.0 ≡ 0 → key ≡ start

spot : (job : JobData) → IsJob job → (steps : List Step) (key : Key) → Leads job steps key → IsSpot job key
spot job is_job [] key leads = rw leads (record { in_range = start_in_range job is_job; first = λ none. refl })
spot job is_job (step ∷ earlier) key leads =
    let before = spot job is_job earlier leads.0 leads.1 in
    let at = leads.2.action in
    rw leads.3 (record {
      in_range = next_in_range job is_job leads.0 step.action before.in_range at;
      first = λ none. let some = next_is_nonempty job (few_bends job is_job) leads.0 step.action at in let never = rw none at some in absurd cc;
    })

-- each reached key is in range
pub reached_in_range : (job : JobData) → IsJob job → (key : Key) → IsReached job key → IsKeyOf job key
reached_in_range job is_job key reached = (spot job is_job reached.0 key reached.1).in_range

-- a number for each reached key: 0 for the start
abbrev numbered : JobData → ℕ → Key → ℕ
numbered job zero key = 0
numbered job (suc m) key = suc ((m * 24 + key.attitude) * stage_count job + key.stage)

abbrev number : JobData → Key → ℕ
number job key = numbered job key.mask.0 key

abbrev some_nodes : JobData → ℕ
some_nodes job = 1 + (2 ^ bend_count job - 2) * (24 * stage_count job)

numbered_below : (job : JobData) (m : ℕ) (key : Key) → IsKeyOf job key → m < 2 ^ bend_count job - 1 → numbered job m key < some_nodes job
numbered_below job zero key in_range less = omega arith
numbered_below job (suc m) key in_range less =
    let stages = stage_count job in
    let masks = 2 ^ bend_count job - 2 in
    let place : m * 24 + key.attitude < 24 * masks = mul-add-lt m 24 key.attitude masks (omega arith) in_range.attitude in
    let number = mul-add-lt (m * 24 + key.attitude) stages key.stage (24 * masks) place in_range.stage in
    let same : stages * (24 * masks) ≡ masks * (24 * stages) =
    mul_comm stages (24 * masks) ∙ (ap (λ x. x * stages) (mul_comm 24 masks) ∙ mul_assoc masks 24 stages)
    in
    omega (arith, number, same)

numbered_apart : (job : JobData) (m n : ℕ) (a b : Key) → a.mask.0 ≡ m → b.mask.0 ≡ n → IsSpot job a → IsSpot job b → numbered job m a ≡ numbered job n b → a ≡ b
numbered_apart job zero zero a b is_m is_n first second same = first.first is_m ∙ sym (second.first is_n)
numbered_apart job zero (suc n) a b is_m is_n first second same = absurd (omega arith)
numbered_apart job (suc m) zero a b is_m is_n first second same = absurd (omega arith)
numbered_apart job (suc m) (suc n) a b is_m is_n first second same =
    let outer = same_from_place (m * 24 + a.attitude) a.stage (n * 24 + b.attitude) b.stage (stage_count job) first.in_range.stage second.in_range.stage (omega arith) in
    let inner = same_from_place m a.attitude n b.attitude 24 first.in_range.attitude second.in_range.attitude outer.0 in
    let mask : a.mask.0 ≡ b.mask.0 = is_m ∙ (ap suc inner.0 ∙ sym is_n) in
    λ i. record { mask = record { 0 = mask i }; attitude = inner.1 i; stage = outer.1 i }

reach_within : (job : JobData) → IsJob job → ReachIsAbove job (some_nodes job) → ⊥
reach_within job is_job above =
    let keys = above.0 in
    let spot_at : (i : ℕ) (d : Key) → i < length keys → IsSpot job (get_or keys i d) = λ i d within.
    let reached = (above.3 i d within).reached in spot job is_job reached.0 (get_or keys i d) reached.1
    in
    let most = at_most (number job) (some_nodes job) keys
    (λ i j d before within same. above.2 i j d before within
    (numbered_apart job (get_or keys i d).mask.0 (get_or keys j d).mask.0 (get_or keys i d) (get_or keys j d) refl refl (spot_at i d (omega arith)) (spot_at j d within) same))
    (λ i d within. let here = spot_at i d within in
    numbered_below job (get_or keys i d).mask.0 (get_or keys i d) here.in_range (below_full job is_job (get_or keys i d) here.in_range (above.3 i d within).not_full))
    in
    let more = above.1 in
    omega arith

all_full : (job : JobData) → bend_count job ≡ 0 → (key : Key) → IsFull job key
unfolding IsFull
all_full job none key b first last = absurd (omega (arith, none, first, last))

-- without bends the start is full, and no key is reached that isn't
none_without_bends : (job : JobData) → bend_count job ≡ 0 → ReachIsAbove job 0 → ⊥
none_without_bends job none above = (above.3 0 start above.1).not_full (all_full job none (get_or above.0 0 start))

-- reach is at most the number of nodes
pub reach_within_nodes : (job : JobData) → IsJob job → ReachIsAbove job (nodes job) → ⊥
reach_within_nodes job is_job above = elim (eqb_tells (bend_count job) 0) [
  | inl none ↦ let bare = rw none.0 at above in none_without_bends job none.1 bare
  | inr some ↦ let all = rw some.0 at above in reach_within job is_job all
]
