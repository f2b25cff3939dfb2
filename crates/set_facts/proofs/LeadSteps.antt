-- The leads left at a set, by those of the set with the group of its least unfolded bend folded too: the bend comes first, and the other leads stay, with their groups.
use Rattle.std.proofs.Common.{◌≡◌, inl, inr, ℕ, zero, suc, ◌+◌, ◌<◌, ◌≤◌, Bool, true, false, ◌||◌, cond, List, ◌∷◌, map, filter, arith, refl, sym, ◌∙◌, ap}
use Rattle.std.specs.Prelude.{max}
use Rattle.std.specs.List.{range_with_len}
use Rattle.std.proofs.lemmas.Bool.{false≢true, false_from_ne_true}
use Rattle.std.proofs.lemmas.Bool.Decides.{eqb_tells}
use Rattle.brake_base.specs.declared.mask.Mask.{Mask}
use Rattle.brake_base.specs.declared.stroke.Key.{Key}
use Rattle.brake_base.specs.declared.stroke.Action.{Action}
use Rattle.brake_base.specs.Masks.{has}
use Rattle.job_setup.specs.Setup.{JobData, bend_count, stage_count}
use Rattle.job_setup.specs.StageOf.{stage_of}
use Rattle.job_setup.specs.Reasons.{meets}
use Rattle.job_setup.specs.StrokeGroup.{in_group, is_lead}
use Rattle.handling_cost.specs.StepCost.{IsActionAt, key_after}
use Rattle.handling_cost.specs.Bound.{leads_left, meeting_stages, nearest, greatest, farthest}
use Rattle.handling_cost.proofs.Counts.{filter_same}
use Rattle.handling_cost.proofs.Mates.{grouped_back, grouped_flat, grouped_shared, grouped_range, regrouped}
use Rattle.handling_cost.proofs.Actions.{IsLead, lead_is, lead_from, folds, folds_own, keeps_folded, stays_lead, neither}

pub clash : (t : Bool) → t ≡ false → t ≡ true → ⊥
clash t fails passes = false≢true (sym fails ∙ passes)

-- two tests that agree but at b, which passes the first alone and is the first to pass
pub first_taken : (p q : ℕ → Bool) (a n b : ℕ) → a ≤ b → b < a + n → p b ≡ true → q b ≡ false
    → ((c : ℕ) → a ≤ c → c < b → p c ≡ false) → ((c : ℕ) → a ≤ c → c < b → q c ≡ false) → ((c : ℕ) → b < c → c < a + n → p c ≡ q c)
    → filter p (range_with_len a n) ≡ b ∷ filter q (range_with_len a n)
first_taken p q a zero b low high passes fails none nor same = absurd (omega (arith, low, high))
first_taken p q a (suc n) b low high passes fails none nor same = elim (eqb_tells a b) [
  | inl here ↦ rw (here.1, passes, fails) (λ i. b ∷ filter_same p q (b + 1) n (λ c first last. same c (omega (arith, first)) (let e = here.1 in omega (arith, e, last))) i)
  | inr other ↦
      let below : a < b = let no = other.1 in omega (arith, low, no) in
      rw (none a (omega arith) below, nor a (omega arith) below)
      (first_taken p q (a + 1) n b (omega (arith, below)) (omega (arith, high)) passes fails (λ c first last. none c (omega (arith, first)) last) (λ c first last. nor c (omega (arith, first)) last)
      (λ c first last. same c first (omega (arith, last))))
]

valued_more : (f g : ℕ → ℕ) (t : Bool) (x : ℕ) (xs : List ℕ) → (t ≡ true → f x ≡ g x) → map f xs ≡ map g xs → map f (cond t (x ∷ xs) xs) ≡ map g (cond t (x ∷ xs) xs)
valued_more f g true x xs one rest = λ i. one refl i ∷ rest i
valued_more f g false x xs one rest = rest

-- two values that agree on the numbers that pass
pub valued_alike : (p : ℕ → Bool) (f g : ℕ → ℕ) (a n : ℕ) → ((c : ℕ) → a ≤ c → c < a + n → p c ≡ true → f c ≡ g c) → map f (filter p (range_with_len a n)) ≡ map g (filter p (range_with_len a n))
valued_alike p f g a zero same = refl
valued_alike p f g a (suc n) same = valued_more f g (p a) a (filter p (range_with_len (a + 1) n)) (same a (omega arith) (omega arith))
    (valued_alike p f g (a + 1) n (λ c low high. same c (omega (arith, low)) (omega (arith, high))))

module _ (job : JobData) (few : bend_count job ≤ 12) (key : Key) (action : Action) (at : IsActionAt job key action) where
  abbrev pub after : Mask
  after = (key_after job key action).mask

  own : IsLead job key.mask action.bend
  own = lead_is job key.mask action.bend at.lead

  -- a bend that is unfolded afterwards was so before, and isn't in the action's group
  was_flat : (c : ℕ) → 1 ≤ c → c ≤ bend_count job → has after c ≡ false → has key.mask c ≡ false
  was_flat c first last flat = false_from_ne_true (has key.mask c) (λ folded. clash (has after c) flat (keeps_folded job few key action at c first last folded))

  was_apart : (c : ℕ) → 1 ≤ c → c ≤ bend_count job → has after c ≡ false → in_group job (has key.mask) action.bend c ≡ false
  was_apart c first last flat = false_from_ne_true (in_group job (has key.mask) action.bend c) (λ within.
      let was : has key.mask c ≡ false = was_flat c first last flat in
      let both : (has key.mask c || in_group job (has key.mask) action.bend c) ≡ true = rw (within, was) refl in
      clash (has after c) flat (folds job few key action at c first last ∙ both))

  -- none of its group is folded by the action, so its group is the one it had
  same_flat_group : (c : ℕ) → 1 ≤ c → c ≤ bend_count job → has after c ≡ false → (d : ℕ) → in_group job (has after) c d ≡ in_group job (has key.mask) c d
  same_flat_group c first last flat d = regrouped job (has key.mask) (has after) job.setup.gang c d spared (λ low high folded. keeps_folded job few key action at d low high folded)
    where
      spared : in_group job (has key.mask) c d ≡ true → has after d ≡ false
      spared within =
          let gang = job.setup.gang in
          let was = was_flat c first last flat in
          let range = grouped_range job (has key.mask) gang c d first last within in
          let out : in_group job (has key.mask) action.bend d ≡ false = false_from_ne_true (in_group job (has key.mask) action.bend d) (λ folded.
          let to_own = grouped_back job (has key.mask) gang action.bend d at.first at.last own.flat folded in
          let to_other = grouped_back job (has key.mask) gang c d first last was within in
          let both : in_group job (has key.mask) action.bend c ≡ true = grouped_shared job (has key.mask) gang d action.bend c to_own to_other in
          clash (in_group job (has key.mask) action.bend c) (was_apart c first last flat) both) in
          folds job few key action at d range.0 range.1 ∙ neither (has key.mask d) (in_group job (has key.mask) action.bend d) (grouped_flat job (has key.mask) gang c d was within) out

  -- who is a lead afterwards was one before
  pub was_lead : (c : ℕ) → 1 ≤ c → c ≤ bend_count job → IsLead job after c → IsLead job key.mask c
  was_lead c first last lead = record {
    flat = was_flat c first last lead.flat;
    least = λ d low high below. sym (same_flat_group c first last lead.flat d) ∙ lead.least d low high below;
  }

  -- the action's own bend is no lead afterwards; each other bend is one where it was one before
  pub own_is_gone : is_lead job after action.bend ≡ false
  own_is_gone = false_from_ne_true (is_lead job after action.bend) (λ lead. clash (has after action.bend) (lead_is job after action.bend lead).flat (folds_own job few key action at))

  pub others_stay : (c : ℕ) → 1 ≤ c → c ≤ bend_count job → (c ≡ action.bend → ⊥) → is_lead job key.mask c ≡ is_lead job after c
  others_stay c first last other = both (is_lead job key.mask c) (is_lead job after c)
      (λ before. lead_from job after c (stays_lead job few key action at c first last other (lead_is job key.mask c before)))
      (λ now. lead_from job key.mask c (was_lead c first last (lead_is job after c now)))
    where
      both : (s t : Bool) → (s ≡ true → t ≡ true) → (t ≡ true → s ≡ true) → s ≡ t
      both true t there back = sym (there refl)
      both false true there back = back refl
      both false false there back = refl

  -- the stages that meet a lead's group stay the same
  pub same_stages : (c : ℕ) → 1 ≤ c → c ≤ bend_count job → is_lead job after c ≡ true → meeting_stages job key.mask c ≡ meeting_stages job after c
  same_stages c first last lead =
      let same = same_flat_group c first last (lead_is job after c lead).flat in
      sym (λ i. filter (λ stage. meets job (λ d. same d i) (stage_of job stage)) (range_with_len 0 (stage_count job)))

  module _ (least : (c : ℕ) → 1 ≤ c → c < action.bend → has key.mask c ≡ true) where
    no_lesser : (c : ℕ) → 1 ≤ c → c < action.bend → is_lead job key.mask c ≡ false
    no_lesser c first below = false_from_ne_true (is_lead job key.mask c) (λ lead. clash (has key.mask c) (lead_is job key.mask c lead).flat (least c first below))

    -- the least unfolded bend is the first lead, and those that are left after its stroke are the others
    pub leads_after : leads_left job key.mask ≡ action.bend ∷ leads_left job after
    leads_after =
        first_taken (is_lead job key.mask) (is_lead job after) 1 (bend_count job) action.bend at.first (let last = at.last in omega (arith, last)) at.lead own_is_gone
        no_lesser
        (λ c first below. sym (others_stay c first (let last = at.last in omega (arith, last, below)) (λ same. omega (arith, same, below))) ∙ no_lesser c first below)
        (λ c above last. others_stay c (omega (arith, above)) (omega (arith, last)) (λ same. omega (arith, same, above)))

    -- so the farthest of them is the farther of the first and of those left after its stroke
    pub farthest_after : (from : ℕ) → farthest job key.mask from ≡ max (nearest from (meeting_stages job key.mask action.bend)) (farthest job after from)
    unfolding farthest
    farthest_after from =
        let was = λ (b : ℕ). nearest from (meeting_stages job key.mask b) in
        let is = λ (b : ℕ). nearest from (meeting_stages job after b) in
        ap (λ bs. greatest (map was bs)) leads_after
        ∙ ap (λ ns. max (was action.bend) (greatest ns))
        (valued_alike (is_lead job after) was is 1 (bend_count job) (λ c first last lead. ap (λ ss. nearest from ss) (same_stages c first (omega (arith, last)) lead)))
