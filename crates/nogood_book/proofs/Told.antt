-- Which actions are refuted, told by their numbers: as the nogoods are gone through, and as the list grows.
use Rattle.std.proofs.Common.{◌≡◌, ◌↔◌, inl, inr, ℕ, ◌+◌, ◌<◌, ◌≤◌, Bool, true, false, List, [], ◌∷◌, ◌++◌, length, get_or, take, IsTrue, sym, ◌∙◌, ap, subst, arith}
use Rattle.std.specs.Prelude.{replicate, slice_set, slice_index_or}
use Rattle.std.proofs.lemmas.Bool.{cases_lt, cases_eq, true≢false}
use Rattle.std.proofs.lemmas.List.{get_or-set_same, get_or-set_other, get_or-replicate, get_or_past, length-replicate, take_more}
use Rattle.std.proofs.lemmas.List.Elements.{All-push}
use Rattle.brake_base.specs.declared.mask.Mask.{Mask}
use Rattle.brake_base.specs.declared.stroke.Action.{Action}
use Rattle.brake_base.specs.Actions.{IsActionAmong, number_of_action}
use Rattle.brake_base.proofs.Actions.{same_number}
use Rattle.job_setup.specs.Setup.{JobData, stage_count}
use Rattle.job_setup.specs.ValidJob.{IsJob}
use Rattle.nogood_book.specs.declared.nogood.Nogood.{Nogood}
use Rattle.nogood_book.specs.Nogood.{Matches, learned}
use Rattle.nogood_book.specs.Book.{Refutes, IsRefuted, Grows, learns, stays, IsNumbered}
use Rattle.nogood_book.specs.Refuted.{AreNumbered, AreTold}
use Rattle.box_support.proofs.Elements.{any_here, any_before, any_after, any_split}
use Rattle.nogood_book.proofs.Growth.{among, number_low}

pub none_set : (n k : ℕ) → get_or (replicate n false) k false ≡ false
none_set n k = elim (cases_lt k n) [
  | inl low ↦ get_or-replicate n k false false low
  | inr past ↦ get_or_past (replicate n false) k false (omega (arith, past, length-replicate n false))
]

pub told_of_none : (stages : ℕ) (mask : Mask) (told : List Bool) → ((k : ℕ) → slice_index_or told k false ≡ false) → AreTold stages [] mask 0 told
told_of_none stages mask told none action fits low = ((λ h. absurd (true≢false (sym h ∙ none (number_of_action stages action)))), λ refuted. absurd (let low : refuted.0 < 0 = refuted.2 in omega (arith, low)))

-- one nogood more that matches: its action is refuted
module _ (stages : ℕ) (nogoods : List Nogood) (nogood : Nogood) (own : IsActionAmong 12 stages nogood.action) (mask : Mask) (told : List Bool) (is : AreTold stages nogoods mask 0 told) where
  pub told_more : Matches nogood mask → number_of_action stages nogood.action < length told → AreTold stages (nogoods ++ nogood ∷ []) mask 0 (slice_set told (number_of_action stages nogood.action) true)
  told_more matches within action other low = elim (cases_eq (number_of_action stages action) (number_of_action stages nogood.action)) [
    | inl same ↦
        let equal : nogood.action ≡ action = sym (same_number stages action nogood.action other own same) in
        let at : slice_index_or (slice_set told (number_of_action stages nogood.action) true) (number_of_action stages action) false ≡ true =
        ap (λ n. slice_index_or (slice_set told (number_of_action stages nogood.action) true) n false) same ∙ get_or-set_same told (number_of_action stages nogood.action) true false within in
        (λ _. any_before (λ n. Refutes n mask action) nogoods (nogood ∷ []) (any_here (λ n. Refutes n mask action) nogood [] (record { same = equal; matches = matches })), λ _. at)
    | inr apart ↦
        let at : slice_index_or (slice_set told (number_of_action stages nogood.action) true) (number_of_action stages action) false ≡ slice_index_or told (number_of_action stages action) false =
        get_or-set_other told (number_of_action stages nogood.action) (number_of_action stages action) true false apart in (
          (λ h. any_after (λ n. Refutes n mask action) nogoods (nogood ∷ []) ((is action other low).0 (sym at ∙ h))),
          λ refuted. elim (any_split (λ n. Refutes n mask action) nogoods nogood refuted) [
            | inl earlier ↦ at ∙ (is action other low).1 earlier
            | inr this ↦ absurd (apart (ap (number_of_action stages) (sym this.same)))
          ],
        )
  ]

  -- one that doesn't: nothing is
  pub told_same : ¬ Matches nogood mask → AreTold stages (nogoods ++ nogood ∷ []) mask 0 told
  told_same not_this action other low = (
    (λ h. any_after (λ n. Refutes n mask action) nogoods (nogood ∷ []) ((is action other low).0 h)),
    λ refuted. elim (any_split (λ n. Refutes n mask action) nogoods nogood refuted) [
      | inl earlier ↦ (is action other low).1 earlier
      | inr this ↦ absurd (not_this this.matches)
    ],
  )

-- the same as the nogoods of a list are gone through
module _ (stages : ℕ) (few : stages ≤ 6) (nogoods : List Nogood) (numbered : AreNumbered stages nogoods) (mask : Mask) (i : ℕ) (d : Nogood) (within : i < length nogoods) (told : List Bool) (is : AreTold stages (take i nogoods) mask 0 told) where
  pub mark_low : number_of_action stages (get_or nogoods i d).action < 144
  mark_low = let low = number_low stages (get_or nogoods i d).action (numbered i d within) in omega (arith, low, few)

  pub told_step : length told ≡ 144 → Matches (get_or nogoods i d) mask → AreTold stages (take (i + 1) nogoods) mask 0 (slice_set told (number_of_action stages (get_or nogoods i d).action) true)
  told_step count matches =
      subst (λ (l : List Nogood). AreTold stages l mask 0 (slice_set told (number_of_action stages (get_or nogoods i d).action) true)) (sym (take_more nogoods i d within))
      (told_more stages (take i nogoods) (get_or nogoods i d) (numbered i d within) mask told is matches (omega (arith, count, mark_low)))

  pub told_skip : ¬ Matches (get_or nogoods i d) mask → AreTold stages (take (i + 1) nogoods) mask 0 told
  told_skip not_this =
      subst (λ (l : List Nogood). AreTold stages l mask 0 told) (sym (take_more nogoods i d within))
      (told_same stages (take i nogoods) (get_or nogoods i d) (numbered i d within) mask told is not_this)

-- ---- as the list grows
pub grown_numbered : (job : JobData) → IsJob job → (mask : Mask) (action : Action) (before after : List Nogood) → Grows job mask action before after → AreNumbered (stage_count job) before → AreNumbered (stage_count job) after
grown_numbered job fit mask action before after (learns reason at first new) all =
    All-push (λ (nogood : Nogood). IsActionAmong 12 (stage_count job) nogood.action) before (learned job mask action reason) all (among job fit mask action at)
grown_numbered job fit mask action before after (stays known) all = all

-- what is told of the actions from the next number on stays so
pub told_later : (job : JobData) (mask : Mask) (action : Action) (before after : List Nogood) → Grows job mask action before after → (n : ℕ) → IsNumbered job n action → (told : List Bool) → AreTold (stage_count job) before mask n told → AreTold (stage_count job) after mask (n + 1) told
told_later job mask action before after (learns reason at first new) n numbered told is other fits low = (
  (λ h. any_after (λ nogood. Refutes nogood mask other) before (learned job mask action reason ∷ []) ((is other fits (omega (arith, low))).0 h)),
  λ refuted. elim (any_split (λ nogood. Refutes nogood mask other) before (learned job mask action reason) refuted) [
    | inl earlier ↦ (is other fits (omega (arith, low))).1 earlier
    | inr this ↦ absurd (let number = ap (number_of_action (stage_count job)) this.same in let own = numbered.is in omega (arith, low, number, own))
  ],
)
told_later job mask action before after (stays known) n numbered told is other fits low = is other fits (omega (arith, low))

-- ---- what is told of the action of a number
pub told_at : (job : JobData) (mask : Mask) (nogoods : List Nogood) (n : ℕ) (action : Action) → IsNumbered job n action → (told : List Bool) → AreTold (stage_count job) nogoods mask n told → IsTrue (slice_index_or told n false) ↔ IsRefuted nogoods mask action
told_at job mask nogoods n action numbered told is =
    subst (λ (k : ℕ). IsTrue (slice_index_or told k false) ↔ IsRefuted nogoods mask action) numbered.is (is action numbered.among (omega (arith, numbered.is)))
