-- The book refutes every action against which a reason other than NoGauge holds, and no other; and how long it can be.
use Rattle.std.proofs.Common.{◌≡◌, ◌≢◌, inl, inr, ℕ, zero, suc, ◌+◌, ◌-◌, ◌*◌, ◌^◌, ◌<◌, ◌≤◌, List, [], ◌∷◌, length, get_or, refl, sym, ◌∙◌, ap, subst, arith, length-append, add-one}
use Rattle.std.specs.Prelude.{All, Option, Some, None}
use Rattle.std.proofs.Math.Pow.{pow_mono}
use Rattle.std.proofs.lemmas.Bool.{cases_lt, true≢false}
use Rattle.std.proofs.lemmas.List.Elements.{All-nil, All-push}
use Rattle.brake_base.specs.declared.mask.Mask.{Mask}
use Rattle.brake_base.specs.declared.stroke.Action.{Action}
use Rattle.brake_base.specs.declared.reason.Reason.{Reason}
use Rattle.brake_base.specs.declared.reason.Reason.TheVariants.{Cover, Rest, Frame, Upper, Nose, Lower, SelfHit, NoGauge, Load}
use Rattle.brake_base.specs.Reasons.{ReasonIsBefore}
use Rattle.brake_base.specs.Actions.{IsActionAmong, back_number, number_of_action}
use Rattle.brake_base.specs.declared.stroke.Back.{Back}
use Rattle.brake_base.specs.declared.stroke.Back.TheVariants.{Parent, Child}
use Rattle.brake_base.proofs.Actions.{same_number}
use Rattle.job_setup.specs.Setup.{JobData, bend_count, stage_count}
use Rattle.job_setup.specs.Reasons.{IsFirstReason}
use Rattle.job_setup.specs.StrokeGroup.{group_of}
use Rattle.job_setup.specs.ValidJob.{IsJob}
use Rattle.handling_cost.specs.StepCost.{IsActionAt, IsKeyOf, IsFull}
use Rattle.handling_cost.specs.Plan.{IsReasonFor}
use Rattle.handling_cost.proofs.Actions.{few_bends, lead_is}
use Rattle.handling_cost.proofs.Keys.{some_stage, below_full}
use Rattle.sweep_check.specs.FirstReasons.{IsFirstBeforeNoGauge}
use Rattle.stroke_table.specs.Strokes.{IsFirstAt}
use Rattle.nogood_book.specs.declared.nogood.Nogood.{Nogood}
use Rattle.nogood_book.specs.Nogood.{IsSetOf, key_at, IsVerified, learned}
use Rattle.nogood_book.specs.Book.{Refutes, IsRefuted, IsOpposed, IsFirstOpposing, Grows, learns, stays, IsNumbered, GrowsBelow, IsBookBelow, IsBook, IsNogoodLaw}
use Rattle.box_support.proofs.Elements.{any_here, any_before, any_after}
use Rattle.nogood_book.proofs.Truth.{verified_is_true, learned_is_verified, learned_matches}

-- ---- what is refuted stays so
grown_refuted : (job : JobData) (mask : Mask) (action : Action) (before after : List Nogood) → Grows job mask action before after → (m : Mask) (a : Action) → IsRefuted before m a → IsRefuted after m a
grown_refuted job mask action before after (learns reason at first new) m a refuted = any_after (λ nogood. Refutes nogood m a) before (learned job mask action reason ∷ []) refuted
grown_refuted job mask action before after (stays known) m a refuted = refuted

below_refuted : (job : JobData) (mask : Mask) (n : ℕ) (before after : List Nogood) → GrowsBelow job mask n before after → (m : Mask) (a : Action) → IsRefuted before m a → IsRefuted after m a
below_refuted job mask zero before after same m a refuted = subst (λ (l : List Nogood). IsRefuted l m a) (sym same) refuted
below_refuted job mask (suc n) before after (so_far, action, earlier, numbered, grows) m a refuted = grown_refuted job mask action so_far after grows m a (below_refuted job mask n before so_far earlier m a refuted)

-- ---- completeness
pub opposes : (job : JobData) (mask : Mask) (action : Action) (reason : Reason) → IsFirstOpposing job mask action reason → IsReasonFor job mask action reason
unfolding IsReasonFor
opposes job mask action reason first = first.first.holds

learned_refutes : (job : JobData) → IsJob job → (mask : Mask) → IsSetOf job mask → (action : Action) (reason : Reason) → IsActionAt job (key_at mask) action → Refutes (learned job mask action reason) mask action
learned_refutes job fit mask set action reason at = record { same = refl; matches = learned_matches job fit mask set action reason at }

grown_answers : (job : JobData) → IsJob job → (mask : Mask) → IsSetOf job mask → (action : Action) (before after : List Nogood) → Grows job mask action before after → IsActionAt job (key_at mask) action → IsOpposed job mask action → IsRefuted after mask action
grown_answers job fit mask set action before after (learns reason at first new) can opposed =
    any_before (λ nogood. Refutes nogood mask action) before (learned job mask action reason ∷ [])
    (any_here (λ nogood. Refutes nogood mask action) (learned job mask action reason) [] (learned_refutes job fit mask set action reason at))
grown_answers job fit mask set action before after (stays known) can opposed = known can opposed

pub among : (job : JobData) → IsJob job → (mask : Mask) (action : Action) → IsActionAt job (key_at mask) action → IsActionAmong 12 (stage_count job) action
among job fit mask action at = let few = few_bends job fit in record { first = at.first; last = omega (arith, at.last, few); stage = at.stage }

below_answers : (job : JobData) → IsJob job → (mask : Mask) → IsSetOf job mask → (n : ℕ) (before after : List Nogood) → GrowsBelow job mask n before after
    → (action : Action) → IsActionAt job (key_at mask) action → number_of_action (stage_count job) action < n → IsOpposed job mask action → IsRefuted after mask action
below_answers job fit mask set zero before after same action at low opposed = absurd (omega arith)
below_answers job fit mask set (suc n) before after (so_far, other, earlier, numbered, grows) action at low opposed = elim (cases_lt (number_of_action (stage_count job) action) n) [
  | inl below ↦ grown_refuted job mask other so_far after grows mask action (below_answers job fit mask set n before so_far earlier action at below opposed)
  | inr last ↦
      let number : number_of_action (stage_count job) other ≡ number_of_action (stage_count job) action = numbered.is ∙ omega arith in
      let same : other ≡ action = same_number (stage_count job) other action numbered.among (among job fit mask action at) number in
      grown_answers job fit mask set action so_far after (subst (λ (a : Action). Grows job mask a so_far after) same grows) at opposed
]

side_low : (b : ℕ) (back : Back) → 1 ≤ b → b ≤ 12 → (b - 1) * 2 + back_number back ≤ 23
side_low b Parent first last = omega arith
side_low b Child first last = omega arith

scaled : (k n : ℕ) (s : ℕ) → k ≤ 23 → s < n → k * n + s < 24 * n
scaled k n s low inside = let most : k * n ≤ 23 * n = mul_mono k 23 n low in omega (arith, most)
  where
    mul_mono : (a b m : ℕ) → a ≤ b → a * m ≤ b * m
    mul_mono zero b m h = omega arith
    mul_mono (suc a) zero m h = absurd (omega arith)
    mul_mono (suc a) (suc b) m h = let rest = mul_mono a b m (omega arith) in omega (arith, rest)

-- each action has one of these numbers
pub number_low : (stages : ℕ) (action : Action) → IsActionAmong 12 stages action → number_of_action stages action < 24 * stages
unfolding number_of_action
number_low stages action is = scaled ((action.bend - 1) * 2 + back_number action.back) stages action.stage (side_low action.bend action.back is.first is.last) is.stage

book_answers : (job : JobData) → IsJob job → (n : ℕ) (book : List Nogood) → IsBookBelow job n book → (mask : Mask) (action : Action) → IsSetOf job mask → mask.0 < n → IsActionAt job (key_at mask) action → IsOpposed job mask action
    → IsRefuted book mask action
book_answers job fit zero book none mask action set low at opposed = absurd (omega arith)
book_answers job fit (suc n) book (so_far, earlier, grows) mask action set low at opposed = elim (cases_lt mask.0 n) [
  | inl below ↦ below_refuted job (record { 0 = n }) (24 * stage_count job) so_far book grows mask action (book_answers job fit n so_far earlier mask action set below at opposed)
  | inr last ↦
      let is : n ≡ mask.0 = omega arith in
      let same : GrowsBelow job mask (24 * stage_count job) so_far book = subst (λ (k : ℕ). GrowsBelow job (record { 0 = k }) (24 * stage_count job) so_far book) is grows in
      below_answers job fit mask set (24 * stage_count job) so_far book same action at (number_low (stage_count job) action (among job fit mask action at)) opposed
]

-- where an action can be tried some bend isn't folded
not_full : (job : JobData) → IsJob job → (mask : Mask) → IsSetOf job mask → (action : Action) → IsActionAt job (key_at mask) action → mask.0 < 2 ^ bend_count job - 1
unfolding IsFull
not_full job fit mask set action at =
    let some = some_stage job fit in
    let key : IsKeyOf job (key_at mask) = record { mask = set; attitude = omega arith; stage = omega (arith, some) } in
    below_full job fit (key_at mask) key (λ full. true≢false (sym (full action.bend at.first at.last) ∙ (lead_is job mask action.bend at.lead).flat))

-- ---- one step more
pub grows_next : (job : JobData) (mask : Mask) (n : ℕ) (before so_far after : List Nogood) (action : Action) → GrowsBelow job mask n before so_far → IsNumbered job n action → Grows job mask action so_far after → GrowsBelow job mask (n + 1) before after
grows_next job mask n before so_far after action earlier numbered grows = subst (λ (k : ℕ). GrowsBelow job mask k before after) (sym (add-one n)) (so_far, action, earlier, numbered, grows)

pub book_next : (job : JobData) (n : ℕ) (so_far book : List Nogood) → IsBookBelow job n so_far → GrowsBelow job (record { 0 = n }) (24 * stage_count job) so_far book → IsBookBelow job (n + 1) book
book_next job n so_far book earlier grows = subst (λ (k : ℕ). IsBookBelow job k book) (sym (add-one n)) (so_far, earlier, grows)

pub book_whole : (job : JobData) (bends mask : ℕ) (book : List Nogood) → bends + 1 ≡ length job.part.faces → mask ≡ 2 ^ bends - 1 → IsBookBelow job mask book → IsBook job book
book_whole job bends mask book count last below =
    let same : bends ≡ bend_count job = omega (arith, count) in
    subst (λ (k : ℕ). IsBookBelow job k book) (last ∙ ap (λ (n : ℕ). 2 ^ n - 1) same) below

-- the first reason of all that isn't NoGauge, which comes last
no_gauge_last : (reason : Reason) → reason ≢ NoGauge → ReasonIsBefore reason NoGauge
no_gauge_last Cover other = inl (omega arith)
no_gauge_last (Rest half) other = inl (omega arith)
no_gauge_last (Frame box) other = inl (omega arith)
no_gauge_last (Upper box quarter index) other = inl (omega arith)
no_gauge_last (Nose box quarter stage) other = inl (omega arith)
no_gauge_last (Lower box quarter index) other = inl (omega arith)
no_gauge_last (SelfHit box quarter next) other = inl (omega arith)
no_gauge_last NoGauge other = absurd (other refl)
no_gauge_last Load other = inl (omega arith)

module _ (job : JobData) (mask group : Mask) (back : Back) (stage : ℕ) (found : Option Reason) (first : IsFirstAt job mask group back stage found) where
  pub none_opposes : found ≡ None → IsFirstBeforeNoGauge job mask group back stage None
  none_opposes is = let none = subst (IsFirstAt job mask group back stage) is first in λ reason kind holds. none reason holds

  pub no_gauge_alone : (reason : Reason) → found ≡ Some reason → reason ≡ NoGauge → IsFirstBeforeNoGauge job mask group back stage None
  no_gauge_alone reason is same =
      let here : IsFirstReason job mask group back stage reason = subst (IsFirstAt job mask group back stage) is first in
      λ other kind holds. here.first other holds (subst (ReasonIsBefore other) (sym same) (no_gauge_last other kind))

  pub first_opposes : (reason : Reason) → found ≡ Some reason → reason ≢ NoGauge → IsFirstBeforeNoGauge job mask group back stage (Some reason)
  first_opposes reason is kind = (kind, subst (IsFirstAt job mask group back stage) is first)

pub opposing : (job : JobData) (mask : Mask) (action : Action) (reason : Reason) (found : Option Reason) → IsFirstBeforeNoGauge job mask (group_of job mask action.bend) action.back action.stage found → found ≡ Some reason → IsFirstOpposing job mask action reason
opposing job mask action reason found first is =
    let here = subst (IsFirstBeforeNoGauge job mask (group_of job mask action.bend) action.back action.stage) is first in
    record { kind = here.0; first = here.1 }

pub unopposed : (job : JobData) (mask : Mask) (action : Action) (found : Option Reason) → IsFirstBeforeNoGauge job mask (group_of job mask action.bend) action.back action.stage found → found ≡ None → ¬ IsOpposed job mask action
unfolding IsReasonFor
unopposed job mask action found first is (reason, kind, holds) =
    let none = subst (IsFirstBeforeNoGauge job mask (group_of job mask action.bend) action.back action.stage) is first in
    none reason kind holds

-- ---- truth
grown_verified : (job : JobData) → IsJob job → (mask : Mask) → IsSetOf job mask → (action : Action) (before after : List Nogood) → Grows job mask action before after → All (IsVerified job) before → All (IsVerified job) after
grown_verified job fit mask set action before after (learns reason at first new) all =
    All-push (IsVerified job) before (learned job mask action reason) all (learned_is_verified job fit mask set action reason at first.kind (opposes job mask action reason first))
grown_verified job fit mask set action before after (stays known) all = all

below_verified : (job : JobData) → IsJob job → (mask : Mask) → IsSetOf job mask → (n : ℕ) (before after : List Nogood) → GrowsBelow job mask n before after → All (IsVerified job) before → All (IsVerified job) after
below_verified job fit mask set zero before after same all = subst (All (IsVerified job)) (sym same) all
below_verified job fit mask set (suc n) before after (so_far, action, earlier, numbered, grows) all = grown_verified job fit mask set action so_far after grows (below_verified job fit mask set n before so_far earlier all)

book_verified : (job : JobData) → IsJob job → (n : ℕ) (book : List Nogood) → n ≤ 2 ^ bend_count job → IsBookBelow job n book → All (IsVerified job) book
book_verified job fit zero book low none = subst (All (IsVerified job)) (sym none) (All-nil (IsVerified job))
book_verified job fit (suc n) book low (so_far, earlier, grows) = below_verified job fit (record { 0 = n }) (omega arith) (24 * stage_count job) so_far book grows (book_verified job fit n so_far (omega arith) earlier)

-- what a verified nogood refutes is opposed
refuted_opposed : (job : JobData) → IsJob job → (book : List Nogood) → All (IsVerified job) book → (mask : Mask) (action : Action) → IsSetOf job mask → IsRefuted book mask action → IsOpposed job mask action
refuted_opposed job fit book all mask action set (k, nogood, within, is, refutes) =
    let verified : IsVerified job nogood = subst (IsVerified job) is (all k nogood within) in
    let there = verified_is_true job fit nogood verified mask set refutes.matches in
    (nogood.reason, verified.kind, subst (λ (a : Action). IsReasonFor job mask a nogood.reason) refutes.same there.reason)

pub nogood_law : (job : JobData) → IsJob job → (book : List Nogood) → IsBook job book → IsNogoodLaw job book
nogood_law job fit book is_book =
    let all = book_verified job fit (2 ^ bend_count job - 1) book (omega arith) is_book in
    record {
      true_ = λ k nogood within. verified_is_true job fit (get_or book k nogood) (all k nogood within);
      complete = λ mask action set at. (
        (λ opposed. book_answers job fit (2 ^ bend_count job - 1) book is_book mask action set (not_full job fit mask set action at) at opposed),
        refuted_opposed job fit book all mask action set,
      );
    }

-- ---- length
grown_length : (job : JobData) (mask : Mask) (action : Action) (before after : List Nogood) → Grows job mask action before after → length after ≤ length before + 1
grown_length job mask action before after (learns reason at first new) = omega (arith, length-append before (learned job mask action reason ∷ []))
grown_length job mask action before after (stays known) = omega arith

below_length : (job : JobData) (mask : Mask) (n : ℕ) (before after : List Nogood) → GrowsBelow job mask n before after → length after ≤ length before + n
below_length job mask zero before after same = let e = ap length same in omega (arith, e)
below_length job mask (suc n) before after (so_far, action, earlier, numbered, grows) =
    let rest = below_length job mask n before so_far earlier in
    let one = grown_length job mask action so_far after grows in
    omega (arith, rest, one)

book_length : (job : JobData) (n : ℕ) (book : List Nogood) → stage_count job ≤ 6 → IsBookBelow job n book → length book ≤ n * 144
book_length job zero book few none = let e = ap length none in omega (arith, e)
book_length job (suc n) book few (so_far, earlier, grows) =
    let rest = book_length job n so_far few earlier in
    let one = below_length job (record { 0 = n }) (24 * stage_count job) so_far book grows in
    omega (arith, rest, one, few)

-- a book has fewer nogoods than a u32 can count
pub book_fits : (job : JobData) → IsJob job → (book : List Nogood) → IsBook job book → length book < 2 ^ 32
book_fits job fit book is_book =
    let most : 2 ^ bend_count job ≤ 2 ^ 12 = pow_mono (few_bends job fit) in
    let long = book_length job (2 ^ bend_count job - 1) book fit.setup.stages.few_stages is_book in
    omega (arith, most, long)
