-- What is found of a set: the first reasons, the next keys and the least that they come to, one by one.
use Rattle.std.proofs.Common.{◌≡◌, ◌≢◌, inl, inr, ℕ, true, false, ◌+◌, ◌*◌, ◌/◌, ◌%◌, ◌<◌, ◌≤◌, List, length, set, get_or, replicate, Option, Some, None, refl, sym, ◌∙◌, ap, subst, arith}
use Rattle.std.specs.Prelude.{IfSome, option_map}
use Rattle.std.proofs.lemmas.Bool.{cases_lt, false≢true}
use Rattle.std.proofs.lemmas.Bool.Decides.{eqb_tells}
use Rattle.std.proofs.lemmas.Int.{clamps}
use Rattle.std.proofs.lemmas.List.{get_or-set_same, get_or-set_other, get_or-replicate, get_or_past, length-replicate}
use Rattle.std.proofs.lemmas.Option.{same_Some, none-some}
use Rattle.brake_base.specs.declared.mask.Mask.{Mask}
use Rattle.brake_base.specs.declared.stroke.Action.{Action}
use Rattle.brake_base.specs.declared.stroke.Key.{Key}
use Rattle.brake_base.specs.declared.stroke.Worth.{Worth}
use Rattle.brake_base.specs.declared.stroke.Worth.TheVariants.{Cost, Blocked}
use Rattle.brake_base.specs.declared.reason.Reason.{Reason}
use Rattle.brake_base.specs.Masks.{union}
use Rattle.brake_base.specs.Worths.{plus, greater}
use Rattle.job_setup.specs.Setup.{JobData, bend_count, stage_count}
use Rattle.job_setup.specs.StrokeGroup.{group_of, is_lead}
use Rattle.job_setup.specs.ValidJob.{IsJob}
use Rattle.handling_cost.specs.Bound.{bound_of}
use Rattle.cert_lines.specs.declared.row_head.RowHead.{RowHead}
use Rattle.plan_lines.proofs.NumberedActions.{tried_at}
use Rattle.cert_merge.specs.declared.settled_sets.SettledSets.{SettledSets}
use Rattle.cert_merge.specs.Entries.{Settled}
use Rattle.cert_merge.specs.TableChecks.{proved_by, IsWorthIn}
use Rattle.cert_merge.proofs.ProvedWorths.{row_small, bound_proved, row_proved, greater_small}
use Rattle.handling_cost.specs.StepCost.{IsKeyOf, IsActionAt, attitude_at, key_after, cost_to}
use Rattle.cert_lines.specs.Lines.{action_at}
use Rattle.cert_lines.specs.Lines.{IsWorth}
use Rattle.plan_cert.specs.WellFormed.{AreRowsOf}
use Rattle.cert_merge.specs.declared.settled_sets.SettledSet.{SettledSet}
use Rattle.cert_merge.specs.declared.settled_sets.NextKey.{NextKey}
use Rattle.cert_merge.specs.Settled.{IsNumberAt, IsFirstFor, IsFirstNoted, AreFirstNoted, worth_by, IsOpen, IsLeastWorth, IsSettledBy, capped}
use Rattle.cert_merge.specs.Settling.{place_in_set, said_in, with_said, with_worth, AreSettledBy, IsNextOf, AreNext, IsReady, AreReady, worth_after, IsAfterOne, IsLeastAfter, IsSettledSet}
use Rattle.cert_merge.proofs.SettledSets.{least_moved}

-- ---- arrays that are filled from the front
pub record IsFilled {X : Type 0} (P : ℕ → Option X → Type 0) (count : ℕ) (xs : List (Option X)) : Type 0 where
  pub done : (number : ℕ) → number < count → P number (get_or xs number None)
  pub rest : (number : ℕ) → count ≤ number → get_or xs number None ≡ None

abbrev nothing : (X : Type 0) → Option X
nothing X = None

none_read : (X : Type 0) (n number : ℕ) → get_or (replicate n (nothing X)) number (nothing X) ≡ nothing X
none_read X n number = elim (cases_lt number n) [
  | inl less ↦ get_or-replicate n number (nothing X) (nothing X) less
  | inr past ↦ get_or_past (replicate n (nothing X)) number (nothing X) (let count = length-replicate n (nothing X) in omega (arith, count, past))
]

module _ {X : Type 0} (P : ℕ → Option X → Type 0) where
  pub filled_none : (n : ℕ) → IsFilled P 0 (replicate n None)
  filled_none n = record { done = λ number less. absurd (omega (arith, less)); rest = λ number from. none_read X n number }

  -- a place more is filled
  pub filled_on : (count : ℕ) (xs : List (Option X)) (x : Option X) → count < length xs → P count x → IsFilled P count xs → IsFilled P (count + 1) (set xs count x)
  filled_on count xs x within here so_far = record {
    done = λ number less. elim (eqb_tells number count) [
      | inl same ↦
          subst (P number) (sym (ap (λ (n : ℕ). get_or (set xs count x) n None) same.1 ∙ get_or-set_same xs count x None within))
          (subst (λ (n : ℕ). P n x) (sym same.1) here)
      | inr other ↦ subst (P number) (sym (get_or-set_other xs count number x None other.1)) (so_far.done number (let no = other.1 in omega (arith, less, no)))
    ];
    rest = λ number from.
        let no : number ≢ count = λ same. omega (arith, same, from) in
        get_or-set_other xs count number x None no ∙ so_far.rest number (omega (arith, from));
  }

  -- or it is left as it is
  pub filled_same : (count : ℕ) (xs : List (Option X)) → P count None → IsFilled P count xs → IsFilled P (count + 1) xs
  filled_same count xs here so_far = record {
    done = λ number less. elim (eqb_tells number count) [
      | inl same ↦
          subst (P number) (sym (so_far.rest number (let at = same.1 in omega (arith, at)))) (subst (λ (n : ℕ). P n None) (sym same.1) here)
      | inr other ↦ so_far.done number (let no = other.1 in omega (arith, less, no))
    ];
    rest = λ number from. so_far.rest number (omega (arith, from));
  }

-- ---- the first reasons
-- an action whose bend is a lead can be tried at each key of the mask, and no other can
pub lead_tried : (job : JobData) (mask : Mask) (number : ℕ) (action : Action) → number < 2 * bend_count job * stage_count job → action ≡ action_at (stage_count job) number → is_lead job mask action.bend ≡ true
    → (key : Key) → key.mask ≡ mask → IsActionAt job key (action_at (stage_count job) number)
lead_tried job mask number action below is lead key same =
    tried_at job key number below
    (subst (λ (m : Mask). is_lead job m (action_at (stage_count job) number).bend ≡ true) (sym same) (subst (λ (a : Action). is_lead job mask a.bend ≡ true) is lead))

pub never_tried : (job : JobData) (mask : Mask) (number : ℕ) (action : Action) → action ≡ action_at (stage_count job) number → is_lead job mask action.bend ≡ false → (key : Key) → key.mask ≡ mask → IsNumberAt job key number → ⊥
never_tried job mask number action is lead key same at =
    false≢true (sym (subst (λ (m : Mask). is_lead job m (action_at (stage_count job) number).bend ≡ false) (sym same) (subst (λ (a : Action). is_lead job mask a.bend ≡ false) is lead)) ∙ at.1.lead)

-- what is noted of a number at each key of a mask
abbrev pub IsFirstOf : JobData → Mask → ℕ → Option Reason → Type 0
IsFirstOf job mask number noted = (key : Key) → key.mask ≡ mask → IsFirstNoted job key number noted

-- nothing is noted of a number of no action
pub first_beyond : (job : JobData) (key : Key) (number : ℕ) → (IsNumberAt job key number → ⊥) → IsFirstNoted job key number None
first_beyond job key number none = record { here = λ at. absurd (none at); only = λ reason e. absurd (none-some reason e) }

-- what is found against an action that can be tried
pub first_found : (job : JobData) (mask : Mask) (number : ℕ) (action : Action) (noted : Option Reason) → number < 2 * bend_count job * stage_count job → action ≡ action_at (stage_count job) number → is_lead job mask action.bend ≡ true
    → IsFirstFor job mask action noted → IsFirstOf job mask number noted
first_found job mask number action noted below is lead first key same = record {
  here = λ at. subst (λ (m : Mask). IsFirstFor job m (action_at (stage_count job) number) noted) (sym same) (subst (λ (a : Action). IsFirstFor job mask a noted) is first);
  only = λ reason e. (below, lead_tried job mask number action below is lead key same);
}

-- nothing is against an action that can't be tried
pub none_found : (job : JobData) (mask : Mask) (number : ℕ) (action : Action) → action ≡ action_at (stage_count job) number → is_lead job mask action.bend ≡ false → IsFirstOf job mask number None
none_found job mask number action is lead key same = first_beyond job key number (never_tried job mask number action is lead key same)

pub firsts_all : (job : JobData) (mask : Mask) (count : ℕ) (reasons : List (Option Reason)) → 2 * bend_count job * stage_count job ≤ count → IsFilled (IsFirstOf job mask) count reasons
    → (key : Key) → key.mask ≡ mask → AreFirstNoted job key (λ action. get_or reasons action None)
firsts_all job mask count reasons all filled key same number = elim (cases_lt number count) [
  | inl less ↦ filled.done number less key same
  | inr past ↦ subst (IsFirstNoted job key number) (sym (filled.rest number past)) (first_beyond job key number (λ at. let below = at.0 in omega (arith, below, all, past)))
]

-- where an action leads depends on the folded bends alone
after_by_mask : (job : JobData) (a b : Key) (action : Action) → a.mask ≡ b.mask → key_after job a action ≡ key_after job b action
unfolding key_after
after_by_mask job a b action same = λ i. record {
  mask = union (same i) (group_of job (same i) action.bend);
  attitude = attitude_at job (same i) action;
  stage = action.stage;
}

-- ---- the next keys
module _ (job : JobData) (proved : Key → Worth) (mask : Mask) (reasons : ℕ → Option Reason) where
  pub record IsNextAt (number : ℕ) (next : Option NextKey) : Type 0 where
    pub of : (key : Key) → key.mask ≡ mask → IsNextOf job proved key reasons number next
    pub ready : (found : NextKey) → next ≡ Some found → (number < 2 * bend_count job * stage_count job) × IsReady job found

  -- where an action that can be tried leads, from whatever key of the mask
  pub next_found : (number : ℕ) (action : Action) (from next : Key) (worth : Worth) → number < 2 * bend_count job * stage_count job → action ≡ action_at (stage_count job) number → is_lead job mask action.bend ≡ true → from.mask ≡ mask
      → next ≡ key_after job from action → worth ≡ proved next → (key : Key) (noted : ℕ → Option Reason) → key.mask ≡ mask → noted number ≡ None → IsNextOf job proved key noted number (Some (record { key = next; proved = worth }))
  next_found number action from next worth below is lead start leads value key noted same none = (
    (below, lead_tried job mask number action below is lead key same),
    none,
    leads ∙ (after_by_mask job from key action (start ∙ sym same) ∙ ap (key_after job key) is),
    value,
  )

  pub next_at : (number : ℕ) (next : Option NextKey) → reasons number ≡ None → number < 2 * bend_count job * stage_count job
      → ((key : Key) (noted : ℕ → Option Reason) → key.mask ≡ mask → noted number ≡ None → IsNextOf job proved key noted number next) → IfSome next (IsReady job) → IsNextAt number next
  next_at number next none below of ready = record {
    of = λ key same. of key reasons same none;
    ready = λ found is. (below, subst (λ (o : Option NextKey). IfSome o (IsReady job)) is ready);
  }

  -- a noted action has no next key
  pub noted_at : (number : ℕ) → (reasons number ≡ None → ⊥) → IsNextAt number None
  noted_at number never = record {
    of = λ key same at none. never none;
    ready = λ found is. absurd (none-some found is);
  }

  pub nexts_all : (count : ℕ) (nexts : List (Option NextKey)) → 2 * bend_count job * stage_count job ≤ count → IsFilled IsNextAt count nexts → (key : Key) → key.mask ≡ mask → AreNext job proved key reasons nexts
  nexts_all count nexts all filled key same number = elim (cases_lt number count) [
    | inl less ↦ (filled.done number less).of key same
    | inr past ↦ subst (IsNextOf job proved key reasons number) (sym (filled.rest number past)) (λ at none. let below = at.0 in omega (arith, below, all, past))
  ]

  pub ready_all : (count : ℕ) (nexts : List (Option NextKey)) → IsFilled IsNextAt count nexts → AreReady job nexts
  ready_all count nexts filled number next e = elim (cases_lt number count) [
    | inl less ↦ (filled.done number less).ready next e
    | inr past ↦ absurd (none-some next (sym (filled.rest number past) ∙ e))
  ]

-- ---- the keys of a set
-- a key is that of its number
pub key_of_place : (key : Key) (place : ℕ) → key.stage < 6 → place_in_set key ≡ place → (key.attitude ≡ place / 6) × (key.stage ≡ place % 6)
key_of_place key place few at = (omega (arith, few, at), omega (arith, few, at))

module _ (job : JobData) (mask : Mask) (nexts : List (Option NextKey)) where
  -- the worths of the first so many keys of a set
  abbrev pub AreLeastBelow : ℕ → List Worth → Type 0
  AreLeastBelow place worths = (key : Key) → IsKeyOf job key → key.mask ≡ mask → place_in_set key < place → IsLeastAfter job key nexts (get_or worths (place_in_set key) Blocked)

  pub worths_on : (place : ℕ) (worths : List Worth) (made : Key) (worth : Worth) → stage_count job ≤ 6 → place < length worths → made ≡ record { mask = mask; attitude = place / 6; stage = place % 6 } → IsLeastAfter job made nexts worth → AreLeastBelow place worths
      → AreLeastBelow (place + 1) (set worths place worth)
  worths_on place worths made worth few within is least so_far key ranged same less = elim (eqb_tells (place_in_set key) place) [
    | inl here ↦
        let stage = ranged.stage in
        let parts = key_of_place key place (omega (arith, stage, few)) here.1 in
        let one : made ≡ key = is ∙ (λ i. record { mask = sym same i; attitude = sym parts.0 i; stage = sym parts.1 i }) in
        subst (IsLeastAfter job key nexts) (sym (ap (λ (n : ℕ). get_or (set worths place worth) n Blocked) here.1 ∙ get_or-set_same worths place worth Blocked within))
        (subst (λ (k : Key). IsLeastAfter job k nexts worth) one least)
    | inr there ↦
        subst (IsLeastAfter job key nexts) (sym (get_or-set_other worths place (place_in_set key) worth Blocked there.1))
        (so_far key ranged same (let no = there.1 in omega (arith, less, no)))
  ]

  -- a number of no key of the job
  pub worths_same : (place : ℕ) (worths : List Worth) → stage_count job ≤ 6 → stage_count job ≤ place % 6 → AreLeastBelow place worths → AreLeastBelow (place + 1) worths
  worths_same place worths few past so_far key ranged same less = elim (eqb_tells (place_in_set key) place) [
    | inl here ↦
        let stage = ranged.stage in
        let parts = key_of_place key place (omega (arith, stage, few)) here.1 in
        let at = parts.1 in
        absurd (omega (arith, stage, at, past))
    | inr there ↦ so_far key ranged same (let no = there.1 in omega (arith, less, no))
  ]

-- ---- a whole set
module _ (job : JobData) (proved : Key → Worth) (key : Key) (reasons : ℕ → Option Reason) (nexts : List (Option NextKey)) (are : AreNext job proved key reasons nexts) where
  costs : (number : ℕ) (next : NextKey) → get_or nexts number None ≡ Some next → IsNextOf job proved key reasons number (Some next) → worth_after job key next ≡ worth_by job proved key (action_at (stage_count job) number)
  unfolding key_after
  costs number next at of =
      let action = action_at (stage_count job) number in
      let attitude : next.key.attitude ≡ attitude_at job key.mask action = ap (λ (k : Key). k.attitude) of.2 in
      let stage : next.key.stage ≡ action.stage = ap (λ (k : Key). k.stage) of.2 in
      let worth : next.proved ≡ proved (key_after job key action) = of.3 ∙ ap proved of.2 in
      λ i. plus (cost_to job key (attitude i) (stage i)) (worth i)

  found_of : (number : ℕ) (next : NextKey) → get_or nexts number None ≡ Some next → IsNextOf job proved key reasons number (Some next)
  found_of number next at = subst (IsNextOf job proved key reasons number) at (are number)

  one_to : (w : Worth) → IsAfterOne job key nexts w → IsOpen job proved key reasons w
  one_to w one =
      let of = found_of one.0 one.1 one.2 in
      (one.0, of.0, of.1, one.3 ∙ costs one.0 one.1 one.2 of)

  one_from : (w : Worth) → IsOpen job proved key reasons w → IsAfterOne job key nexts w
  one_from w one = by_next (get_or nexts one.0 None) refl
    where
      by_next : (next : Option NextKey) → get_or nexts one.0 None ≡ next → IsAfterOne job key nexts w
      by_next (Some next) at = (one.0, next, at, one.3 ∙ sym (costs one.0 next at (found_of one.0 next at)))
      by_next None at = let none = subst (IsNextOf job proved key reasons one.0) at (are one.0) in absurd (none one.1 one.2)

  pub open_least : (least : Worth) → IsLeastWorth (IsAfterOne job key nexts) least → IsLeastWorth (IsOpen job proved key reasons) least
  open_least least is = least_moved (IsAfterOne job key nexts) (IsOpen job proved key reasons) least one_to one_from is

pub set_settled : (job : JobData) (proved : Key → Worth) (mask : Mask) (set : SettledSet) (nexts : List (Option NextKey))
    → ((key : Key) → key.mask ≡ mask → AreFirstNoted job key (λ action. get_or set.reasons action None))
    → ((key : Key) → key.mask ≡ mask → AreNext job proved key (λ action. get_or set.reasons action None) nexts)
    → ((key : Key) → IsKeyOf job key → key.mask ≡ mask → IsLeastAfter job key nexts (get_or set.worths (place_in_set key) Blocked))
    → IsSettledSet job proved mask set
set_settled job proved mask set nexts firsts are worths key ranged same =
    let least = worths key ranged same in
    record {
      noted = firsts key same;
      least = least.least;
      is_least = open_least job proved key (λ action. get_or set.reasons action None) nexts (are key same) least.least least.is_least;
      worth = least.is;
    }

-- ---- what is proved of a key
pub with_row : (job : JobData) → IsJob job → (rows : List RowHead) → AreRowsOf job rows → (key : Key) (bound : ℕ) (found : Option Worth) → bound ≡ bound_of job key → IsWorthIn rows key found → with_worth (Cost bound) found ≡ proved_by job rows key
with_row job is_job rows are key bound None is none = ap Cost is ∙ bound_proved job is_job rows are key none
with_row job is_job rows are key bound (Some worth) is row = ap (λ (n : ℕ). greater (Cost n) worth) is ∙ row_proved job is_job rows are key worth row

pub with_settled : (worth : Worth) (said : Option Settled) → with_worth worth (option_map (λ (s : Settled). s.worth) said) ≡ with_said worth said
with_settled worth None = refl
with_settled worth (Some said) = refl

pub with_small : (worth : Worth) (other : Option Worth) → IsWorth worth → ((w : Worth) → other ≡ Some w → IsWorth w) → IsWorth (with_worth worth other)
with_small worth None small each = small
with_small worth (Some other) small each = greater_small worth other small (each other refl)

-- a worth that a row may have
pub capped_small : (worth : Worth) → IsWorth (capped worth)
capped_small (Cost cost) = omega (arith, clamps)
capped_small Blocked = tt

pub row_in_small : (job : JobData) → IsJob job → (rows : List RowHead) → AreRowsOf job rows → (key : Key) (found : Option Worth) → IsWorthIn rows key found → (w : Worth) → found ≡ Some w → IsWorth w
row_in_small job is_job rows are key None none w e = absurd (none-some w e)
row_in_small job is_job rows are key (Some worth) row w e = subst IsWorth (same_Some worth w e) (row_small job is_job rows are key worth row)

pub settled_small : (job : JobData) (proved : Key → Worth) (key : Key) (worth : Worth) (reasons : ℕ → Option Reason) → IsSettledBy job proved key (record { worth = worth; reasons = reasons }) → IsWorth worth
settled_small job proved key worth reasons of = subst IsWorth (sym of.worth) (capped_small of.least)

pub said_small : (job : JobData) (proved : Key → Worth) (settled : SettledSets) (key : Key) → AreSettledBy job proved settled → IsKeyOf job key → (w : Worth) → option_map (λ (s : Settled). s.worth) (said_in settled key) ≡ Some w → IsWorth w
said_small job proved settled key are ranged w = by_said (said_in settled key) refl
  where
    by_said : (o : Option Settled) → said_in settled key ≡ o → option_map (λ (s : Settled). s.worth) o ≡ Some w → IsWorth w
    by_said None e is = absurd (none-some w is)
    by_said (Some said) e is = subst IsWorth (same_Some said.worth w is) (settled_small job proved key said.worth said.reasons (are key said ranged e))
