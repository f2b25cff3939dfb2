-- What is settled set by set: the keys of a set rest on those of greater masks, which further sets leave as they are.
use Rattle.std.proofs.Common.{◌≡◌, inl, inr, ℕ, zero, suc, ◌+◌, ◌-◌, ◌^◌, ◌<◌, ◌≤◌, nat_le, ◌||◌, Bool, List, [], ◌∷◌, ◌++◌, length, Option, Some, None, refl, sym, ◌∙◌, ap, subst, arith}
use Rattle.std.specs.Prelude.{if◌then◌else◌, slice_get, option_map}
use Rattle.std.specs.Int.Bits.{bit_and}
use Rattle.std.proofs.lemmas.Bool.{cases_lt, le-leb, leb-true, false_from_ne_true}
use Rattle.std.proofs.lemmas.List.{length_push}
use Rattle.std.proofs.lemmas.Nat.{and_le_r}
use Rattle.std.proofs.lemmas.Option.{same_Some, none-some, slice_get_past}
use Rattle.std.proofs.Math.Pow.{pow_mono}
use Rattle.brake_base.specs.declared.mask.Mask.{Mask}
use Rattle.brake_base.specs.declared.stroke.Key.{Key}
use Rattle.brake_base.specs.declared.stroke.Action.{Action}
use Rattle.brake_base.specs.declared.stroke.Worth.{Worth}
use Rattle.brake_base.specs.Masks.{has, IsSubset}
use Rattle.brake_base.specs.Worths.{plus}
use Rattle.brake_base.proofs.Masks.{subset_is}
use Rattle.brake_base.proofs.MaskNumbers.{has_mask_of, has_none_above}
use Rattle.job_setup.specs.Setup.{JobData, bend_count, stage_count}
use Rattle.job_setup.specs.StrokeGroup.{group_of}
use Rattle.job_setup.specs.ValidJob.{IsJob}
use Rattle.handling_cost.specs.StepCost.{IsKeyOf, IsActionAt, cost_of, key_after}
use Rattle.handling_cost.proofs.Actions.{few_bends, has_zero, lead_is, folds_own}
use Rattle.handling_cost.proofs.Keys.{next_in_range}
use Rattle.cert_lines.specs.declared.row_head.RowHead.{RowHead}
use Rattle.cert_lines.specs.Lines.{action_at}
use Rattle.cert_merge.specs.declared.settled_sets.SettledSet.{SettledSet}
use Rattle.cert_merge.specs.declared.settled_sets.SettledSets.{SettledSets}
use Rattle.cert_merge.specs.Entries.{Settled}
use Rattle.cert_merge.specs.TableChecks.{proved_by}
use Rattle.cert_merge.specs.Settled.{IsOpen, IsLeastWorth, IsSettledBy}
use Rattle.cert_merge.specs.Settling.{said_by, said_in, with_said, proved_over, AreSettledBy, AreSettled, IsAmong, IsSettledSet}

-- ---- an action leads to a greater mask
module _ (job : JobData) (is_job : IsJob job) (key : Key) (action : Action) (ranged : IsKeyOf job key) (at : IsActionAt job key action) where
  small_mask : key.mask.0 < 2 ^ 16
  small_mask =
      let few : bend_count job ≤ 16 = let most = few_bends job is_job in omega (arith, most) in
      let less : 2 ^ bend_count job ≤ 2 ^ 16 = pow_mono few in
      let mask = ranged.mask in
      omega (arith, less, mask)

  next_has : IsSubset key.mask (key_after job key action).mask
  unfolding key_after
  next_has bend member = elim (cases_lt bend 1) [
    | inl none ↦ let no = has_zero key.mask bend (omega (arith, none)) in absurd cc
    | inr first ↦ elim (cases_lt bend 17) [
      | inl low ↦
          has_mask_of (λ b. has key.mask b || has (group_of job key.mask action.bend) b) bend first (omega (arith, low))
          ∙ ap (λ (t : Bool). t || has (group_of job key.mask action.bend) bend) member
      | inr high ↦ let no = has_none_above key.mask bend small_mask (omega (arith, high)) in absurd cc
    ]
  ]

  other_mask : key.mask.0 ≡ (key_after job key action).mask.0 → ⊥
  other_mask same =
      let folded = folds_own job (few_bends job is_job) key action at in
      let flat = (lead_is job key.mask action.bend at.lead).flat in
      let moved : has key.mask action.bend ≡ has (key_after job key action).mask action.bend = ap (λ (m : ℕ). has (record { 0 = m }) action.bend) same in
      absurd cc

  pub mask_grows : key.mask.0 < (key_after job key action).mask.0
  mask_grows =
      let next = (key_after job key action).mask in
      let within : bit_and key.mask.0 next.0 ≡ key.mask.0 = (subset_is key.mask next small_mask).1 next_has in
      let most = and_le_r key.mask.0 next.0 in
      elim (cases_lt key.mask.0 next.0) [
        | inl less ↦ less
        | inr not ↦ absurd (other_mask (omega (arith, within, most, not)))
      ]

-- ---- what is settled of a key rests on what is proved of greater masks
-- worths that are among some exactly where they are among others have the same least
pub least_moved : (A B : Worth → Type 0) (least : Worth) → ((w : Worth) → A w → B w) → ((w : Worth) → B w → A w) → IsLeastWorth A least → IsLeastWorth B least
least_moved A B least to from is = record {
  one = elim is.one [ inl blocked ↦ inl blocked | inr among ↦ inr (to least among) ];
  least = λ other among. is.least other (from other among);
}

module _ (job : JobData) (is_job : IsJob job) (P Q : Key → Worth) (key : Key) (said : Settled) (ranged : IsKeyOf job key) (agree : (k : Key) → IsKeyOf job k → key.mask.0 < k.mask.0 → P k ≡ Q k) where
  after_agrees : (action : Action) → IsActionAt job key action → P (key_after job key action) ≡ Q (key_after job key action)
  after_agrees action at = agree (key_after job key action) (next_in_range job is_job key action ranged at) (mask_grows job is_job key action ranged at)

  open_to : (w : Worth) → IsOpen job P key said.reasons w → IsOpen job Q key said.reasons w
  open_to w one =
      let action = action_at (stage_count job) one.0 in
      (one.0, one.1, one.2, one.3 ∙ ap (λ (next : Worth). plus (cost_of job key action) next) (after_agrees action one.1.1))

  open_from : (w : Worth) → IsOpen job Q key said.reasons w → IsOpen job P key said.reasons w
  open_from w one =
      let action = action_at (stage_count job) one.0 in
      (one.0, one.1, one.2, one.3 ∙ ap (λ (next : Worth). plus (cost_of job key action) next) (sym (after_agrees action one.1.1)))

  pub settled_moved : IsSettledBy job P key said → IsSettledBy job Q key said
  settled_moved of = record {
    noted = of.noted;
    least = of.least;
    is_least = least_moved (IsOpen job P key said.reasons) (IsOpen job Q key said.reasons) of.least open_to open_from of.is_least;
    worth = of.worth;
  }

-- ---- a set more
get_before : {X : Type 0} (xs : List X) (x : X) (i : ℕ) → i < length xs → slice_get (xs ++ x ∷ []) i ≡ slice_get xs i
get_before [] x i less = absurd (omega (arith, less))
get_before (y ∷ xs) x zero less = refl
get_before (y ∷ xs) x (suc i) less = get_before xs x i (omega (arith, less))

get_here : {X : Type 0} (xs : List X) (x : X) → slice_get (xs ++ x ∷ []) (length xs) ≡ Some x
get_here [] x = refl
get_here (y ∷ xs) x = get_here xs x

abbrev at_place : List SettledSet → Key → ℕ → Option Settled
at_place sets key place = option_map (λ (set : SettledSet). said_by set key) (slice_get sets place)

pub below_high : (settled : SettledSets) (key : Key) → key.mask.0 ≤ settled.high → said_in settled key ≡ option_map (λ (set : SettledSet). said_by set key) (slice_get settled.sets.items (settled.high - key.mask.0))
below_high settled key low = ap (λ (b : Bool). if b then at_place settled.sets.items key (settled.high - key.mask.0) else None) (le-leb key.mask.0 settled.high low)

pub above_high : (settled : SettledSets) (key : Key) → settled.high < key.mask.0 → said_in settled key ≡ None
above_high settled key above =
    ap (λ (b : Bool). if b then at_place settled.sets.items key (settled.high - key.mask.0) else None)
    (false_from_ne_true (nat_le key.mask.0 settled.high) (λ e. let low = leb-true key.mask.0 settled.high e in omega (arith, low, above)))

-- nothing is said of a mask that comes past all sets
pub past_all : (settled : SettledSets) (key : Key) → key.mask.0 + length settled.sets.items ≤ settled.high → said_in settled key ≡ None
past_all settled key past =
    below_high settled key (omega (arith, past))
    ∙ ap (λ (o : Option SettledSet). option_map (λ (set : SettledSet). said_by set key) o) (slice_get_past settled.sets.items (settled.high - key.mask.0) (omega (arith, past)))

-- a key of which something is settled is among them
pub among_is : (settled : SettledSets) (key : Key) (said : Settled) → said_in settled key ≡ Some said → IsAmong settled key.mask
among_is settled key said e = elim (cases_lt settled.high key.mask.0) [
  | inl above ↦ absurd (none-some said (sym (above_high settled key above) ∙ e))
  | inr low ↦ elim (cases_lt (settled.high - key.mask.0) (length settled.sets.items)) [
    | inl within ↦ record { high = low; within = within }
    | inr past ↦ absurd (none-some said (sym (past_all settled key (omega (arith, low, past))) ∙ e))
  ]
]

-- of another nothing is
pub none_unless_among : (settled : SettledSets) (key : Key) → (IsAmong settled key.mask → ⊥) → said_in settled key ≡ None
none_unless_among settled key out = elim (cases_lt settled.high key.mask.0) [
  | inl above ↦ above_high settled key above
  | inr low ↦ elim (cases_lt (settled.high - key.mask.0) (length settled.sets.items)) [
    | inl within ↦ absurd (out (record { high = low; within = within }))
    | inr past ↦ past_all settled key (omega (arith, low, past))
  ]
]

-- nothing is settled yet
pub none_settled : (job : JobData) (proved : Key → Worth) (settled : SettledSets) → settled.sets.items ≡ [] → AreSettledBy job proved settled
none_settled job proved settled none key said ranged e =
    let among = among_is settled key said e in
    let count : length settled.sets.items ≡ 0 = ap (λ (sets : List SettledSet). length sets) none in
    let within = among.within in
    absurd (omega (arith, count, within))

module _ (old new : SettledSets) (set : SettledSet) (high : new.high ≡ old.high) (items : new.sets.items ≡ old.sets.items ++ set ∷ []) where
  count : ℕ
  count = length old.sets.items

  moved : (key : Key) → key.mask.0 ≤ old.high → said_in new key ≡ at_place (old.sets.items ++ set ∷ []) key (old.high - key.mask.0)
  moved key low = below_high new key (omega (arith, low, high)) ∙ (λ i. at_place (items i) key (high i - key.mask.0))

  -- a set more leaves what is said of keys of greater masks
  pub said_kept : (key : Key) → old.high < key.mask.0 + length old.sets.items → said_in new key ≡ said_in old key
  said_kept key above = elim (cases_lt old.high key.mask.0) [
    | inl past ↦ above_high new key (omega (arith, past, high)) ∙ sym (above_high old key past)
    | inr low ↦
        moved key low
        ∙ (ap (λ (o : Option SettledSet). option_map (λ (s : SettledSet). said_by s key) o) (get_before old.sets.items set (old.high - key.mask.0) (omega (arith, above, low)))
        ∙ sym (below_high old key low))
  ]

  -- and says what it says of its own
  pub said_new : (key : Key) → key.mask.0 + length old.sets.items ≡ old.high → said_in new key ≡ Some (said_by set key)
  said_new key at =
      let place : old.high - key.mask.0 ≡ length old.sets.items = omega (arith, at) in
      moved key (omega (arith, at))
      ∙ ap (λ (o : Option SettledSet). option_map (λ (s : SettledSet). said_by s key) o) (ap (λ (n : ℕ). slice_get (old.sets.items ++ set ∷ []) n) place ∙ get_here old.sets.items set)

  said_past : (key : Key) → key.mask.0 + length old.sets.items < old.high → said_in new key ≡ None
  said_past key past =
      let more : length new.sets.items ≡ length old.sets.items + 1 = ap (λ (sets : List SettledSet). length sets) items ∙ length_push old.sets.items set in
      past_all new key (omega (arith, past, more, high))

  module _ (job : JobData) (is_job : IsJob job) (base : List RowHead) (mask : Mask) where
    agree : (key k : Key) → old.high ≤ key.mask.0 + length old.sets.items → key.mask.0 < k.mask.0 → proved_over job base old k ≡ proved_over job base new k
    agree key k from greater = ap (λ (o : Option Settled). with_said (proved_by job base k) o) (sym (said_kept k (omega (arith, from, greater))))

    own : AreSettled job base old → IsSettledSet job (proved_over job base old) mask set → mask.0 + length old.sets.items ≡ old.high → (key : Key) (said : Settled) → IsKeyOf job key → said_in new key ≡ Some said
        → key.mask.0 + length old.sets.items ≡ old.high → IsSettledBy job (proved_over job base new) key said
    own all is at key said ranged e here =
        let numbers : key.mask.0 ≡ mask.0 = omega (arith, at, here) in
        let masks : key.mask ≡ mask = λ i. record { 0 = numbers i } in
        settled_moved job is_job (proved_over job base old) (proved_over job base new) key said ranged (λ k in_range greater. agree key k (omega (arith, here)) greater)
        (subst (IsSettledBy job (proved_over job base old) key) (same_Some (said_by set key) said (sym (said_new key here) ∙ e)) (is key ranged masks))

    -- a further set is settled over those of greater masks
    pub settled_on : AreSettled job base old → IsSettledSet job (proved_over job base old) mask set → mask.0 + length old.sets.items ≡ old.high → AreSettled job base new
    settled_on all is at key said ranged e = elim (cases_lt old.high (key.mask.0 + length old.sets.items)) [
      | inl above ↦
          settled_moved job is_job (proved_over job base old) (proved_over job base new) key said ranged (λ k in_range greater. agree key k (omega (arith, above)) greater)
          (all key said ranged (sym (said_kept key above) ∙ e))
      | inr not ↦ elim (cases_lt (key.mask.0 + length old.sets.items) old.high) [
        | inl past ↦ absurd (none-some said (sym (said_past key past) ∙ e))
        | inr again ↦ own all is at key said ranged e (omega (arith, not, again))
      ]
    ]
