-- The numbers of keys stay in range, and the full set's number.
use Rattle.std.proofs.Common.{◌≡◌, inl, inr, ℤ, ℕ, zero, suc, ◌+◌, ◌-◌, ◌^◌, ◌<◌, ◌≤◌, Bool, true, false, ◌||◌, ◌==◌, nat_le, cond, Some, List, length, arith, refl, sym, ◌∙◌, ap}
use Rattle.std.specs.Prelude.{Option, Result, Ok, Err, find, position, unwrap_or}
use Rattle.std.specs.List.{range_with_len}
use Rattle.std.specs.Int.Bits.{bit_and}
use Rattle.std.proofs.Math.Pow.{pow_pos, pow_mono}
use Rattle.std.proofs.lemmas.Bool.{cases_lt, le-leb, leb-true, and_from, and_parts, false_from_ne_true}
use Rattle.std.proofs.lemmas.Nat.{and_le_r}
use Rattle.std.proofs.lemmas.Nat.Bits.{bit_at_above}
use Rattle.brake_base.specs.declared.mask.Mask.{Mask}
use Rattle.brake_base.specs.declared.stroke.Back.{Back}
use Rattle.brake_base.specs.declared.stroke.Key.{Key}
use Rattle.brake_base.specs.declared.stroke.Action.{Action}
use Rattle.brake_base.specs.Turns.{turn_of}
use Rattle.brake_base.specs.Masks.{has, IsSubset}
use Rattle.brake_base.proofs.Masks.{full_is, subset_is}
use Rattle.brake_base.proofs.MaskNumbers.{has_mask_of, mask_of_fits, has_none_above}
use Rattle.toml_fields.specs.Results.{◌>>=◌, refuse_first, refuse_found, refuse_if}
use Rattle.unfolder.specs.Blank.{pairs_below}
use Rattle.fold_boxes.specs.Shapes.{ShapeData}
use Rattle.fold_boxes.specs.Pose.{attitude_of, attitude_turn, same_turn, turn_number}
use Rattle.job_setup.specs.declared.fault.JobFault.TheVariants.{UnequalHeight, OffBed, NoStage}
use Rattle.job_setup.specs.Setup.{StageData, JobData, shape_of, bend_count, stage_count}
use Rattle.job_setup.specs.Places.{differs_from_first, is_overlap_of, is_off_bed, refuse_pair, places_fit}
use Rattle.job_setup.specs.ValidJob.{IsJob}
use Rattle.job_setup.specs.StrokeGroup.{in_group, group_of}
use Rattle.handling_cost.specs.StepCost.{IsKeyOf, IsActionAt, IsFull, attitude_at, key_after}
use Rattle.handling_cost.specs.Plan.{start}
use Rattle.handling_cost.proofs.Actions.{few_bends, has_zero, neither, group_bends}
use Rattle.handling_cost.proofs.Mates.{grouped_range}

last_is_ok : {E : Type 0} (a b c d : Result (Unit {0}) E) → (a >>= (λ _. b >>= (λ _. c >>= (λ _. d)))) ≡ Ok tt → d ≡ Ok tt
last_is_ok (Ok _) (Ok _) (Ok _) d given = given
last_is_ok (Ok _) (Ok _) (Err e) d given = absurd cc
last_is_ok (Ok _) (Err e) c d given = absurd cc
last_is_ok (Err e) b c d given = absurd cc

unless_none : (n : ℕ) → refuse_if (n == 0) NoStage ≡ Ok tt → 1 ≤ n
unless_none zero given = absurd cc
unless_none (suc n) given = omega arith

fit_some : (bed : ℤ × ℤ) (stages : List StageData) → places_fit bed stages ≡ Ok tt → 1 ≤ length stages
unfolding places_fit
fit_some bed stages fits =
    unless_none (length stages)
    (last_is_ok (refuse_first (differs_from_first stages) (length stages) UnequalHeight) (refuse_pair (find (is_overlap_of stages) (pairs_below (length stages))))
    (refuse_found (position (is_off_bed bed) stages) OffBed) (refuse_if (length stages == 0) NoStage) fits)

-- a job has a stage, and at most 6
pub some_stage : (job : JobData) → IsJob job → 1 ≤ stage_count job
some_stage job is_job = fit_some job.setup.bed job.setup.stages is_job.setup.stages.places

pub start_ranged : (job : JobData) → 0 < stage_count job → IsKeyOf job start
start_ranged job some = record { mask = pow_pos (bend_count job); attitude = omega arith; stage = some }

pub start_in_range : (job : JobData) → IsJob job → IsKeyOf job start
start_in_range job is_job = start_ranged job (some_stage job is_job)

-- ---- masks of the bends of a job
none_above : (mask : Mask) (n c : ℕ) → mask.0 < 2 ^ n → n < c → has mask c ≡ false
unfolding has
none_above mask n zero fits above = refl
none_above mask n (suc k) fits above = ap (λ (m : ℕ). m == 1) (bit_at_above mask.0 n k fits (omega arith))

below_by_bends : (mask : Mask) (n : ℕ) → n ≤ 12 → mask.0 < 2 ^ 16 → ((c : ℕ) → n < c → c ≤ 16 → has mask c ≡ false) → mask.0 < 2 ^ n
below_by_bends mask n few fits none =
    let within : bit_and mask.0 (2 ^ n - 1) ≡ mask.0 = (subset_is mask (record { 0 = 2 ^ n - 1 }) fits).1 subset in
    let most = and_le_r mask.0 (2 ^ n - 1) in
    let some : 0 < 2 ^ n = pow_pos n in
    omega (arith, within, most, some)
  where
    subset : IsSubset mask (record { 0 = 2 ^ n - 1 })
    subset c member = elim (cases_lt c 1) [
      | inl below ↦ let no = has_zero mask c (omega arith) in absurd cc
      | inr first ↦ elim (cases_lt n c) [
        | inl above ↦ elim (cases_lt c 17) [
          | inl low ↦ let no = none c above (omega arith) in absurd cc
          | inr high ↦ let no = has_none_above mask c fits (omega arith) in absurd cc
        ]
        | inr last ↦ full_is n c few ∙ and_from (nat_le 1 c) (nat_le c n) (le-leb 1 c first) (le-leb c n last)
      ]
    ]

found_below : (test : ℕ → Bool) (a n most : ℕ) → 0 < most → a + n ≤ most → unwrap_or (find test (range_with_len a n)) 0 < most
found_below test a zero most some fits = omega arith
found_below test a (suc n) most some fits = first (test a) (find test (range_with_len (a + 1) n)) (found_below test (a + 1) n most some (omega arith))
  where
    first : (t : Bool) (later : Option ℕ) → unwrap_or later 0 < most → unwrap_or (cond t (Some a) later) 0 < most
    first true later less = omega arith
    first false later less = less

attitude_below : (shape : ShapeData) (mask : Mask) (b : ℕ) (back : Back) → attitude_of shape mask b back < 24
unfolding turn_number
attitude_below shape mask b back = found_below (λ n. same_turn (turn_of n) (attitude_turn shape mask b back)) 0 24 24 (omega arith) (omega arith)

-- the key to which an action leads is in range
pub next_in_range : (job : JobData) → IsJob job → (key : Key) (action : Action) → IsKeyOf job key → IsActionAt job key action → IsKeyOf job (key_after job key action)
unfolding key_after attitude_at
next_in_range job is_job key action in_range at = record {
  mask = below_by_bends _ (bend_count job) (few_bends job is_job) (mask_of_fits (λ bend. has key.mask bend || has (group_of job key.mask action.bend) bend)) above;
  attitude = attitude_below (shape_of job) key.mask action.bend action.back;
  stage = at.stage;
}
  where
    outside : (c : ℕ) → bend_count job < c → has (group_of job key.mask action.bend) c ≡ false
    outside c over =
        group_bends job (few_bends job is_job) key.mask action.bend at.first at.last c
        ∙ false_from_ne_true (in_group job (has key.mask) action.bend c) (λ within. let range = grouped_range job (has key.mask) job.setup.gang action.bend c at.first at.last within in omega (arith, range.1))

    above : (c : ℕ) → bend_count job < c → c ≤ 16 → has (key_after job key action).mask c ≡ false
    above c over last =
        has_mask_of (λ bend. has key.mask bend || has (group_of job key.mask action.bend) bend) c (omega arith) last
        ∙ neither (has key.mask c) (has (group_of job key.mask action.bend) c) (none_above key.mask (bend_count job) c in_range.mask over) (outside c over)

-- the number of the full set, and of no other
pub full_from_number : (job : JobData) → IsJob job → (key : Key) → key.mask.0 ≡ 2 ^ bend_count job - 1 → IsFull job key
unfolding IsFull
full_from_number job is_job key is b first last =
    ap (λ (m : ℕ). has (record { 0 = m }) b) is ∙ full_is (bend_count job) b (few_bends job is_job) ∙ and_from (nat_le 1 b) (nat_le b (bend_count job)) (le-leb 1 b first) (le-leb b (bend_count job) last)

pub number_of_full : (job : JobData) → IsJob job → (key : Key) → IsKeyOf job key → IsFull job key → key.mask.0 ≡ 2 ^ bend_count job - 1
unfolding IsFull
number_of_full job is_job key in_range full =
    let n = bend_count job in
    let few = few_bends job is_job in
    let within : bit_and (2 ^ n - 1) key.mask.0 ≡ 2 ^ n - 1 = (subset_is (record { 0 = 2 ^ n - 1 }) key.mask (small n few)).1 (subset n few) in
    let most = and_le_r (2 ^ n - 1) key.mask.0 in
    let low = in_range.mask in
    omega (arith, within, most, low)
  where
    small : (n : ℕ) → n ≤ 12 → 2 ^ n - 1 < 2 ^ 16
    small n few = let less : 2 ^ n ≤ 2 ^ 12 = pow_mono few in omega (arith, less)

    subset : (n : ℕ) → n ≤ 12 → IsSubset (record { 0 = 2 ^ bend_count job - 1 }) key.mask
    subset n few c member =
        let parts = and_parts (nat_le 1 c) (nat_le c (bend_count job)) (sym (full_is (bend_count job) c (few_bends job is_job)) ∙ member) in
        full c (leb-true 1 c parts.0) (leb-true c (bend_count job) parts.1)

-- a key that isn't full has a lesser number
pub below_full : (job : JobData) → IsJob job → (key : Key) → IsKeyOf job key → (IsFull job key → ⊥) → key.mask.0 < 2 ^ bend_count job - 1
below_full job is_job key in_range not_full = elim (cases_lt key.mask.0 (2 ^ bend_count job - 1)) [
  | inl below ↦ below
  | inr above ↦ let low = in_range.mask in absurd (not_full (full_from_number job is_job key (omega (arith, above, low))))
]
