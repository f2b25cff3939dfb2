-- A certificate has at most 2048 times 144 times 144 notes: each is on a bend that isn't folded at its row's key, so the key is known
-- from its set of folded bends without that bend, of which there are 2048, from its attitude and its stage.
use Rattle.std.proofs.Common.{◌≡◌, ◌≢◌, inl, inr, ℕ, suc, ◌+◌, ◌-◌, ◌*◌, ◌/◌, ◌%◌, ◌^◌, ◌<◌, ◌≤◌, ◌==◌, true, false, List, length, get_or, arith, sym, ◌∙◌, ap, subst, add-one}
use Rattle.std.specs.Prelude.{AllPairs}
use Rattle.std.specs.Int.{bit_at}
use Rattle.std.proofs.Math.Nat.{mod-lt, div-lt_iff_lt-mul, mul_assoc, pow-le-pow_right}
use Rattle.std.proofs.lemmas.Grind.{common_steps}
use Rattle.std.proofs.lemmas.Nat.{pow_pos, mul-add-lt, same_from_place, div-add-mod', pow-add}
use Rattle.std.proofs.lemmas.Nat.Bits.{bit_at-lt}
use Rattle.brake_base.specs.declared.mask.Mask.{Mask}
use Rattle.brake_base.specs.declared.stroke.Key.{Key}
use Rattle.brake_base.specs.Masks.{has}
use Rattle.job_setup.specs.Setup.{JobData, bend_count, stage_count}
use Rattle.job_setup.specs.StrokeGroup.{is_lead}
use Rattle.job_setup.specs.ValidJob.{IsJob}
use Rattle.handling_cost.proofs.Actions.{lead_is}
use Rattle.handling_cost.proofs.Pigeonhole.{at_most}
use Rattle.cert_lines.specs.declared.row_head.RowHead.{RowHead}
use Rattle.plan_lines.specs.declared.note.Note.{Note}
use Rattle.plan_cert.specs.KeyPlaces.{key_place}
use Rattle.plan_cert.specs.WellFormed.{NoteIsBefore, AreRows}
use Rattle.plan_lines.proofs.Actions.{few_actions}
use Rattle.plan_lines.proofs.ActionNumbers.{bend_of_number}
use Rattle.plan_cert.proofs.Runs.{small_of}
use Rattle.plan_cert.proofs.RowOrder.{no_row, row_grows}

-- ---- a number without the bit of this power of two
cut : ℕ → ℕ → ℕ
cut p n = n / p / 2 * p + n % p

cut_small : (p q n : ℕ) → 0 < p → n < 2 * q * p → cut p n < p * q
unfolding cut
cut_small p q n some less =
    let high : n / p < 2 * q = (div-lt_iff_lt-mul some).1 less in
    mul-add-lt (n / p / 2) p (n % p) q (omega (arith, high)) (mod-lt n some)

-- numbers that lack the bit are told apart without it
cut_apart : (p m n : ℕ) → 0 < p → m / p % 2 ≡ 0 → n / p % 2 ≡ 0 → cut p m ≡ cut p n → m ≡ n
unfolding cut
cut_apart p m n some lacks_m lacks_n same =
    let parts = same_from_place (m / p / 2) (m % p) (n / p / 2) (n % p) p (mod-lt m some) (mod-lt n some) same in
    let high : m / p ≡ n / p = let half = parts.0 in omega (arith, lacks_m, lacks_n, half) in
    sym (div-add-mod' m p) ∙ ap (λ (h : ℕ). h * p + m % p) high ∙ ap (λ (l : ℕ). n / p * p + l) parts.1 ∙ div-add-mod' n p

-- ---- the bend of an action's number, less 1
abbrev bend_place : ℕ → ℕ → ℕ
bend_place stages number = number / stages / 2

-- a number for a note, by its row's key and its action's number
note_code : ℕ → Key → ℕ → ℕ
note_code stages key number = (cut (2 ^ bend_place stages number) key.mask.0 * 144 + (key.attitude * 6 + key.stage)) * 144 + number

-- the key is one of a job's, and doesn't hold the bend of the action
record Fits (stages : ℕ) (key : Key) (number : ℕ) : Type 0 where
  few_stages : stages ≤ 6
  mask : key.mask.0 < 4096
  attitude : key.attitude < 24
  stage : key.stage < stages
  number_fits : number < 144
  bend : bend_place stages number < 12
  lacks : bit_at key.mask.0 (bend_place stages number) ≡ 0

code_below : (stages : ℕ) (key : Key) (number : ℕ) → Fits stages key number → note_code stages key number < 42467328
unfolding note_code
code_below stages key number fits =
    let i = bend_place stages number in
    let p = 2 ^ i in
    let q = 2 ^ (11 - i) in
    let there : 11 - i + i ≡ 11 = omega (arith, fits.bend) in
    let here : i + (11 - i) ≡ 11 = omega (arith, fits.bend) in
    let all : q * p ≡ 2048 = sym (pow-add 2 (11 - i) i) ∙ ap (λ (n : ℕ). 2 ^ n) there in
    let back : p * q ≡ 2048 = sym (pow-add 2 i (11 - i)) ∙ ap (λ (n : ℕ). 2 ^ n) here in
    let twice : 2 * q * p ≡ 4096 = mul_assoc 2 q p ∙ ap (λ (n : ℕ). 2 * n) all in
    let short = cut_small p q key.mask.0 (pow_pos i) (omega (arith, fits.mask, twice)) in
    omega (arith, short, back, fits.attitude, fits.stage, fits.few_stages, fits.number_fits)

code_apart : (stages : ℕ) (a b : Key) (m n : ℕ) → Fits stages a m → Fits stages b n → note_code stages a m ≡ note_code stages b n → (a ≡ b) × (m ≡ n)
unfolding note_code
code_apart stages a b m n one other same =
    let high : Key → ℕ → ℕ = λ key number. cut (2 ^ bend_place stages number) key.mask.0 in
    let low : Key → ℕ = λ key. key.attitude * 6 + key.stage in
    let stage_a : a.stage < 6 = omega (arith, one.stage, one.few_stages) in
    let stage_b : b.stage < 6 = omega (arith, other.stage, one.few_stages) in
    let low_a : low a < 144 = omega (arith, one.attitude, stage_a) in
    let low_b : low b < 144 = omega (arith, other.attitude, stage_b) in
    let outer = same_from_place (high a m * 144 + low a) m (high b n * 144 + low b) n 144 one.number_fits other.number_fits same in
    let inner = same_from_place (high a m) (low a) (high b n) (low b) 144 low_a low_b outer.0 in
    let turn = same_from_place a.attitude a.stage b.attitude b.stage 6 stage_a stage_b inner.1 in
    let place : bend_place stages n ≡ bend_place stages m = ap (bend_place stages) (sym outer.1) in
    let cuts : high a m ≡ cut (2 ^ bend_place stages m) b.mask.0 = inner.0 ∙ ap (λ (i : ℕ). cut (2 ^ i) b.mask.0) place in
    let lacks : bit_at b.mask.0 (bend_place stages m) ≡ 0 = subst (λ (i : ℕ). bit_at b.mask.0 i ≡ 0) place other.lacks in
    let mask : a.mask.0 ≡ b.mask.0 = cut_apart (2 ^ bend_place stages m) a.mask.0 b.mask.0 (pow_pos (bend_place stages m)) one.lacks lacks cuts in
    (λ j. record { mask = record { 0 = mask j }; attitude = turn.0 j; stage = turn.1 j }, outer.1)

-- ---- the notes of a job's rows
zero_bit : (n : ℕ) → n < 2 → (n == 1) ≡ false → n ≡ 0
zero_bit n few other_one = grind (arith, common_steps)

-- a bend that leads a stroke isn't folded
unfolded : (job : JobData) (mask : Mask) (place : ℕ) → is_lead job mask (place + 1) ≡ true → bit_at mask.0 place ≡ 0
unfolding has
unfolded job mask place lead =
    let flat : has mask (suc place) ≡ false = ap (has mask) (sym (add-one place)) ∙ (lead_is job mask (place + 1) lead).flat in
    zero_bit (bit_at mask.0 place) (bit_at-lt mask.0 place) flat

module _ (job : JobData) (valid : IsJob job) (rows : List RowHead) (notes : List Note) (are : AreRows job rows notes) where
  abbrev row_of : Note → RowHead
  row_of note = get_or rows note.row no_row

  abbrev code : Note → ℕ
  code note = note_code (stage_count job) (row_of note).key note.action

  -- a note and its row
  fits : (k : ℕ) (d : Note) → k < length notes → Fits (stage_count job) (row_of (get_or notes k d)).key (get_or notes k d).action
  fits k d within =
      let note = get_or notes k d in
      let is = are.each_note k d within in
      let row = are.each_row note.row no_row is.row in
      let small = small_of job valid in
      let masks : 2 ^ bend_count job ≤ 2 ^ 12 = pow-le-pow_right (omega arith) small.bends in
      let among = bend_of_number (bend_count job) (stage_count job) note.action is.action in
      record {
        few_stages = small.stages;
        mask = omega (arith, masks, row.mask);
        attitude = row.attitude;
        stage = row.stage;
        number_fits = omega (arith, few_actions note.action (bend_count job) (stage_count job) small.bends is.action, small.stages);
        bend = omega (arith, among.1, small.bends);
        lacks = unfolded job (row_of note).key.mask (bend_place (stage_count job) note.action) (is.lead no_row);
      }

  apart : AllPairs (λ (a b : Note). code a ≢ code b) notes
  apart i j d less within same =
      let first = get_or notes i d in
      let second = get_or notes j d in
      let parts = code_apart (stage_count job) (row_of first).key (row_of second).key first.action second.action (fits i d (omega (arith, less, within))) (fits j d within) same in
      by_order (are.note_order i j d less within) parts
    where
      by_order : NoteIsBefore (get_or notes i d) (get_or notes j d) → ((row_of (get_or notes i d)).key ≡ (row_of (get_or notes j d)).key) × ((get_or notes i d).action ≡ (get_or notes j d).action) → ⊥
      by_order (inl rows_less) parts =
          let keys = row_grows job valid rows (record { each = are.each_row; order = are.row_order }) (get_or notes i d).row (get_or notes j d).row no_row rows_less (are.each_note j d within).row in
          omega (arith, keys, ap key_place parts.0)
      by_order (inr later) parts = omega (arith, later.1, parts.1)

  pub few_notes : length notes ≤ 42467328
  few_notes = at_most code 42467328 notes apart (λ k d within. code_below (stage_count job) (row_of (get_or notes k d)).key (get_or notes k d).action (fits k d within))
