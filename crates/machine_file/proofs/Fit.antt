-- What is read of a machine's tables meets the rules of the machine file.
use Rattle.std.proofs.Common.{◌≡◌, ℕ, suc, ◌+◌, ◌≤◌, ℤ, pos, neg_ℤ, unsigned_abs, Bool, true, false, List, [], ◌∷◌, codes, length, Option, Some, None, Result, Ok, option_and_then, option_map, if◌then◌else◌, All, refl, sym, ap, subst, ◌∙◌, arith}
use Rattle.std.proofs.lemmas.Int.{ints}
use Rattle.std.proofs.lemmas.List.Elements.{All-nil, All-cons}
use Rattle.toml.specs.Data.{Data, Members}
use Rattle.toml_fields.specs.Fields.{whole_at, integer_at, has_unknown_key}
use Rattle.toml_fields.specs.Lists.{integers_of}
use Rattle.toml_fields.specs.Ranges.{IsWithin, is_range}
use Rattle.toml_fields.specs.Results.{each_from, refuse_if}
use Rattle.toml_fields.proofs.Bind.{bind_ok, ok_same, ok_or_ok, checked_is_within}
use Rattle.toml_fields.proofs.Decided.{range_decided}
use Rattle.machine_file.specs.declared.fault.MachineFault.TheVariants.{BadField, UnknownKey, BadBox}
use Rattle.machine_file.specs.declared.machine.Fixed.{Fixed}
use Rattle.machine_file.specs.declared.machine.GaugeRule.{GaugeRule}
use Rattle.machine_file.specs.declared.machine.Costs.{Costs}
use Rattle.machine_file.specs.Bounds.{greatest_gauge_length, least_finger, greatest_cost}
use Rattle.machine_file.specs.Machine.{coordinate_limit, IsBedRange, IsFixed, IsGaugeRule, IsCosts}
use Rattle.machine_file.specs.MachineFile.{bed_range_of, fixed_of, is_fixed, frame_of, fixed_between, length_at, gauge_of, cost_at, costs_of}
use Rattle.machine_file.proofs.Decided.{fixed_decided}

-- items that are read in turn, each to a value of which a fact holds
pub each_all : {A B E : Type 0} (read : ℕ → A → Result B E) (P : B → Type 0) → ((n : ℕ) (x : A) (y : B) → read n x ≡ Ok y → P y) → (n : ℕ) (xs : List A) (ys : List B) → each_from read n xs ≡ Ok ys → All P ys
unfolding each_from
each_all {B = B} read P holds n [] ys given = subst (λ (zs : List B). All P zs) (ok_same [] ys given) (All-nil P)
each_all {B = B} read P holds n (x ∷ xs) ys given =
    let one = bind_ok (read n x) _ ys given in
    let rest = bind_ok (each_from read (n + 1) xs) _ ys one.2 in
    let same : one.0 ∷ rest.0 ≡ ys = ok_same (one.0 ∷ rest.0) ys rest.2 in
    subst (λ (zs : List B). All P zs) {x = one.0 ∷ rest.0} same (All-cons P one.0 rest.0 (holds n x one.0 one.1) (each_all read P holds (n + 1) xs rest.0 rest.1))

-- as many values as items
pub each_length : {A B E : Type 0} (read : ℕ → A → Result B E) (n : ℕ) (xs : List A) (ys : List B) → each_from read n xs ≡ Ok ys → length ys ≡ length xs
unfolding each_from
each_length read n [] ys given = ap length (sym (ok_same [] ys given))
each_length read n (x ∷ xs) ys given =
    let one = bind_ok (read n x) _ ys given in
    let rest = bind_ok (each_from read (n + 1) xs) _ ys one.2 in
    ap length (sym (ok_same (one.0 ∷ rest.0) ys rest.2)) ∙ ap suc (each_length read (n + 1) xs rest.0 rest.1)

-- a value that was found by a step after another
pub then_some : {A B : Type 0} (o : Option A) (f : A → Option B) (b : B) → option_and_then f o ≡ Some b → (a : A) × (o ≡ Some a) × (f a ≡ Some b)
then_some None f b given = absurd (cc)
then_some (Some a) f b given = (a, refl, given)

-- a value that is there only where a test holds
kept : {A : Type 0} (test : Bool) (a b : A) → (if test then Some a else None) ≡ Some b → (test ≡ true) × (a ≡ b)
kept true a b given = (refl, cc)
kept false a b given = absurd (cc)

pub range_is : (ends : List ℤ) (range : ℤ × ℤ) → bed_range_of ends ≡ Some range → IsBedRange range
range_is [] range given = absurd (cc)
range_is (x0 ∷ []) range given = absurd (cc)
range_is (x0 ∷ x1 ∷ []) range given =
    let fact = kept (is_range (neg_ℤ coordinate_limit) coordinate_limit x0 x1) (x0, x1) range given in
    subst (λ (r : ℤ × ℤ). IsBedRange r) fact.1 ((range_decided (neg_ℤ coordinate_limit) coordinate_limit x0 x1).0 fact.0)
range_is (x0 ∷ x1 ∷ x2 ∷ more) range given = absurd (cc)

pub frame_is : (i : ℕ) (item : Data) (range : ℤ × ℤ) → frame_of i item ≡ Ok range → IsBedRange range
frame_is i item range given =
    let found = then_some (integers_of 2 item) bed_range_of range (ok_or_ok (option_and_then bed_range_of (integers_of 2 item)) (BadBox 0) range given) in
    range_is found.0 range found.2

pub box_is : (low high : ℤ) (i : ℕ) (item : Data) (box : Fixed) → fixed_between low high i item ≡ Ok box → IsFixed low high box
box_is low high i item box given =
    let found = then_some (fixed_of item) (λ read. if is_fixed low high read then Some read else None) box (ok_or_ok (option_and_then (λ read. if is_fixed low high read then Some read else None) (fixed_of item)) (BadBox 0) box given) in
    let fact = kept (is_fixed low high found.0) found.0 box found.2 in
    subst (λ (b : Fixed). IsFixed low high b) fact.1 ((fixed_decided low high found.0).0 fact.0)

-- a length of the backgauge that is read is within its ends
pub length_is : (low : ℤ) (key : List ℕ) (number : ℕ) (ms : Members) (n : ℤ) → length_at low key number ms ≡ Ok n → IsWithin low greatest_gauge_length n
length_is low key number ms n given = checked_is_within low greatest_gauge_length (whole_at key ms) n (ok_or_ok (integer_at low greatest_gauge_length key ms) (BadField 1 number) n given)

mapped : {A B : Type 0} (f : A → B) (o : Option A) (b : B) → option_map f o ≡ Some b → (a : A) × (o ≡ Some a) × (f a ≡ b)
mapped f None b given = absurd (cc)
mapped f (Some a) b given = (a, refl, cc)

pub cost_is : (key : List ℕ) (number : ℕ) (ms : Members) (n : ℕ) → cost_at key number ms ≡ Ok n → n ≤ greatest_cost
cost_is key number ms n given =
    let found = mapped unsigned_abs (integer_at (pos 0) (pos greatest_cost) key ms) n (ok_or_ok (option_map unsigned_abs (integer_at (pos 0) (pos greatest_cost) key ms)) (BadField 2 number) n given) in
    let ends = checked_is_within (pos 0) (pos greatest_cost) (whole_at key ms) found.0 found.1 in
    let same : unsigned_abs found.0 ≡ n = found.2 in
    omega (arith, ints, ends.bottom, ends.top)

pub gauge_is : (ms : Members) (rule : GaugeRule) → gauge_of ms ≡ Ok rule → IsGaugeRule rule
unfolding gauge_of
gauge_is ms rule given =
    let near = bind_ok (length_at (pos 0) (codes "near") 9 ms) _ rule given in
    let far = bind_ok (length_at (pos 0) (codes "far") 10 ms) _ rule near.2 in
    let inset = bind_ok (length_at (pos 0) (codes "inset") 11 ms) _ rule far.2 in
    let finger = bind_ok (length_at least_finger (codes "finger") 12 ms) _ rule inset.2 in
    let gap = bind_ok (length_at (pos 0) (codes "gap") 13 ms) _ rule finger.2 in
    let depth = bind_ok (length_at least_finger (codes "depth") 14 ms) _ rule gap.2 in
    let above = bind_ok (length_at (pos 0) (codes "above") 15 ms) _ rule depth.2 in
    let below = bind_ok (length_at (pos 0) (codes "below") 16 ms) _ rule above.2 in
    let known = bind_ok (refuse_if (has_unknown_key (codes "near" ∷ codes "far" ∷ codes "inset" ∷ codes "finger" ∷ codes "gap" ∷ codes "depth" ∷ codes "above" ∷ codes "below" ∷ []) ms) (UnknownKey 1)) _ rule below.2 in
    let read : GaugeRule = record { near = near.0; far = far.0; inset = inset.0; finger = finger.0; gap = gap.0; depth = depth.0; above = above.0; below = below.0 } in
    let fits : IsGaugeRule read = record {
      near = length_is (pos 0) (codes "near") 9 ms near.0 near.1;
      far = length_is (pos 0) (codes "far") 10 ms far.0 far.1;
      inset = length_is (pos 0) (codes "inset") 11 ms inset.0 inset.1;
      finger = length_is least_finger (codes "finger") 12 ms finger.0 finger.1;
      gap = length_is (pos 0) (codes "gap") 13 ms gap.0 gap.1;
      depth = length_is least_finger (codes "depth") 14 ms depth.0 depth.1;
      above = length_is (pos 0) (codes "above") 15 ms above.0 above.1;
      below = length_is (pos 0) (codes "below") 16 ms below.0 below.1;
    } in
    subst (λ (r : GaugeRule). IsGaugeRule r) {x = read} (ok_same read rule known.2) fits

pub costs_are : (ms : Members) (costs : Costs) → costs_of ms ≡ Ok costs → IsCosts costs
unfolding costs_of
costs_are ms costs given =
    let stroke = bind_ok (cost_at (codes "stroke") 17 ms) _ costs given in
    let quarter = bind_ok (cost_at (codes "quarter") 18 ms) _ costs stroke.2 in
    let half = bind_ok (cost_at (codes "half") 19 ms) _ costs quarter.2 in
    let flip = bind_ok (cost_at (codes "flip") 20 ms) _ costs half.2 in
    let roll = bind_ok (cost_at (codes "roll") 21 ms) _ costs flip.2 in
    let stage = bind_ok (cost_at (codes "stage") 22 ms) _ costs roll.2 in
    let known = bind_ok (refuse_if (has_unknown_key (codes "stroke" ∷ codes "quarter" ∷ codes "half" ∷ codes "flip" ∷ codes "roll" ∷ codes "stage" ∷ []) ms) (UnknownKey 2)) _ costs stage.2 in
    let read : Costs = record { stroke = stroke.0; quarter = quarter.0; half = half.0; flip = flip.0; roll = roll.0; stage = stage.0 } in
    let fits : IsCosts read = record {
      stroke = cost_is (codes "stroke") 17 ms stroke.0 stroke.1;
      quarter = cost_is (codes "quarter") 18 ms quarter.0 quarter.1;
      half = cost_is (codes "half") 19 ms half.0 half.1;
      flip = cost_is (codes "flip") 20 ms flip.0 flip.1;
      roll = cost_is (codes "roll") 21 ms roll.0 roll.1;
      stage = cost_is (codes "stage") 22 ms stage.0 stage.1;
    } in
    subst (λ (r : Costs). IsCosts r) {x = read} (ok_same read costs known.2) fits
