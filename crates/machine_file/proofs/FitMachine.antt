-- Each machine that a file gives meets the rules of the machine file.
use Rattle.std.proofs.Common.{◌≡◌, ℕ, ◌+◌, ◌<◌, ◌≤◌, ℤ, pos, negsuc, neg_ℤ, unsigned_abs, Bool, true, false, ◌||◌, List, [], ◌∷◌, codes, length, nat_le, nat_lt, Option, Some, None, Ok, ok_or, option_map, option_and_then, if◌then◌else◌, is_some, All, refl, sym, subst, ltb-false, leb-true, arith}
use Rattle.std.specs.Ordering.{int_eq}
use Rattle.std.specs.List.{list_all}
use Rattle.std.proofs.lemmas.Int.{ints}
use Rattle.toml.specs.Data.{Data, Members, as_integer, as_table}
use Rattle.toml_fields.specs.Fields.{has_key, whole_at, integer_at, integer_or, name_at, text_at, has_unknown_key}
use Rattle.toml_fields.specs.Lists.{array_at, each_passes}
use Rattle.toml_fields.specs.Ranges.{IsWithin}
use Rattle.toml_fields.specs.Results.{each_from, refuse_if}
use Rattle.toml_fields.proofs.Bind.{bind_ok, ok_same, ok_or_ok, refused_not, checked_is_name, checked_is_within}
use Rattle.machine_file.specs.declared.fault.MachineFault.TheVariants.{BadField, UnknownKey, TooMany, BadBox}
use Rattle.machine_file.specs.Bounds.{most_frames, most_fixed_boxes, most_stages, most_pieces, least_piece, greatest_piece, greatest_uncovered, greatest_force, greatest_fine}
use Rattle.machine_file.specs.Machine.{StageTextData, FixturesData, MachineData, coordinate_limit, IsBedRange, IsFixed, IsPiece, IsStageText, IsMachine}
use Rattle.machine_file.specs.MachineFile.{bed_range_of, frame_of, fixed_between, gauge_of, costs_of, piece_of, pieces_at, piece_in, stage_text_of, stage_text_in, ends_in, rows_in, uncovered_in, table_in, stages_in, gang_in, force_in, fine_in, fixtures_of, too_many, machine_of_members}
use Rattle.machine_file.proofs.Fit.{each_all, each_length, then_some, range_is, frame_is, box_is, gauge_is, costs_are}

-- the pieces are at least one
some_pieces : (o : Option (List Data)) (items : List Data) → option_and_then (each_passes (λ item. is_some (piece_of item))) (option_and_then (λ given. if nat_le 1 (length given) then Some given else None) o) ≡ Some items → 0 < length items
some_pieces o items given =
    let found = then_some (option_and_then (λ given. if nat_le 1 (length given) then Some given else None) o) (each_passes (λ item. is_some (piece_of item))) items given in
    let first = then_some o (λ given. if nat_le 1 (length given) then Some given else None) found.0 found.1 in
    let all : found.0 ≡ items = kept_items (list_all (λ item. is_some (piece_of item)) found.0) found.0 items found.2 in
    let some : 1 ≤ length found.0 = at_least (nat_le 1 (length first.0)) first.0 found.0 refl first.2 in
    subst (λ (ds : List Data). 0 < length ds) all some
  where
    kept_items : (test : Bool) (ds es : List Data) → (if test then Some ds else None) ≡ Some es → ds ≡ es
    kept_items true ds es is = cc
    kept_items false ds es is = absurd (cc)

    at_least : (test : Bool) (ds es : List Data) → nat_le 1 (length ds) ≡ test → (if test then Some ds else None) ≡ Some es → 1 ≤ length es
    at_least true ds es passes is = let same : ds ≡ es = cc in subst (λ (fs : List Data). 1 ≤ length fs) same (leb-true 1 (length ds) passes)
    at_least false ds es passes is = absurd (cc)

piece_is : (table i : ℕ) (item : Data) (n : ℤ) → piece_in table i item ≡ Ok n → IsPiece n
piece_is table i item n given = checked_is_within least_piece greatest_piece (as_integer item) n (ok_or_ok (piece_of item) (BadField table 26) n given)

stage_table_is : (table : ℕ) (ms : Members) (stage : StageTextData) → stage_text_of table ms ≡ Ok stage → IsStageText stage
unfolding stage_text_of
stage_table_is table ms stage given =
    let punch = bind_ok (ok_or (name_at (codes "punch") ms) (BadField table 23)) _ stage given in
    let die = bind_ok (ok_or (name_at (codes "die") ms) (BadField table 24)) _ stage punch.2 in
    let at = bind_ok (ok_or (integer_at (neg_ℤ coordinate_limit) coordinate_limit (codes "at") ms) (BadField table 25)) _ stage die.2 in
    let items = bind_ok (ok_or (pieces_at (codes "pieces") ms) (BadField table 26)) _ stage at.2 in
    let known = bind_ok (refuse_if (has_unknown_key (codes "punch" ∷ codes "die" ∷ codes "at" ∷ codes "pieces" ∷ []) ms) (UnknownKey table)) _ stage items.2 in
    let few = bind_ok (refuse_if (nat_lt most_pieces (length items.0)) (TooMany table)) _ stage known.2 in
    let pieces = bind_ok (each_from (piece_in table) 0 items.0) _ stage few.2 in
    let read : StageTextData = record { punch = punch.0; die = die.0; at = at.0; pieces = pieces.0 } in
    let count : length pieces.0 ≡ length items.0 = each_length (piece_in table) 0 items.0 pieces.0 pieces.1 in
    let some : 0 < length items.0 = some_pieces (array_at (codes "pieces") ms) items.0 (ok_or_ok (pieces_at (codes "pieces") ms) (BadField table 26) items.0 items.1) in
    let at_most : length items.0 ≤ most_pieces = ltb-false most_pieces (length items.0) (refused_not (nat_lt most_pieces (length items.0)) (TooMany table) few.0 few.1) in
    let fits : IsStageText read = record {
      punch = checked_is_name (text_at (codes "punch") ms) punch.0 (ok_or_ok (name_at (codes "punch") ms) (BadField table 23) punch.0 punch.1);
      die = checked_is_name (text_at (codes "die") ms) die.0 (ok_or_ok (name_at (codes "die") ms) (BadField table 24) die.0 die.1);
      at = checked_is_within (neg_ℤ coordinate_limit) coordinate_limit (whole_at (codes "at") ms) at.0 (ok_or_ok (integer_at (neg_ℤ coordinate_limit) coordinate_limit (codes "at") ms) (BadField table 25) at.0 at.1);
      some_piece = omega arith;
      few_pieces = omega arith;
      pieces = each_all (piece_in table) IsPiece (piece_is table) 0 items.0 pieces.0 pieces.1;
    } in
    subst (λ (s : StageTextData). IsStageText s) {x = read} (ok_same read stage pieces.2) fits

stage_is : (i : ℕ) (item : Data) (stage : StageTextData) → stage_text_in i item ≡ Ok stage → IsStageText stage
unfolding stage_text_in
stage_is i item stage given =
    let table = bind_ok (ok_or (as_table item) (BadField 0 8)) _ stage given in
    stage_table_is (3 + i) table.0 stage table.2

-- an integer that is read, or stands for a missing one that is within the ends itself
or_is : (missing low high : ℤ) (key : List ℕ) (ms : Members) (n : ℤ) → IsWithin low high missing → integer_or missing low high key ms ≡ Some n → IsWithin low high n
or_is missing low high key ms n fine given = by_test (has_key key ms) given
  where
    by_test : (test : Bool) → (if test then integer_at low high key ms else Some missing) ≡ Some n → IsWithin low high n
    by_test true is = checked_is_within low high (whole_at key ms) n is
    by_test false is = let same : missing ≡ n = cc in subst (λ (m : ℤ). IsWithin low high m) same fine

-- no list is too long
record AreFew (frames upper lower stages : List Data) : Type 0 where
  few_frames : length frames ≤ most_frames
  few_upper : length upper ≤ most_fixed_boxes
  few_lower : length lower ≤ most_fixed_boxes
  few_stages : length stages ≤ most_stages

neither : (a b : Bool) → (a || b) ≡ false → (a ≡ false) × (b ≡ false)
neither false false given = (refl, refl)
neither false true given = absurd (cc)
neither true b given = absurd (cc)

are_few : (frames upper lower stages : List Data) → too_many frames upper lower stages ≡ false → AreFew frames upper lower stages
are_few frames upper lower stages given =
    let halves = neither (nat_lt most_frames (length frames) || nat_lt most_fixed_boxes (length upper)) (nat_lt most_fixed_boxes (length lower) || nat_lt most_stages (length stages)) given in
    let first = neither (nat_lt most_frames (length frames)) (nat_lt most_fixed_boxes (length upper)) halves.0 in
    let second = neither (nat_lt most_fixed_boxes (length lower)) (nat_lt most_stages (length stages)) halves.1 in
    record {
      few_frames = ltb-false most_frames (length frames) first.0;
      few_upper = ltb-false most_fixed_boxes (length upper) first.1;
      few_lower = ltb-false most_fixed_boxes (length lower) second.0;
      few_stages = ltb-false most_stages (length stages) second.1;
    }

-- as many as another count that is few
as_few : (count items most : ℕ) → count ≡ items → items ≤ most → count ≤ most
as_few count items most same few = subst (λ (n : ℕ). n ≤ most) (sym same) few

-- what is fixed on the machine is in order and range
record AreFixtures (frames upper lower : List Data) (fixtures : FixturesData) : Type 0 where
  bed_fits : IsBedRange fixtures.bed
  frames_fit : All IsBedRange fixtures.frames
  frame_count : length fixtures.frames ≡ length frames
  upper_fit : All (IsFixed (pos 0) coordinate_limit) fixtures.upper
  upper_count : length fixtures.upper ≡ length upper
  lower_fit : All (IsFixed (neg_ℤ coordinate_limit) (pos 0)) fixtures.lower
  lower_count : length fixtures.lower ≡ length lower

fixtures_fit : (ends : List ℤ) (frames upper lower : List Data) (fixtures : FixturesData) → fixtures_of ends frames upper lower ≡ Ok fixtures → AreFixtures frames upper lower fixtures
unfolding fixtures_of
fixtures_fit ends frames upper lower fixtures given =
    let bed = bind_ok (ok_or (bed_range_of ends) (BadBox 0)) _ fixtures given in
    let frame_ranges = bind_ok (each_from frame_of 0 frames) _ fixtures bed.2 in
    let upper_boxes = bind_ok (each_from (fixed_between (pos 0) coordinate_limit) 0 upper) _ fixtures frame_ranges.2 in
    let lower_boxes = bind_ok (each_from (fixed_between (neg_ℤ coordinate_limit) (pos 0)) 0 lower) _ fixtures upper_boxes.2 in
    let read : FixturesData = record { bed = bed.0; frames = frame_ranges.0; upper = upper_boxes.0; lower = lower_boxes.0 } in
    let fits : AreFixtures frames upper lower read = record {
      bed_fits = range_is ends bed.0 (ok_or_ok (bed_range_of ends) (BadBox 0) bed.0 bed.1);
      frames_fit = each_all frame_of IsBedRange frame_is 0 frames frame_ranges.0 frame_ranges.1;
      frame_count = each_length frame_of 0 frames frame_ranges.0 frame_ranges.1;
      upper_fit = each_all (fixed_between (pos 0) coordinate_limit) (IsFixed (pos 0) coordinate_limit) (box_is (pos 0) coordinate_limit) 0 upper upper_boxes.0 upper_boxes.1;
      upper_count = each_length (fixed_between (pos 0) coordinate_limit) 0 upper upper_boxes.0 upper_boxes.1;
      lower_fit = each_all (fixed_between (neg_ℤ coordinate_limit) (pos 0)) (IsFixed (neg_ℤ coordinate_limit) (pos 0)) (box_is (neg_ℤ coordinate_limit) (pos 0)) 0 lower lower_boxes.0 lower_boxes.1;
      lower_count = each_length (fixed_between (neg_ℤ coordinate_limit) (pos 0)) 0 lower lower_boxes.0 lower_boxes.1;
    } in
    subst (λ (f : FixturesData). AreFixtures frames upper lower f) {x = read} (ok_same read fixtures lower_boxes.2) fits

-- a number from 0 to 12 is at most 12 without its sign
few : (z : ℤ) → IsWithin (pos 0) (pos 12) z → unsigned_abs z ≤ 12
few (pos n) within = omega (arith, ints, within.top)
few (negsuc n) within = absurd (omega (arith, ints, within.bottom))

-- how often a piece may be halved is at most 12
fine_is : (ms : Members) (n : ℕ) → fine_in ms ≡ Ok n → n ≤ greatest_fine
fine_is ms n given = by_read (integer_or (pos 0) (pos 0) (pos greatest_fine) (codes "fine") ms) refl (ok_or_ok (option_map unsigned_abs (integer_or (pos 0) (pos 0) (pos greatest_fine) (codes "fine") ms)) (BadField 0 29) n given)
  where
    by_read : (read : Option ℤ) → integer_or (pos 0) (pos 0) (pos greatest_fine) (codes "fine") ms ≡ read → option_map unsigned_abs read ≡ Some n → n ≤ greatest_fine
    by_read None is found = absurd (cc)
    by_read (Some z) is found =
        let same : unsigned_abs z ≡ n = cc in
        let within = or_is (pos 0) (pos 0) (pos greatest_fine) (codes "fine") ms z (record { bottom = record { le = tt }; top = record { le = tt } }) is in
        subst (λ (k : ℕ). k ≤ 12) same (few z within)

pub table_fits : (ms : Members) (m : MachineData) → machine_of_members ms ≡ Ok m → IsMachine m
unfolding machine_of_members
table_fits ms m given =
    let ends = bind_ok (ends_in ms) _ m given in
    let frames = bind_ok (rows_in 2 (codes "frames") 2 ms) _ m ends.2 in
    let upper = bind_ok (rows_in 6 (codes "upper") 3 ms) _ m frames.2 in
    let lower = bind_ok (rows_in 6 (codes "lower") 4 ms) _ m upper.2 in
    let uncovered = bind_ok (uncovered_in ms) _ m lower.2 in
    let gauge = bind_ok (table_in (codes "gauge") 6 ms) _ m uncovered.2 in
    let cost = bind_ok (table_in (codes "cost") 7 ms) _ m gauge.2 in
    let stages = bind_ok (stages_in ms) _ m cost.2 in
    let gang = bind_ok (gang_in ms) _ m stages.2 in
    let force = bind_ok (force_in ms) _ m gang.2 in
    let fine = bind_ok (fine_in ms) _ m force.2 in
    let known = bind_ok (refuse_if (has_unknown_key (codes "bed" ∷ codes "frames" ∷ codes "upper" ∷ codes "lower" ∷ codes "uncovered" ∷ codes "gauge" ∷ codes "cost" ∷ codes "stage" ∷ codes "gang" ∷ codes "force" ∷ codes "fine" ∷ []) ms) (UnknownKey 0)) _ m fine.2 in
    let few = bind_ok (refuse_if (too_many frames.0 upper.0 lower.0 stages.0) (TooMany 0)) _ m known.2 in
    let fixtures = bind_ok (fixtures_of ends.0 frames.0 upper.0 lower.0) _ m few.2 in
    let gauge_rule = bind_ok (gauge_of gauge.0) _ m fixtures.2 in
    let costs = bind_ok (costs_of cost.0) _ m gauge_rule.2 in
    let stage_texts = bind_ok (each_from stage_text_in 0 stages.0) _ m costs.2 in
    let read : MachineData = record { bed = fixtures.0.bed; frames = fixtures.0.frames; upper = fixtures.0.upper; lower = fixtures.0.lower; uncovered = uncovered.0; gauge = gauge_rule.0; cost = costs.0; stages = stage_texts.0; gang = int_eq gang.0 (pos 1); force = force.0; fine = fine.0 } in
    let are = are_few frames.0 upper.0 lower.0 stages.0 (refused_not (too_many frames.0 upper.0 lower.0 stages.0) (TooMany 0) few.0 few.1) in
    let fixed = fixtures_fit ends.0 frames.0 upper.0 lower.0 fixtures.0 fixtures.1 in
    let fits : IsMachine read = record {
      bed = fixed.bed_fits;
      frames = fixed.frames_fit;
      few_frames = as_few (length fixtures.0.frames) (length frames.0) most_frames fixed.frame_count are.few_frames;
      upper = fixed.upper_fit;
      few_upper = as_few (length fixtures.0.upper) (length upper.0) most_fixed_boxes fixed.upper_count are.few_upper;
      lower = fixed.lower_fit;
      few_lower = as_few (length fixtures.0.lower) (length lower.0) most_fixed_boxes fixed.lower_count are.few_lower;
      uncovered = checked_is_within (pos 0) greatest_uncovered (whole_at (codes "uncovered") ms) uncovered.0 (ok_or_ok (integer_at (pos 0) greatest_uncovered (codes "uncovered") ms) (BadField 0 5) uncovered.0 uncovered.1);
      gauge = gauge_is gauge.0 gauge_rule.0 gauge_rule.1;
      cost = costs_are cost.0 costs.0 costs.1;
      stages = each_all stage_text_in IsStageText stage_is 0 stages.0 stage_texts.0 stage_texts.1;
      few_stages = as_few (length stage_texts.0) (length stages.0) most_stages (each_length stage_text_in 0 stages.0 stage_texts.0 stage_texts.1) are.few_stages;
      force = or_is (pos 0) (pos 0) greatest_force (codes "force") ms force.0 (record { bottom = record { le = tt }; top = record { le = tt } }) (ok_or_ok (integer_or (pos 0) (pos 0) greatest_force (codes "force") ms) (BadField 0 28) force.0 force.1);
      fine = fine_is ms fine.0 fine.1;
    } in
    subst (λ (machine : MachineData). IsMachine machine) {x = read} (ok_same read m stage_texts.2) fits
