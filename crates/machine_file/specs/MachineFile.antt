-- The machine that a file gives, or its first refusal. Table 0 is the top table, table 1 is
-- `gauge`, table 2 is `cost`, table 3 + i is stage i's. Keys are numbered for the refusals.
use Rattle.std.specs.Prelude.{ℕ, ◌+◌, ℤ, pos, neg_ℤ, unsigned_abs, List, [], ◌∷◌, codes, length}
use Rattle.std.specs.Prelude.{Bool, ◌&&◌, ◌||◌, nat_lt, nat_le, if◌then◌else◌, is_some, Option}
use Rattle.std.specs.Prelude.{Some, None, Result, Ok, ok_or, option_map, option_and_then}
use Rattle.std.specs.Ordering.{int_eq}
use Rattle.toml.specs.Data.{Data, Members, get_member, as_integer, as_table}
use Rattle.toml_fields.specs.Document.{document_of}
use Rattle.toml_fields.specs.Fields.{has_unknown_key, name_at, checked_integer, integer_at}
use Rattle.toml_fields.specs.Fields.{integer_or, table_at}
use Rattle.toml_fields.specs.Lists.{array_at, each_passes, integers_of, rows_or_none}
use Rattle.toml_fields.specs.Lists.{tables_or_none}
use Rattle.toml_fields.specs.Ranges.{is_range}
use Rattle.toml_fields.specs.Results.{◌>>=◌, each_from, refuse_if}
use Rattle.machine_file.specs.declared.fault.MachineFault.{MachineFault}
use Rattle.machine_file.specs.declared.fault.MachineFault.TheVariants.{NotToml, BadField}
use Rattle.machine_file.specs.declared.fault.MachineFault.TheVariants.{UnknownKey, TooMany, BadBox}
use Rattle.machine_file.specs.declared.machine.Fixed.{Fixed}
use Rattle.machine_file.specs.declared.machine.GaugeRule.{GaugeRule}
use Rattle.machine_file.specs.declared.machine.Costs.{Costs}
use Rattle.machine_file.specs.Bounds.{most_frames, most_fixed_boxes, most_stages, most_pieces}
use Rattle.machine_file.specs.Bounds.{least_piece, greatest_piece, greatest_uncovered}
use Rattle.machine_file.specs.Bounds.{greatest_gauge_length, least_finger, greatest_cost}
use Rattle.machine_file.specs.Bounds.{greatest_force, greatest_fine}
use Rattle.machine_file.specs.Machine.{StageTextData, FixturesData, MachineData, coordinate_limit}

-- the range of two integers along the bed
abbrev pub bed_range_of : List ℤ → Option (ℤ × ℤ)
bed_range_of (x0 ∷ x1 ∷ []) =
    if is_range (neg_ℤ coordinate_limit) coordinate_limit x0 x1 then Some (x0, x1) else None
bed_range_of _ = None

-- the box of six integers x0, x1, y0, y1, z0, z1
abbrev pub fixed_by : List ℤ → Option Fixed
fixed_by (x0 ∷ x1 ∷ y0 ∷ y1 ∷ z0 ∷ z1 ∷ []) =
    Some (record { x0 = x0; x1 = x1; rect = record { y0 = y0; y1 = y1; z0 = z0; z1 = z1 } })
fixed_by _ = None

abbrev pub fixed_of : Data → Option Fixed
fixed_of item = option_and_then fixed_by (integers_of 6 item)

-- the box's ranges along and across the bed are in order and range
abbrev pub has_footprint : Fixed → Bool
has_footprint box =
    is_range (neg_ℤ coordinate_limit) coordinate_limit box.x0 box.x1
    && is_range (neg_ℤ coordinate_limit) coordinate_limit box.rect.y0 box.rect.y1

-- the box has an interior, and lies between two heights
abbrev pub is_fixed : ℤ → ℤ → Fixed → Bool
is_fixed low high box = has_footprint box && is_range low high box.rect.z0 box.rect.z1

-- an item of `frames`
abbrev pub frame_of : ℕ → Data → Result (ℤ × ℤ) MachineFault
frame_of i item = ok_or (option_and_then bed_range_of (integers_of 2 item)) (BadBox 0)

-- an item of `upper` or `lower`
abbrev pub fixed_between : ℤ → ℤ → ℕ → Data → Result Fixed MachineFault
fixed_between low high i item =
    ok_or (option_and_then (λ box. if is_fixed low high box then Some box
    else None) (fixed_of item)) (BadBox 0)

-- the length of the backgauge at a key, at least so long, or the refusal of the key's number
abbrev pub length_at : ℤ → List ℕ → ℕ → Members → Result ℤ MachineFault
length_at low key number members =
    ok_or (integer_at low greatest_gauge_length key members) (BadField 1 number)

-- the backgauge, of table 1
unfoldable pub gauge_of : Members → Result GaugeRule MachineFault
gauge_of members = do
  near ← length_at (pos 0) (codes "near") 9 members
  far ← length_at (pos 0) (codes "far") 10 members
  inset ← length_at (pos 0) (codes "inset") 11 members
  finger ← length_at least_finger (codes "finger") 12 members
  gap ← length_at (pos 0) (codes "gap") 13 members
  depth ← length_at least_finger (codes "depth") 14 members
  above ← length_at (pos 0) (codes "above") 15 members
  below ← length_at (pos 0) (codes "below") 16 members
  known ← refuse_if (has_unknown_key (codes "near" ∷ codes "far" ∷ codes "inset" ∷ codes "finger"
      ∷ codes "gap" ∷ codes "depth" ∷ codes "above" ∷ codes "below" ∷ []) members) (UnknownKey 1)
  Ok (record {
    near = near;
    far = far;
    inset = inset;
    finger = finger;
    gap = gap;
    depth = depth;
    above = above;
    below = below;
  })

-- the cost at a key, in tenths of a second, or the refusal of the key's number
abbrev pub cost_at : List ℕ → ℕ → Members → Result ℕ MachineFault
cost_at key number members =
    ok_or (option_map unsigned_abs (integer_at (pos 0) (pos greatest_cost) key members))
    (BadField 2 number)

-- the costs, of table 2
unfoldable pub costs_of : Members → Result Costs MachineFault
costs_of members = do
  stroke ← cost_at (codes "stroke") 17 members
  quarter ← cost_at (codes "quarter") 18 members
  half ← cost_at (codes "half") 19 members
  flip ← cost_at (codes "flip") 20 members
  roll ← cost_at (codes "roll") 21 members
  stage ← cost_at (codes "stage") 22 members
  known ← refuse_if (has_unknown_key (codes "stroke" ∷ codes "quarter" ∷ codes "half" ∷ codes "flip"
      ∷ codes "roll" ∷ codes "stage" ∷ []) members) (UnknownKey 2)
  Ok (record {
    stroke = stroke;
    quarter = quarter;
    half = half;
    flip = flip;
    roll = roll;
    stage = stage;
  })

-- the length of a piece
abbrev pub piece_of : Data → Option ℤ
piece_of item = option_and_then (checked_integer least_piece greatest_piece) (as_integer item)

-- the items of the array at a key, at least one, each a piece
abbrev pub pieces_at : List ℕ → Members → Option (List Data)
pieces_at key members =
    option_and_then (each_passes (λ item. is_some (piece_of item)))
    (option_and_then (λ items. if nat_le 1 (length items)
    then Some items else None) (array_at key members))

-- a piece of the stage in the table of this number
abbrev pub piece_in : ℕ → ℕ → Data → Result ℤ MachineFault
piece_in table i item = ok_or (piece_of item) (BadField table 26)

-- the stage in the table of this number
unfoldable pub stage_text_of : ℕ → Members → Result StageTextData MachineFault
stage_text_of table members = do
  punch ← ok_or (name_at (codes "punch") members) (BadField table 23)
  die ← ok_or (name_at (codes "die") members) (BadField table 24)
  at ←
      ok_or (integer_at (neg_ℤ coordinate_limit) coordinate_limit (codes "at") members)
      (BadField table 25)
  items ← ok_or (pieces_at (codes "pieces") members) (BadField table 26)
  known ← refuse_if (has_unknown_key (codes "punch" ∷ codes "die" ∷ codes "at" ∷ codes "pieces"
      ∷ []) members) (UnknownKey table)
  few ← refuse_if (nat_lt most_pieces (length items)) (TooMany table)
  pieces ← each_from (piece_in table) 0 items
  Ok (record { punch = punch; die = die; at = at; pieces = pieces })

-- the stage of an item of `stage`
unfoldable pub stage_text_in : ℕ → Data → Result StageTextData MachineFault
stage_text_in stage item = ok_or (as_table item) (BadField 0 8) >>= stage_text_of (3 + stage)

-- the two ends of the bed
abbrev pub ends_in : Members → Result (List ℤ) MachineFault
ends_in members =
    ok_or (option_and_then (integers_of 2) (get_member (codes "bed") members)) (BadField 0 1)

-- a list of rows of so many integers, or the refusal of the key's number
abbrev pub rows_in : ℕ → List ℕ → ℕ → Members → Result (List Data) MachineFault
rows_in count key number members = ok_or (rows_or_none count key members) (BadField 0 number)

-- how much of a bend line may stay uncovered at each end, in micrometres
abbrev pub uncovered_in : Members → Result ℤ MachineFault
uncovered_in members =
    ok_or (integer_at (pos 0) greatest_uncovered (codes "uncovered") members) (BadField 0 5)

-- the table at a key, or the refusal of the key's number
abbrev pub table_in : List ℕ → ℕ → Members → Result Members MachineFault
table_in key number members = ok_or (table_at key members) (BadField 0 number)

-- the stages' tables
abbrev pub stages_in : Members → Result (List Data) MachineFault
stages_in members = ok_or (tables_or_none (codes "stage") members) (BadField 0 8)

-- 1 where several flanges may be bent in one stroke, else 0
abbrev pub gang_in : Members → Result ℤ MachineFault
gang_in members = ok_or (integer_or (pos 0) (pos 0) (pos 1) (codes "gang") members) (BadField 0 27)

-- the greatest force in newtons, 0 for no limit
abbrev pub force_in : Members → Result ℤ MachineFault
force_in members =
    ok_or (integer_or (pos 0) (pos 0) greatest_force (codes "force") members) (BadField 0 28)

-- how often in a row a piece of the part may be halved
abbrev pub fine_in : Members → Result ℕ MachineFault
fine_in members =
    ok_or (option_map unsigned_abs (integer_or (pos 0) (pos 0) (pos greatest_fine) (codes "fine") members))
    (BadField 0 29)

-- there are too many frames, boxes above the bed, boxes below it, or stages
abbrev pub too_many : List Data → List Data → List Data → List Data → Bool
too_many frames upper lower stages =
    (nat_lt most_frames (length frames) || nat_lt most_fixed_boxes (length upper))
    || (nat_lt most_fixed_boxes (length lower) || nat_lt most_stages (length stages))

-- what is fixed on the machine: the upper boxes lie above the bed's height, the lower ones below
unfoldable pub fixtures_of : List ℤ → List Data → List Data → List Data
    → Result FixturesData MachineFault
fixtures_of ends frames upper lower = do
  bed ← ok_or (bed_range_of ends) (BadBox 0)
  frame_ranges ← each_from frame_of 0 frames
  upper_boxes ← each_from (fixed_between (pos 0) coordinate_limit) 0 upper
  lower_boxes ← each_from (fixed_between (neg_ℤ coordinate_limit) (pos 0)) 0 lower
  Ok (record { bed = bed; frames = frame_ranges; upper = upper_boxes; lower = lower_boxes })

-- the machine of the top table
unfoldable pub machine_of_members : Members → Result MachineData MachineFault
machine_of_members members = do
  ends ← ends_in members
  frames ← rows_in 2 (codes "frames") 2 members
  upper ← rows_in 6 (codes "upper") 3 members
  lower ← rows_in 6 (codes "lower") 4 members
  uncovered ← uncovered_in members
  gauge ← table_in (codes "gauge") 6 members
  cost ← table_in (codes "cost") 7 members
  stages ← stages_in members
  gang ← gang_in members
  force ← force_in members
  fine ← fine_in members
  known ← refuse_if (has_unknown_key (codes "bed" ∷ codes "frames" ∷ codes "upper" ∷ codes "lower"
      ∷ codes "uncovered" ∷ codes "gauge" ∷ codes "cost" ∷ codes "stage" ∷ codes "gang"
      ∷ codes "force" ∷ codes "fine" ∷ []) members) (UnknownKey 0)
  few ← refuse_if (too_many frames upper lower stages) (TooMany 0)
  fixtures ← fixtures_of ends frames upper lower
  gauge_rule ← gauge_of gauge
  costs ← costs_of cost
  stage_texts ← each_from stage_text_in 0 stages
  Ok (record {
    bed = fixtures.bed;
    frames = fixtures.frames;
    upper = fixtures.upper;
    lower = fixtures.lower;
    uncovered = uncovered;
    gauge = gauge_rule;
    cost = costs;
    stages = stage_texts;
    gang = int_eq gang (pos 1);
    force = force;
    fine = fine;
  })

-- the machine of a file's bytes, or the first refusal
abbrev pub machine_of : List ℕ → Result MachineData MachineFault
machine_of bytes = ok_or (document_of bytes) NotToml >>= machine_of_members
