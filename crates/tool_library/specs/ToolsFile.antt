-- The tools that a file gives, or its first refusal. Table 0 is the top table; from table 1 on come
-- the allow rows, the punches, the dies and the load rows. Keys are numbered for the refusals.
use Rattle.std.specs.Prelude.{ℕ, ◌+◌, ◌==◌, ◌%◌, ℤ, pos, neg_ℤ, unsigned_abs, List, [], ◌∷◌, codes}
use Rattle.std.specs.Prelude.{length, filter_map, Bool, true, false, not, ◌&&◌, ◌||◌, nat_lt}
use Rattle.std.specs.Prelude.{if◌then◌else◌, is_some, Option, Some, None, Result, Ok, Err, ok_or}
use Rattle.std.specs.Prelude.{option_map, option_and_then}
use Rattle.std.specs.List.{list_all}
use Rattle.toml.specs.Data.{Data, Members, as_table}
use Rattle.toml_fields.specs.Document.{document_of}
use Rattle.toml_fields.specs.Fields.{has_key, has_unknown_key, name_at, whole_at, integer_at}
use Rattle.toml_fields.specs.Fields.{integer_or}
use Rattle.toml_fields.specs.Lists.{array_at, each_passes, integers_of, rows_at, tables_or_none}
use Rattle.toml_fields.specs.Ranges.{is_within, is_range}
use Rattle.toml_fields.specs.Results.{◌>>=◌, each_from, refuse_if, refuse_first}
use Rattle.brake_base.specs.declared.plane.Rect.{Rect}
use Rattle.part_file.specs.Bounds.{least_thickness, greatest_thickness, least_radius}
use Rattle.part_file.specs.Bounds.{greatest_radius}
use Rattle.allowance.specs.Bounds.{least_factor, greatest_factor, least_measured}
use Rattle.allowance.specs.Bounds.{greatest_half_deduction, most_allow_rows}
use Rattle.allowance.specs.AllowTable.{RowData}
use Rattle.allowance.specs.declared.table.Factor.{Factor}
use Rattle.allowance.specs.declared.table.Factor.TheVariants.{K, Measured}
use Rattle.tool_library.specs.declared.fault.ToolFault.{ToolFault}
use Rattle.tool_library.specs.declared.fault.ToolFault.TheVariants.{NotToml, BadField, UnknownKey}
use Rattle.tool_library.specs.declared.fault.ToolFault.TheVariants.{TooMany, SameName, BadBox}
use Rattle.tool_library.specs.Bounds.{most_punches, most_dies, most_load_rows, most_body_boxes}
use Rattle.tool_library.specs.Bounds.{most_sections, least_height, greatest_height, farthest_across}
use Rattle.tool_library.specs.Bounds.{least_section_length, greatest_section_length}
use Rattle.tool_library.specs.Bounds.{least_section_count, greatest_section_count, least_opening}
use Rattle.tool_library.specs.Bounds.{greatest_opening, greatest_flange, greatest_limit, least_load}
use Rattle.tool_library.specs.Bounds.{greatest_load}
use Rattle.tool_library.specs.Names.{is_repeat}
use Rattle.tool_library.specs.Tools.{PunchData, DieData, LoadData, ToolsData, names_of_punches}
use Rattle.tool_library.specs.Tools.{names_of_dies}

-- the correction factor k in thousandths, or the measured half deduction q, by which of the two
-- keys are there: exactly one may be
abbrev pub factor_by : Bool → Bool → ℕ → Members → Result Factor ToolFault
factor_by true false number table =
    ok_or (option_map K (integer_at least_factor greatest_factor (codes "k") table))
    (BadField number 7)
factor_by false true number table =
    ok_or
    (option_map Measured (integer_at least_measured greatest_half_deduction (codes "q") table))
    (BadField number 8)
factor_by true true number table = Err (BadField number 7)
factor_by false false number table = Err (BadField number 7)

-- the factor of an allow row
abbrev pub factor_of : ℕ → Members → Result Factor ToolFault
factor_of number members =
    factor_by (has_key (codes "k") members) (has_key (codes "q") members) number members

-- an allow row
unfoldable pub allow_row_of : ℕ → Members → Result RowData ToolFault
allow_row_of number members = do
  material ← ok_or (name_at (codes "material") members) (BadField number 4)
  thickness ←
      ok_or (integer_at least_thickness greatest_thickness (codes "thickness") members)
      (BadField number 5)
  radius ←
      ok_or (integer_at least_radius greatest_radius (codes "radius") members) (BadField number 6)
  factor ← factor_of number members
  known ← refuse_if (has_unknown_key (codes "material" ∷ codes "thickness" ∷ codes "radius"
      ∷ codes "k" ∷ codes "q" ∷ []) members) (UnknownKey number)
  Ok (record { material = material; thickness = thickness; radius = radius; factor = factor })

-- the box of four integers y0, y1, z0, z1
abbrev pub rect_by : List ℤ → Option Rect
rect_by (y0 ∷ y1 ∷ z0 ∷ z1 ∷ []) = Some (record { y0 = y0; y1 = y1; z0 = z0; z1 = z1 })
rect_by _ = None

-- the box of an array of four integers
abbrev pub rect_of : Data → Option Rect
rect_of d = option_and_then rect_by (integers_of 4 d)

-- the boxes of a body
abbrev pub rects_of : List Data → List Rect
rects_of items = filter_map rect_of items

-- a section's length and its count are in range
abbrev pub is_section : ℤ → ℤ → Bool
is_section length count =
    is_within least_section_length greatest_section_length length
    && is_within least_section_count greatest_section_count count

-- the section of a length and a count
abbrev pub section_by : List ℤ → Option (ℤ × ℕ)
section_by (length ∷ count ∷ []) =
    if is_section length count then Some (length, unsigned_abs count) else None
section_by _ = None

-- the section of an array of two integers
abbrev pub section_of : Data → Option (ℤ × ℕ)
section_of d = option_and_then section_by (integers_of 2 d)

-- the items of the array at a key, each a section
abbrev pub sections_at : List ℕ → Members → Option (List Data)
sections_at key members =
    option_and_then (each_passes (λ d. is_some (section_of d))) (array_at key members)

-- the sections of a tool
abbrev pub sections_of : List Data → List (ℤ × ℕ)
sections_of items = filter_map section_of items

-- a body has too many boxes, or a tool too many sections
abbrev pub too_many : List Data → List Data → Bool
too_many body sections =
    nat_lt most_body_boxes (length body) || nat_lt most_sections (length sections)

-- the box has an interior, lies near the tool's middle in y, and between two heights in z
abbrev pub is_body_box : ℤ → ℤ → Rect → Bool
is_body_box low high box =
    is_range (neg_ℤ farthest_across) farthest_across box.y0 box.y1
    && is_range low high box.z0 box.z1

-- the width of an opening is even and in range
abbrev pub is_opening : ℤ → Bool
is_opening v = is_within least_opening greatest_opening v && (unsigned_abs v % 2 == 0)

-- the width of an opening at a key
abbrev pub opening_at : List ℕ → Members → Option ℤ
opening_at key members =
    option_and_then (λ v. if is_opening v then Some v else None) (whole_at key members)

-- a punch, with its body between 0 and its height
unfoldable pub punch_of : ℕ → Members → Result PunchData ToolFault
punch_of number members = do
  name ← ok_or (name_at (codes "name") members) (BadField number 9)
  height ←
      ok_or (integer_at least_height greatest_height (codes "height") members) (BadField number 10)
  nose ← ok_or (integer_at (pos 0) height (codes "nose") members) (BadField number 11)
  body ← ok_or (rows_at 4 (codes "body") members) (BadField number 12)
  sections ← ok_or (sections_at (codes "sections") members) (BadField number 13)
  limit ←
      ok_or (integer_or (pos 0) (pos 0) greatest_limit (codes "limit") members) (BadField number 25)
  known ← refuse_if (has_unknown_key (codes "name" ∷ codes "height" ∷ codes "nose" ∷ codes "body"
      ∷ codes "sections" ∷ codes "limit" ∷ []) members) (UnknownKey number)
  few ← refuse_if (too_many body sections) (TooMany number)
  boxes ← refuse_if (not (list_all (is_body_box (pos 0) height) (rects_of body))) (BadBox number)
  Ok (record {
    name = name;
    height = height;
    nose = nose;
    body = rects_of body;
    sections = sections_of sections;
    limit = limit;
  })

-- a die, with its body between minus its height and 0
unfoldable pub die_of : ℕ → Members → Result DieData ToolFault
die_of number members = do
  name ← ok_or (name_at (codes "name") members) (BadField number 14)
  height ←
      ok_or (integer_at least_height greatest_height (codes "height") members) (BadField number 15)
  v ← ok_or (opening_at (codes "v") members) (BadField number 16)
  least_flange ←
      ok_or (integer_at (pos 0) greatest_flange (codes "least_flange") members) (BadField number 17)
  body ← ok_or (rows_at 4 (codes "body") members) (BadField number 18)
  sections ← ok_or (sections_at (codes "sections") members) (BadField number 19)
  limit ←
      ok_or (integer_or (pos 0) (pos 0) greatest_limit (codes "limit") members) (BadField number 26)
  known ← refuse_if (has_unknown_key (codes "name" ∷ codes "height" ∷ codes "v"
      ∷ codes "least_flange" ∷ codes "body" ∷ codes "sections" ∷ codes "limit"
      ∷ []) members) (UnknownKey number)
  few ← refuse_if (too_many body sections) (TooMany number)
  boxes ←
      refuse_if (not (list_all (is_body_box (neg_ℤ height) (pos 0)) (rects_of body)))
      (BadBox number)
  Ok (record {
    name = name;
    height = height;
    v = v;
    least_flange = least_flange;
    body = rects_of body;
    sections = sections_of sections;
    limit = limit;
  })

-- a load row
unfoldable pub load_row_of : ℕ → Members → Result LoadData ToolFault
load_row_of number members = do
  material ← ok_or (name_at (codes "material") members) (BadField number 21)
  thickness ←
      ok_or (integer_at least_thickness greatest_thickness (codes "thickness") members)
      (BadField number 22)
  v ← ok_or (opening_at (codes "v") members) (BadField number 23)
  load ← ok_or (integer_at least_load greatest_load (codes "load") members) (BadField number 24)
  known ← refuse_if (has_unknown_key (codes "material" ∷ codes "thickness" ∷ codes "v"
      ∷ codes "load" ∷ []) members) (UnknownKey number)
  Ok (record { material = material; thickness = thickness; v = v; load = load })

-- what a table among the items of a key gives
abbrev pub of_table : {A : Type 0} → ℕ → (ℕ → Members → Result A ToolFault) → ℕ → Data
    → Result A ToolFault
of_table key read number item = ok_or (as_table item) (BadField 0 key) >>= read number

-- a refusal of the first tool of its kind that has the name of an earlier one, where the kind's
-- tables begin at a number
abbrev pub refuse_repeat : ℕ → List (List ℕ) → Result (Unit {0}) ToolFault
refuse_repeat first names =
    refuse_first (is_repeat names) (length names) (λ i. SameName (first + i))

-- the tools of the arrays of tables, kind by kind, and last the names
unfoldable pub tools_of_tables : List Data → List Data → List Data → List Data
    → Result ToolsData ToolFault
tools_of_tables allow punch die load = do
  rows ← each_from (of_table 1 allow_row_of) 1 allow
  punches ← each_from (of_table 2 punch_of) (1 + length allow) punch
  dies ← each_from (of_table 3 die_of) (1 + length allow + length punch) die
  loads ← each_from (of_table 20 load_row_of) (1 + length allow + length punch + length die) load
  punches_distinct ← refuse_repeat (1 + length allow) (names_of_punches punches)
  dies_distinct ← refuse_repeat (1 + length allow + length punch) (names_of_dies dies)
  Ok (record { punches = punches; dies = dies; allow = rows; loads = loads })

-- some kind has more tables than it may
abbrev pub too_many_tables : List Data → List Data → List Data → List Data → Bool
too_many_tables allow punch die load =
    (nat_lt most_allow_rows (length allow) || nat_lt most_punches (length punch))
    || (nat_lt most_dies (length die) || nat_lt most_load_rows (length load))

-- the tools of table 0
unfoldable pub tools_of_members : Members → Result ToolsData ToolFault
tools_of_members members = do
  allow ← ok_or (tables_or_none (codes "allow") members) (BadField 0 1)
  punch ← ok_or (tables_or_none (codes "punch") members) (BadField 0 2)
  die ← ok_or (tables_or_none (codes "die") members) (BadField 0 3)
  load ← ok_or (tables_or_none (codes "load") members) (BadField 0 20)
  known ← refuse_if (has_unknown_key (codes "allow" ∷ codes "punch" ∷ codes "die" ∷ codes "load"
      ∷ []) members) (UnknownKey 0)
  few ← refuse_if (too_many_tables allow punch die load) (TooMany 0)
  tools_of_tables allow punch die load

-- the tools of a file's bytes
abbrev pub tools_of : List ℕ → Result ToolsData ToolFault
tools_of bytes = ok_or (document_of bytes) NotToml >>= tools_of_members
