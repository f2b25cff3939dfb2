-- The tools of a shop as texts, numbers and lists, and what tools that were read keep to.
-- Lengths are in micrometres, loads and limits in newtons per millimetre.
use Rattle.std.specs.Prelude.{◌≡◌, ℕ, ◌≤◌, ◌%◌, ℤ, pos, neg_ℤ, unsigned_abs, List, length, map, All}
use Rattle.std.specs.Prelude.{IsTrue}
use Rattle.brake_base.specs.declared.plane.Rect.{Rect}
use Rattle.toml_fields.specs.Fields.{is_name}
use Rattle.toml_fields.specs.Ranges.{IsWithin, IsRange}
use Rattle.part_file.specs.Bounds.{least_thickness, greatest_thickness}
use Rattle.allowance.specs.AllowTable.{RowData, table_data, IsAllowTable}
use Rattle.tool_library.specs.Names.{AreDistinct}
use Rattle.tool_library.specs.Bounds.{most_punches, most_dies, most_load_rows, most_body_boxes}
use Rattle.tool_library.specs.Bounds.{most_sections, least_height, greatest_height, farthest_across}
use Rattle.tool_library.specs.Bounds.{least_section_length, greatest_section_length}
use Rattle.tool_library.specs.Bounds.{least_section_count, greatest_section_count, least_opening}
use Rattle.tool_library.specs.Bounds.{greatest_opening, greatest_flange, greatest_limit, least_load}
use Rattle.tool_library.specs.Bounds.{greatest_load}
use Rattle.tool_library.specs.declared.tools.Punch.{Punch}
use Rattle.tool_library.specs.declared.tools.Die.{Die}
use Rattle.tool_library.specs.declared.tools.LoadRow.{LoadRow}
use Rattle.tool_library.specs.declared.tools.Tools.{Tools}

-- an upper tool: the size of the wedge at its tip, the boxes of its profile with z up from the tip,
-- and the lengths of its sections with their counts
pub record PunchData : Type 0 where
  pub name : List ℕ
  pub height : ℤ
  pub nose : ℤ
  pub body : List Rect
  pub sections : List (ℤ × ℕ)
  pub limit : ℤ

-- a lower tool: the width of its opening, the shortest flange that it can bend, and the boxes of
-- its profile with z upwards, negative below its top
pub record DieData : Type 0 where
  pub name : List ℕ
  pub height : ℤ
  pub v : ℤ
  pub least_flange : ℤ
  pub body : List Rect
  pub sections : List (ℤ × ℕ)
  pub limit : ℤ

-- the force that a stroke needs per length, by material, thickness and opening
pub record LoadData : Type 0 where
  pub material : List ℕ
  pub thickness : ℤ
  pub v : ℤ
  pub load : ℤ

-- the tools, with the shop's deductions and loads
pub record ToolsData : Type 0 where
  pub punches : List PunchData
  pub dies : List DieData
  pub allow : List RowData
  pub loads : List LoadData

-- what contracts see of the code's types
abbrev pub punch_data : Punch → PunchData
punch_data p =
    record {
      name = p.name.bytes;
      height = p.height;
      nose = p.nose;
      body = p.body.items;
      sections = p.sections.items;
      limit = p.limit;
    }

abbrev pub die_data : Die → DieData
die_data d =
    record {
      name = d.name.bytes;
      height = d.height;
      v = d.v;
      least_flange = d.least_flange;
      body = d.body.items;
      sections = d.sections.items;
      limit = d.limit;
    }

abbrev pub load_data : LoadRow → LoadData
load_data r =
    record { material = r.material.bytes; thickness = r.thickness; v = r.v; load = r.load }

abbrev pub tools_data : Tools → ToolsData
tools_data t =
    record {
      punches = map punch_data t.punches.items;
      dies = map die_data t.dies.items;
      allow = table_data t.allow;
      loads = map load_data t.loads.items;
    }

-- the names of tools
abbrev pub names_of_punches : List PunchData → List (List ℕ)
names_of_punches punches = map (λ p. p.name) punches

abbrev pub names_of_dies : List DieData → List (List ℕ)
names_of_dies dies = map (λ d. d.name) dies

-- the box has an interior, lies near the tool's middle in y, and between two heights in z
pub record IsBodyBox (low high : ℤ) (box : Rect) : Type 0 where
  pub across : IsRange (neg_ℤ farthest_across) farthest_across box.y0 box.y1
  pub upwards : IsRange low high box.z0 box.z1

-- a length that the shop has, and how often
pub record IsSection (section : ℤ × ℕ) : Type 0 where
  pub length : IsWithin least_section_length greatest_section_length section.0
  pub count : IsWithin least_section_count greatest_section_count (pos section.1)

-- the width of an opening is even
pub record IsOpening (v : ℤ) : Type 0 where
  pub range : IsWithin least_opening greatest_opening v
  pub even : unsigned_abs v % 2 ≡ 0

-- the height of a tool
abbrev pub IsHeight : ℤ → Type 0
IsHeight n = IsWithin least_height greatest_height n

-- the limit of a tool's load
abbrev pub IsLimit : ℤ → Type 0
IsLimit n = IsWithin (pos 0) greatest_limit n

-- the shortest flange that a die can bend
abbrev pub IsFlange : ℤ → Type 0
IsFlange n = IsWithin (pos 0) greatest_flange n

-- the sizes of a punch: its wedge's is at most its height
pub record HasPunchSizes (p : PunchData) : Type 0 where
  pub height : IsHeight p.height
  pub nose : IsWithin (pos 0) p.height p.nose
  pub limit : IsLimit p.limit

-- the sizes of a die
pub record HasDieSizes (d : DieData) : Type 0 where
  pub height : IsHeight d.height
  pub v : IsOpening d.v
  pub least_flange : IsFlange d.least_flange
  pub limit : IsLimit d.limit

-- the lists of a tool whose body lies between two heights
pub record HasLists (low high : ℤ) (body : List Rect) (sections : List (ℤ × ℕ)) : Type 0 where
  pub few_boxes : length body ≤ most_body_boxes
  pub each_box : All (IsBodyBox low high) body
  pub few_sections : length sections ≤ most_sections
  pub each_section : All IsSection sections

-- the rules of a punch
pub record IsPunch (p : PunchData) : Type 0 where
  pub name : IsTrue (is_name p.name)
  pub sizes : HasPunchSizes p
  pub lists : HasLists (pos 0) p.height p.body p.sections

-- the rules of a die
pub record IsDie (d : DieData) : Type 0 where
  pub name : IsTrue (is_name d.name)
  pub sizes : HasDieSizes d
  pub lists : HasLists (neg_ℤ d.height) (pos 0) d.body d.sections

-- the rules of a load row
pub record IsLoad (r : LoadData) : Type 0 where
  pub material : IsTrue (is_name r.material)
  pub thickness : IsWithin least_thickness greatest_thickness r.thickness
  pub v : IsOpening r.v
  pub load : IsWithin least_load greatest_load r.load

-- what tools that were read keep to
pub record IsTools (t : ToolsData) : Type 0 where
  pub few_punches : length t.punches ≤ most_punches
  pub punches : All IsPunch t.punches
  pub punch_names : AreDistinct (names_of_punches t.punches)
  pub few_dies : length t.dies ≤ most_dies
  pub dies : All IsDie t.dies
  pub die_names : AreDistinct (names_of_dies t.dies)
  pub allow : IsAllowTable t.allow
  pub few_loads : length t.loads ≤ most_load_rows
  pub loads : All IsLoad t.loads
