-- A shop's table of deductions, and the half deduction that it gives a part.
use Rattle.std.specs.Prelude.{ℕ, ◌≤◌, ℤ, int_lt, List, [], ◌∷◌, length, map, filter, All, Bool}
use Rattle.std.specs.Prelude.{IsTrue, ◌&&◌, bytes_eq, Result, Ok, Err, if◌then◌else◌}
use Rattle.std.specs.Ordering.{int_eq}
use Rattle.toml_fields.specs.Fields.{is_name}
use Rattle.toml_fields.specs.Ranges.{IsWithin}
use Rattle.part_file.specs.Bounds.{least_thickness, greatest_thickness}
use Rattle.part_file.specs.Part.{PartData, IsRadius, half_thickness}
use Rattle.allowance.specs.Bounds.{least_measured, greatest_half_deduction, most_allow_rows}
use Rattle.allowance.specs.declared.table.Factor.{Factor}
use Rattle.allowance.specs.declared.table.Factor.TheVariants.{K, Measured}
use Rattle.allowance.specs.declared.table.AllowRow.{AllowRow}
use Rattle.allowance.specs.declared.table.AllowTable.{AllowTable}
use Rattle.allowance.specs.declared.table.AllowFault.{AllowFault}
use Rattle.allowance.specs.declared.table.AllowFault.TheVariants.{NoRow, TwoRows}
use Rattle.allowance.specs.declared.table.AllowFault.TheVariants.{BelowHalfThickness}
use Rattle.allowance.specs.HalfDeduction.{IsFactor, half_deduction_of}

-- a row as its text and numbers, in micrometres; k is in thousandths
pub record RowData : Type 0 where
  pub material : List ℕ
  pub thickness : ℤ
  pub radius : ℤ
  pub factor : Factor

-- what contracts see of a row
abbrev pub row_data : AllowRow → RowData
row_data r =
    record {
      material = r.material.bytes;
      thickness = r.thickness;
      radius = r.radius;
      factor = r.factor;
    }

-- the rows of a table
abbrev pub table_data : AllowTable → List RowData
table_data table = map row_data table.rows.items

-- how half of the deduction is found: by a correction factor, or as it was measured, each in its
-- range
abbrev pub IsAllowFactor : Factor → Type 0
IsAllowFactor (K k) = IsFactor k
IsAllowFactor (Measured q) = IsWithin least_measured greatest_half_deduction q

-- the ranges of a row
pub record IsAllowRow (row : RowData) : Type 0 where
  pub material : IsTrue (is_name row.material)
  pub thickness : IsWithin least_thickness greatest_thickness row.thickness
  pub radius : IsRadius row.radius
  pub factor : IsAllowFactor row.factor

-- what a table that was read keeps to
pub record IsAllowTable (rows : List RowData) : Type 0 where
  pub few : length rows ≤ most_allow_rows
  pub each : All IsAllowRow rows

-- the row has the part's material, thickness and radius
abbrev pub matches : PartData → RowData → Bool
matches part row =
    (bytes_eq row.material part.material && int_eq row.thickness part.thickness)
    && int_eq row.radius part.radius

-- the half deduction by a factor: by DIN 6935 from k, or as it was measured
abbrev pub half_deduction_by : Factor → RowData → ℤ
half_deduction_by (K k) row = half_deduction_of row.radius row.thickness k
half_deduction_by (Measured q) row = q

-- the half deduction that a row gives
abbrev pub row_half_deduction : RowData → ℤ
row_half_deduction row = half_deduction_by row.factor row

-- the one row of rows that match
abbrev pub only_row : List RowData → Result RowData AllowFault
only_row [] = Err NoRow
only_row (row ∷ []) = Ok row
only_row (row ∷ other ∷ rows) = Err TwoRows

-- the one row that matches the part
abbrev pub matching_row : PartData → List RowData → Result RowData AllowFault
matching_row part rows = only_row (filter (matches part) rows)

-- the half deduction of the one row, which has to be at least half of the thickness
abbrev pub half_deduction_from : PartData → Result RowData AllowFault → Result ℤ AllowFault
half_deduction_from part (Ok row) =
    if int_lt (row_half_deduction row) (half_thickness part) then Err BelowHalfThickness
    else Ok (row_half_deduction row)
half_deduction_from part (Err fault) = Err fault

-- the half deduction that the table gives the part, or the refusal
abbrev pub half_deduction_in : List RowData → PartData → Result ℤ AllowFault
half_deduction_in rows part = half_deduction_from part (matching_row part rows)
