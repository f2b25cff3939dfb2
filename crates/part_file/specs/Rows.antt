-- A face as its table says it, before its parent is found.
use Rattle.std.specs.Prelude.{ℕ, ℤ, List, Option, option_map}
use Rattle.part_file.specs.declared.part.Side.{Side}
use Rattle.part_file.specs.declared.part.Dir.{Dir}
use Rattle.part_file.specs.declared.rows.JointRow.{JointRow}
use Rattle.part_file.specs.declared.rows.FaceRow.{FaceRow}

-- where a face is joined, by the name of its parent
pub record JointRowData : Type 0 where
  pub on : List ℕ
  pub side : Side
  pub at : ℤ
  pub dir : Dir

pub record FaceRowData : Type 0 where
  pub name : List ℕ
  pub width : ℤ
  pub length : ℤ
  pub joint : Option JointRowData

abbrev pub joint_row_data : JointRow → JointRowData
joint_row_data j = record { on = j.on.bytes; side = j.side; at = j.at; dir = j.dir }

abbrev pub face_row_data : FaceRow → FaceRowData
face_row_data f =
    record {
      name = f.name.bytes;
      width = f.width;
      length = f.length;
      joint = option_map joint_row_data f.joint;
    }
