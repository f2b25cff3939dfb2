-- Which job line a text without its line feed is: by its keyword, and then by its words.
use Rattle.std.specs.Prelude.{ℕ, ℤ, List, [], ◌∷◌, bytes_eq, codes, Option, Some}
use Rattle.std.specs.Prelude.{None, if◌then◌else◌}
use Rattle.std.specs.Option.{option_or}
use Rattle.brake_base.specs.declared.plane.Rect.{Rect}
use Rattle.part_file.specs.Bounds.{most_faces}
use Rattle.part_file.specs.Part.{FaceData, face_data}
use Rattle.machine_file.specs.declared.machine.Fixed.{Fixed}
use Rattle.machine_file.specs.declared.machine.GaugeRule.{GaugeRule}
use Rattle.cert_words.specs.LineWords.{◌>>=◌}
use Rattle.cert_words.specs.JobWords.{numbers_in, named_in, child_in}
use Rattle.cert_lines.specs.declared.job_line.JobLine.{JobLine}
use Rattle.cert_lines.specs.declared.job_line.JobLine.TheVariants as lines
use Rattle.cert_lines.specs.Lines.{CertLine, part_line, face_line, bed_line, frame_line, upper_line}
use Rattle.cert_lines.specs.Lines.{lower_line, uncovered_line, gauge_line, cost_line, gang_line}
use Rattle.cert_lines.specs.Lines.{force_line, fine_line, stage_line, punch_line, die_line, box_line}
use Rattle.cert_lines.specs.Lines.{pieces_line, load_line}
use Rattle.cert_lines.specs.LineReading.{keyword_in, behind_keyword}

-- six costs, in three pairs
abbrev pub CostNumbers : Type 0
CostNumbers = (ℤ × ℤ) × ((ℤ × ℤ) × (ℤ × ℤ))

abbrev pub cost_line_of : CostNumbers → CertLine
cost_line_of n = cost_line n.0.0 n.0.1 n.1.0.0 n.1.0.1 n.1.1.0 n.1.1.1

-- a job line as a line of a certificate
abbrev pub line_of : JobLine → CertLine
line_of (lines.Part material thickness radius q) = part_line material.bytes thickness radius q
line_of (lines.Face face) = face_line (face_data face)
line_of (lines.Bed bed) = bed_line bed
line_of (lines.Frame frame) = frame_line frame
line_of (lines.Upper box) = upper_line box
line_of (lines.Lower box) = lower_line box
line_of (lines.Uncovered uncovered) = uncovered_line uncovered
line_of (lines.Gauge gauge) = gauge_line gauge
line_of (lines.Cost costs) = cost_line_of costs
line_of (lines.Gang gang) = gang_line gang
line_of (lines.Force force) = force_line force
line_of (lines.Fine depth) = fine_line depth
line_of (lines.Stage range) = stage_line range.0 range.1
line_of (lines.Punch name height nose) = punch_line name.bytes height nose
line_of (lines.Die name height v least_flange) = die_line name.bytes height v least_flange
line_of (lines.Box box) = box_line box
line_of (lines.Pieces pieces) = pieces_line pieces.items
line_of (lines.Load load) = load_line load.0 load.1

-- what numbers are, where there are just so many
abbrev pub single : List ℤ → Option ℤ
single (n ∷ []) = Some n
single _ = None

abbrev pub pair : List ℤ → Option (ℤ × ℤ)
pair (m ∷ n ∷ []) = Some (m, n)
pair _ = None

abbrev pub triple : List ℤ → Option (ℤ × ℤ × ℤ)
triple (l ∷ m ∷ n ∷ []) = Some (l, m, n)
triple _ = None

abbrev pub rect_of : List ℤ → Option Rect
rect_of (y0 ∷ y1 ∷ z0 ∷ z1 ∷ []) = Some (record { y0 = y0; y1 = y1; z0 = z0; z1 = z1 })
rect_of _ = None

-- a fixed box: its range along the bed, and its rectangle across it
abbrev pub fixed_of : List ℤ → Option Fixed
fixed_of (x0 ∷ x1 ∷ y0 ∷ y1 ∷ z0 ∷ z1 ∷ []) =
    Some (record { x0 = x0; x1 = x1; rect = record { y0 = y0; y1 = y1; z0 = z0; z1 = z1 } })
fixed_of _ = None

abbrev pub gauge_of : List ℤ → Option GaugeRule
gauge_of (near ∷ far ∷ inset ∷ finger ∷ gap ∷ depth ∷ above ∷ below ∷ []) =
    Some (record {
      near = near;
      far = far;
      inset = inset;
      finger = finger;
      gap = gap;
      depth = depth;
      above = above;
      below = below;
    })
gauge_of _ = None

abbrev pub cost_numbers : List ℤ → Option CostNumbers
cost_numbers (stroke ∷ quarter ∷ half ∷ flip ∷ roll ∷ stage ∷ []) =
    Some ((stroke, quarter), ((half, flip), (roll, stage)))
cost_numbers _ = None

-- 1 to 32 pieces, since no line has more numbers
abbrev pub pieces_of : List ℤ → Option (List ℤ)
pieces_of [] = None
pieces_of pieces = Some pieces

-- what numbers alone are
unfoldable pub numbered : {A : Type 0} → (List ℤ → Option A) → List ℕ → Option A
numbered read text = numbers_in 32 text >>= read

-- a name, and what the numbers behind it are
unfoldable pub named : {A : Type 0} → (List ℤ → Option A) → List ℕ → Option (List ℕ × A)
named read text = do
  words ← named_in text
  sizes ← read words.1
  Some (words.0, sizes)

-- face 0: its name and its sizes
abbrev pub root_of : List ℕ × (ℤ × ℤ) → FaceData
root_of x = record { name = x.0; width = x.1.0; length = x.1.1; joint = None }

unfoldable pub root_in : List ℕ → Option FaceData
root_in text = named pair text >>= λ root. Some (root_of root)

-- a face: face 0, or one that stands on a face of the numbers that a part may have
unfoldable pub face_in : List ℕ → Option FaceData
face_in text = option_or (root_in text) (child_in most_faces text)

-- a kind of job line: its keyword, and the line of the text behind it
abbrev pub Form : Type 0
Form = List ℕ × (List ℕ → Option CertLine)

-- a keyword, what is read behind it, and the line of that
abbrev pub form : {A : Type 0} → List ℕ → (List ℕ → Option A) → (A → CertLine) → Form
form keyword read line = (keyword, λ text. read text >>= λ x. Some (line x))

-- the kinds of job line that have numbers alone
abbrev pub number_forms : List Form
number_forms =
    form (codes "bed") (numbered pair) bed_line
    ∷ form (codes "frame") (numbered pair) frame_line
    ∷ form (codes "upper") (numbered fixed_of) upper_line
    ∷ form (codes "lower") (numbered fixed_of) lower_line
    ∷ form (codes "uncovered") (numbered single) uncovered_line
    ∷ form (codes "gauge") (numbered gauge_of) gauge_line
    ∷ form (codes "cost") (numbered cost_numbers) cost_line_of
    ∷ form (codes "gang") (numbered single) gang_line
    ∷ form (codes "force") (numbered single) force_line
    ∷ form (codes "fine") (numbered single) fine_line
    ∷ form (codes "stage") (numbered pair) (λ x. stage_line x.0 x.1)
    ∷ form (codes "box") (numbered rect_of) box_line
    ∷ form (codes "pieces") (numbered pieces_of) pieces_line
    ∷ form (codes "load") (numbered pair) (λ x. load_line x.0 x.1)
    ∷ []

-- the kinds of job line that have other words too
abbrev pub word_forms : List Form
word_forms =
    form (codes "part") (named triple) (λ x. part_line x.0 x.1.0 x.1.1 x.1.2)
    ∷ form (codes "face") face_in face_line
    ∷ form (codes "punch") (named pair) (λ x. punch_line x.0 x.1.0 x.1.1)
    ∷ form (codes "die") (named triple) (λ x. die_line x.0 x.1.0 x.1.1 x.1.2)
    ∷ []

-- the line of a keyword and the text behind it, by the form of that keyword, else in another way
abbrev pub by_form : List Form → (List ℕ → List ℕ → Option CertLine) → List ℕ → List ℕ
    → Option CertLine
by_form [] other keyword text = other keyword text
by_form (one ∷ forms) other keyword text =
    if bytes_eq keyword one.0 then one.1 text else by_form forms other keyword text

-- the line of numbers alone
unfoldable pub number_line_in : List ℕ → List ℕ → Option CertLine
number_line_in keyword text = by_form number_forms (λ keyword text. None) keyword text

-- the line of a keyword and the text behind it
unfoldable pub words_line_in : List ℕ → List ℕ → Option CertLine
words_line_in keyword text = by_form word_forms number_line_in keyword text

-- the job line that the text is, if it is one
unfoldable pub line_in : List ℕ → Option CertLine
line_in text = words_line_in (keyword_in text) (behind_keyword text)
