-- The lines of a certificate. A kind of line is its keyword and its words in their order, each word
-- with one spelling. Lengths are in micrometres, costs in tenths of a second, forces in newtons.
use Rattle.std.specs.Prelude.{ℕ, ◌+◌, ◌/◌, ◌%◌, ◌==◌, ◌≤◌, ℤ, pos, List, [], ◌∷◌, ◌++◌, codes, map}
use Rattle.std.specs.Prelude.{Bool, true, false, filter}
use Rattle.std.specs.Prelude.{Option, Some, None, if◌then◌else◌}
use Rattle.std.specs.List.{flat_map}
use Rattle.std.specs.Fmt.{signed_decimal}
use Rattle.brake_base.specs.declared.plane.Rect.{Rect}
use Rattle.brake_base.specs.declared.plane.Quarter.{Quarter}
use Rattle.brake_base.specs.declared.stroke.Back.{Back}
use Rattle.brake_base.specs.declared.stroke.Back.TheVariants.{Parent, Child}
use Rattle.brake_base.specs.declared.stroke.Half.{Half}
use Rattle.brake_base.specs.declared.stroke.Half.TheVariants.{Back as BackHalf, Front as FrontHalf}
use Rattle.brake_base.specs.declared.stroke.Action.{Action}
use Rattle.brake_base.specs.declared.stroke.Step.{Step}
use Rattle.brake_base.specs.declared.stroke.Worth.{Worth}
use Rattle.brake_base.specs.declared.stroke.Worth.TheVariants.{Cost, Blocked}
use Rattle.brake_base.specs.declared.reason.Reason.{Reason}
use Rattle.brake_base.specs.declared.reason.Reason.TheVariants.{Cover, Rest, Frame, Upper, Nose}
use Rattle.brake_base.specs.declared.reason.Reason.TheVariants.{Lower, SelfHit, NoGauge, Load}
use Rattle.brake_base.specs.Reasons.{kind_of, quarter_number}
use Rattle.part_file.specs.declared.part.Side.{Side}
use Rattle.part_file.specs.declared.part.Side.TheVariants.{N, E, S, W}
use Rattle.part_file.specs.declared.part.Dir.{Dir}
use Rattle.part_file.specs.declared.part.Dir.TheVariants.{Up, Down}
use Rattle.part_file.specs.declared.part.Joint.{Joint}
use Rattle.part_file.specs.Part.{FaceData}
use Rattle.machine_file.specs.declared.machine.Fixed.{Fixed}
use Rattle.machine_file.specs.declared.machine.GaugeRule.{GaugeRule}
use Rattle.cert_lines.specs.declared.format.Format.{Format}
use Rattle.cert_lines.specs.declared.format.Format.TheVariants.{Version1, Version2, Table}
use Rattle.cert_lines.specs.declared.row_head.RowHead.{RowHead}

-- a line by its kind, with what its words say
pub data CertLine : Type 0 where
  format_line : Format → CertLine
  part_line : List ℕ → ℤ → ℤ → ℤ → CertLine
  face_line : FaceData → CertLine
  bed_line : ℤ × ℤ → CertLine
  frame_line : ℤ × ℤ → CertLine
  upper_line : Fixed → CertLine
  lower_line : Fixed → CertLine
  uncovered_line : ℤ → CertLine
  gauge_line : GaugeRule → CertLine
  cost_line : ℤ → ℤ → ℤ → ℤ → ℤ → ℤ → CertLine
  gang_line : ℤ → CertLine
  force_line : ℤ → CertLine
  fine_line : ℤ → CertLine
  stage_line : ℤ → ℤ → CertLine
  punch_line : List ℕ → ℤ → ℤ → CertLine
  die_line : List ℕ → ℤ → ℤ → ℤ → CertLine
  box_line : Rect → CertLine
  pieces_line : List ℤ → CertLine
  load_line : ℤ → ℤ → CertLine
  claim_line : Worth → CertLine
  step_line : Step → CertLine
  row_line : RowHead → CertLine
  note_line : Action → Reason → CertLine
  end_line : CertLine

-- a number that isn't negative
abbrev pub number : ℕ → List ℕ
number n = signed_decimal (pos n)

abbrev pub side_word : Side → List ℕ
side_word N = codes "N"
side_word E = codes "E"
side_word S = codes "S"
side_word W = codes "W"

abbrev pub dir_word : Dir → List ℕ
dir_word Up = codes "up"
dir_word Down = codes "down"

abbrev pub back_word : Back → List ℕ
back_word Parent = codes "P"
back_word Child = codes "C"

abbrev pub half_word : Half → List ℕ
half_word BackHalf = codes "B"
half_word FrontHalf = codes "F"

abbrev pub worth_word : Worth → List ℕ
worth_word (Cost cost) = number cost
worth_word Blocked = codes "none"

-- the greatest number that is claimed or proved
abbrev pub IsWorth : Worth → Type 0
IsWorth (Cost cost) = cost ≤ 1000000000
IsWorth Blocked = Unit {0}

-- a face: its name, where it stands, and its sizes; face 0 stands on none
abbrev pub face_words : FaceData → Option Joint → List (List ℕ)
face_words face None = face.name ∷ signed_decimal face.width ∷ signed_decimal face.length ∷ []
face_words face (Some joint) =
    face.name ∷ number joint.on ∷ side_word joint.side ∷ signed_decimal joint.at
    ∷ signed_decimal face.width ∷ signed_decimal face.length ∷ dir_word joint.dir ∷ []

-- a fixed box: its range along the bed, and its rectangle across it
abbrev pub fixed_words : Fixed → List (List ℕ)
fixed_words f =
    map signed_decimal (f.x0 ∷ f.x1 ∷ f.rect.y0 ∷ f.rect.y1 ∷ f.rect.z0 ∷ f.rect.z1 ∷ [])

-- a stroke: its bend, the side at the back, and its stage
abbrev pub action_words : Action → List (List ℕ)
action_words action = number action.bend ∷ back_word action.back ∷ number action.stage ∷ []

-- a box of the part in a quarter, and the number of what it meets there
abbrev pub meeting_words : ℕ → Quarter → ℕ → List (List ℕ)
meeting_words box quarter other = number box ∷ number (quarter_number quarter) ∷ number other ∷ []

-- what a reason names
abbrev pub argument_words : Reason → List (List ℕ)
argument_words Cover = []
argument_words (Rest half) = half_word half ∷ []
argument_words (Frame box) = number box ∷ []
argument_words (Upper box quarter index) = meeting_words box quarter index
argument_words (Nose box quarter stage) = meeting_words box quarter stage
argument_words (Lower box quarter index) = meeting_words box quarter index
argument_words (SelfHit box quarter other) = meeting_words box quarter other
argument_words NoGauge = []
argument_words Load = []

-- a reason: the number of its kind, and what it names
abbrev pub reason_words : Reason → List (List ℕ)
reason_words reason = number (kind_of reason) ∷ argument_words reason

abbrev pub format_keyword : Format → List ℕ
format_keyword Table = codes "brake-table"
format_keyword _ = codes "brake-cert"

abbrev pub format_number : Format → List ℕ
format_number Version2 = codes "2"
format_number _ = codes "1"

-- the first word of a line, which tells its kind
abbrev pub keyword_of : CertLine → List ℕ
keyword_of (format_line format) = format_keyword format
keyword_of (part_line material thickness radius q) = codes "part"
keyword_of (face_line face) = codes "face"
keyword_of (bed_line bed) = codes "bed"
keyword_of (frame_line frame) = codes "frame"
keyword_of (upper_line box) = codes "upper"
keyword_of (lower_line box) = codes "lower"
keyword_of (uncovered_line uncovered) = codes "uncovered"
keyword_of (gauge_line gauge) = codes "gauge"
keyword_of (cost_line stroke quarter half flip roll stage) = codes "cost"
keyword_of (gang_line gang) = codes "gang"
keyword_of (force_line force) = codes "force"
keyword_of (fine_line depth) = codes "fine"
keyword_of (stage_line x0 x1) = codes "stage"
keyword_of (punch_line name height nose) = codes "punch"
keyword_of (die_line name height v least_flange) = codes "die"
keyword_of (box_line box) = codes "box"
keyword_of (pieces_line pieces) = codes "pieces"
keyword_of (load_line load limit) = codes "load"
keyword_of (claim_line claim) = codes "claim"
keyword_of (step_line step) = codes "step"
keyword_of (row_line row) = codes "row"
keyword_of (note_line action reason) = codes "x"
keyword_of end_line = codes "end"

-- the other words of a line
abbrev pub words_of : CertLine → List (List ℕ)
words_of (format_line format) = format_number format ∷ []
words_of (part_line material thickness radius q) =
    material ∷ map signed_decimal (thickness ∷ radius ∷ q ∷ [])
words_of (face_line face) = face_words face face.joint
words_of (bed_line bed) = map signed_decimal (bed.0 ∷ bed.1 ∷ [])
words_of (frame_line frame) = map signed_decimal (frame.0 ∷ frame.1 ∷ [])
words_of (upper_line box) = fixed_words box
words_of (lower_line box) = fixed_words box
words_of (uncovered_line uncovered) = signed_decimal uncovered ∷ []
words_of (gauge_line g) =
    map signed_decimal (g.near ∷ g.far ∷ g.inset ∷ g.finger ∷ g.gap ∷ g.depth ∷ g.above ∷ g.below
    ∷ [])
words_of (cost_line stroke quarter half flip roll stage) =
    map signed_decimal (stroke ∷ quarter ∷ half ∷ flip ∷ roll ∷ stage ∷ [])
words_of (gang_line gang) = signed_decimal gang ∷ []
words_of (force_line force) = signed_decimal force ∷ []
words_of (fine_line depth) = signed_decimal depth ∷ []
words_of (stage_line x0 x1) = map signed_decimal (x0 ∷ x1 ∷ [])
words_of (punch_line name height nose) = name ∷ map signed_decimal (height ∷ nose ∷ [])
words_of (die_line name height v least_flange) =
    name ∷ map signed_decimal (height ∷ v ∷ least_flange ∷ [])
words_of (box_line box) = map signed_decimal (box.y0 ∷ box.y1 ∷ box.z0 ∷ box.z1 ∷ [])
words_of (pieces_line pieces) = map signed_decimal pieces
words_of (load_line load limit) = map signed_decimal (load ∷ limit ∷ [])
words_of (claim_line claim) = worth_word claim ∷ []
words_of (step_line step) =
    action_words step.action ++ number step.gauge.left_face ∷ number step.gauge.right_face ∷ []
words_of (row_line row) =
    number row.key.mask.0 ∷ number row.key.attitude ∷ number row.key.stage ∷ worth_word row.worth
    ∷ []
words_of (note_line action reason) = action_words action ++ reason_words reason
words_of end_line = []

-- a word behind a space
abbrev pub spaced : List ℕ → List ℕ
spaced word = codes " " ++ word

-- a signed number behind a space
abbrev pub spaced_number : ℤ → List ℕ
spaced_number n = spaced (signed_decimal n)

-- words behind a keyword, one space before each, and a line feed
abbrev pub text_line : List ℕ → List (List ℕ) → List ℕ
text_line keyword words = keyword ++ flat_map spaced words ++ codes "\n"

-- the text of a line
unfoldable pub line_text : CertLine → List ℕ
line_text line = text_line (keyword_of line) (words_of line)

-- the text of lines, one after the other
abbrev pub lines_text : List CertLine → List ℕ
lines_text lines = flat_map line_text lines

-- the action of a number on a machine with so many stages: they are numbered by bend, then by side
-- at the back, then by stage
abbrev pub action_at : ℕ → ℕ → Action
action_at stages number = record {
  bend = number / stages / 2 + 1;
  back = if number / stages % 2 == 0 then Parent else Child;
  stage = number % stages;
}

-- version 1 has no lines of gangs, of forces, of depths and of loads
abbrev pub is_of_version1 : CertLine → Bool
is_of_version1 (gang_line gang) = false
is_of_version1 (force_line force) = false
is_of_version1 (fine_line depth) = false
is_of_version1 (load_line load limit) = false
is_of_version1 _ = true

-- those of some lines that a format has
abbrev pub lines_of_format : Format → List CertLine → List CertLine
lines_of_format Version1 lines = filter is_of_version1 lines
lines_of_format _ lines = lines
