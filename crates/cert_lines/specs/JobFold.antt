-- The job lines, taken one after the other: which line may stand where, and what it adds.
use Rattle.std.specs.Prelude.{ℕ, ◌==◌, pos, Bool, true, false, ◌&&◌, nat_lt, List, [], ◌∷◌}
use Rattle.std.specs.Prelude.{◌++◌, length, Option, Some, None, is_some, unwrap_or}
use Rattle.brake_base.specs.declared.plane.Rect.{Rect}
use Rattle.part_file.specs.declared.part.Joint.{Joint}
use Rattle.part_file.specs.Bounds.{most_faces}
use Rattle.machine_file.specs.Bounds.{most_frames, most_fixed_boxes, most_stages}
use Rattle.tool_library.specs.Bounds.{most_body_boxes}
use Rattle.job_setup.specs.Setup.{StageData}
use Rattle.cert_lines.specs.declared.format.Format.{Format}
use Rattle.cert_lines.specs.declared.format.Format.TheVariants.{Version1}
use Rattle.cert_lines.specs.declared.job_section.JobSection.{JobSection}
use Rattle.cert_lines.specs.declared.job_section.JobSection.TheVariants as sections
use Rattle.cert_words.specs.LineWords.{◌>>=◌}
use Rattle.cert_words.specs.JobWords.{costs_of, gang_of, fine_of}
use Rattle.cert_lines.specs.Lines.{CertLine, part_line, face_line, bed_line, frame_line, upper_line}
use Rattle.cert_lines.specs.Lines.{lower_line, uncovered_line, gauge_line, cost_line, gang_line}
use Rattle.cert_lines.specs.Lines.{force_line, fine_line, stage_line, punch_line, die_line, box_line}
use Rattle.cert_lines.specs.Lines.{pieces_line, load_line}
use Rattle.cert_lines.specs.Lines.{is_of_version1}
use Rattle.cert_lines.specs.LineReading.{only_if}
use Rattle.cert_lines.specs.JobLineReading.{line_in}
use Rattle.cert_lines.specs.JobLines.{JobLinesData, begun_part, begun_punch, begun_die, begun_stage}
use Rattle.cert_lines.specs.JobLines.{begun_setup}

-- the lines that may follow in a section
abbrev pub admits : JobSection → CertLine → Bool
admits sections.Start (part_line material thickness radius q) = true
admits sections.Part (face_line face) = true
admits sections.Part (bed_line bed) = true
admits sections.Fixtures (frame_line frame) = true
admits sections.Fixtures (upper_line box) = true
admits sections.Fixtures (lower_line box) = true
admits sections.Fixtures (uncovered_line uncovered) = true
admits sections.Uncovered (gauge_line gauge) = true
admits sections.Gauge (cost_line stroke quarter half flip roll stage) = true
admits sections.Costs (gang_line gang) = true
admits sections.Gang (force_line force) = true
admits sections.Rules (fine_line depth) = true
admits sections.Rules (stage_line x0 x1) = true
admits sections.Stages (stage_line x0 x1) = true
admits sections.Stage (punch_line name height nose) = true
admits sections.Punch (box_line box) = true
admits sections.Punch (die_line name height v least_flange) = true
admits sections.Die (box_line box) = true
admits sections.Die (pieces_line pieces) = true
admits sections.Pieces (load_line load limit) = true
admits _ _ = false

-- the rules of the machine are complete, and no stage is begun
abbrev pub is_complete : JobSection → Bool
is_complete sections.Rules = true
is_complete sections.Stages = true
is_complete _ = false

-- behind so many faces: face 0 stands on none, each other face on an earlier one
abbrev pub stands_behind : ℕ → Option Joint → Bool
stands_behind faces None = faces == 0
stands_behind faces (Some joint) = nat_lt joint.on faces

-- the boxes of the tool whose lines are read
abbrev pub body_of : JobSection → StageData → List Rect
body_of sections.Punch stage = stage.punch.body
body_of _ stage = stage.die.body

-- the values so far have room for what a line says: the bed stands behind a face, frames stand
-- before the fixed boxes, and those above the bed before those of it
unfoldable pub has_room : JobLinesData → CertLine → Bool
has_room s (face_line face) =
    nat_lt (length s.part.faces) most_faces && stands_behind (length s.part.faces) face.joint
has_room s (bed_line bed) = nat_lt 0 (length s.part.faces)
has_room s (frame_line frame) =
    nat_lt (length s.setup.frames) most_frames
    && ((length s.setup.upper == 0) && (length s.setup.lower == 0))
has_room s (upper_line box) =
    nat_lt (length s.setup.upper) most_fixed_boxes && (length s.setup.lower == 0)
has_room s (lower_line box) = nat_lt (length s.setup.lower) most_fixed_boxes
has_room s (box_line box) = nat_lt (length (body_of s.section s.stage)) most_body_boxes
has_room s (stage_line x0 x1) = nat_lt (length s.setup.stages) most_stages
has_room s (pieces_line pieces) = nat_lt (length s.setup.stages) most_stages
has_room s (load_line load limit) = nat_lt (length s.setup.stages) most_stages
has_room s _ = true

-- the stage with one more box of the tool whose lines are read
abbrev pub with_box : JobSection → StageData → Rect → StageData
with_box sections.Punch stage box =
    record stage { punch = record stage.punch { body = stage.punch.body ++ box ∷ [] } }
with_box _ stage box =
    record stage { die = record stage.die { body = stage.die.body ++ box ∷ [] } }

-- the values with what a line says; a cost below 0, a gang but 0 and 1 and a depth but 1 to 12 make
-- no job
unfoldable pub with_values : JobLinesData → CertLine → JobLinesData
with_values s (part_line material thickness radius q) =
    record s { part = begun_part material thickness radius; q = q }
with_values s (face_line face) =
    record s { part = record s.part { faces = s.part.faces ++ face ∷ [] } }
with_values s (bed_line bed) = record s { setup = begun_setup bed }
with_values s (frame_line frame) =
    record s { setup = record s.setup { frames = s.setup.frames ++ frame ∷ [] } }
with_values s (upper_line box) =
    record s { setup = record s.setup { upper = s.setup.upper ++ box ∷ [] } }
with_values s (lower_line box) =
    record s { setup = record s.setup { lower = s.setup.lower ++ box ∷ [] } }
with_values s (uncovered_line n) = record s { setup = record s.setup { uncovered = n } }
with_values s (gauge_line rule) = record s { setup = record s.setup { gauge = rule } }
with_values s (cost_line stroke quarter half flip roll stage) =
    let costs = costs_of ((stroke, quarter), ((half, flip), (roll, stage))) in
    record s {
      setup = record s.setup { cost = unwrap_or costs s.setup.cost };
      is_sound = is_some costs && s.is_sound;
    }
with_values s (gang_line n) =
    let gang = unwrap_or (gang_of n) s.setup.gang in
    record s {
      setup = record s.setup { gang = gang };
      is_sound = is_some (gang_of n) && s.is_sound;
    }
with_values s (force_line n) = record s { setup = record s.setup { force = n } }
with_values s (fine_line n) =
    let fine = unwrap_or (fine_of n) s.setup.fine in
    record s {
      setup = record s.setup { fine = fine };
      is_sound = is_some (fine_of n) && s.is_sound;
    }
with_values s (stage_line x0 x1) = record s { stage = begun_stage x0 x1 }
with_values s (punch_line name height nose) =
    record s { stage = record s.stage { punch = begun_punch name height nose } }
with_values s (die_line name height v least_flange) =
    record s { stage = record s.stage { die = begun_die name height v least_flange } }
with_values s (box_line box) = record s { stage = with_box s.section s.stage box }
with_values s (pieces_line pieces) = record s { stage = record s.stage { pieces = pieces } }
with_values s (load_line load limit) =
    let stage = record s.stage { load = load; limit = limit } in
    record s {
      setup = record s.setup { stages = s.setup.stages ++ stage ∷ [] };
      stage = begun_stage (pos 0) (pos 0);
    }
with_values s _ = s

-- the section that a line leads to
abbrev pub section_behind : JobSection → CertLine → JobSection
section_behind at (part_line material thickness radius q) = sections.Part
section_behind at (bed_line bed) = sections.Fixtures
section_behind at (uncovered_line n) = sections.Uncovered
section_behind at (gauge_line rule) = sections.Gauge
section_behind at (cost_line stroke quarter half flip roll stage) = sections.Costs
section_behind at (gang_line n) = sections.Gang
section_behind at (force_line n) = sections.Rules
section_behind at (fine_line n) = sections.Stages
section_behind at (stage_line x0 x1) = sections.Stage
section_behind at (punch_line name height nose) = sections.Punch
section_behind at (die_line name height v least_flange) = sections.Die
section_behind at (pieces_line pieces) = sections.Pieces
section_behind at (load_line load limit) = sections.Stages
section_behind at _ = at

-- what a line adds: what it says, and its section
abbrev pub added : JobLinesData → CertLine → JobLinesData
added s line = record (with_values s line) { section = section_behind s.section line }

-- what a line adds in a format: of its costs version 1 leaves out that there are no gangs and no
-- force, and of its pieces that there is no load
abbrev pub added_in : Format → JobLinesData → CertLine → JobLinesData
added_in Version1 s (cost_line stroke quarter half flip roll stage) =
    added (added (added s (cost_line stroke quarter half flip roll stage)) (gang_line (pos 0)))
    (force_line (pos 0))
added_in Version1 s (pieces_line pieces) =
    added (added s (pieces_line pieces)) (load_line (pos 0) (pos 0))
added_in _ s line = added s line

-- the lines that a format has
abbrev pub has_line : Format → CertLine → Bool
has_line Version1 line = is_of_version1 line
has_line _ line = true

-- lines, one after the other, by a rule for one line
abbrev pub all_by : (JobLinesData → CertLine → Option JobLinesData) → JobLinesData → List CertLine
    → Option JobLinesData
all_by rule s [] = Some s
all_by rule s (line ∷ lines) = rule s line >>= λ taken. all_by rule taken lines

-- the job lines with one more line, where the format has it, it may stand there and there is room
unfoldable pub take : JobLinesData → CertLine → Option JobLinesData
take s line =
    only_if (has_line s.format line && (admits s.section line && has_room s line))
    (Some (added_in s.format s line))

-- the job lines with one more line, where it is a job line that may stand there
unfoldable pub take_line : JobLinesData → List ℕ → Option JobLinesData
take_line lines text = line_in text >>= take lines
