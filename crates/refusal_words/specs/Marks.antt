-- The marks in rows, each of which stands for a number of a line.
use Rattle.std.specs.Prelude.{ℕ, ◌-◌, ◌==◌, pos, ◌+ℤ◌, ◌-ℤ◌, nat_le, List, ◌++◌, codes, Option}
use Rattle.std.specs.Prelude.{Some, None, if◌then◌else◌}
use Rattle.std.specs.Fmt.{signed_decimal}
use Rattle.refusal_words.specs.declared.mark.TheConstants.{CORNER}
use Rattle.refusal_words.specs.declared.mark.Mark.{Mark}
use Rattle.refusal_words.specs.declared.mark.Mark.TheVariants.{Face, Bend, Stage, Line, Step, Row}
use Rattle.refusal_words.specs.declared.mark.Mark.TheVariants.{Action, Body, Quarter, Obstacle}
use Rattle.refusal_words.specs.declared.mark.Mark.TheVariants.{ToolsTable, SetupsTable, FaceTable}
use Rattle.refusal_words.specs.declared.mark.Mark.TheVariants.{StageTable, Setup, FileWord}

-- the mark that a byte is: these letters
abbrev pub mark_of : ℕ → Option Mark
mark_of byte =
    if byte == 73 then Some Face
    else if byte == 74 then Some Bend
    else if byte == 83 then Some Stage
    else if byte == 76 then Some Line
    else if byte == 80 then Some Step
    else if byte == 82 then Some Row
    else if byte == 65 then Some Action
    else if byte == 88 then Some Body
    else if byte == 81 then Some Quarter
    else if byte == 79 then Some Obstacle
    else if byte == 84 then Some ToolsTable
    else if byte == 85 then Some SetupsTable
    else if byte == 86 then Some FaceTable
    else if byte == 77 then Some StageTable
    else if byte == 78 then Some Setup
    else if byte == 87 then Some FileWord
    else None

-- the least number that it may stand for
abbrev pub low_of : Mark → ℕ
low_of Face = 0
low_of Bend = 1
low_of Stage = 0
low_of Line = 1
low_of Step = 0
low_of Row = 0
low_of Action = 0
low_of Body = 0
low_of Quarter = 1
low_of Obstacle = 0
low_of ToolsTable = 1
low_of SetupsTable = 1
low_of FaceTable = 2
low_of StageTable = 3
low_of Setup = 0
low_of FileWord = 1

-- what is above all numbers that it may stand for
abbrev pub end_of : Mark → ℕ
end_of Face = 13
end_of Bend = 13
end_of Stage = 6
end_of Line = 1073741826
end_of Step = 12
end_of Row = 4294967296
end_of Action = 144
end_of Body = 25
end_of Quarter = 5
end_of Obstacle = 64
end_of ToolsTable = 577
end_of SetupsTable = 113
end_of FaceTable = 14
end_of StageTable = 9
end_of Setup = 16
end_of FileWord = 6

-- a box of the part: those of the faces come before those of the corners of bends
unfoldable pub body_words : ℕ → List ℕ
body_words body = if nat_le body 12 then codes "face " ++ signed_decimal (pos body)
    else CORNER.now ++ signed_decimal (pos (body - 12))

-- how a sentence tells a number: a step is counted from 1, and the table of a face or a stage is
-- told by that
unfoldable pub told_text : Mark → ℕ → List ℕ
told_text Body number = body_words number
told_text Step number = signed_decimal (pos number +ℤ pos 1)
told_text FaceTable number = signed_decimal (pos number -ℤ pos 1)
told_text StageTable number = signed_decimal (pos number -ℤ pos 3)
told_text _ number = signed_decimal (pos number)
