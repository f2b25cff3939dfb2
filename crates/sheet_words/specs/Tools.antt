-- Tools and the machine in words.
use Rattle.std.specs.Prelude.{ℕ, suc, ◌-◌, ◌==◌, nat_lt, pos, List, [], ◌∷◌, ◌++◌, codes, length, map}
use Rattle.std.specs.Prelude.{if◌then◌else◌}
use Rattle.std.specs.Fmt.{signed_decimal}
use Rattle.job_setup.specs.Setup.{StageData, JobData}
use Rattle.job_setup.specs.StageOf.{stage_of}
use Rattle.sheet_words.specs.declared.phrases.TheConstants.{BEAM, BED, OF_STATION}

-- the station of a tool, and that where it isn't the one in use
unfoldable pub station_number : (stage : ℕ) → List ℕ
station_number stage = OF_STATION.now ++ signed_decimal (pos stage)

unfoldable pub station_words : (stage in_use : ℕ) → List ℕ
station_words stage in_use = if stage == in_use then [] else station_number stage

-- a stage's punch and its die
unfoldable pub punch_words : JobData → (stage in_use : ℕ) → List ℕ
punch_words job stage in_use =
    codes "the punch " ++ (stage_of job stage).punch.name ++ station_words stage in_use

unfoldable pub die_words : JobData → (stage in_use : ℕ) → List ℕ
die_words job stage in_use =
    codes "the die " ++ (stage_of job stage).die.name ++ station_words stage in_use

-- a box of the machine, with its number where there are several
unfoldable pub box_number : (index count : ℕ) → List ℕ
box_number index count =
    if nat_lt count 2 then [] else codes " (box " ++ signed_decimal (pos index) ++ codes ")"

unfoldable pub fixed_words : (words : List ℕ) → (index count : ℕ) → List ℕ
fixed_words words index count = words ++ box_number index count

-- in which of some lists, one behind the other, a place lies, by how long they are
abbrev pub list_at : (counts : List ℕ) → (place : ℕ) → ℕ
list_at [] place = 0
list_at (count ∷ counts) place =
    if nat_lt place count then 0 else suc (list_at counts (place - count))

-- how many boxes the stages' punches and dies have
abbrev pub punch_counts : List StageData → List ℕ
punch_counts stages = map (λ stage. length stage.punch.body) stages

abbrev pub die_counts : List StageData → List ℕ
die_counts stages = map (λ stage. length stage.die.body) stages

-- a box of the upper group: the beam, or the punch of the stage to which it belongs
unfoldable pub upper_words : JobData → (index in_use : ℕ) → List ℕ
upper_words job index in_use =
    if nat_lt index (length job.setup.upper) then
    fixed_words BEAM.now index (length job.setup.upper)
    else punch_words job
    (list_at (punch_counts job.setup.stages) (index - length job.setup.upper)) in_use

-- a box of the lower group: the bed, or the die of the stage to which it belongs
unfoldable pub lower_words : JobData → (index in_use : ℕ) → List ℕ
lower_words job index in_use =
    if nat_lt index (length job.setup.lower) then
    fixed_words BED.now index (length job.setup.lower)
    else die_words job (list_at (die_counts job.setup.stages) (index - length job.setup.lower))
    in_use
