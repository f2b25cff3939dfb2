-- The sentence of a printed refusal, by two rows: how its line begins, and how it ends.
use Rattle.std.specs.Prelude.{ℕ, ◌==◌, Bool, List, [], ◌∷◌, ◌++◌, codes, map}
use Rattle.std.specs.Prelude.{Option, Some, None, option_map, if◌then◌else◌, nat_eq}
use Rattle.std.specs.List.{flat_map, starts_with}
use Rattle.cert_words.specs.LineWords.{◌>>=◌, at_end}
use Rattle.refusal_words.specs.declared.row.Told.{Told}
use Rattle.refusal_words.specs.declared.row.Numbers.{Numbers}
use Rattle.refusal_words.specs.declared.refusal.Refusal.{Refusal as RefusalText}
use Rattle.refusal_words.specs.declared.subject.Subject.{Subject}
use Rattle.refusal_words.specs.declared.subject.Subject.TheVariants.{Other, Part, Tools, Machine}
use Rattle.refusal_words.specs.declared.subject.Subject.TheVariants.{Job, SetupJob, Setups}
use Rattle.refusal_words.specs.declared.subject.Subject.TheVariants.{Certificate, Table}
use Rattle.refusal_words.specs.declared.rows.TheConstants.{OTHER, PART, TOOLS, MACHINE, JOB}
use Rattle.refusal_words.specs.declared.rows.TheConstants.{SETUPS, CERTIFICATE, TABLE}
use Rattle.refusal_words.specs.declared.rows.TheConstants.{JOB_BEGINNING, SETUP_JOB_BEGINNING}
use Rattle.refusal_words.specs.Marks.{told_text}
use Rattle.refusal_words.specs.Rows.{Begun, begun_data, begin}

-- a refusal by its two rows
pub record Refusal : Type 0 where
  pub beginning : Begun
  pub end : Begun

abbrev pub refusal_data : RefusalText → Refusal
refusal_data r = record { beginning = begun_data r.beginning; end = begun_data r.end }

-- how a number is told, where there is one
abbrev pub told_words : Option Told → List ℕ
told_words (Some told) = told_text told.mark told.number
told_words None = []

-- a letter of a sentence, or the number that it marks: `~`, the byte 126, marks the first one, and
-- `^`, the byte 94, the last one
abbrev pub letter_words : Numbers → ℕ → List ℕ
letter_words numbers letter =
    if letter == 126 then told_words numbers.first
    else if letter == 94 then told_words numbers.last
    else letter ∷ []

-- what is said of a beginning
unfoldable pub filled : Begun → List ℕ
filled begun = flat_map (letter_words begun.numbers) begun.words

-- the sentence of a refusal
unfoldable pub refusal_words : Refusal → List ℕ
refusal_words refusal = filled refusal.beginning ++ filled refusal.end ++ codes "."

-- the row is the end of a line, since it begins with a space
unfoldable pub is_end : List ℕ → Bool
is_end row = starts_with nat_eq row (codes " ")

-- the refusal of this beginning that a row ends, where the row ends its line
abbrev pub ended : Begun → List ℕ → Option Refusal
ended beginning row = do
  end ← begin row beginning.rest
  at_end (record { beginning = beginning; end = end }) end.rest

-- the same, where there is a beginning
abbrev pub ended_by : Option Begun → List ℕ → Option Refusal
ended_by None row = None
ended_by (Some beginning) row = ended beginning row

-- what there is, or else this
abbrev pub or_else : {A : Type 0} → Option A → Option A → Option A
or_else (Some x) other = Some x
or_else None other = other

-- the refusal that a text is by the first of these rows that ends its line, with the beginning by
-- the last row before them that is one
abbrev pub refusal_in : List (List ℕ) → List ℕ → Option Begun → Option Refusal
refusal_in [] text beginning = None
refusal_in (row ∷ rows) text beginning =
    if is_end row then or_else (ended_by beginning row) (refusal_in rows text beginning)
    else refusal_in rows text (begin row text)

-- the rows of a subject
unfoldable pub rows_of : Subject → List (List ℕ)
rows_of Other = map (λ row. row.now) OTHER
rows_of Part = map (λ row. row.now) PART
rows_of Tools = map (λ row. row.now) TOOLS
rows_of Machine = map (λ row. row.now) MACHINE
rows_of Job = map (λ row. row.now) JOB
rows_of SetupJob = map (λ row. row.now) JOB
rows_of Setups = map (λ row. row.now) SETUPS
rows_of Certificate = map (λ row. row.now) CERTIFICATE
rows_of Table = map (λ row. row.now) TABLE

-- how a text begins as the lines of a subject do, where its rows don't say it
abbrev pub beginning_of : Subject → List ℕ → Option Begun
beginning_of Job text = begin JOB_BEGINNING.now text
beginning_of SetupJob text = begin SETUP_JOB_BEGINNING.now text
beginning_of _ text = None

-- the refusal that a text is by the first of these subjects that has it
abbrev pub refusal_by : List Subject → List ℕ → Option Refusal
refusal_by [] text = None
refusal_by (subject ∷ subjects) text =
    or_else (refusal_in (rows_of subject) text (beginning_of subject text)) (refusal_by subjects text)

abbrev pub all_subjects : List Subject
all_subjects =
    Other ∷ Part ∷ Tools ∷ Machine ∷ Job ∷ SetupJob ∷ Setups ∷ Certificate ∷ Table ∷ []

-- the sentence of a line, where it is a printed refusal
unfoldable pub sentence : List ℕ → Option (List ℕ)
sentence line = option_map refusal_words (refusal_by all_subjects line)
