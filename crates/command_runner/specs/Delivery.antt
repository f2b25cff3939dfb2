-- What storing and putting an answer comes to.
use Rattle.std.specs.Prelude.{◌≡◌, ◌⊎◌, ◌+◌, ◌≤◌, List, [], ◌∷◌, ◌++◌, length}
use Rattle.brake_io.specs.Meanings.{Names, Content, ShelfState, SinkState, WhereTold, ChangesOnly}
use Rattle.brake_io.specs.Meanings.{HoldsPart, Puts, PutsPart, with_bytes}
use Rattle.command_runner.specs.declared.status.Status.{Status}
use Rattle.command_runner.specs.declared.status.Status.TheVariants.{Fault, NoMemory}
use Rattle.command_runner.specs.Answers.{StoredData, AnswerData, concatenation}

-- the run ended before it had left its answer
abbrev pub IsCutShort : Status → Type 0
IsCutShort status = (status ≡ Fault) ⊎ (status ≡ NoMemory)

-- what is seen of the outside: of the shelf and of the sink
pub record Outside : Type 0 where
  pub shelf : ShelfState
  pub sink : SinkState

-- what is held once these texts are stored in order
abbrev pub held_after : List StoredData → Names → Names
held_after [] names = names
held_after (one ∷ rest) names = held_after rest (with_bytes one.name one.text names)

-- content with these texts stored
abbrev pub HoldsAll : List StoredData → Content → Content → Type 0
HoldsAll stored before now = now ≡ record before { held = held_after stored before.held }

-- all of these texts are stored, with a call each, and where the content is told nothing else has
-- changed; the count of long files stands
pub record AreStored (stored : List StoredData) (before now : ShelfState) : Type 0 where
  pub holds : WhereTold before now (HoldsAll stored)
  pub calls : now.calls ≤ before.calls + length stored
  pub longs : now.longs ≡ before.longs

-- the name of the text holds what it held or a beginning of the text, and where the content is told
-- nothing else has changed; the count of long files stands
pub record IsPartlyStored (one : StoredData) (before now : ShelfState) : Type 0 where
  pub others : WhereTold before now (ChangesOnly one.name)
  pub part : WhereTold before now (HoldsPart one.name one.text)
  pub calls : now.calls ≤ before.calls + 1
  pub longs : now.longs ≡ before.longs

-- a beginning of these texts is stored, the last of them perhaps in part
pub record AreStoredUpTo (stored : List StoredData) (before now : ShelfState) : Type 0 where
  pub whole : List StoredData
  pub next : StoredData
  pub rest : List StoredData
  pub split : stored ≡ whole ++ (next ∷ rest)
  pub between : ShelfState
  pub first : AreStored whole before between
  pub last : IsPartlyStored next between now

-- Storing and putting an answer: all of it, and no count of faults rose; a beginning of what is
-- stored, and nothing put; or all that is stored, and a beginning of the text.
pub data Delivers (answer : AnswerData) (before now : Outside) (status : Status) : Type 0 where
  delivered : status ≡ answer.status → AreStored answer.stored before.shelf now.shelf
      → Puts before.sink now.sink (concatenation answer.texts)
      → now.shelf.faults ≡ before.shelf.faults → now.sink.faults ≡ before.sink.faults
      → Delivers answer before now status
  stored_in_part : IsCutShort status → AreStoredUpTo answer.stored before.shelf now.shelf
      → now.sink ≡ before.sink → Delivers answer before now status
  put_in_part : IsCutShort status → AreStored answer.stored before.shelf now.shelf
      → PutsPart before.sink now.sink (concatenation answer.texts)
      → Delivers answer before now status
