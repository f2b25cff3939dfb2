-- What `setups` stores while it has no answer.
use Rattle.std.specs.Prelude.{◌≡◌, ◌≢◌, ◌⊎◌, ℕ, List, take, map, All, AllPairs, Option, option_map}
use Rattle.std.specs.Prelude.{Ok}
use Rattle.std.specs.List.{AllZip}
use Rattle.brake_io.specs.Meanings.{ShelfState}
use Rattle.setup_choice.specs.declared.outcome.Fit.{Fit}
use Rattle.command_runner.specs.Answers.{StoredData}
use Rattle.command_runner.specs.Delivery.{AreStored, AreStoredUpTo}
use Rattle.brake_commands.specs.SetupList.{SetupList, list_of_files, fits_with}
use Rattle.brake_commands.specs.SetupStops.{FittedData}
use Rattle.brake_commands.specs.Attempts.{PlannedData, AttemptData, kept_of, kept_attempt, IsPlannedAs}
use Rattle.brake_commands.specs.Attempts.{IsAttemptOf, IsAttempt}
use Rattle.brake_commands.specs.SetupsAnswer.{stored_at, all_stored}

-- what trying the setup of a place came to, of which this is kept: its certificate is stored, if it
-- has one
pub record StoresPlanned (name : List ℕ) (place : ℕ) (fit : Fit) (kept : Option PlannedData)
    (before now : ShelfState) : Type 0 where
  pub planned : Option PlannedData
  pub is_planned : IsPlannedAs fit planned
  pub keeps : kept ≡ option_map kept_of planned
  pub are_stored : AreStored (stored_at name place planned) before now
  pub faults : now.faults ≡ before.faults

-- nothing of it is stored, or its certificate in part
abbrev pub StoresPart : List ℕ → ℕ → Fit → ShelfState → ShelfState → Type 0
StoresPart name place fit before now = (now ≡ before)
    ⊎ ((planned : Option PlannedData) × IsPlannedAs fit planned
    × AreStoredUpTo (stored_at name place planned) before now)

-- what trying all of these came to
pub record StoresTried (name : List ℕ) (fits : List FittedData) (kept : List AttemptData)
    (before now : ShelfState) : Type 0 where
  pub attempts : List AttemptData
  pub tries : AllZip IsAttemptOf fits attempts
  pub keeps : kept ≡ map kept_attempt attempts
  pub are_stored : AreStored (all_stored name attempts) before now
  pub faults : now.faults ≡ before.faults

-- what is stored of the first of these
pub record IsTriedBeginning (name : List ℕ) (fits : List FittedData) (stored : List StoredData)
    : Type 0 where
  pub count : ℕ
  pub attempts : List AttemptData
  pub tries : AllZip IsAttemptOf (take count fits) attempts
  pub stores : stored ≡ all_stored name attempts

-- the certificates of the first setups of a list, all of which fit
pub record IsListBeginning (name : List ℕ) (list : SetupList) (stored : List StoredData)
    : Type 0 where
  pub stand : All (λ one. fits_with list.files one ≡ Ok tt) list.setups
  pub count : ℕ
  pub attempts : List AttemptData
  pub tries : AllZip (IsAttempt list.files) (take count list.setups) attempts
  pub stores : stored ≡ all_stored name attempts
  pub different : AllPairs (λ one other. one.name ≢ other.name) stored

-- what may be stored of the contents of the part's file, the tools file, the machine file and the
-- setups file before there is an answer
abbrev pub IsSetupsBeginning : List ℕ → List (List ℕ) → List StoredData → Type 0
IsSetupsBeginning name contents stored =
    (list : SetupList) × (list_of_files contents ≡ Ok list) × IsListBeginning name list stored
