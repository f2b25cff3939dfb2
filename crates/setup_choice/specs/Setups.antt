-- Setups as names and numbers, and the rules that each list of setups that is read meets. Lengths
-- are in micrometres.
use Rattle.std.specs.Prelude.{ℕ, ◌<◌, ◌≤◌, ℤ, neg_ℤ, List, length, map, All, IsTrue}
use Rattle.toml_fields.specs.Fields.{is_name}
use Rattle.toml_fields.specs.Ranges.{IsWithin}
use Rattle.tool_library.specs.Names.{AreDistinct}
use Rattle.machine_file.specs.Bounds.{coordinate_limit, most_stages}
use Rattle.setup_choice.specs.Bounds.{most_setups, least_stage_length, greatest_stage_length}
use Rattle.setup_choice.specs.declared.setups.StageWant.{StageWant}
use Rattle.setup_choice.specs.declared.setups.OneSetup.{OneSetup}
use Rattle.setup_choice.specs.declared.setups.Setups.{Setups}

-- a stage that is wanted: the names of its tools, where it begins on the bed, and how long it is
pub record StageWantData : Type 0 where
  pub punch : List ℕ
  pub die : List ℕ
  pub at : ℤ
  pub length : ℤ

-- a setup to be tried, by its name
pub record OneSetupData : Type 0 where
  pub name : List ℕ
  pub stages : List StageWantData

-- what contracts see of the code's types
abbrev pub stage_want_data : StageWant → StageWantData
stage_want_data s = record {
  punch = s.punch.bytes;
  die = s.die.bytes;
  at = s.at;
  length = s.length;
}

abbrev pub one_setup_data : OneSetup → OneSetupData
one_setup_data s = record { name = s.name.bytes; stages = map stage_want_data s.stages.items }

abbrev pub setups_data : Setups → List OneSetupData
setups_data s = map one_setup_data s.list.items

-- the names of setups
abbrev pub names_of_setups : List OneSetupData → List (List ℕ)
names_of_setups setups = map (λ one. one.name) setups

-- the rules of a wanted stage
pub record IsStageWant (stage : StageWantData) : Type 0 where
  pub punch : IsTrue (is_name stage.punch)
  pub die : IsTrue (is_name stage.die)
  pub at : IsWithin (neg_ℤ coordinate_limit) coordinate_limit stage.at
  pub length : IsWithin least_stage_length greatest_stage_length stage.length

-- the rules of a setup
pub record IsOneSetup (one : OneSetupData) : Type 0 where
  pub name : IsTrue (is_name one.name)
  pub some_stage : 0 < length one.stages
  pub few_stages : length one.stages ≤ most_stages
  pub stages : All IsStageWant one.stages

-- the rules of the setups file
pub record IsSetups (setups : List OneSetupData) : Type 0 where
  pub some_setup : 0 < length setups
  pub few_setups : length setups ≤ most_setups
  pub each : All IsOneSetup setups
  pub names : AreDistinct (names_of_setups setups)
