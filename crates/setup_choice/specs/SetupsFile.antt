-- The setups that a file gives, or its first refusal. Table 0 is the top table; from 1 on each
-- setup's table is numbered and then its stages', setup after setup.
use Rattle.std.specs.Prelude.{ℕ, ◌+◌, neg_ℤ, List, [], ◌∷◌, codes, length, nat_lt, nat_le}
use Rattle.std.specs.Prelude.{if◌then◌else◌, Option, Some, None, Result, Ok, ok_or, option_and_then}
use Rattle.toml.specs.Data.{Data, Members, as_table}
use Rattle.toml_fields.specs.Document.{document_of}
use Rattle.toml_fields.specs.Fields.{has_unknown_key, name_at, integer_at}
use Rattle.toml_fields.specs.Lists.{tables_at}
use Rattle.toml_fields.specs.Results.{◌>>=◌, each_from, refuse_if, refuse_first}
use Rattle.tool_library.specs.Names.{is_repeat}
use Rattle.machine_file.specs.Bounds.{coordinate_limit, most_stages}
use Rattle.setup_choice.specs.declared.fault.SetupFault.{SetupFault}
use Rattle.setup_choice.specs.declared.fault.SetupFault.TheVariants.{NotToml, BadField}
use Rattle.setup_choice.specs.declared.fault.SetupFault.TheVariants.{UnknownKey, TooMany, SameName}
use Rattle.setup_choice.specs.Bounds.{most_setups, least_stage_length, greatest_stage_length}
use Rattle.setup_choice.specs.Setups.{StageWantData, OneSetupData, names_of_setups}

-- the items of an array, where there is one
abbrev pub at_least_one : List Data → Option (List Data)
at_least_one items = if nat_le 1 (length items) then Some items else None

-- the items of the array at a key, at least one, each a table
abbrev pub some_tables_at : List ℕ → Members → Option (List Data)
some_tables_at key members = option_and_then at_least_one (tables_at key members)

-- the wanted stage in the table of this number
unfoldable pub stage_want_of : ℕ → Members → Result StageWantData SetupFault
stage_want_of table members = do
  punch ← ok_or (name_at (codes "punch") members) (BadField table 4)
  die ← ok_or (name_at (codes "die") members) (BadField table 5)
  at ← ok_or (integer_at (neg_ℤ coordinate_limit) coordinate_limit (codes "at") members)
      (BadField table 6)
  long ← ok_or (integer_at least_stage_length greatest_stage_length (codes "length") members)
      (BadField table 7)
  known ← refuse_if (has_unknown_key (codes "punch" ∷ codes "die" ∷ codes "at" ∷ codes "length"
      ∷ []) members) (UnknownKey table)
  Ok (record { punch = punch; die = die; at = at; length = long })

-- the stage of an item of `stage` of the setup in the table of this number
unfoldable pub stage_want_in : ℕ → ℕ → Data → Result StageWantData SetupFault
stage_want_in table stage item =
    ok_or (as_table item) (BadField table 3) >>= stage_want_of (table + 1 + stage)

-- the setup in the table of this number
unfoldable pub one_setup_of : ℕ → Members → Result OneSetupData SetupFault
one_setup_of table members = do
  name ← ok_or (name_at (codes "name") members) (BadField table 2)
  items ← ok_or (some_tables_at (codes "stage") members) (BadField table 3)
  known ← refuse_if (has_unknown_key (codes "name" ∷ codes "stage" ∷ []) members)
      (UnknownKey table)
  few ← refuse_if (nat_lt most_stages (length items)) (TooMany table)
  stages ← each_from (stage_want_in table) 0 items
  Ok (record { name = name; stages = stages })

-- the setup of an item of `setup`, whose table has this number
unfoldable pub one_setup_in : ℕ → Data → Result OneSetupData SetupFault
one_setup_in table item = ok_or (as_table item) (BadField 0 1) >>= one_setup_of table

-- the setups of the items of `setup`, the first of which has the table of this number
unfoldable pub setups_from : ℕ → List Data → Result (List OneSetupData) SetupFault
setups_from table [] = Ok []
setups_from table (item ∷ items) = do
  one ← one_setup_in table item
  others ← setups_from (table + (1 + length one.stages)) items
  Ok (one ∷ others)

-- the setups of the top table, and last their names
unfoldable pub setups_of_members : Members → Result (List OneSetupData) SetupFault
setups_of_members members = do
  items ← ok_or (some_tables_at (codes "setup") members) (BadField 0 1)
  known ← refuse_if (has_unknown_key (codes "setup" ∷ []) members) (UnknownKey 0)
  few ← refuse_if (nat_lt most_setups (length items)) (TooMany 0)
  setups ← setups_from 1 items
  distinct ← refuse_first (is_repeat (names_of_setups setups)) (length setups) SameName
  Ok setups

-- the setups of a file's bytes, or the first refusal
abbrev pub setups_of : List ℕ → Result (List OneSetupData) SetupFault
setups_of bytes = ok_or (document_of bytes) NotToml >>= setups_of_members
