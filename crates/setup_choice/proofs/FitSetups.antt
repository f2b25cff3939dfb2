-- The setups that a file gives meet the rules of the setups file.
use Rattle.std.proofs.Common.{◌≡◌, ℕ, suc, ◌+◌, ◌<◌, ◌≤◌, neg_ℤ, Bool, true, false, List, [], ◌∷◌}
use Rattle.std.proofs.Common.{codes, length, nat_le, nat_lt, Option, Some, None, Ok, ok_or}
use Rattle.std.proofs.Common.{option_and_then, if◌then◌else◌, All, refl, sym, ap, subst, ◌∙◌}
use Rattle.std.proofs.Common.{ltb-false, leb-true, arith}
use Rattle.std.proofs.lemmas.List.{length-map}
use Rattle.std.proofs.lemmas.List.Elements.{All-nil, All-cons}
use Rattle.toml.specs.Data.{Data, Members, as_table}
use Rattle.toml_fields.specs.Fields.{text_at, whole_at, name_at, integer_at, has_unknown_key}
use Rattle.toml_fields.specs.Lists.{tables_at}
use Rattle.toml_fields.specs.Results.{each_from, first_below, refuse_if, refuse_first}
use Rattle.toml_fields.proofs.Bind.{bind_ok, ok_same, ok_or_ok, refused_not, found_not}
use Rattle.toml_fields.proofs.Bind.{checked_is_name, checked_is_within}
use Rattle.tool_library.specs.Names.{is_repeat}
use Rattle.tool_library.proofs.Repeats.{AreDistinct_from_none}
use Rattle.machine_file.specs.Bounds.{coordinate_limit, most_stages}
use Rattle.machine_file.proofs.Fit.{each_all, each_length, then_some}
use Rattle.setup_choice.specs.declared.fault.SetupFault.TheVariants.{BadField, UnknownKey}
use Rattle.setup_choice.specs.declared.fault.SetupFault.TheVariants.{TooMany, SameName}
use Rattle.setup_choice.specs.Bounds.{most_setups, least_stage_length, greatest_stage_length}
use Rattle.setup_choice.specs.Setups.{StageWantData, OneSetupData, IsStageWant, IsOneSetup}
use Rattle.setup_choice.specs.Setups.{names_of_setups, IsSetups}
use Rattle.setup_choice.specs.SetupsFile.{at_least_one, some_tables_at, stage_want_of}
use Rattle.setup_choice.specs.SetupsFile.{stage_want_in, one_setup_of, one_setup_in, setups_from}
use Rattle.setup_choice.specs.SetupsFile.{setups_of_members}

-- there is an item among those of which there is at least one
some_items : (o : Option (List Data)) (items : List Data)
    → option_and_then at_least_one o ≡ Some items → 0 < length items
some_items o items given =
    let found = then_some o at_least_one items given in
    by_test (nat_le 1 (length found.0)) found.0 refl found.2
  where
    by_test : (b : Bool) (ds : List Data) → nat_le 1 (length ds) ≡ b
        → (if b then Some ds else None) ≡ Some items → 0 < length items
    by_test true ds passes is =
        let same : ds ≡ items = cc in
        let some : 1 ≤ length ds = leb-true 1 (length ds) passes in
        subst (λ (es : List Data). 0 < length es) same some
    by_test false ds passes is = absurd (cc)

stage_table_is : (table : ℕ) (ms : Members) (stage : StageWantData)
    → stage_want_of table ms ≡ Ok stage → IsStageWant stage
unfolding stage_want_of
stage_table_is table ms stage given =
    let punch = bind_ok (ok_or (name_at (codes "punch") ms) (BadField table 4)) _ stage given in
    let die = bind_ok (ok_or (name_at (codes "die") ms) (BadField table 5)) _ stage punch.2 in
    let at = bind_ok (ok_or (integer_at (neg_ℤ coordinate_limit) coordinate_limit (codes "at") ms)
    (BadField table 6)) _ stage die.2 in
    let long = bind_ok (ok_or (integer_at least_stage_length greatest_stage_length
    (codes "length") ms) (BadField table 7)) _ stage at.2 in
    let known = bind_ok (refuse_if (has_unknown_key (codes "punch" ∷ codes "die" ∷ codes "at"
    ∷ codes "length" ∷ []) ms) (UnknownKey table)) _ stage long.2 in
    let read : StageWantData =
    record { punch = punch.0; die = die.0; at = at.0; length = long.0 } in
    let fits : IsStageWant read = record {
      punch = checked_is_name (text_at (codes "punch") ms) punch.0 (ok_or_ok _ _ punch.0 punch.1);
      die = checked_is_name (text_at (codes "die") ms) die.0 (ok_or_ok _ _ die.0 die.1);
      at = checked_is_within (neg_ℤ coordinate_limit) coordinate_limit (whole_at (codes "at") ms)
          at.0 (ok_or_ok _ _ at.0 at.1);
      length = checked_is_within least_stage_length greatest_stage_length
          (whole_at (codes "length") ms) long.0 (ok_or_ok _ _ long.0 long.1);
    } in
    subst (λ (s : StageWantData). IsStageWant s) {x = read} (ok_same read stage known.2) fits

stage_is : (table i : ℕ) (item : Data) (stage : StageWantData)
    → stage_want_in table i item ≡ Ok stage → IsStageWant stage
unfolding stage_want_in
stage_is table i item stage given =
    let members = bind_ok (ok_or (as_table item) (BadField table 3)) _ stage given in
    stage_table_is (table + 1 + i) members.0 stage members.2

setup_table_is : (table : ℕ) (ms : Members) (one : OneSetupData)
    → one_setup_of table ms ≡ Ok one → IsOneSetup one
unfolding one_setup_of
setup_table_is table ms one given =
    let name = bind_ok (ok_or (name_at (codes "name") ms) (BadField table 2)) _ one given in
    let items = bind_ok (ok_or (some_tables_at (codes "stage") ms) (BadField table 3)) _ one
    name.2 in
    let known = bind_ok (refuse_if (has_unknown_key (codes "name" ∷ codes "stage" ∷ []) ms)
    (UnknownKey table)) _ one items.2 in
    let few = bind_ok (refuse_if (nat_lt most_stages (length items.0)) (TooMany table)) _ one
    known.2 in
    let stages = bind_ok (each_from (stage_want_in table) 0 items.0) _ one few.2 in
    let read : OneSetupData = record { name = name.0; stages = stages.0 } in
    let count = each_length (stage_want_in table) 0 items.0 stages.0 stages.1 in
    let some = some_items (tables_at (codes "stage") ms) items.0 (ok_or_ok _ _ items.0 items.1) in
    let at_most : length items.0 ≤ most_stages =
    ltb-false most_stages (length items.0) (refused_not _ (TooMany table) few.0 few.1) in
    let fits : IsOneSetup read = record {
      name = checked_is_name (text_at (codes "name") ms) name.0 (ok_or_ok _ _ name.0 name.1);
      some_stage = omega (arith, count, some);
      few_stages = omega (arith, count, at_most);
      stages = each_all (stage_want_in table) IsStageWant (stage_is table) 0 items.0 stages.0
          stages.1;
    } in
    subst (λ (s : OneSetupData). IsOneSetup s) {x = read} (ok_same read one stages.2) fits

setup_is : (table : ℕ) (item : Data) (one : OneSetupData)
    → one_setup_in table item ≡ Ok one → IsOneSetup one
unfolding one_setup_in
setup_is table item one given =
    let members = bind_ok (ok_or (as_table item) (BadField 0 1)) _ one given in
    setup_table_is table members.0 one members.2

setups_are : (table : ℕ) (items : List Data) (setups : List OneSetupData)
    → setups_from table items ≡ Ok setups → All IsOneSetup setups
unfolding setups_from
setups_are table [] setups given =
    subst (λ (ones : List OneSetupData). All IsOneSetup ones) (ok_same [] setups given)
    (All-nil IsOneSetup)
setups_are table (item ∷ items) setups given =
    let one = bind_ok (one_setup_in table item) _ setups given in
    let rest = bind_ok (setups_from (table + (1 + length one.0.stages)) items) _ setups one.2 in
    let same : one.0 ∷ rest.0 ≡ setups = ok_same (one.0 ∷ rest.0) setups rest.2 in
    subst (λ (ones : List OneSetupData). All IsOneSetup ones) {x = one.0 ∷ rest.0} same
    (All-cons IsOneSetup one.0 rest.0 (setup_is table item one.0 one.1)
    (setups_are (table + (1 + length one.0.stages)) items rest.0 rest.1))

setups_length : (table : ℕ) (items : List Data) (setups : List OneSetupData)
    → setups_from table items ≡ Ok setups → length setups ≡ length items
unfolding setups_from
setups_length table [] setups given = ap length (sym (ok_same [] setups given))
setups_length table (item ∷ items) setups given =
    let one = bind_ok (one_setup_in table item) _ setups given in
    let rest = bind_ok (setups_from (table + (1 + length one.0.stages)) items) _ setups one.2 in
    ap length (sym (ok_same (one.0 ∷ rest.0) setups rest.2))
    ∙ ap suc (setups_length (table + (1 + length one.0.stages)) items rest.0 rest.1)

pub setups_fit : (ms : Members) (setups : List OneSetupData)
    → setups_of_members ms ≡ Ok setups → IsSetups setups
unfolding setups_of_members
setups_fit ms setups given =
    let items = bind_ok (ok_or (some_tables_at (codes "setup") ms) (BadField 0 1)) _ setups
    given in
    let known = bind_ok (refuse_if (has_unknown_key (codes "setup" ∷ []) ms) (UnknownKey 0)) _
    setups items.2 in
    let few = bind_ok (refuse_if (nat_lt most_setups (length items.0)) (TooMany 0)) _ setups
    known.2 in
    let read = bind_ok (setups_from 1 items.0) _ setups few.2 in
    let distinct = bind_ok (refuse_first (is_repeat (names_of_setups read.0)) (length read.0)
    SameName) _ setups read.2 in
    let count = setups_length 1 items.0 read.0 read.1 in
    let some = some_items (tables_at (codes "setup") ms) items.0 (ok_or_ok _ _ items.0 items.1) in
    let at_most : length items.0 ≤ most_setups =
    ltb-false most_setups (length items.0) (refused_not _ (TooMany 0) few.0 few.1) in
    let none = found_not (first_below (is_repeat (names_of_setups read.0)) (length read.0))
    SameName distinct.0 distinct.1 in
    let fits : IsSetups read.0 = record {
      some_setup = omega (arith, count, some);
      few_setups = omega (arith, count, at_most);
      each = setups_are 1 items.0 read.0 read.1;
      names = AreDistinct_from_none (names_of_setups read.0) (rw length-map none);
    } in
    subst (λ (ones : List OneSetupData). IsSetups ones) {x = read.0}
    (ok_same read.0 setups distinct.2) fits
