use Rattle.std.proofs.Common.{◌≡◌, ℕ, ◌<◌, Bool, List, [], ◌∷◌, map, length, take, get_or, refl, ap, ◌∙◌}
use Rattle.std.specs.Prelude.{bytes_eq}
use Rattle.std.specs.List.{list_any}
use Rattle.std.proofs.lemmas.List.{get_or_default}
use Rattle.tool_library.specs.Names.{is_repeat}
use Rattle.tool_library.proofs.Repeats.{earlier}
use Rattle.setup_choice.specs.declared.setups.OneSetup.{OneSetup}
use Rattle.setup_choice.specs.Setups.{one_setup_data, names_of_setups}
use Rattle.setup_choice.proofs.reader.is_repeat.Goals as goal

-- the names of setups, seen or as they are
names_seen : (setups : List OneSetup) → names_of_setups (map one_setup_data setups) ≡ map (λ one. one.name.bytes) setups
names_seen [] = refl
names_seen (one ∷ setups) = ap (λ (names : List (List ℕ)). one.name.bytes ∷ names) (names_seen setups)

repeat_is : (setups : List OneSetup) (i : ℕ) (d : OneSetup) (found : Bool) → i < length setups → found ≡ list_any (λ one. bytes_eq one.name.bytes (get_or setups i d).name.bytes) (take i setups) → found ≡ is_repeat (names_of_setups (map one_setup_data setups)) i
repeat_is setups i d found within is =
    rw (names_seen setups) (is ∙ earlier (λ (one : OneSetup). one.name.bytes) setups i (get_or setups i d) (get_or setups i d).name.bytes within (get_or_default setups i d (get_or setups i d) within) refl)

pub returns : goal.returns
returns c = repeat_is c.args.setups.now c.args.i c.index-setups-i.result c.has_name.result c.requires c.has_name.ensures
