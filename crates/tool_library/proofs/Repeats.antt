-- Names that an earlier index has.
use Rattle.std.proofs.Common.{◌≡◌, ℕ, ◌<◌, Bool, true, List, [], ◌∷◌, length, get_or, take, map, None, refl, sym, ap, ◌∙◌, arith, ◌||◌}
use Rattle.std.specs.Prelude.{bytes_eq}
use Rattle.std.specs.List.{list_any}
use Rattle.std.proofs.lemmas.Bool.{false≢true}
use Rattle.std.proofs.lemmas.List.{take-map, get_or-map, get_or-take, get_or_default, length-take-le}
use Rattle.std.proofs.lemmas.List.Folds.{list_any_at}
use Rattle.std.proofs.lemmas.Slice.Eq.{bytes_eq-Decides}
use Rattle.toml_fields.specs.Results.{first_below}
use Rattle.toml_fields.proofs.Firsts.{none_below}
use Rattle.tool_library.specs.declared.tools.Punch.{Punch}
use Rattle.tool_library.specs.declared.tools.Die.{Die}
use Rattle.tool_library.specs.Tools.{punch_data, die_data}
use Rattle.tool_library.specs.Names.{is_repeat, AreDistinct}

list_any-map : {A B : Type 0} (test : B → Bool) (f : A → B) (xs : List A) → list_any test (map f xs) ≡ list_any (λ x. test (f x)) xs
list_any-map test f [] = refl
list_any-map test f (x ∷ xs) = ap (λ (b : Bool). test (f x) || b) (list_any-map test f xs)

-- the names before an index, looked at in the tools
pub earlier : {A : Type 0} (name_of : A → List ℕ) (tools : List A) (i : ℕ) (tool : A) (name : List ℕ) → i < length tools → tool ≡ get_or tools i tool → name ≡ name_of tool
    → list_any (λ other. bytes_eq (name_of other) name) (take i tools) ≡ is_repeat (map name_of tools) i
earlier name_of tools i tool name within here named =
    let same : name ≡ get_or (map name_of tools) i [] = named ∙ ap name_of here ∙ sym (get_or-map name_of tools i tool [] within) in
    rw (take-map name_of i tools, ← same) (sym (list_any-map (λ other. bytes_eq other name) name_of (take i tools)))

-- where none is a repeat, no two names are the same
pub AreDistinct_from_none : (names : List (List ℕ)) → first_below (is_repeat names) (length names) ≡ None → AreDistinct names
AreDistinct_from_none names none i j d before within same =
    let here : get_or (take j names) i [] ≡ get_or names j [] = get_or-take j names i [] before ∙ get_or_default names i [] d (omega arith) ∙ same ∙ get_or_default names j d [] within in
    let room : i < length (take j names) = rw (length-take-le j names (omega arith)) before in
    let repeated : is_repeat names j ≡ true = list_any_at (λ other. bytes_eq other (get_or names j [])) (take j names) i [] room ((bytes_eq-Decides (get_or (take j names) i []) (get_or names j [])).1 here) in
    false≢true (sym (none_below (is_repeat names) (length names) none j within) ∙ repeated)

-- the names of tools, seen or as they are
pub punch_names : (punches : List Punch) → map (λ p. p.name) (map punch_data punches) ≡ map (λ p. p.name.bytes) punches
punch_names [] = refl
punch_names (p ∷ punches) = ap (λ (names : List (List ℕ)). p.name.bytes ∷ names) (punch_names punches)

pub die_names : (dies : List Die) → map (λ d. d.name) (map die_data dies) ≡ map (λ d. d.name.bytes) dies
die_names [] = refl
die_names (d ∷ dies) = ap (λ (names : List (List ℕ)). d.name.bytes ∷ names) (die_names dies)
