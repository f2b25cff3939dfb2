-- Setups that are read in turn, each from the table of its number, by a loop that keeps what it has
-- read in front of what is left.
use Rattle.std.proofs.Common.{◌≡◌, ℕ, suc, ◌+◌, ◌<◌, ◌≤◌, List, [], ◌∷◌, ◌++◌, map, length, get_or}
use Rattle.std.proofs.Common.{drop, Result, Ok, Err, refl, sym, ap, ◌∙◌, append_assoc, add-one}
use Rattle.std.proofs.Common.{drop-cons}
use Rattle.std.proofs.lemmas.List.{append-nil, drop_all}
use Rattle.toml.specs.declared.value.Value.{Value}
use Rattle.toml.specs.View.{view}
use Rattle.toml_fields.specs.Results.{◌>>=◌}
use Rattle.toml_fields.proofs.Each.{with_front}
use Rattle.setup_choice.specs.declared.fault.SetupFault.{SetupFault}
use Rattle.setup_choice.specs.Setups.{OneSetupData}
use Rattle.setup_choice.specs.SetupsFile.{one_setup_in, setups_from}

-- the items from an index on
items_from : (xs : List Value) (x : Value) (i : ℕ) → i < length xs → x ≡ get_or xs i x
    → map view (drop i xs) ≡ view x ∷ map view (drop (i + 1) xs)
items_from xs x i lt here =
    rw (add-one, drop-cons xs i x lt)
    (ap (λ (y : Value). view y ∷ map view (drop (suc i) xs)) (sym here))

regroup : {B E : Type 0} (front : List B) (y : B) (rest : Result (List B) E)
    → with_front front (rest >>= λ ys. Ok (y ∷ ys)) ≡ with_front (front ++ y ∷ []) rest
regroup {B = B} front y (Ok ys) =
    ap (λ (zs : List B). Ok zs) (sym (append_assoc front (y ∷ []) ys))
regroup front y (Err e) = refl

-- one more setup is read
pub goes_on : (xs : List Value) (x : Value) (i n m : ℕ) (front : List OneSetupData)
    (y : OneSetupData) (whole : Result (List OneSetupData) SetupFault) → i < length xs
    → x ≡ get_or xs i x → one_setup_in n (view x) ≡ Ok y → m ≡ n + (1 + length y.stages)
    → with_front front (setups_from n (map view (drop i xs))) ≡ whole
    → with_front (front ++ y ∷ []) (setups_from m (map view (drop (i + 1) xs))) ≡ whole
unfolding setups_from
goes_on xs x i n m front y whole lt here reads next so_far =
    let rest = setups_from (n + (1 + length y.stages)) (map view (drop (i + 1) xs)) in
    let one : with_front front (setups_from n (map view (drop i xs)))
    ≡ with_front (front ++ y ∷ []) rest =
    rw (items_from xs x i lt here, reads) (regroup front y rest) in
    ap (λ (k : ℕ). with_front (front ++ y ∷ []) (setups_from k (map view (drop (i + 1) xs)))) next
    ∙ sym one ∙ so_far

-- a setup is refused
pub stops : (xs : List Value) (x : Value) (i n : ℕ) (front : List OneSetupData) (e : SetupFault)
    (whole : Result (List OneSetupData) SetupFault) → i < length xs → x ≡ get_or xs i x
    → one_setup_in n (view x) ≡ Err e
    → with_front front (setups_from n (map view (drop i xs))) ≡ whole → whole ≡ Err e
unfolding setups_from
stops xs x i n front e whole lt here reads so_far =
    let one : with_front front (setups_from n (map view (drop i xs))) ≡ Err e =
    rw (items_from xs x i lt here, reads) refl in
    sym so_far ∙ one

-- all setups are read
pub is_done : (xs : List Value) (i n : ℕ) (front : List OneSetupData)
    (whole : Result (List OneSetupData) SetupFault) → length xs ≤ i
    → with_front front (setups_from n (map view (drop i xs))) ≡ whole → whole ≡ Ok front
unfolding setups_from
is_done xs i n front whole past so_far =
    let one : with_front front (setups_from n (map view (drop i xs))) ≡ Ok front =
    rw (drop_all i xs past) (ap (λ (ys : List OneSetupData). Ok ys) (append-nil front)) in
    sym so_far ∙ one
