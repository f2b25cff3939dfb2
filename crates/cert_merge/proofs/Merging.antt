-- Rows in strict order of their keys: what they say of each key makes them up, and two such lists
-- are merged key by key.
use Rattle.std.proofs.Common.{◌≡◌, inl, inr, Bool, true, false, [], ◌∷◌, Option, Some, None, refl, sym, ◌∙◌, ap, subst}
use Rattle.std.specs.Prelude.{◌⊎◌, if◌then◌else◌}
use Rattle.std.proofs.lemmas.Bool.{false_from_ne_true, false≢true}
use Rattle.std.proofs.lemmas.Option.{same_Some}
use Rattle.brake_base.specs.declared.stroke.Key.{Key}
use Rattle.brake_base.specs.Keys.{is_key, key_numbers, KeyIsBefore}
use Rattle.brake_base.proofs.Keys.{key_is, key_is_itself}
use Rattle.cert_merge.specs.Entries.{Settled, said_of, joined, merged_at}
use Rattle.cert_merge.specs.MergeSteps.{Rows, key_before, merge_rows}
use Rattle.cert_merge.proofs.Orders.{told, tested, never, later, key_either}

-- the rows are of later keys
abbrev pub After : Key → Rows → Type 0
After key [] = Unit {0}
After key (row ∷ rows) = KeyIsBefore key row.0 × After key rows

-- the keys ascend
abbrev pub Ascending : Rows → Type 0
Ascending [] = Unit {0}
Ascending (row ∷ rows) = After row.0 rows × Ascending rows

-- each row is so
abbrev pub Each : (Key → Settled → Type 0) → Rows → Type 0
Each P [] = Unit {0}
Each P (row ∷ rows) = P row.0 row.1 × Each P rows

pub key_through : (a b c : Key) → KeyIsBefore a b → KeyIsBefore b c → KeyIsBefore a c
key_through a b c first second = later (key_numbers a) (key_numbers b) (key_numbers c) first second

pub key_never : (a b : Key) → a ≡ b → KeyIsBefore a b → ⊥
key_never a b same before = never (key_numbers a) (subst (KeyIsBefore a) (sym same) before)

-- keys of which neither is before the other are one
pub key_one : (a b : Key) → key_before a b ≡ false → key_before b a ≡ false → a ≡ b
key_one a b e f = elim (key_either a b) [
  | inl less ↦ absurd (false≢true (sym e ∙ tested (key_numbers a) (key_numbers b) less))
  | inr (inl same) ↦ same
  | inr (inr more) ↦ absurd (false≢true (sym f ∙ tested (key_numbers b) (key_numbers a) more))
]

pub after_through : (a b : Key) (rows : Rows) → KeyIsBefore a b → After b rows → After a rows
after_through a b [] before after = tt
after_through a b (row ∷ rows) before after = (key_through a b row.0 before after.0, after_through a b rows before after.1)

-- the test of a key
pub is_other : (a b : Key) → (a ≡ b → ⊥) → is_key a b ≡ false
is_other a b other = false_from_ne_true (is_key a b) (λ e. other (key_is a b e))

pub said_first : (key : Key) (row : Key × Settled) (rows : Rows) → row.0 ≡ key → said_of key (row ∷ rows) ≡ Some row.1
said_first key row rows same =
    let e : is_key row.0 key ≡ true = subst (λ (k : Key). is_key row.0 k ≡ true) same (key_is_itself row.0) in
    ap (λ (b : Bool). if b then Some row.1 else said_of key rows) e

pub said_later : (key : Key) (row : Key × Settled) (rows : Rows) → (row.0 ≡ key → ⊥) → said_of key (row ∷ rows) ≡ said_of key rows
said_later key row rows other = ap (λ (b : Bool). if b then Some row.1 else said_of key rows) (is_other row.0 key other)

-- nothing is said of a key that is before all
pub said_none : (key : Key) (rows : Rows) → After key rows → said_of key rows ≡ None
said_none key [] after = refl
said_none key (row ∷ rows) after = said_later key row rows (λ same. key_never key row.0 (sym same) after.0) ∙ said_none key rows after.1

pub merged_none : (a : Option Settled) → merged_at a None ≡ a
merged_none None = refl
merged_none (Some a) = refl

none_of : (a b : Option Settled) → a ≡ None → merged_at a b ≡ b
none_of a b e = ap (λ (x : Option Settled). merged_at x b) e

-- what is said of a key by two lists is said by their merge
pub merged_said : (key : Key) (xs ys : Rows) → Ascending xs → Ascending ys → said_of key (merge_rows xs ys) ≡ merged_at (said_of key xs) (said_of key ys)
merged_said key [] ys up on = refl
merged_said key (x ∷ xs) [] up on = sym (merged_none (said_of key (x ∷ xs)))
merged_said key (x ∷ xs) (y ∷ ys) up on =
    by_tests (key_before x.0 y.0) (key_before y.0 x.0) refl refl (merged_said key xs (y ∷ ys) up.1 on) (merged_said key (x ∷ xs) ys up on.1) (merged_said key xs ys up.1 on.1)
  where
    first_is : (b : Bool) → is_key x.0 key ≡ b → KeyIsBefore x.0 y.0 → said_of key (merge_rows xs (y ∷ ys)) ≡ merged_at (said_of key xs) (said_of key (y ∷ ys)) → (if b then Some x.1 else said_of key (merge_rows xs (y ∷ ys))) ≡ merged_at (said_of key (x ∷ xs)) (said_of key (y ∷ ys))
    first_is true e before more =
        let same = key_is x.0 key e in
        let none : said_of key (y ∷ ys) ≡ None = said_none key (y ∷ ys) (subst (λ (k : Key). After k (y ∷ ys)) same (before, after_through x.0 y.0 ys before on.0)) in
        sym (ap (λ (o : Option Settled). merged_at o (said_of key (y ∷ ys))) (said_first key x xs same) ∙ ap (λ (o : Option Settled). merged_at (Some x.1) o) none)
    first_is false e before more =
        more ∙ ap (λ (b : Bool). merged_at (if b then Some x.1 else said_of key xs) (said_of key (y ∷ ys))) (sym e)

    second_is : (b : Bool) → is_key y.0 key ≡ b → KeyIsBefore y.0 x.0 → said_of key (merge_rows (x ∷ xs) ys) ≡ merged_at (said_of key (x ∷ xs)) (said_of key ys) → (if b then Some y.1 else said_of key (merge_rows (x ∷ xs) ys)) ≡ merged_at (said_of key (x ∷ xs)) (said_of key (y ∷ ys))
    second_is true e before more =
        let same = key_is y.0 key e in
        let none : said_of key (x ∷ xs) ≡ None = said_none key (x ∷ xs) (subst (λ (k : Key). After k (x ∷ xs)) same (before, after_through y.0 x.0 xs before up.0)) in
        sym (none_of (said_of key (x ∷ xs)) (said_of key (y ∷ ys)) none ∙ said_first key y ys same)
    second_is false e before more =
        more ∙ ap (λ (b : Bool). merged_at (said_of key (x ∷ xs)) (if b then Some y.1 else said_of key ys)) (sym e)

    both_are : (b : Bool) → is_key x.0 key ≡ b → x.0 ≡ y.0 → said_of key (merge_rows xs ys) ≡ merged_at (said_of key xs) (said_of key ys) → (if b then Some (joined x.1 y.1) else said_of key (merge_rows xs ys)) ≡ merged_at (said_of key (x ∷ xs)) (said_of key (y ∷ ys))
    both_are true e one more =
        let same = key_is x.0 key e in
        sym (ap (λ (o : Option Settled). merged_at o (said_of key (y ∷ ys))) (said_first key x xs same) ∙ ap (λ (o : Option Settled). merged_at (Some x.1) o) (said_first key y ys (sym one ∙ same)))
    both_are false e one more =
        let other : is_key y.0 key ≡ false = subst (λ (k : Key). is_key k key ≡ false) one e in
        more ∙ (ap (λ (b : Bool). merged_at (if b then Some x.1 else said_of key xs) (said_of key ys)) (sym e)
        ∙ ap (λ (b : Bool). merged_at (said_of key (x ∷ xs)) (if b then Some y.1 else said_of key ys)) (sym other))

    by_tests : (s t : Bool) → key_before x.0 y.0 ≡ s → key_before y.0 x.0 ≡ t
        → said_of key (merge_rows xs (y ∷ ys)) ≡ merged_at (said_of key xs) (said_of key (y ∷ ys))
        → said_of key (merge_rows (x ∷ xs) ys) ≡ merged_at (said_of key (x ∷ xs)) (said_of key ys)
        → said_of key (merge_rows xs ys) ≡ merged_at (said_of key xs) (said_of key ys)
        → said_of key (if s then x ∷ merge_rows xs (y ∷ ys) else if t then y ∷ merge_rows (x ∷ xs) ys else (x.0, joined x.1 y.1) ∷ merge_rows xs ys) ≡ merged_at (said_of key (x ∷ xs)) (said_of key (y ∷ ys))
    by_tests true t e f one two three = first_is (is_key x.0 key) refl (told (key_numbers x.0) (key_numbers y.0) e) one
    by_tests false true e f one two three = second_is (is_key y.0 key) refl (told (key_numbers y.0) (key_numbers x.0) f) two
    by_tests false false e f one two three = both_are (is_key x.0 key) refl (key_one x.0 y.0 e f) three

-- the merge of ascending lists ascends
merged_after : (key : Key) (xs ys : Rows) → After key xs → After key ys → After key (merge_rows xs ys)
merged_after key [] ys after too = too
merged_after key (x ∷ xs) [] after too = after
merged_after key (x ∷ xs) (y ∷ ys) after too =
    by_tests (key_before x.0 y.0) (key_before y.0 x.0) (merged_after key xs (y ∷ ys) after.1 too) (merged_after key (x ∷ xs) ys after too.1) (merged_after key xs ys after.1 too.1)
  where
    by_tests : (s t : Bool) → After key (merge_rows xs (y ∷ ys)) → After key (merge_rows (x ∷ xs) ys) → After key (merge_rows xs ys)
        → After key (if s then x ∷ merge_rows xs (y ∷ ys) else if t then y ∷ merge_rows (x ∷ xs) ys else (x.0, joined x.1 y.1) ∷ merge_rows xs ys)
    by_tests true t one two three = (after.0, one)
    by_tests false true one two three = (too.0, two)
    by_tests false false one two three = (after.0, three)

pub merged_ascends : (xs ys : Rows) → Ascending xs → Ascending ys → Ascending (merge_rows xs ys)
merged_ascends [] ys up on = on
merged_ascends (x ∷ xs) [] up on = up
merged_ascends (x ∷ xs) (y ∷ ys) up on =
    by_tests (key_before x.0 y.0) (key_before y.0 x.0) refl refl (merged_ascends xs (y ∷ ys) up.1 on) (merged_ascends (x ∷ xs) ys up on.1) (merged_ascends xs ys up.1 on.1)
  where
    by_tests : (s t : Bool) → key_before x.0 y.0 ≡ s → key_before y.0 x.0 ≡ t → Ascending (merge_rows xs (y ∷ ys)) → Ascending (merge_rows (x ∷ xs) ys) → Ascending (merge_rows xs ys)
        → Ascending (if s then x ∷ merge_rows xs (y ∷ ys) else if t then y ∷ merge_rows (x ∷ xs) ys else (x.0, joined x.1 y.1) ∷ merge_rows xs ys)
    by_tests true t e f one two three =
        let before = told (key_numbers x.0) (key_numbers y.0) e in
        (merged_after x.0 xs (y ∷ ys) up.0 (before, after_through x.0 y.0 ys before on.0), one)
    by_tests false true e f one two three =
        let before = told (key_numbers y.0) (key_numbers x.0) f in
        (merged_after y.0 (x ∷ xs) ys (before, after_through y.0 x.0 xs before up.0) on.0, two)
    by_tests false false e f one two three =
        (merged_after x.0 xs ys up.0 (subst (λ (k : Key). After k ys) (sym (key_one x.0 y.0 e f)) on.0), three)

-- what holds of each row, and of what is joined of two, holds of each row of the merge
pub merged_each : (P : Key → Settled → Type 0) → ((key : Key) (a b : Settled) → P key a → P key b → P key (joined a b)) → (xs ys : Rows) → Each P xs → Each P ys → Each P (merge_rows xs ys)
merged_each P join [] ys each too = too
merged_each P join (x ∷ xs) [] each too = each
merged_each P join (x ∷ xs) (y ∷ ys) each too =
    by_tests (key_before x.0 y.0) (key_before y.0 x.0) refl refl (merged_each P join xs (y ∷ ys) each.1 too) (merged_each P join (x ∷ xs) ys each too.1) (merged_each P join xs ys each.1 too.1)
  where
    by_tests : (s t : Bool) → key_before x.0 y.0 ≡ s → key_before y.0 x.0 ≡ t → Each P (merge_rows xs (y ∷ ys)) → Each P (merge_rows (x ∷ xs) ys) → Each P (merge_rows xs ys)
        → Each P (if s then x ∷ merge_rows xs (y ∷ ys) else if t then y ∷ merge_rows (x ∷ xs) ys else (x.0, joined x.1 y.1) ∷ merge_rows xs ys)
    by_tests true t e f one two three = (each.0, one)
    by_tests false true e f one two three = (too.0, two)
    by_tests false false e f one two three = (join x.0 x.1 y.1 each.0 (subst (λ (k : Key). P k y.1) (sym (key_one x.0 y.0 e f)) too.0), three)

-- ascending rows that say the same of each key are the same
pub one_list : (xs ys : Rows) → Ascending xs → Ascending ys → ((key : Key) → said_of key xs ≡ said_of key ys) → xs ≡ ys
one_list [] [] up on same = refl
one_list [] (y ∷ ys) up on same = let e = same y.0 ∙ said_first y.0 y ys refl in absurd (cc)
one_list (x ∷ xs) [] up on same = let e = sym (same x.0) ∙ said_first x.0 x xs refl in absurd (cc)
one_list (x ∷ xs) (y ∷ ys) up on same = by_order (key_either x.0 y.0) (λ others. one_list xs ys up.1 on.1 others)
  where
    none_some : (a b : Option Settled) (s : Settled) → a ≡ b → a ≡ Some s → b ≡ None → ⊥
    none_some a b s e f g = absurd (cc)

    tails : x.0 ≡ y.0 → (key : Key) → said_of key xs ≡ said_of key ys
    tails one key = by_key (is_key x.0 key) refl
      where
        by_key : (b : Bool) → is_key x.0 key ≡ b → said_of key xs ≡ said_of key ys
        by_key true e =
            let here = key_is x.0 key e in
            said_none key xs (subst (λ (k : Key). After k xs) here up.0) ∙ sym (said_none key ys (subst (λ (k : Key). After k ys) (sym one ∙ here) on.0))
        by_key false e =
            let other : x.0 ≡ key → ⊥ = λ is. false≢true (sym e ∙ subst (λ (k : Key). is_key x.0 k ≡ true) is (key_is_itself x.0)) in
            sym (said_later key x xs other) ∙ (same key ∙ said_later key y ys (λ is. other (one ∙ is)))

    by_order : KeyIsBefore x.0 y.0 ⊎ ((x.0 ≡ y.0) ⊎ KeyIsBefore y.0 x.0) → (((key : Key) → said_of key xs ≡ said_of key ys) → xs ≡ ys) → (x ∷ xs) ≡ (y ∷ ys)
    by_order (inl before) rest = absurd (none_some (said_of x.0 (x ∷ xs)) (said_of x.0 (y ∷ ys)) x.1 (same x.0) (said_first x.0 x xs refl) (said_none x.0 (y ∷ ys) (before, after_through x.0 y.0 ys before on.0)))
    by_order (inr (inl one)) rest =
        let says : x.1 ≡ y.1 = same_Some x.1 y.1 (sym (said_first x.0 x xs refl) ∙ (same x.0 ∙ said_first x.0 y ys (sym one))) in
        λ i. (one i, says i) ∷ rest (tails one) i
    by_order (inr (inr before)) rest = absurd (none_some (said_of y.0 (y ∷ ys)) (said_of y.0 (x ∷ xs)) y.1 (sym (same y.0)) (said_first y.0 y ys refl) (said_none y.0 (x ∷ xs) (before, after_through y.0 x.0 xs before up.0)))
