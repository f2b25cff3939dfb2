-- The first row of a merge.
use Rattle.std.proofs.Common.{◌≡◌, Bool, true, false, [], ◌∷◌, Option, Some, None, refl, sym, ap}
use Rattle.std.specs.Prelude.{if◌then◌else◌}
use Rattle.brake_base.specs.declared.stroke.Key.{Key}
use Rattle.cert_merge.specs.declared.merged.Next.TheVariants.{First, Second, Both}
use Rattle.cert_merge.specs.Entries.{Settled, joined}
use Rattle.cert_merge.specs.MergeSteps.{Rows, key_before, next_of, merge_rows}
use Rattle.cert_merge.proofs.Merging.{key_one}

-- the key of the first row
abbrev pub first_key : Rows → Option Key
first_key [] = None
first_key (row ∷ rows) = Some row.0

not_first : Second ≡ First → ⊥
not_first e = absurd (cc)

not_second : First ≡ Second → ⊥
not_second e = absurd (cc)

not_both_second : Second ≡ Both → ⊥
not_both_second e = absurd (cc)

not_both_first : First ≡ Both → ⊥
not_both_first e = absurd (cc)

both_not_first : Both ≡ First → ⊥
both_not_first e = absurd (cc)

both_not_second : Both ≡ Second → ⊥
both_not_second e = absurd (cc)

merge_none : (xs : Rows) → merge_rows xs [] ≡ xs
merge_none [] = refl
merge_none (x ∷ xs) = refl

-- the first row of the merge
pub takes_first : (x : Key × Settled) (xs ys : Rows) → next_of (Some x.0) (first_key ys) ≡ First → merge_rows (x ∷ xs) ys ≡ x ∷ merge_rows xs ys
takes_first x xs [] e = ap (λ (rows : Rows). x ∷ rows) (sym (merge_none xs))
takes_first x xs (y ∷ ys) e = by_tests (key_before x.0 y.0) (key_before y.0 x.0) e
  where
    by_tests : (s t : Bool) → (if s then First else if t then Second else Both) ≡ First
        → (if s then x ∷ merge_rows xs (y ∷ ys) else if t then y ∷ merge_rows (x ∷ xs) ys else (x.0, joined x.1 y.1) ∷ merge_rows xs ys) ≡ x ∷ merge_rows xs (y ∷ ys)
    by_tests true t e = refl
    by_tests false true e = absurd (not_first e)
    by_tests false false e = absurd (both_not_first e)

pub takes_second : (y : Key × Settled) (xs ys : Rows) → next_of (first_key xs) (Some y.0) ≡ Second → merge_rows xs (y ∷ ys) ≡ y ∷ merge_rows xs ys
takes_second y [] ys e = refl
takes_second y (x ∷ xs) ys e = by_tests (key_before x.0 y.0) (key_before y.0 x.0) e
  where
    by_tests : (s t : Bool) → (if s then First else if t then Second else Both) ≡ Second
        → (if s then x ∷ merge_rows xs (y ∷ ys) else if t then y ∷ merge_rows (x ∷ xs) ys else (x.0, joined x.1 y.1) ∷ merge_rows xs ys) ≡ y ∷ merge_rows (x ∷ xs) ys
    by_tests true t e = absurd (not_second e)
    by_tests false true e = refl
    by_tests false false e = absurd (both_not_second e)

pub takes_both : (x y : Key × Settled) (xs ys : Rows) → next_of (Some x.0) (Some y.0) ≡ Both → (merge_rows (x ∷ xs) (y ∷ ys) ≡ (x.0, joined x.1 y.1) ∷ merge_rows xs ys) × (x.0 ≡ y.0)
takes_both x y xs ys e = by_tests (key_before x.0 y.0) (key_before y.0 x.0) refl refl e
  where
    by_tests : (s t : Bool) → key_before x.0 y.0 ≡ s → key_before y.0 x.0 ≡ t → (if s then First else if t then Second else Both) ≡ Both
        → ((if s then x ∷ merge_rows xs (y ∷ ys) else if t then y ∷ merge_rows (x ∷ xs) ys else (x.0, joined x.1 y.1) ∷ merge_rows xs ys) ≡ (x.0, joined x.1 y.1) ∷ merge_rows xs ys) × (x.0 ≡ y.0)
    by_tests true t f g e = absurd (not_both_first e)
    by_tests false true f g e = absurd (not_both_second e)
    by_tests false false f g e = (refl, key_one x.0 y.0 f g)
