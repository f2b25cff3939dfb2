-- Rows of a base that are cut at a range, and new rows of the range between them.
use Rattle.std.proofs.Common.{◌≡◌, inl, inr, ℕ, ◌+◌, ◌<◌, ◌≤◌, Bool, true, false, [], ◌∷◌, ◌++◌, Option, Some, None, refl, sym, ◌∙◌, ap, subst, arith}
use Rattle.std.specs.Prelude.{if◌then◌else◌}
use Rattle.std.proofs.lemmas.Bool.{cases_lt}
use Rattle.std.proofs.lemmas.Option.{none-some}
use Rattle.brake_base.specs.declared.stroke.Key.{Key}
use Rattle.brake_base.specs.Keys.{is_key, KeyIsBefore}
use Rattle.cert_merge.specs.BaseRows.{HaveMasks, IsFirstFrom}
use Rattle.cert_merge.specs.Entries.{Settled, said_of, merged_at}
use Rattle.cert_merge.specs.MergeSteps.{Rows, merge_rows}
use Rattle.cert_merge.proofs.Merging.{After, Ascending, merged_ascends, merged_none, merged_said, one_list, said_first, said_later, said_none}

-- ---- masks
pub masks_kept : (P Q : ℕ → Type 0) → ((mask : ℕ) → P mask → Q mask) → (rows : Rows) → HaveMasks P rows → HaveMasks Q rows
masks_kept P Q on [] have = tt
masks_kept P Q on (row ∷ rows) have = (on row.0.mask.0 have.0, masks_kept P Q on rows have.1)

pub masks_both : (P Q : ℕ → Type 0) (rows : Rows) → HaveMasks P rows → HaveMasks Q rows → HaveMasks (λ mask. P mask × Q mask) rows
masks_both P Q [] have too = tt
masks_both P Q (row ∷ rows) have too = ((have.0, too.0), masks_both P Q rows have.1 too.1)

pub masks_split : (P : ℕ → Type 0) (xs ys : Rows) → HaveMasks P (xs ++ ys) → HaveMasks P xs × HaveMasks P ys
masks_split P [] ys have = (tt, have)
masks_split P (x ∷ xs) ys have = let more = masks_split P xs ys have.1 in ((have.0, more.0), more.1)

pub masks_push : (P : ℕ → Type 0) (rows : Rows) (row : Key × Settled) → HaveMasks P rows → P row.0.mask.0 → HaveMasks P (rows ++ row ∷ [])
masks_push P [] row have here = (here, tt)
masks_push P (x ∷ xs) row have here = (have.0, masks_push P xs row have.1 here)

mask_order : (a b : Key) → KeyIsBefore a b → a.mask.0 ≤ b.mask.0
mask_order a b (inl less) = omega (arith, less)
mask_order a b (inr later) = let same = later.0 in omega (arith, same)

after_masks : (end : ℕ) (key : Key) (rows : Rows) → end ≤ key.mask.0 → After key rows → HaveMasks (λ mask. end ≤ mask) rows
after_masks end key [] from after = tt
after_masks end key (row ∷ rows) from after =
    let order = mask_order key row.0 after.0 in
    (omega (arith, from, order), after_masks end key rows from after.1)

-- ascending rows, of which the first isn't below a number, aren't below it
pub masks_from : (end : ℕ) (rows : Rows) → Ascending rows → IsFirstFrom end rows → HaveMasks (λ mask. end ≤ mask) rows
masks_from end [] up first = tt
masks_from end (row ∷ rows) up first = (first, after_masks end row.0 rows first up.0)

-- ---- rows behind others
after_split : (key : Key) (xs ys : Rows) → After key (xs ++ ys) → After key xs × After key ys
after_split key [] ys after = (tt, after)
after_split key (x ∷ xs) ys after = let more = after_split key xs ys after.1 in ((after.0, more.0), more.1)

after_both : (key : Key) (xs ys : Rows) → After key xs → After key ys → After key (xs ++ ys)
after_both key [] ys after too = too
after_both key (x ∷ xs) ys after too = (after.0, after_both key xs ys after.1 too)

pub ascending_split : (xs ys : Rows) → Ascending (xs ++ ys) → Ascending xs × Ascending ys
ascending_split [] ys up = (tt, up)
ascending_split (x ∷ xs) ys up =
    let more = ascending_split xs ys up.1 in
    (((after_split x.0 xs ys up.0).0, more.0), more.1)

after_greater : (mid : ℕ) (key : Key) (rows : Rows) → key.mask.0 < mid → HaveMasks (λ mask. mid ≤ mask) rows → After key rows
after_greater mid key [] less have = tt
after_greater mid key (row ∷ rows) less have = let from = have.0 in (inl (omega (arith, less, from)), after_greater mid key rows less have.1)

-- ascending rows behind ascending rows of lesser masks
ascending_both : (mid : ℕ) (xs ys : Rows) → Ascending xs → Ascending ys → HaveMasks (λ mask. mask < mid) xs → HaveMasks (λ mask. mid ≤ mask) ys → Ascending (xs ++ ys)
ascending_both mid [] ys up on lesser greater = on
ascending_both mid (x ∷ xs) ys up on lesser greater = (after_both x.0 xs ys up.0 (after_greater mid x.0 ys lesser.0 greater), ascending_both mid xs ys up.1 on lesser.1 greater)

-- ---- what is said of a key
-- the first of two, where there is one
abbrev or_else : Option Settled → Option Settled → Option Settled
or_else None b = b
or_else (Some a) b = Some a

said_append : (key : Key) (xs ys : Rows) → said_of key (xs ++ ys) ≡ or_else (said_of key xs) (said_of key ys)
said_append key [] ys = refl
said_append key (x ∷ xs) ys = by_test (is_key x.0 key) (said_append key xs ys)
  where
    by_test : (b : Bool) → said_of key (xs ++ ys) ≡ or_else (said_of key xs) (said_of key ys) → (if b then Some x.1 else said_of key (xs ++ ys)) ≡ or_else (if b then Some x.1 else said_of key xs) (said_of key ys)
    by_test true more = refl
    by_test false more = more

-- nothing is said of a key by rows of other masks
none_said : (P : ℕ → Type 0) (key : Key) (rows : Rows) → HaveMasks P rows → (P key.mask.0 → ⊥) → said_of key rows ≡ None
none_said P key [] have never = refl
none_said P key (row ∷ rows) have never = said_later key row rows (λ same. never (subst (λ (k : Key). P k.mask.0) same have.0)) ∙ none_said P key rows have.1 never

or_none : (a : Option Settled) → or_else a None ≡ a
or_none None = refl
or_none (Some a) = refl

-- ascending rows, whose keys of which something is said have such masks
pub masks_said : (P : ℕ → Type 0) (rows : Rows) → Ascending rows → ((key : Key) (said : Settled) → said_of key rows ≡ Some said → P key.mask.0) → HaveMasks P rows
masks_said P [] up have = tt
masks_said P (row ∷ rows) up have = (have row.0 row.1 (said_first row.0 row rows refl), masks_said P rows up.1 (λ key said e. have key said (said_later key row rows (other key said e) ∙ e)))
  where
    other : (key : Key) (said : Settled) → said_of key rows ≡ Some said → row.0 ≡ key → ⊥
    other key said e same = none-some said (sym (said_none key rows (subst (λ (k : Key). After k rows) same up.0)) ∙ e)

module _ (low high : ℕ) (first among last new : Rows)
    (lesser : HaveMasks (λ mask. mask < low) first) (within : HaveMasks (λ mask. (low ≤ mask) × (mask ≤ high)) among) (greater : HaveMasks (λ mask. high < mask) last)
    (of_range : HaveMasks (λ mask. (low ≤ mask) × (mask ≤ high)) new)
    (stays : (key : Key) → low ≤ key.mask.0 → key.mask.0 ≤ high → merged_at (said_of key (first ++ (among ++ last))) (said_of key new) ≡ said_of key new) where
  -- in parts
  abbrev IsSaidSo : Key → Option Settled → Option Settled → Option Settled → Option Settled → Type 0
  IsSaidSo key f a l n = or_else f (or_else n l) ≡ merged_at (or_else f (or_else a l)) n

  whole_said : (key : Key) → said_of key (first ++ (among ++ last)) ≡ or_else (said_of key first) (or_else (said_of key among) (said_of key last))
  whole_said key = said_append key first (among ++ last) ∙ ap (or_else (said_of key first)) (said_append key among last)

  -- of a key that isn't of the range
  outside : (key : Key) → ((low ≤ key.mask.0) × (key.mask.0 ≤ high) → ⊥) → IsSaidSo key (said_of key first) (said_of key among) (said_of key last) (said_of key new)
  outside key out =
      let a = none_said (λ mask. (low ≤ mask) × (mask ≤ high)) key among within out in
      let n = none_said (λ mask. (low ≤ mask) × (mask ≤ high)) key new of_range out in
      subst (λ (o : Option Settled). IsSaidSo key (said_of key first) o (said_of key last) (said_of key new)) (sym a)
      (subst (λ (o : Option Settled). IsSaidSo key (said_of key first) None (said_of key last) o) (sym n) (sym (merged_none (or_else (said_of key first) (said_of key last)))))

  inside : (key : Key) → low ≤ key.mask.0 → key.mask.0 ≤ high → IsSaidSo key (said_of key first) (said_of key among) (said_of key last) (said_of key new)
  inside key from upto =
      let f = none_said (λ mask. mask < low) key first lesser (λ less. omega (arith, less, from)) in
      let l = none_said (λ mask. high < mask) key last greater (λ more. omega (arith, more, upto)) in
      (λ i. or_else (f i) (or_else (said_of key new) (l i)))
      ∙ (or_none (said_of key new)
      ∙ (sym (stays key from upto) ∙ ap (λ (o : Option Settled). merged_at o (said_of key new)) (whole_said key)))

  by_range : (key : Key) → IsSaidSo key (said_of key first) (said_of key among) (said_of key last) (said_of key new)
  by_range key = elim (cases_lt key.mask.0 low) [
    | inl early ↦ outside key (λ at. let from = at.0 in omega (arith, early, from))
    | inr from ↦ elim (cases_lt high key.mask.0) [
      | inl late ↦ outside key (λ at. let upto = at.1 in omega (arith, late, upto))
      | inr upto ↦ inside key from upto
    ]
  ]

  said_so : (key : Key) → said_of key (first ++ (new ++ last)) ≡ merged_at (said_of key (first ++ (among ++ last))) (said_of key new)
  said_so key =
      said_append key first (new ++ last)
      ∙ (ap (or_else (said_of key first)) (said_append key new last)
      ∙ (by_range key ∙ ap (λ (o : Option Settled). merged_at o (said_of key new)) (sym (whole_said key))))

  -- the merge of the base's rows and the new ones
  pub cut_merged : (low ≤ high) → Ascending (first ++ (among ++ last)) → Ascending new → merge_rows (first ++ (among ++ last)) new ≡ first ++ (new ++ last)
  cut_merged order up on =
      let parts = ascending_split first (among ++ last) up in
      let rest = ascending_split among last parts.1 in
      let behind = ascending_both (high + 1) new last on rest.1 (masks_kept (λ mask. (low ≤ mask) × (mask ≤ high)) (λ mask. mask < high + 1) (λ mask at. let upto = at.1 in omega (arith, upto)) new of_range) (masks_kept (λ mask. high < mask) (λ mask. high + 1 ≤ mask) (λ mask more. omega (arith, more)) last greater) in
      let all = ascending_both low first (new ++ last) parts.0 behind lesser (masks_append (λ mask. low ≤ mask) new last (masks_kept (λ mask. (low ≤ mask) × (mask ≤ high)) (λ mask. low ≤ mask) (λ mask at. at.0) new of_range) (masks_kept (λ mask. high < mask) (λ mask. low ≤ mask) (λ mask more. omega (arith, more, order)) last greater)) in
      sym (one_list (first ++ (new ++ last)) (merge_rows (first ++ (among ++ last)) new) all (merged_ascends (first ++ (among ++ last)) new up on)
      (λ key. said_so key ∙ sym (merged_said key (first ++ (among ++ last)) new up on)))
    where
      masks_append : (P : ℕ → Type 0) (xs ys : Rows) → HaveMasks P xs → HaveMasks P ys → HaveMasks P (xs ++ ys)
      masks_append P [] ys have too = too
      masks_append P (x ∷ xs) ys have too = (have.0, masks_append P xs ys have.1 too)
