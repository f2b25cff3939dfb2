-- What two tables say of a key together: in any order, in any grouping, and once.
use Rattle.std.proofs.Common.{◌≡◌, inl, inr, Bool, true, false, Option, Some, None, refl, sym, ◌∙◌, ap}
use Rattle.std.specs.Prelude.{if◌then◌else◌}
use Rattle.std.proofs.lemmas.Bool.{false_from_ne_true, false≢true, leb-true, le-leb}
use Rattle.brake_base.specs.declared.stroke.Worth.{Worth}
use Rattle.brake_base.specs.declared.stroke.Worth.TheVariants.{Cost, Blocked}
use Rattle.brake_base.specs.declared.reason.Reason.{Reason}
use Rattle.brake_base.specs.Reasons.{reason_place}
use Rattle.brake_base.specs.Worths.{IsAtMost}
use Rattle.brake_base.proofs.Worths.{at_most_self, at_most_through, at_most_both, at_most_either}
use Rattle.cert_merge.specs.Entries.{Settled, stands_before, first_reason, is_at_most, united, joined, merged_at}
use Rattle.cert_merge.proofs.Orders.{told, tested, never, later, reason_either}

-- the test of the order of reasons
before : Reason → Reason → Bool
before a b = stands_before (reason_place a) (reason_place b)

abbrev first_of : Reason → Reason → Reason
first_of a b = if before b a then b else a

not_back : (a b : Reason) → before a b ≡ true → before b a ≡ false
unfolding before
not_back a b e = false_from_ne_true (before b a) (λ back. never (reason_place a) (later (reason_place a) (reason_place b) (reason_place a) (told _ _ e) (told _ _ back)))

through : (a b c : Reason) → before a b ≡ true → before b c ≡ true → before a c ≡ true
unfolding before
through a b c e f = tested _ _ (later (reason_place a) (reason_place b) (reason_place c) (told _ _ e) (told _ _ f))

-- of two, of which neither is before the other, each is both
one : (a b : Reason) → before a b ≡ false → before b a ≡ false → a ≡ b
unfolding before
one a b e f = elim (reason_either a b) [
  | inl less ↦ absurd (false≢true (sym e ∙ tested _ _ less))
  | inr (inl same) ↦ same
  | inr (inr more) ↦ absurd (false≢true (sym f ∙ tested _ _ more))
]

-- what is before one is before each that isn't before that one
on : (a b c : Reason) → before c a ≡ true → before b a ≡ false → before c b ≡ true
on a b c e f = by_test (before a b) refl
  where
    by_test : (t : Bool) → before a b ≡ t → before c b ≡ true
    by_test true g = through c a b e g
    by_test false g = ap (λ (r : Reason). before c r) (sym (one a b g f)) ∙ e

yes : (t : Bool) (x y : Reason) → t ≡ true → (if t then x else y) ≡ x
yes t x y e = ap (λ (b : Bool). if b then x else y) e

no : (t : Bool) (x y : Reason) → t ≡ false → (if t then x else y) ≡ y
no t x y e = ap (λ (b : Bool). if b then x else y) e

first_commutes : (a b : Reason) → first_of a b ≡ first_of b a
first_commutes a b = by_test (before b a) (before a b) refl refl
  where
    by_test : (s t : Bool) → before b a ≡ s → before a b ≡ t → first_of a b ≡ first_of b a
    by_test true t e f = yes _ b a e ∙ sym (no _ a b (not_back b a e))
    by_test false true e f = no _ b a e ∙ sym (yes _ a b f)
    by_test false false e f = no _ b a e ∙ (one a b f e ∙ sym (no _ a b f))

first_associates : (a b c : Reason) → first_of (first_of a b) c ≡ first_of a (first_of b c)
first_associates a b c = by_test (before b a) (before c b) refl refl
  where
    left : (r : Reason) → first_of a b ≡ r → first_of (first_of a b) c ≡ first_of r c
    left r e = ap (λ (x : Reason). first_of x c) e

    right : (r : Reason) → first_of b c ≡ r → first_of a r ≡ first_of a (first_of b c)
    right r e = ap (λ (x : Reason). first_of a x) (sym e)

    by_last : (t : Bool) → before c a ≡ t → before b a ≡ false → before c b ≡ false → first_of a c ≡ a
    by_last true g e f = absurd (false≢true (sym f ∙ on a b c g e))
    by_last false g e f = no _ c a g

    by_test : (s t : Bool) → before b a ≡ s → before c b ≡ t → first_of (first_of a b) c ≡ first_of a (first_of b c)
    by_test true true e f = left b (yes _ b a e) ∙ (yes _ c b f ∙ (sym (yes _ c a (through c b a f e)) ∙ right c (yes _ c b f)))
    by_test true false e f = left b (yes _ b a e) ∙ (no _ c b f ∙ (sym (yes _ b a e) ∙ right b (no _ c b f)))
    by_test false true e f = left a (no _ b a e) ∙ right c (yes _ c b f)
    by_test false false e f = left a (no _ b a e) ∙ (by_last (before c a) refl e f ∙ (sym (no _ b a e) ∙ right b (no _ c b f)))

some_first : (a b : Reason) → first_reason (Some a) (Some b) ≡ Some (first_of a b)
unfolding before
some_first a b = by_test (stands_before (reason_place b) (reason_place a))
  where
    by_test : (t : Bool) → (if t then Some b else Some a) ≡ Some (if t then b else a)
    by_test true = refl
    by_test false = refl

reasons_commute : (a b : Option Reason) → first_reason a b ≡ first_reason b a
reasons_commute None None = refl
reasons_commute None (Some b) = refl
reasons_commute (Some a) None = refl
reasons_commute (Some a) (Some b) = some_first a b ∙ (ap Some (first_commutes a b) ∙ sym (some_first b a))

reasons_associate : (a b c : Option Reason) → first_reason (first_reason a b) c ≡ first_reason a (first_reason b c)
reasons_associate None b c = refl
reasons_associate (Some a) None c = refl
reasons_associate (Some a) (Some b) None = by_test (stands_before (reason_place b) (reason_place a))
  where
    by_test : (t : Bool) → first_reason (if t then Some b else Some a) None ≡ (if t then Some b else Some a)
    by_test true = refl
    by_test false = refl
reasons_associate (Some a) (Some b) (Some c) =
    ap (λ (r : Option Reason). first_reason r (Some c)) (some_first a b)
    ∙ (some_first (first_of a b) c ∙ (ap Some (first_associates a b c)
    ∙ (sym (some_first a (first_of b c)) ∙ ap (λ (r : Option Reason). first_reason (Some a) r) (sym (some_first b c)))))

pub reason_once : (a : Option Reason) → first_reason a a ≡ a
reason_once None = refl
reason_once (Some a) = by_test (stands_before (reason_place a) (reason_place a))
  where
    by_test : (t : Bool) → (if t then Some a else Some a) ≡ Some a
    by_test true = refl
    by_test false = refl

-- the test of the order of worths is the order
pub most_told : (a b : Worth) → is_at_most a b ≡ true → IsAtMost a b
most_told a Blocked e = tt
most_told Blocked (Cost n) e = absurd (false≢true e)
most_told (Cost m) (Cost n) e = leb-true m n e

pub most_tested : (a b : Worth) → IsAtMost a b → is_at_most a b ≡ true
most_tested a Blocked most = refl
most_tested Blocked (Cost n) most = absurd most
most_tested (Cost m) (Cost n) most = le-leb m n most

above : (a b : Worth) → is_at_most a b ≡ false → is_at_most b a ≡ true
above a b e = elim (at_most_either a b) [
  | inl most ↦ absurd (false≢true (sym e ∙ most_tested a b most))
  | inr most ↦ most_tested b a most
]

most_through : (a b c : Worth) → is_at_most a b ≡ true → is_at_most b c ≡ true → is_at_most a c ≡ true
most_through a b c e f = most_tested a c (at_most_through a b c (most_told a b e) (most_told b c f))

-- what is joined, by the two tests
join_by : Bool → Bool → Settled → Settled → Settled
join_by s t a b = if s then (if t then united a b else a) else b

is_joined : (a b : Settled) (s t : Bool) → is_at_most b.worth a.worth ≡ s → is_at_most a.worth b.worth ≡ t → joined a b ≡ join_by s t a b
unfolding join_by
is_joined a b s t e f = λ i. if e i then (if f i then united a b else a) else b

pub same_worth : (a b : Settled) → is_at_most b.worth a.worth ≡ true → is_at_most a.worth b.worth ≡ true → a.worth ≡ b.worth
same_worth a b e f = at_most_both a.worth b.worth (most_told _ _ f) (most_told _ _ e)

united_commutes : (a b : Settled) → a.worth ≡ b.worth → united a b ≡ united b a
united_commutes a b same = λ i. record { worth = same i; reasons = λ n. reasons_commute (a.reasons n) (b.reasons n) i }

joined_commutes : (a b : Settled) → joined a b ≡ joined b a
unfolding join_by
joined_commutes a b = by_tests (is_at_most b.worth a.worth) (is_at_most a.worth b.worth) refl refl
  where
    by_tests : (s t : Bool) → is_at_most b.worth a.worth ≡ s → is_at_most a.worth b.worth ≡ t → joined a b ≡ joined b a
    by_tests true true e f = is_joined a b true true e f ∙ (united_commutes a b (same_worth a b e f) ∙ sym (is_joined b a true true f e))
    by_tests true false e f = is_joined a b true false e f ∙ sym (is_joined b a false true f e)
    by_tests false true e f = is_joined a b false true e f ∙ sym (is_joined b a true false f e)
    by_tests false false e f = absurd (false≢true (sym f ∙ above b.worth a.worth e))

pub joined_once : (a : Settled) → joined a a ≡ a
unfolding join_by
joined_once a =
    let most = most_tested a.worth a.worth (at_most_self a.worth) in
    is_joined a a true true most most ∙ (λ i. record { worth = a.worth; reasons = λ n. reason_once (a.reasons n) i })

pub merged_commutes : (a b : Option Settled) → merged_at a b ≡ merged_at b a
merged_commutes None None = refl
merged_commutes None (Some b) = refl
merged_commutes (Some a) None = refl
merged_commutes (Some a) (Some b) = ap Some (joined_commutes a b)

pub merged_once : (a : Option Settled) → merged_at a a ≡ a
merged_once None = refl
merged_once (Some a) = ap Some (joined_once a)

-- the greater worth with its notes, and at equal worth the notes of both
pub joined_lower : (a b : Settled) → is_at_most b.worth a.worth ≡ false → joined a b ≡ b
unfolding join_by
joined_lower a b e = is_joined a b false (is_at_most a.worth b.worth) e refl

pub joined_higher : (a b : Settled) → is_at_most a.worth b.worth ≡ false → joined a b ≡ a
unfolding join_by
joined_higher a b f = is_joined a b true false (above a.worth b.worth f) f

pub joined_equal : (a b : Settled) → is_at_most b.worth a.worth ≡ true → is_at_most a.worth b.worth ≡ true → joined a b ≡ united a b
unfolding join_by
joined_equal a b e f = is_joined a b true true e f

-- which of two has the greater worth
pub data Compared (a b : Settled) : Type 0 where
  lower : is_at_most b.worth a.worth ≡ false → Compared a b
  equal : is_at_most b.worth a.worth ≡ true → is_at_most a.worth b.worth ≡ true → Compared a b
  higher : is_at_most a.worth b.worth ≡ false → Compared a b

pub compared : (a b : Settled) → Compared a b
compared a b = by_tests (is_at_most b.worth a.worth) (is_at_most a.worth b.worth) refl refl
  where
    by_tests : (s t : Bool) → is_at_most b.worth a.worth ≡ s → is_at_most a.worth b.worth ≡ t → Compared a b
    by_tests true true e f = equal e f
    by_tests true false e f = higher f
    by_tests false t e f = lower e

-- less than what is at most a third is less than the third
less : (a b c : Worth) → is_at_most b a ≡ false → is_at_most b c ≡ true → is_at_most c a ≡ false
less a b c e f = false_from_ne_true (is_at_most c a) (λ most. false≢true (sym e ∙ most_through b c a f most))

-- at most what is less than a third is less than the third
less_again : (a b c : Worth) → is_at_most a b ≡ true → is_at_most c b ≡ false → is_at_most c a ≡ false
less_again a b c e f = false_from_ne_true (is_at_most c a) (λ most. false≢true (sym f ∙ most_through c a b most e))

joined_associates : (a b c : Settled) → joined (joined a b) c ≡ joined a (joined b c)
joined_associates a b c = by_cases (compared a b) (compared b c)
  where
    left : (x : Settled) → joined a b ≡ x → joined (joined a b) c ≡ joined x c
    left x e = ap (λ (s : Settled). joined s c) e

    right : (x : Settled) → joined b c ≡ x → joined a x ≡ joined a (joined b c)
    right x e = ap (λ (s : Settled). joined a s) (sym e)

    by_cases : Compared a b → Compared b c → joined (joined a b) c ≡ joined a (joined b c)
    by_cases (lower e) (lower f) = left b (joined_lower a b e) ∙ (joined_lower b c f
        ∙ (sym (joined_lower a c (less a.worth b.worth c.worth e (above c.worth b.worth f))) ∙ right c (joined_lower b c f)))
    by_cases (lower e) (equal f g) = left b (joined_lower a b e) ∙ (joined_equal b c f g
        ∙ (sym (joined_lower a (united b c) e) ∙ right (united b c) (joined_equal b c f g)))
    by_cases (lower e) (higher f) = left b (joined_lower a b e) ∙ (joined_higher b c f
        ∙ (sym (joined_lower a b e) ∙ right b (joined_higher b c f)))
    by_cases (equal e g) (lower f) = left (united a b) (joined_equal a b e g) ∙ (joined_lower (united a b) c (less_again a.worth b.worth c.worth g f)
        ∙ (sym (joined_lower a c (less_again a.worth b.worth c.worth g f)) ∙ right c (joined_lower b c f)))
    by_cases (equal e g) (equal f h) = left (united a b) (joined_equal a b e g)
        ∙ (joined_equal (united a b) c (most_through c.worth b.worth a.worth f e) (most_through a.worth b.worth c.worth g h)
        ∙ ((λ i. record { worth = a.worth; reasons = λ n. reasons_associate (a.reasons n) (b.reasons n) (c.reasons n) i })
        ∙ (sym (joined_equal a (united b c) e g) ∙ right (united b c) (joined_equal b c f h))))
    by_cases (equal e g) (higher f) = left (united a b) (joined_equal a b e g)
        ∙ (joined_higher (united a b) c (less c.worth b.worth a.worth f e)
        ∙ (sym (joined_equal a b e g) ∙ right b (joined_higher b c f)))
    by_cases (higher e) (lower f) = left a (joined_higher a b e) ∙ right c (joined_lower b c f)
    by_cases (higher e) (equal f g) = left a (joined_higher a b e)
        ∙ (joined_higher a c (less_again c.worth b.worth a.worth f e)
        ∙ (sym (joined_higher a (united b c) e) ∙ right (united b c) (joined_equal b c f g)))
    by_cases (higher e) (higher f) = left a (joined_higher a b e)
        ∙ (joined_higher a c (less_again c.worth b.worth a.worth (above b.worth c.worth f) e)
        ∙ (sym (joined_higher a b e) ∙ right b (joined_higher b c f)))

pub merged_associates : (a b c : Option Settled) → merged_at (merged_at a b) c ≡ merged_at a (merged_at b c)
merged_associates None b c = refl
merged_associates (Some a) None c = refl
merged_associates (Some a) (Some b) None = refl
merged_associates (Some a) (Some b) (Some c) = ap Some (joined_associates a b c)
