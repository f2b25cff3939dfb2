-- How long pieces are together, and those that the stock holds.
use Rattle.std.proofs.Common.{◌≡◌, ℕ, zero, suc, ◌+◌, ◌*◌, ◌<◌, ◌≤◌, ℤ, ◌+ℤ◌, Bool, true, false, cond, leb, List, [], ◌∷◌, ◌++◌, refl, ◌∙◌, ap, subst, arith}
use Rattle.std.specs.Prelude.{None, sum_by, unsigned_abs}
use Rattle.std.proofs.lemmas.Int.{ints}
use Rattle.std.proofs.lemmas.Bool.Decides.{Decides-int_eq}
use Rattle.std.proofs.lemmas.List.Sums.{sum_by-cons, sum_by-append}
use Rattle.std.specs.Ordering.{int_eq}
use Rattle.tool_library.specs.Tools.{ToolsData}
use Rattle.piece_pick.specs.declared.want.Want.{Want}
use Rattle.piece_pick.specs.declared.stock.Tool.{Tool}
use Rattle.tool_library.specs.Stock.{section_count, held, count_of}
use Rattle.piece_pick.specs.Stock.{sections_of, is_of, taken, stock_length, needed_by, needed}
use Rattle.piece_pick.specs.Choice.{total, AreMadeUp, IsPick}
use Rattle.piece_pick.proofs.Drawn.{counted, one_same}
use Rattle.piece_pick.proofs.Supplies.{count_append}

-- ---- a sum is no longer than the lengths together
abs_append : (a b : ℤ) → unsigned_abs (a +ℤ b) ≤ unsigned_abs a + unsigned_abs b
abs_append a b = omega (arith, ints)

pub abs_total : (xs : List ℤ) → unsigned_abs (total xs) ≤ sum_by unsigned_abs xs
abs_total [] = omega (arith, ints)
abs_total (x ∷ xs) =
    let later = abs_total xs in
    let here = abs_append x (total xs) in
    let more = sum_by-cons unsigned_abs x xs in
    omega (arith, later, here, more)

-- ---- sections with one piece of a length less
abbrev less : ℤ → List (ℤ × ℕ) → List (ℤ × ℕ)
less x [] = []
less x ((y, zero) ∷ sections) = (y, zero) ∷ less x sections
less x ((y, suc n) ∷ sections) = cond (int_eq y x) ((y, n) ∷ sections) ((y, suc n) ∷ less x sections)

-- a sum over pieces has that piece less
less_sum : (f : ℤ × ℕ → ℕ) (g : ℤ → ℕ) → ((y : ℤ) (n : ℕ) → f (y, suc n) ≡ f (y, n) + g y) → (x : ℤ) (sections : List (ℤ × ℕ))
    → 0 < held sections x → sum_by f (less x sections) + g x ≡ sum_by f sections
less_sum f g step x [] some = absurd (omega arith)
less_sum f g step x ((y, zero) ∷ sections) some =
    let nothing : section_count x (y, zero) ≡ 0 = same_or_zero (int_eq y x) zero refl in
    let front = sum_by-cons (section_count x) (y, zero) sections in
    let later = less_sum f g step x sections (omega (arith, some, nothing, front)) in
    let now = sum_by-cons f (y, zero) (less x sections) in
    let before = sum_by-cons f (y, zero) sections in
    omega (arith, later, now, before)
  where
    same_or_zero : (t : Bool) (n : ℕ) → n ≡ zero → cond t n zero ≡ zero
    same_or_zero true n none = none
    same_or_zero false n none = refl
less_sum f g step x ((y, suc n) ∷ sections) some = by_test (int_eq y x) refl (less_sum f g step x sections)
  where
    by_test : (t : Bool) → int_eq y x ≡ t → (0 < held sections x → sum_by f (less x sections) + g x ≡ sum_by f sections)
        → sum_by f (cond t ((y, n) ∷ sections) ((y, suc n) ∷ less x sections)) + g x ≡ sum_by f ((y, suc n) ∷ sections)
    by_test true same later =
        let is : g y ≡ g x = ap g ((Decides-int_eq y x).0 same) in
        let now = sum_by-cons f (y, n) sections in
        let before = sum_by-cons f (y, suc n) sections in
        omega (arith, is, now, before, step y n)
    by_test false other later =
        let nothing : section_count x (y, suc n) ≡ 0 = ap (λ (b : Bool). cond b (suc n) 0) other in
        let front = sum_by-cons (section_count x) (y, suc n) sections in
        let rest = later (omega (arith, some, nothing, front)) in
        let now = sum_by-cons f (y, suc n) (less x sections) in
        let before = sum_by-cons f (y, suc n) sections in
        omega (arith, rest, now, before)

one_more_counted : (p y : ℤ) (n : ℕ) → section_count p (y, suc n) ≡ section_count p (y, n) + cond (int_eq y p) 1 0
one_more_counted p y n = by_test (int_eq y p)
  where
    by_test : (t : Bool) → cond t (suc n) 0 ≡ cond t n 0 + cond t 1 0
    by_test true = omega arith
    by_test false = refl

one_more_weight : (g : ℤ → ℕ) (y : ℤ) (n : ℕ) → g y * suc n ≡ g y * n + g y
one_more_weight g y n = product (g y)
  where
    product : (a : ℕ) → a * suc n ≡ a * n + a
    product a = grind arith

-- weights of pieces that sections hold are no more than those of all of theirs
pub within_weights : (g : ℤ → ℕ) (pieces : List ℤ) (sections : List (ℤ × ℕ)) → ((p : ℤ) → count_of p pieces ≤ held sections p)
    → sum_by g pieces ≤ sum_by (λ (s : ℤ × ℕ). g s.0 * s.1) sections
within_weights g [] sections few = omega arith
within_weights g (x ∷ xs) sections few =
    let here = one_same x x refl in
    let some : 0 < held sections x = omega (arith, few x, counted x x xs, here) in
    let later = within_weights g xs (less x sections) (λ p.
    let fewer = less_sum (section_count p) (λ y. cond (int_eq y p) 1 0) (one_more_counted p) x sections some in
    omega (arith, few p, counted p x xs, fewer)) in
    let less_weight = less_sum (λ (s : ℤ × ℕ). g s.0 * s.1) g (one_more_weight g) x sections some in
    let more = sum_by-cons g x xs in
    omega (arith, later, less_weight, more)

-- ---- all the pieces that wants take of a tool
abbrev joined : Tool → List Want → List (List ℤ) → List ℤ
joined tool (want ∷ wants) (pieces ∷ lists) = cond (is_of tool want) pieces [] ++ joined tool wants lists
joined tool [] lists = []
joined tool (want ∷ wants) [] = []

joined_counts : (tool : Tool) (p : ℤ) (wants : List Want) (lists : List (List ℤ)) → count_of p (joined tool wants lists) ≡ taken tool p wants lists
joined_counts tool p [] lists = refl
joined_counts tool p (want ∷ wants) [] = refl
joined_counts tool p (want ∷ wants) (pieces ∷ lists) =
    let later = joined_counts tool p wants lists in
    let whole = count_append p (cond (is_of tool want) pieces []) (joined tool wants lists) in
    let here = by_test (is_of tool want) in
    omega (arith, later, whole, here)
  where
    by_test : (t : Bool) → count_of p (cond t pieces []) ≡ cond t (count_of p pieces) 0
    by_test true = refl
    by_test false = refl

joined_long : (tool : Tool) (wants : List Want) (lists : List (List ℤ)) → AreMadeUp wants lists
    → needed tool wants ≤ sum_by unsigned_abs (joined tool wants lists)
joined_long tool [] lists made = omega arith
joined_long tool (want ∷ wants) [] made = absurd made
joined_long tool (want ∷ wants) (pieces ∷ lists) made =
    let later = joined_long tool wants lists made.1 in
    let whole = sum_by-append unsigned_abs (cond (is_of tool want) pieces []) (joined tool wants lists) in
    let front = sum_by-cons (needed_by tool) want wants in
    let here = by_test (is_of tool want) in
    omega (arith, later, whole, front, here)
  where
    long : unsigned_abs want.length ≤ sum_by unsigned_abs pieces
    long = subst (λ l. unsigned_abs l ≤ sum_by unsigned_abs pieces) made.0.sum (abs_total pieces)

    by_test : (t : Bool) → cond t (unsigned_abs want.length) 0 ≤ sum_by unsigned_abs (cond t pieces [])
    by_test true = long
    by_test false = omega arith

-- where a tool's pieces are shorter together than what is wanted of it, there is no choice
pub too_short : (tools : ToolsData) (wants : List Want) (tool : Tool) → stock_length (sections_of tools tool) < needed tool wants
    → IsPick tools wants None
too_short tools wants tool short choice is =
    let long = joined_long tool wants choice is.each in
    let within = within_weights unsigned_abs (joined tool wants choice) (sections_of tools tool) (λ p.
    omega (arith, joined_counts tool p wants choice, is.stock tool p)) in
    absurd (omega (arith, long, within, short))

pub not_long_enough : (tools : ToolsData) (wants : List Want) (tool : Tool) (sections : List (ℤ × ℕ)) (a b : ℕ) → a ≡ needed tool wants
    → sections ≡ sections_of tools tool → b ≡ stock_length sections → leb a b ≡ false → IsPick tools wants None
not_long_enough tools wants tool sections a b wanted same there other =
    too_short tools wants tool (subst (λ n. n < needed tool wants) (there ∙ ap stock_length same) (subst (λ n. b < n) wanted (below a b other)))
  where
    below : (m n : ℕ) → leb m n ≡ false → n < m
    below m n e = grind arith
