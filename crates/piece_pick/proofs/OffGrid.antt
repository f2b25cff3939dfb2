-- A want whose length is off a grid takes a piece off it.
use Rattle.std.proofs.Common.{◌≡◌, ℕ, zero, suc, ◌+◌, ◌-◌, ◌*◌, ◌<◌, ◌≤◌, ◌%◌, ◌==◌, ◌&&◌, ℤ, pos, negsuc, ◌+ℤ◌, Bool, true, false, cond, List, [], ◌∷◌, ◌++◌, length, take, drop, length-drop, refl, ◌∙◌, ap, subst, arith}
use Rattle.std.specs.Prelude.{sum_by, count_by, unsigned_abs, not}
use Rattle.std.specs.Int.{◌∣◌}
use Rattle.std.specs.Ordering.{int_eq}
use Rattle.std.proofs.lemmas.Int.{ints}
use Rattle.std.proofs.lemmas.Bool.{false≢true}
use Rattle.std.proofs.lemmas.Bool.Decides.{Decides-eqb}
use Rattle.std.proofs.lemmas.List.Sums.{sum_by-cons, count_by-le-length}
use Rattle.std.proofs.lemmas.Nat.Gcd.{dvd-zero, dvd_of_mod-eq-zero, mod-eq-zero_of_dvd}
use Rattle.std.proofs.Math.Nat.{dvd-add, dvd-sub}
use Rattle.tool_library.specs.Tools.{ToolsData}
use Rattle.tool_library.specs.Stock.{section_count, held, count_of}
use Rattle.piece_pick.specs.declared.want.Want.{Want}
use Rattle.piece_pick.specs.declared.stock.Tool.{Tool}
use Rattle.piece_pick.specs.declared.stock.Tool.TheVariants.{Punch, Die}
use Rattle.piece_pick.specs.Stock.{sections_of, is_of, taken_by, taken}
use Rattle.piece_pick.specs.Choice.{most_pieces, total, AreMadeUp}
use Rattle.piece_pick.specs.Search.{IsLeftFor, Begins, HasNone}
use Rattle.piece_pick.specs.Grid.{is_off, is_beside, is_off_beside, HasFewOff}
use Rattle.piece_pick.proofs.Drawn.{counted}
use Rattle.piece_pick.proofs.Begun.{taken_nothing}
use Rattle.piece_pick.proofs.Firsts.{own_tool, least_of}
use Rattle.piece_pick.proofs.Lengths.{within_weights}
use Rattle.piece_pick.proofs.Ends.{made_drop, taken_drop, end_is}

-- ---- a sum of lengths on the grid is on it
sum_on : (d : ℕ) (x y : ℤ) → d ∣ unsigned_abs x → d ∣ unsigned_abs y → d ∣ unsigned_abs (x +ℤ y)
sum_on d (pos a) (pos b) first second =
    let e : a + b ≡ unsigned_abs (pos a +ℤ pos b) = omega (arith, ints) in
    subst (λ n. d ∣ n) e (dvd-add d first second)
sum_on d (pos a) (negsuc b) first second =
    let e : (a - suc b) + (suc b - a) ≡ unsigned_abs (pos a +ℤ negsuc b) = omega (arith, ints) in
    subst (λ n. d ∣ n) e (dvd-add d (dvd-sub d first second) (dvd-sub d second first))
sum_on d (negsuc a) (pos b) first second =
    let e : (b - suc a) + (suc a - b) ≡ unsigned_abs (negsuc a +ℤ pos b) = omega (arith, ints) in
    subst (λ n. d ∣ n) e (dvd-add d (dvd-sub d second first) (dvd-sub d first second))
sum_on d (negsuc a) (negsuc b) first second =
    let e : suc a + suc b ≡ unsigned_abs (negsuc a +ℤ negsuc b) = omega (arith, ints) in
    subst (λ n. d ∣ n) e (dvd-add d first second)

on_grid : (n : ℕ) → (n == 0) ≡ true → n ≡ 0
on_grid n is = (Decides-eqb n 0).0 is

-- ---- a piece off the grid
record HasOff (grid : ℕ) (pieces : List ℤ) : Type 0 where
  pub piece : ℤ
  pub off : is_off grid piece ≡ true
  pub there : (p : ℤ) → count_of p (piece ∷ []) ≤ count_of p pieces

has_off : (grid : ℕ) (pieces : List ℤ) → ¬ (grid ∣ unsigned_abs (total pieces)) → HasOff grid pieces
has_off grid [] undivided = absurd (undivided (dvd-zero grid))
has_off grid (x ∷ xs) undivided = by_test (unsigned_abs x % grid == 0) refl (has_off grid xs)
  where
    by_test : (t : Bool) → (unsigned_abs x % grid == 0) ≡ t → (¬ (grid ∣ unsigned_abs (total xs)) → HasOff grid xs) → HasOff grid (x ∷ xs)
    by_test false off later = record {
      piece = x;
      off = ap not off;
      there = λ p.
          let whole = counted p x xs in
          let alone = counted p x [] in
          let none : count_of p [] ≡ 0 = refl in
          omega (arith, whole, alone, none);
    }
    by_test true on later =
        let other = later (λ divides. undivided (sum_on grid x (total xs) (dvd_of_mod-eq-zero grid (on_grid (unsigned_abs x % grid) on)) divides)) in
        record {
          piece = other.piece;
          off = other.off;
          there = λ p.
              let there = other.there p in
              let whole = counted p x xs in
              omega (arith, there, whole);
        }

off_not : (grid : ℕ) (length : ℤ) → is_off grid length ≡ true → ¬ (grid ∣ unsigned_abs length)
off_not grid length off divides = by_rest (unsigned_abs length % grid) (mod-eq-zero_of_dvd grid divides) off
  where
    by_rest : (k : ℕ) → k ≡ 0 → not (k == 0) ≡ true → ⊥
    by_rest k none some = absurd (grind arith)

-- ---- a piece off the grid of each want off it that has the want's tools
both_first : (a b : Bool) → (a && b) ≡ true → a ≡ true
both_first true b is = refl
both_first false b is = is

both_second : (a b : Bool) → (a && b) ≡ true → b ≡ true
both_second true b is = is
both_second false b is = absurd (false≢true is)

beside_of : (tool : Tool) (want w : Want) → is_beside want w ≡ true → is_of tool want ≡ true → is_of tool w ≡ true
beside_of (Punch place) want w beside of = ap (λ n. n == place) ((Decides-eqb w.punch want.punch).0 (both_first (w.punch == want.punch) (w.die == want.die) beside)) ∙ of
beside_of (Die place) want w beside of = ap (λ n. n == place) ((Decides-eqb w.die want.die).0 (both_second (w.punch == want.punch) (w.die == want.die) beside)) ∙ of

abbrev one : Bool → ℕ
one t = cond t 1 0

record HasOffs (grid : ℕ) (want : Want) (wants : List Want) (lists : List (List ℤ)) : Type 0 where
  pub pieces : List ℤ
  pub off : count_by (is_off grid) pieces ≡ count_by (is_off_beside grid want) wants
  pub few : length pieces ≤ length wants
  pub there : (tool : Tool) → is_of tool want ≡ true → (p : ℤ) → count_of p pieces ≤ taken tool p wants lists

has_offs : (grid : ℕ) (want : Want) (wants : List Want) (lists : List (List ℤ)) → AreMadeUp wants lists → HasOffs grid want wants lists
has_offs grid want [] lists made = record { pieces = []; off = refl; few = omega arith; there = λ tool of p. nothing p }
  where
    nothing : (p : ℤ) → count_of p [] ≤ 0
    nothing p = omega arith
has_offs grid want (w ∷ wants) [] made = absurd made
has_offs grid want (w ∷ wants) (ps ∷ lists) made = by_test (is_off_beside grid want w) refl (has_offs grid want wants lists made.1)
  where
    wanted : count_by (is_off_beside grid want) (w ∷ wants) ≡ one (is_off_beside grid want w) + count_by (is_off_beside grid want) wants
    wanted = sum_by-cons (λ (o : Want). cond (is_off_beside grid want o) 1 0) w wants

    by_test : (t : Bool) → is_off_beside grid want w ≡ t → HasOffs grid want wants lists → HasOffs grid want (w ∷ wants) (ps ∷ lists)
    by_test false other later =
        let none : one (is_off_beside grid want w) ≡ 0 = ap one other in
        let same = later.off in
        record {
          pieces = later.pieces;
          off = omega (arith, none, wanted, same);
          few = omega (arith, later.few);
          there = λ tool of p. let there = later.there tool of p in omega (arith, there);
        }
    by_test true beside later =
        let off = both_second (is_beside want w) (is_off grid w.length) beside in
        let own = has_off grid ps (λ divides. off_not grid w.length off (subst (λ l. grid ∣ unsigned_abs l) made.0.sum divides)) in
        let wanted_one : one (is_off_beside grid want w) ≡ 1 = ap one beside in
        let piece_one : one (is_off grid own.piece) ≡ 1 = ap one own.off in
        let counts = sum_by-cons (λ (o : ℤ). cond (is_off grid o) 1 0) own.piece later.pieces in
        let same = later.off in
        record {
          pieces = own.piece ∷ later.pieces;
          off = omega (arith, wanted_one, piece_one, counts, wanted, same);
          few = omega (arith, later.few);
          there = λ tool of p.
              let there = later.there tool of p in
              let here = own.there p in
              let mine : taken_by tool p w ps ≡ count_of p ps
              = ap (λ (b : Bool). cond b (count_of p ps) 0) (beside_of tool want w (both_first (is_beside want w) (is_off grid w.length) beside) of) in
              let more = counted p own.piece later.pieces in
              let alone = counted p own.piece [] in
              let none : count_of p [] ≡ 0 = refl in
              omega (arith, there, here, mine, more, alone, none);
        }

-- ---- pieces of which others hold as many are no more
abbrev singles : List ℤ → List (ℤ × ℕ)
singles [] = []
singles (y ∷ ys) = (y, 1) ∷ singles ys

held_singles : (p : ℤ) (ys : List ℤ) → held (singles ys) p ≡ count_of p ys
held_singles p [] = refl
held_singles p (y ∷ ys) =
    let later = held_singles p ys in
    let front = sum_by-cons (section_count p) (y, 1) (singles ys) in
    let more = counted p y ys in
    omega (arith, later, front, more)

weight_singles : (g : ℤ → ℕ) (ys : List ℤ) → sum_by (λ (s : ℤ × ℕ). g s.0 * s.1) (singles ys) ≡ sum_by g ys
weight_singles g [] = refl
weight_singles g (y ∷ ys) =
    let later = weight_singles g ys in
    let front = sum_by-cons (λ (s : ℤ × ℕ). g s.0 * s.1) (y, 1) (singles ys) in
    let more = sum_by-cons g y ys in
    omega (arith, later, front, more)

fewer : (g : ℤ → ℕ) (xs ys : List ℤ) → ((p : ℤ) → count_of p xs ≤ count_of p ys) → sum_by g xs ≤ sum_by g ys
fewer g xs ys few =
    let sum = within_weights g xs (singles ys) (λ p. let there = few p in let same = held_singles p ys in omega (arith, there, same)) in
    let same = weight_singles g ys in
    omega (arith, sum, same)

-- ---- what the first wants take, and the wants from a later place on
taken_split : (tool : Tool) (p : ℤ) (wants : List Want) (before lists : List (List ℤ)) (i : ℕ) → length before ≤ i
    → taken tool p wants before + taken tool p (drop i wants) (drop i (before ++ lists)) ≤ taken tool p wants (before ++ lists)
taken_split tool p wants [] lists i after =
    let none = taken_nothing tool p wants in
    let later = taken_drop tool p i wants lists in
    omega (arith, none, later)
taken_split tool p [] (x ∷ before) lists zero after = absurd (omega arith)
taken_split tool p [] (x ∷ before) lists (suc i) after = omega arith
taken_split tool p (w ∷ wants) (x ∷ before) lists zero after = absurd (omega arith)
taken_split tool p (w ∷ wants) (x ∷ before) lists (suc i) after =
    let later = taken_split tool p wants before lists i (omega (arith, after)) in omega (arith, later)

-- ---- so there is no choice where the supply has too few
pub few_off : (tools : ToolsData) (wants : List Want) (before : List (List ℤ)) (i : ℕ) (want : Want) (ws : List Want) (supply slice : List ℤ)
    → length wants ≤ 6 → length before ≤ i → IsLeftFor tools wants before want supply → ws ≡ take (length wants - i) (drop i wants) → slice ≡ supply
    → HasFewOff ws want slice → HasNone tools wants (Begins before)
few_off tools wants before i want ws supply slice small after left rest same few other is kind =
    let made = subst (λ (o : List (List ℤ)). AreMadeUp wants o) kind.is is.each in
    let offs = has_offs few.0 want (drop i wants) (drop i (before ++ kind.lists)) (made_drop i wants (before ++ kind.lists) made) in
    let there : (tool : Tool) → is_of tool want ≡ true → (p : ℤ) → taken tool p wants before + count_of p offs.pieces ≤ held (sections_of tools tool) p
    = λ tool of p.
    let own = offs.there tool of p in
    let split = taken_split tool p wants before kind.lists i after in
    let stock = subst (λ (o : List (List ℤ)). taken tool p wants o ≤ held (sections_of tools tool) p) kind.is (is.stock tool p) in
    omega (arith, own, split, stock) in
    let counts : (p : ℤ) → count_of p offs.pieces ≤ count_of p supply
    = λ p.
    let size = count_by-le-length (λ (o : ℤ). int_eq o p) offs.pieces in
    least_of (held (sections_of tools (Punch want.punch)) p) (taken (Punch want.punch) p wants before)
    (held (sections_of tools (Die want.die)) p) (taken (Die want.die) p wants before) most_pieces
    (count_of p supply) (count_of p offs.pieces) (left p)
    (there (Punch want.punch) (own_tool want.punch) p) (there (Die want.die) (own_tool want.die) p)
    (omega (arith, size, offs.few, length-drop i wants, small)) in
    let sum = fewer (λ (o : ℤ). cond (is_off few.0 o) 1 0) offs.pieces supply counts in
    let short : count_by (is_off few.0) supply < count_by (is_off_beside few.0 want) (drop i wants)
    = subst (λ (s : List ℤ). count_by (is_off few.0) s < count_by (is_off_beside few.0 want) (drop i wants)) same
    (subst (λ (o : List Want). count_by (is_off few.0) slice < count_by (is_off_beside few.0 want) o) (rest ∙ end_is wants i) few.1) in
    absurd (omega (arith, sum, offs.off, short))

-- counts that tell so
pub few_counted : (wants : List Want) (want : Want) (supply : List ℤ) (grid a b : ℕ) → a < b → a ≡ count_by (is_off grid) supply
    → b ≡ count_by (is_off_beside grid want) wants → HasFewOff wants want supply
few_counted wants want supply grid a b less first second = (grid, subst (λ n. n < count_by (is_off_beside grid want) wants) first (subst (λ n. a < n) second less))
