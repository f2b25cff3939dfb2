-- Lists of pieces for the first wants, and one more.
use Rattle.std.proofs.Common.{◌≡◌, ℕ, zero, suc, ◌+◌, ◌<◌, ◌≤◌, ℤ, List, [], ◌∷◌, ◌++◌, length, take, get_or, refl, sym, ap, subst, arith}
use Rattle.std.proofs.lemmas.List.{take_all}
use Rattle.arrayvec.specs.ArrayVec.{ArrayVec}
use Rattle.piece_pick.specs.declared.want.Want.{Want}
use Rattle.piece_pick.specs.declared.stock.Tool.{Tool}
use Rattle.piece_pick.specs.Stock.{taken, taken_by}
use Rattle.piece_pick.specs.Choice.{MakesUp, AreMadeUp, lists_of}
use Rattle.piece_pick.specs.Search.{AreBegun, IsNext}

-- the want at the place of the next list
pub next_want : (wants : List Want) (before : List (List ℤ)) (want d : Want) → length before < length wants
    → get_or wants (length before) d ≡ want → IsNext wants before want
next_want [] before want d within is = absurd (omega arith)
next_want (next ∷ wants) [] want d within is = is
next_want (next ∷ wants) (pieces ∷ lists) want d within is = next_want wants lists want d (omega arith) is

-- the pieces of the next want in a choice
pub made_next : (wants : List Want) (before lists : List (List ℤ)) (want : Want) (pieces : List ℤ)
    → IsNext wants before want → AreMadeUp wants (before ++ pieces ∷ lists) → MakesUp want.length pieces
made_next [] before lists want pieces next made = absurd next
made_next (w ∷ wants) [] lists want pieces next made = subst (λ (v : Want). MakesUp v.length pieces) next made.0
made_next (w ∷ wants) (front ∷ before) lists want pieces next made = made_next wants before lists want pieces next made.1

-- they are taken beside those before
pub taken_next : (tool : Tool) (p : ℤ) (wants : List Want) (before lists : List (List ℤ)) (want : Want) (pieces : List ℤ)
    → IsNext wants before want
    → taken tool p wants before + taken_by tool p want pieces ≤ taken tool p wants (before ++ pieces ∷ lists)
taken_next tool p [] before lists want pieces next = absurd next
taken_next tool p (w ∷ wants) [] lists want pieces next =
    let same : taken_by tool p w pieces ≡ taken_by tool p want pieces = ap (λ (v : Want). taken_by tool p v pieces) next in
    omega (arith, same)
taken_next tool p (w ∷ wants) (front ∷ before) lists want pieces next =
    let later = taken_next tool p wants before lists want pieces next in omega (arith, later)

pub taken_nothing : (tool : Tool) (p : ℤ) (wants : List Want) → taken tool p wants [] ≡ 0
taken_nothing tool p [] = refl
taken_nothing tool p (w ∷ wants) = refl

pub taken_push : (tool : Tool) (p : ℤ) (wants : List Want) (before : List (List ℤ)) (want : Want) (pieces : List ℤ)
    → IsNext wants before want
    → taken tool p wants (before ++ pieces ∷ []) ≡ taken tool p wants before + taken_by tool p want pieces
taken_push tool p [] before want pieces next = absurd next
taken_push tool p (w ∷ wants) [] want pieces next =
    let same : taken_by tool p w pieces ≡ taken_by tool p want pieces = ap (λ (v : Want). taken_by tool p v pieces) next in
    let nothing = taken_nothing tool p wants in
    omega (arith, same, nothing)
taken_push tool p (w ∷ wants) (front ∷ before) want pieces next =
    let later = taken_push tool p wants before want pieces next in omega (arith, later)

pub begun_push : (wants : List Want) (before : List (List ℤ)) (want : Want) (pieces : List ℤ)
    → IsNext wants before want → AreBegun wants before → MakesUp want.length pieces → AreBegun wants (before ++ pieces ∷ [])
begun_push [] before want pieces next begun made = absurd next
begun_push (w ∷ wants) [] want pieces next begun made = (subst (λ (v : Want). MakesUp v.length pieces) (sym next) made, tt)
begun_push (w ∷ wants) (front ∷ before) want pieces next begun made =
    (begun.0, begun_push wants before want pieces next begun.1 made)

-- a choice has a list for the next want
pub record HasOneMore (lists : List (List ℤ)) : Type 0 where
  pub pieces : List ℤ
  pub later : List (List ℤ)
  pub is : lists ≡ pieces ∷ later

pub one_more : (wants : List Want) (before lists : List (List ℤ)) (want : Want)
    → IsNext wants before want → AreMadeUp wants (before ++ lists) → HasOneMore lists
one_more [] before lists want next made = absurd next
one_more (w ∷ wants) [] [] want next made = absurd made
one_more (w ∷ wants) [] (pieces ∷ later) want next made = record { pieces = pieces; later = later; is = refl }
one_more (w ∷ wants) (front ∷ before) lists want next made = one_more wants before lists want next made.1

-- where all wants have lists, there are no others
pub none_more : (wants : List Want) (before lists : List (List ℤ))
    → length before ≡ length wants → AreMadeUp wants (before ++ lists) → lists ≡ []
none_more [] [] [] full made = refl
none_more [] [] (pieces ∷ later) full made = absurd made
none_more [] (front ∷ before) lists full made = absurd made
none_more (w ∷ wants) [] lists full made = absurd (omega arith)
none_more (w ∷ wants) (front ∷ before) lists full made = none_more wants before lists (omega arith) made.1

pub all_made : (wants : List Want) (before : List (List ℤ)) → length before ≡ length wants → AreBegun wants before
    → AreMadeUp wants before
all_made [] [] full begun = tt
all_made [] (front ∷ before) full begun = begun
all_made (w ∷ wants) [] full begun = absurd (omega arith)
all_made (w ∷ wants) (front ∷ before) full begun = (begun.0, all_made wants before (omega arith) begun.1)

-- ---- how many the lists of the first wants take, one more at a time
pub taken_more : (tool : Tool) (p : ℤ) (wants : List Want) (picked : List (ArrayVec ℤ)) (i : ℕ) (x : ArrayVec ℤ) (w : Want)
    → i < length picked → length picked ≤ length wants → get_or wants i w ≡ w → get_or picked i x ≡ x
    → taken tool p wants (lists_of (take (suc i) picked)) ≡ taken tool p wants (lists_of (take i picked)) + taken_by tool p w x.items
taken_more tool p wants [] i x w within few want here = absurd (omega arith)
taken_more tool p [] (y ∷ picked) i x w within few want here = absurd (omega arith)
taken_more tool p (v ∷ wants) (y ∷ picked) zero x w within few want here =
    let nothing = taken_nothing tool p wants in
    let same_want : taken_by tool p v y.items ≡ taken_by tool p w y.items = ap (λ (u : Want). taken_by tool p u y.items) want in
    let same_pieces : taken_by tool p w y.items ≡ taken_by tool p w x.items = ap (λ (z : ArrayVec ℤ). taken_by tool p w z.items) here in
    omega (arith, nothing, same_want, same_pieces)
taken_more tool p (v ∷ wants) (y ∷ picked) (suc i) x w within few want here =
    let later = taken_more tool p wants picked i x w (omega arith) (omega arith) want here in omega (arith, later)

-- ---- the pieces of any want that has none yet
pub record HasPieces (wants : List Want) (before : List (List ℤ)) (choice : List (List ℤ)) (want : Want) : Type 0 where
  pub pieces : List ℤ
  pub makes : MakesUp want.length pieces
  pub within : (tool : Tool) (p : ℤ) → taken tool p wants before + taken_by tool p want pieces ≤ taken tool p wants choice

pub later_has : (wants : List Want) (before lists : List (List ℤ)) (i : ℕ) (want d : Want) → length before ≤ i → i < length wants
    → get_or wants i d ≡ want → AreMadeUp wants (before ++ lists) → HasPieces wants before (before ++ lists) want
later_has [] before lists i want d after within is made = absurd (omega arith)
later_has (w ∷ wants) [] [] i want d after within is made = absurd made
later_has (w ∷ wants) [] (x ∷ lists) zero want d after within is made = record {
  pieces = x;
  makes = subst (λ (v : Want). MakesUp v.length x) is made.0;
  within = λ tool p.
      let same : taken_by tool p w x ≡ taken_by tool p want x = ap (λ (v : Want). taken_by tool p v x) is in
      omega (arith, same);
}
later_has (w ∷ wants) [] (x ∷ lists) (suc i) want d after within is made =
    let later = later_has wants [] lists i want d (omega arith) (omega arith) is made.1 in
    record {
      pieces = later.pieces;
      makes = later.makes;
      within = λ tool p. let there = later.within tool p in let nothing = taken_nothing tool p wants in omega (arith, there, nothing);
    }
later_has (w ∷ wants) (y ∷ before) lists zero want d after within is made = absurd (omega arith)
later_has (w ∷ wants) (y ∷ before) lists (suc i) want d after within is made =
    let later = later_has wants before lists i want d (omega arith) (omega arith) is made.1 in
    record {
      pieces = later.pieces;
      makes = later.makes;
      within = λ tool p. let there = later.within tool p in omega (arith, there);
    }
