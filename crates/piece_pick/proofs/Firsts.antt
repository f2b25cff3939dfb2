-- The first of the choices of a kind, by the kinds of which it is made.
use Rattle.std.proofs.Common.{◌≡◌, ◌⊎◌, inl, inr, ℕ, ◌+◌, ◌-◌, ◌<◌, ◌≤◌, ◌==◌, ℤ, pos, ◌+ℤ◌, ◌≤ℤ◌, ◌<ℤ◌, Bool, true, false, cond, List, [], ◌∷◌, ◌++◌, length, get_or, refl, sym, ◌∙◌, ap, subst, append_assoc, length-append, arith}
use Rattle.std.specs.Prelude.{min}
use Rattle.std.proofs.lemmas.Int.{ints}
use Rattle.std.proofs.lemmas.List.Sums.{count_by-le-length}
use Rattle.std.specs.Ordering.{int_eq}
use Rattle.tool_library.specs.Tools.{ToolsData}
use Rattle.piece_pick.specs.declared.want.Want.{Want}
use Rattle.piece_pick.specs.declared.stock.Tool.{Tool}
use Rattle.piece_pick.specs.declared.stock.Tool.TheVariants.{Punch, Die}
use Rattle.tool_library.specs.Stock.{held, count_of}
use Rattle.piece_pick.specs.Stock.{sections_of, is_of, taken, taken_by}
use Rattle.piece_pick.specs.Choice.{most_pieces, total, MakesUp, AreMadeUp, IsChoice, IsAhead, ComesFirst}
use Rattle.piece_pick.specs.Search.{IsSupply, IsLeftFor, IsDrawn, HasNoFill, shorter, IsPart, IsNext, Begins, GoesOn, IsFirst, HasNone}
use Rattle.piece_pick.proofs.Drawn.{Each, Falls, falls_from, falls_to, counts_drawn, drawn_counts, drawn_each, drawn_falls, total_append, total_none, none_drawn, drawn_behind, take_or_leave, shorter_drawn, shorter_below}
use Rattle.piece_pick.proofs.Begun.{made_next, taken_next, later_has, taken_push, begun_push, one_more, none_more, all_made}

-- a kind that another holds, where the choices are the same
pub first_as : (tools : ToolsData) (wants : List Want) (P Q : List (List ℤ) → Type 0) (lists : List (List ℤ))
    → ((other : List (List ℤ)) → IsChoice tools wants other → Q other → P other) → ((other : List (List ℤ)) → P other → Q other)
    → IsFirst tools wants P lists → IsFirst tools wants Q lists
first_as tools wants P Q lists into out found = record {
  choice = found.choice;
  kind = out lists found.kind;
  first = λ other is kind. found.first other is (into other is kind);
}

pub none_as : (tools : ToolsData) (wants : List Want) (P Q : List (List ℤ) → Type 0)
    → ((other : List (List ℤ)) → IsChoice tools wants other → Q other → P other) → HasNone tools wants P → HasNone tools wants Q
none_as tools wants P Q into none = λ other is kind. none other is (into other is kind)

-- ---- the order of choices
ahead_at : (pieces as_ bs : List ℤ) (a b : ℤ) → b <ℤ a → IsAhead (pieces ++ a ∷ as_) (pieces ++ b ∷ bs)
ahead_at [] as_ bs a b less = inl less
ahead_at (x ∷ pieces) as_ bs a b less = inr (refl, ahead_at pieces as_ bs a b less)

first_at : (before later others : List (List ℤ)) (a b : List ℤ) → IsAhead a b → ComesFirst (before ++ a ∷ later) (before ++ b ∷ others)
first_at [] later others a b ahead = inl ahead
first_at (x ∷ before) later others a b ahead = inr (refl, first_at before later others a b ahead)

-- ---- all wants have their pieces
pub first_full : (tools : ToolsData) (wants : List Want) (before : List (List ℤ)) → IsPart tools wants before
    → length before ≡ length wants → IsFirst tools wants (Begins before) before
first_full tools wants before part full = record {
  choice = record { each = all_made wants before full part.each; stock = part.stock };
  kind = record { lists = []; is = sym (append_nil before) };
  first = λ other is kind.
      let made = subst (λ (o : List (List ℤ)). AreMadeUp wants o) kind.is is.each in
      inl (kind.is ∙ ap (λ l. before ++ l) (none_more wants before kind.lists full made) ∙ append_nil before);
}
  where
    append_nil : (xs : List (List ℤ)) → xs ++ [] ≡ xs
    append_nil [] = refl
    append_nil (x ∷ xs) = ap (λ l. x ∷ l) (append_nil xs)

-- ---- the next want begins
pub own_tool : (n : ℕ) → (n == n) ≡ true
own_tool n = grind arith

taken_by_own : (tool : Tool) (p : ℤ) (want : Want) (pieces : List ℤ) → is_of tool want ≡ true → taken_by tool p want pieces ≡ count_of p pieces
taken_by_own tool p want pieces own = ap (λ (t : Bool). cond t (count_of p pieces) 0) own

pub least_of : (a b c d e n m : ℕ) → n ≡ min (min (a - b) (c - d)) e → b + m ≤ a → d + m ≤ c → m ≤ e → m ≤ n
least_of a b c d e n m is ab cd small = omega arith

-- pieces that the stock holds beside those of the first wants are drawn from what is left
pub drawn_if_held : (tools : ToolsData) (wants : List Want) (before : List (List ℤ)) (want : Want) (supply pieces : List ℤ)
    → IsSupply supply → IsLeftFor tools wants before want supply → MakesUp want.length pieces
    → ((tool : Tool) (p : ℤ) → taken tool p wants before + taken_by tool p want pieces ≤ held (sections_of tools tool) p)
    → IsDrawn pieces supply
drawn_if_held tools wants before want supply pieces is_supply left makes stock =
    counts_drawn pieces supply (falls_from pieces makes.falling) (falls_from supply is_supply.falling)
    (λ p.
    least_of (held (sections_of tools (Punch want.punch)) p) (taken (Punch want.punch) p wants before)
    (held (sections_of tools (Die want.die)) p) (taken (Die want.die) p wants before) most_pieces
    (count_of p supply) (count_of p pieces) (left p)
    (held_of (Punch want.punch) p (own_tool want.punch)) (held_of (Die want.die) p (own_tool want.die))
    (let few = count_by-le-length (λ (o : ℤ). int_eq o p) pieces in let enough = makes.few in omega arith))
  where
    held_of : (tool : Tool) (p : ℤ) → is_of tool want ≡ true → taken tool p wants before + count_of p pieces ≤ held (sections_of tools tool) p
    held_of tool p own = let there = stock tool p in let mine = taken_by_own tool p want pieces own in omega (arith, there, mine)

pub begins_with : (tools : ToolsData) (wants : List Want) (before : List (List ℤ)) (want : Want) (supply : List ℤ)
    → IsNext wants before want → IsSupply supply → IsLeftFor tools wants before want supply
    → (other : List (List ℤ)) → IsChoice tools wants other → Begins before other → GoesOn before [] supply other
begins_with tools wants before want supply next is_supply left other is kind =
    let made = subst (λ (o : List (List ℤ)). AreMadeUp wants o) kind.is is.each in
    let more = one_more wants before kind.lists want next made in
    let shape : other ≡ before ++ more.pieces ∷ more.later = kind.is ∙ ap (λ l. before ++ l) more.is in
    record { more = more.pieces; lists = more.later; drawn = drawn_from more.pieces more.later shape; is = shape }
  where
    drawn_from : (pieces : List ℤ) (later : List (List ℤ)) → other ≡ before ++ pieces ∷ later → IsDrawn pieces supply
    drawn_from pieces later shape =
        drawn_if_held tools wants before want supply pieces is_supply left
        (made_next wants before later want pieces next (subst (λ (o : List (List ℤ)). AreMadeUp wants o) shape is.each))
        (λ tool p.
        let there = taken_next tool p wants before later want pieces next in
        let stock : taken tool p wants (before ++ pieces ∷ later) ≤ held (sections_of tools tool) p
        = subst (λ (o : List (List ℤ)). taken tool p wants o ≤ held (sections_of tools tool) p) shape (is.stock tool p) in
        omega (arith, there, stock))

-- where one of the wants without pieces can't be served by itself, there is no choice
pub none_alone : (tools : ToolsData) (wants : List Want) (before : List (List ℤ)) (i : ℕ) (want d : Want) (supply : List ℤ)
    → length before ≤ i → i < length wants → get_or wants i d ≡ want → IsSupply supply → IsLeftFor tools wants before want supply
    → HasNoFill supply want.length most_pieces → HasNone tools wants (Begins before)
none_alone tools wants before i want d supply after within here is_supply left none other is kind =
    let made = subst (λ (o : List (List ℤ)). AreMadeUp wants o) kind.is is.each in
    let has = later_has wants before kind.lists i want d after within here made in
    let drawn = drawn_if_held tools wants before want supply has.pieces is_supply left has.makes (λ tool p.
    let there = has.within tool p in
    let stock : taken tool p wants (before ++ kind.lists) ≤ held (sections_of tools tool) p
    = subst (λ (o : List (List ℤ)). taken tool p wants o ≤ held (sections_of tools tool) p) kind.is (is.stock tool p) in
    omega (arith, there, stock)) in
    none has.pieces (record { drawn = drawn; sum = has.makes.sum; few = has.makes.few })

pub goes_on_begins : (before : List (List ℤ)) (supply : List ℤ) (other : List (List ℤ)) → GoesOn before [] supply other → Begins before other
goes_on_begins before supply other kind = record { lists = kind.more ∷ kind.lists; is = kind.is }

-- ---- what a choice that goes on is made of
pub goes_on_made : (tools : ToolsData) (wants : List Want) (before : List (List ℤ)) (want : Want) (pieces supply : List ℤ) (other : List (List ℤ))
    → IsNext wants before want → IsChoice tools wants other → (kind : GoesOn before pieces supply other) → MakesUp want.length (pieces ++ kind.more)
goes_on_made tools wants before want pieces supply other next is kind =
    made_next wants before kind.lists want (pieces ++ kind.more) next (subst (λ (o : List (List ℤ)). AreMadeUp wants o) kind.is is.each)

-- no pieces of the rest of the supply make up what is left
pub none_left : (tools : ToolsData) (wants : List Want) (before : List (List ℤ)) (want : Want) (pieces supply : List ℤ) (rest : ℤ) (room : ℕ)
    → IsNext wants before want → (total pieces +ℤ rest) ≡ want.length → length pieces + room ≡ most_pieces → HasNoFill supply rest room
    → HasNone tools wants (GoesOn before pieces supply)
none_left tools wants before want pieces supply rest room next sum most none other is kind =
    let makes = goes_on_made tools wants before want pieces supply other next is kind in
    let whole = total_append pieces kind.more in
    let made = makes.sum in
    let long = length-append pieces kind.more in
    let enough = makes.few in
    none kind.more (record {
      drawn = kind.drawn;
      sum = same_rest (total pieces) (total kind.more) rest want.length (total (pieces ++ kind.more)) whole made sum;
      few = omega (arith, long, enough, most);
    })
  where
    same_rest : (a b r l w : ℤ) → w ≡ (a +ℤ b) → w ≡ l → (a +ℤ r) ≡ l → b ≡ r
    same_rest a b r l w whole made sum = omega (arith, ints)

-- ---- the want has all its pieces
pub makes_up : (wanted : ℤ) (supply pieces : List ℤ) → IsSupply supply → IsDrawn pieces supply → pos 1 ≤ℤ wanted → total pieces ≡ wanted
    → length pieces ≤ most_pieces → MakesUp wanted pieces
makes_up wanted supply pieces is_supply drawn long sum few = record {
  some = has_some pieces sum;
  few = few;
  falling = falls_to pieces (drawn_falls pieces supply drawn (falls_from supply is_supply.falling));
  sum = sum;
}
  where
    has_some : (xs : List ℤ) → total xs ≡ wanted → 0 < length xs
    has_some [] is = absurd (omega (arith, ints))
    has_some (x ∷ xs) is = omega arith

pub part_push : (tools : ToolsData) (wants : List Want) (before : List (List ℤ)) (want : Want) (supply pieces : List ℤ)
    → IsPart tools wants before → IsNext wants before want → IsSupply supply → IsLeftFor tools wants before want supply
    → IsDrawn pieces supply → pos 1 ≤ℤ want.length → total pieces ≡ want.length → length pieces ≤ most_pieces
    → IsPart tools wants (before ++ pieces ∷ [])
part_push tools wants before want supply pieces part next is_supply left drawn long sum few = record {
  each = begun_push wants before want pieces next part.each (makes_up want.length supply pieces is_supply drawn long sum few);
  stock = stock;
}
  where
    counts : (p : ℤ) → count_of p pieces ≤ count_of p supply
    counts p = drawn_counts pieces supply drawn p

    at_most : (a b c d e n m : ℕ) → n ≡ min (min (a - b) (c - d)) e → m ≤ n → b ≤ a → d ≤ c → (b + m ≤ a) × (d + m ≤ c)
    at_most a b c d e n m is small first second = (omega arith, omega arith)

    both : (p : ℤ) → (taken (Punch want.punch) p wants before + count_of p pieces ≤ held (sections_of tools (Punch want.punch)) p)
        × (taken (Die want.die) p wants before + count_of p pieces ≤ held (sections_of tools (Die want.die)) p)
    both p = at_most (held (sections_of tools (Punch want.punch)) p) (taken (Punch want.punch) p wants before)
        (held (sections_of tools (Die want.die)) p) (taken (Die want.die) p wants before) most_pieces
        (count_of p supply) (count_of p pieces) (left p) (counts p) (part.stock (Punch want.punch) p) (part.stock (Die want.die) p)

    of_punch : (place : ℕ) (p : ℤ) (t : Bool) → (want.punch == place) ≡ t
        → taken (Punch place) p wants before + cond t (count_of p pieces) 0 ≤ held (sections_of tools (Punch place)) p
    of_punch place p true own =
        subst (λ n. taken (Punch n) p wants before + count_of p pieces ≤ held (sections_of tools (Punch n)) p) (same_place want.punch place own) (both p).0
      where
        same_place : (a b : ℕ) → (a == b) ≡ true → a ≡ b
        same_place a b e = grind arith
    of_punch place p false other = let before_it = part.stock (Punch place) p in omega arith

    of_die : (place : ℕ) (p : ℤ) (t : Bool) → (want.die == place) ≡ t
        → taken (Die place) p wants before + cond t (count_of p pieces) 0 ≤ held (sections_of tools (Die place)) p
    of_die place p true own =
        subst (λ n. taken (Die n) p wants before + count_of p pieces ≤ held (sections_of tools (Die n)) p) (same_place want.die place own) (both p).1
      where
        same_place : (a b : ℕ) → (a == b) ≡ true → a ≡ b
        same_place a b e = grind arith
    of_die place p false other = let before_it = part.stock (Die place) p in omega arith

    stock : (tool : Tool) (p : ℤ) → taken tool p wants (before ++ pieces ∷ []) ≤ held (sections_of tools tool) p
    stock (Punch place) p = subst (λ n. n ≤ held (sections_of tools (Punch place)) p)
        (sym (taken_push (Punch place) p wants before want pieces next)) (of_punch place p (want.punch == place) refl)
    stock (Die place) p = subst (λ n. n ≤ held (sections_of tools (Die place)) p)
        (sym (taken_push (Die place) p wants before want pieces next)) (of_die place p (want.die == place) refl)

-- a choice that goes on with nothing more
pub goes_on_done : (tools : ToolsData) (wants : List Want) (before : List (List ℤ)) (want : Want) (pieces supply : List ℤ) (other : List (List ℤ))
    → IsNext wants before want → Each (λ x. pos 1 ≤ℤ x) supply → total pieces ≡ want.length
    → IsChoice tools wants other → GoesOn before pieces supply other → Begins (before ++ pieces ∷ []) other
goes_on_done tools wants before want pieces supply other next long sum is kind =
    let makes = goes_on_made tools wants before want pieces supply other next is kind in
    let whole = total_append pieces kind.more in
    let nothing = total_none kind.more (drawn_each (λ x. pos 1 ≤ℤ x) kind.more supply kind.drawn long)
    (zero_left (total pieces) (total kind.more) want.length (total (pieces ++ kind.more)) whole makes.sum sum) in
    record {
      lists = kind.lists;
      is = kind.is ∙ ap (λ (l : List ℤ). before ++ (pieces ++ l) ∷ kind.lists) nothing
          ∙ ap (λ (l : List ℤ). before ++ l ∷ kind.lists) (append_none pieces) ∙ sym (append_assoc before (pieces ∷ []) kind.lists);
    }
  where
    zero_left : (a b l w : ℤ) → w ≡ (a +ℤ b) → w ≡ l → a ≡ l → b ≡ pos 0
    zero_left a b l w whole made sum = omega (arith, ints)

    append_none : (xs : List ℤ) → xs ++ [] ≡ xs
    append_none [] = refl
    append_none (x ∷ xs) = ap (λ l. x ∷ l) (append_none xs)

pub done_goes_on : (before : List (List ℤ)) (pieces supply : List ℤ) (other : List (List ℤ)) → Begins (before ++ pieces ∷ []) other → GoesOn before pieces supply other
done_goes_on before pieces supply other kind = record {
  more = [];
  lists = kind.lists;
  drawn = none_drawn supply;
  is = kind.is ∙ append_assoc before (pieces ∷ []) kind.lists ∙ ap (λ (l : List ℤ). before ++ l ∷ kind.lists) (sym (append_none pieces));
}
  where
    append_none : (xs : List ℤ) → xs ++ [] ≡ xs
    append_none [] = refl
    append_none (x ∷ xs) = ap (λ l. x ∷ l) (append_none xs)

-- ---- the want takes the next piece of its supply, or none of that length
append_one : (pieces more : List ℤ) (x : ℤ) → (pieces ++ x ∷ []) ++ more ≡ pieces ++ x ∷ more
append_one pieces more x = append_assoc pieces (x ∷ []) more

pub takes_goes_on : (before : List (List ℤ)) (pieces supply : List ℤ) (x : ℤ) (other : List (List ℤ))
    → GoesOn before (pieces ++ x ∷ []) supply other → GoesOn before pieces (x ∷ supply) other
takes_goes_on before pieces supply x other kind = record {
  more = x ∷ kind.more;
  lists = kind.lists;
  drawn = inl (refl, kind.drawn);
  is = kind.is ∙ ap (λ (l : List ℤ). before ++ l ∷ kind.lists) (append_one pieces kind.more x);
}

pub leaves_goes_on : (before : List (List ℤ)) (pieces supply : List ℤ) (x : ℤ) (other : List (List ℤ))
    → GoesOn before pieces (shorter x supply) other → GoesOn before pieces (x ∷ supply) other
leaves_goes_on before pieces supply x other kind = record {
  more = kind.more;
  lists = kind.lists;
  drawn = drawn_behind kind.more supply x (shorter_drawn x kind.more supply kind.drawn);
  is = kind.is;
}

-- a choice that goes on either takes the piece or leaves its length
pub takes_or_leaves : (tools : ToolsData) (wants : List Want) (before : List (List ℤ)) (want : Want) (pieces supply : List ℤ) (x rest : ℤ) (other : List (List ℤ))
    → IsNext wants before want → pos 1 ≤ℤ rest → (total pieces +ℤ rest) ≡ want.length
    → IsChoice tools wants other → GoesOn before pieces (x ∷ supply) other
    → GoesOn before (pieces ++ x ∷ []) supply other ⊎ GoesOn before pieces (shorter x supply) other
takes_or_leaves tools wants before want pieces supply x rest other next some sum is kind =
    by_more kind.more kind.lists kind.drawn kind.is (goes_on_made tools wants before want pieces (x ∷ supply) other next is kind).sum
  where
    no_more : (a r l w : ℤ) → w ≡ (a +ℤ pos 0) → w ≡ l → (a +ℤ r) ≡ l → pos 1 ≤ℤ r → ⊥
    no_more a r l w whole made sum some = absurd (omega (arith, ints))

    takes : (y : ℤ) (more : List ℤ) (lists : List (List ℤ)) → y ≡ x → IsDrawn more supply → other ≡ before ++ (pieces ++ y ∷ more) ∷ lists
        → GoesOn before (pieces ++ x ∷ []) supply other
    takes y more lists same drawn shape = record {
      more = more;
      lists = lists;
      drawn = drawn;
      is = shape ∙ ap (λ (z : ℤ). before ++ (pieces ++ z ∷ more) ∷ lists) same
          ∙ ap (λ (l : List ℤ). before ++ l ∷ lists) (sym (append_one pieces more x));
    }

    by_piece : (y : ℤ) (more : List ℤ) (lists : List (List ℤ)) → ((y ≡ x) × IsDrawn more supply) ⊎ IsDrawn (y ∷ more) (shorter x supply)
        → other ≡ before ++ (pieces ++ y ∷ more) ∷ lists
        → GoesOn before (pieces ++ x ∷ []) supply other ⊎ GoesOn before pieces (shorter x supply) other
    by_piece y more lists (inl (same, drawn)) shape = inl (takes y more lists same drawn shape)
    by_piece y more lists (inr drawn) shape = inr (record { more = y ∷ more; lists = lists; drawn = drawn; is = shape })

    by_more : (more : List ℤ) (lists : List (List ℤ)) → IsDrawn more (x ∷ supply) → other ≡ before ++ (pieces ++ more) ∷ lists
        → total (pieces ++ more) ≡ want.length
        → GoesOn before (pieces ++ x ∷ []) supply other ⊎ GoesOn before pieces (shorter x supply) other
    by_more [] lists drawn shape made =
        absurd (no_more (total pieces) rest want.length (total (pieces ++ [])) (total_append pieces []) made sum some)
    by_more (y ∷ more) lists drawn shape made = by_piece y more lists (take_or_leave y x more supply drawn) shape

-- and the one that takes it comes first
pub taking_first : (tools : ToolsData) (wants : List Want) (before : List (List ℤ)) (want : Want) (pieces supply : List ℤ) (x rest : ℤ) (one other : List (List ℤ))
    → IsNext wants before want → pos 1 ≤ℤ rest → (total pieces +ℤ rest) ≡ want.length → Falls (x ∷ supply)
    → GoesOn before (pieces ++ x ∷ []) supply one
    → IsChoice tools wants other → GoesOn before pieces (shorter x supply) other → ComesFirst one other
taking_first tools wants before want pieces supply x rest one other next some sum falls taken is kind =
    by_more kind.more kind.lists kind.drawn kind.is (goes_on_made tools wants before want pieces (shorter x supply) other next is kind).sum
  where
    no_more : (a r l w : ℤ) → w ≡ (a +ℤ pos 0) → w ≡ l → (a +ℤ r) ≡ l → pos 1 ≤ℤ r → ⊥
    no_more a r l w whole made sum some = absurd (omega (arith, ints))

    taken_is : one ≡ before ++ (pieces ++ x ∷ taken.more) ∷ taken.lists
    taken_is = taken.is ∙ ap (λ (l : List ℤ). before ++ l ∷ taken.lists) (append_one pieces taken.more x)

    by_more : (more : List ℤ) (lists : List (List ℤ)) → IsDrawn more (shorter x supply) → other ≡ before ++ (pieces ++ more) ∷ lists
        → total (pieces ++ more) ≡ want.length → ComesFirst one other
    by_more [] lists drawn shape made =
        absurd (no_more (total pieces) rest want.length (total (pieces ++ [])) (total_append pieces []) made sum some)
    by_more (y ∷ more) lists drawn shape made =
        let less = (drawn_each (λ z. z <ℤ x) (y ∷ more) (shorter x supply) drawn (shorter_below x supply falls.0 falls.1)).0 in
        let order = first_at before taken.lists lists (pieces ++ x ∷ taken.more) (pieces ++ y ∷ more) (ahead_at pieces taken.more more x y less) in
        subst (λ (o : List (List ℤ)). ComesFirst o other) (sym taken_is)
        (subst (λ (o : List (List ℤ)). ComesFirst (before ++ (pieces ++ x ∷ taken.more) ∷ taken.lists) o) (sym shape) order)
