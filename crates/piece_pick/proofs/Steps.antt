-- What each step of the search keeps, and what it finds.
use Rattle.std.proofs.Common.{◌≡◌, ◌⊎◌, inl, inr, ℕ, suc, ◌+◌, ◌<◌, ◌≤◌, ℤ, pos, ◌+ℤ◌, ◌-ℤ◌, ◌≤ℤ◌, ◌<ℤ◌, Bool, true, false, List, [], ◌∷◌, ◌++◌, length, get_or, drop, refl, sym, ◌∙◌, ap, subst, append_assoc, arith}
use Rattle.std.proofs.lemmas.List.{append-nil}
use Rattle.std.specs.Prelude.{All}
use Rattle.std.proofs.lemmas.Int.{ints}
use Rattle.arrayvec.specs.ArrayVec.{ArrayVec}
use Rattle.tool_library.specs.Tools.{ToolsData}
use Rattle.piece_pick.specs.declared.want.Want.{Want}
use Rattle.piece_pick.specs.declared.stock.Tool.{Tool}
use Rattle.tool_library.specs.Stock.{held}
use Rattle.piece_pick.specs.Stock.{sections_of, taken}
use Rattle.piece_pick.specs.Choice.{most_pieces, total, IsWant, IsChoice, ComesFirst, IsFirstChoice, lists_of}
use Rattle.piece_pick.specs.Search.{IsSupply, IsLeftFor, IsDrawn, HasNoFill, shorter, AreBegun, IsPart, IsNext, Begins, GoesOn, IsFirst, HasNone, Finds, IsAt, IsAsked, IsState}
use Rattle.piece_pick.proofs.Drawn.{Falls, each_from, falls_from, falls_drop, each_drop, from_on, total_append, total_least, drawn_each, none_drawn, shorter_drawn, drawn_behind}
use Rattle.piece_pick.proofs.Begun.{taken_nothing}
use Rattle.piece_pick.proofs.Firsts.{first_as, none_as, begins_with, goes_on_begins, goes_on_made, none_left, part_push, goes_on_done, done_goes_on, takes_goes_on, leaves_goes_on, takes_or_leaves, taking_first}

-- the rule of the next want
pub want_is : (tools : ToolsData) (wants : List Want) (before : List (List ℤ)) (want : Want) → All (IsWant tools) wants → IsNext wants before want → IsWant tools want
want_is tools [] before want all next = absurd next
want_is tools (w ∷ wants) [] want all next = subst (λ (v : Want). IsWant tools v) next (all 0 w (omega arith))
want_is tools (w ∷ wants) (pieces ∷ lists) want all next =
    want_is tools wants lists want (λ k d within. all (suc k) d (omega arith)) next

-- ---- where the search stands
pub at_start : (wanted : ℤ) (supply : List ℤ) → pos 1 ≤ℤ wanted → IsAt wanted supply [] 0 wanted
at_start wanted supply long = record {
  within = omega arith;
  least = omega (arith, ints);
  sum = omega (arith, ints);
  drawn = λ more drawn. drawn;
}

pub at_next : (wanted : ℤ) (supply pieces : List ℤ) (from : ℕ) (rest x : ℤ) → IsAt wanted supply pieces from rest
    → from < length supply → get_or supply from x ≡ x → x ≤ℤ rest → IsAt wanted supply (pieces ++ x ∷ []) (from + 1) (rest -ℤ x)
at_next wanted supply pieces from rest x at within here small = record {
  within = omega arith;
  least = omega (arith, ints);
  sum = sum_of (total pieces) rest (total (pieces ++ x ∷ [])) (total_append pieces (x ∷ [])) at.sum;
  drawn = λ more drawn.
      subst (λ (ps : List ℤ). IsDrawn ps supply) (sym (append_assoc pieces (x ∷ []) more))
      (at.drawn (x ∷ more) (subst (λ (s : List ℤ). IsDrawn (x ∷ more) s) (sym shape) (inl (refl, drawn))));
}
  where
    shape : drop from supply ≡ x ∷ drop (from + 1) supply
    shape = from_on supply from x within ∙ ap (λ z. z ∷ drop (from + 1) supply) here

    sum_of : (a r w : ℤ) → w ≡ (a +ℤ (x +ℤ pos 0)) → (a +ℤ r) ≡ wanted → (w +ℤ (r -ℤ x)) ≡ wanted
    sum_of a r w whole sum = omega (arith, ints)

pub at_shorter : (wanted : ℤ) (supply pieces : List ℤ) (from next : ℕ) (rest x : ℤ) → IsAt wanted supply pieces from rest
    → from < length supply → get_or supply from x ≡ x → next ≤ length supply → drop next supply ≡ shorter x (drop (from + 1) supply)
    → IsAt wanted supply pieces next rest
at_shorter wanted supply pieces from next rest x at within here inside shape = record {
  within = inside;
  least = at.least;
  sum = at.sum;
  drawn = λ more drawn.
      at.drawn more
      (subst (λ (s : List ℤ). IsDrawn more s) (sym (from_on supply from x within))
      (drawn_behind more (drop (from + 1) supply) (get_or supply from x)
      (shorter_drawn x more (drop (from + 1) supply) (subst (λ (s : List ℤ). IsDrawn more s) shape drawn))));
}

-- ---- the want has all its pieces
pub done_part : (tools : ToolsData) (wants : List Want) (before : List (List ℤ)) (want : Want) (supply pieces : List ℤ) (from : ℕ) (rest : ℤ)
    → All (IsWant tools) wants → IsPart tools wants before → IsNext wants before want → IsSupply supply → IsLeftFor tools wants before want supply
    → IsAt want.length supply pieces from rest → rest ≡ pos 0 → length pieces ≤ most_pieces → IsPart tools wants (before ++ pieces ∷ [])
done_part tools wants before want supply pieces from rest all part next is_supply left at none few =
    part_push tools wants before want supply pieces part next is_supply left drawn (want_is tools wants before want all next).long sum few
  where
    drawn : IsDrawn pieces supply
    drawn = subst (λ (ps : List ℤ). IsDrawn ps supply) (append-nil pieces) (at.drawn [] (none_drawn (drop from supply)))

    sum : total pieces ≡ want.length
    sum = sum_of (total pieces) want.length at.sum
      where
        sum_of : (a w : ℤ) → (a +ℤ rest) ≡ w → a ≡ w
        sum_of a w whole = omega (arith, ints)

pub done_finds : (tools : ToolsData) (wants : List Want) (before : List (List ℤ)) (want : Want) (supply pieces : List ℤ) (from : ℕ) (rest : ℤ)
    (found : Bool) (now : List (List ℤ))
    → IsNext wants before want → IsSupply supply → IsAt want.length supply pieces from rest → rest ≡ pos 0
    → Finds tools wants (Begins (before ++ pieces ∷ [])) before found now → Finds tools wants (GoesOn before pieces (drop from supply)) before found now
done_finds tools wants before want supply pieces from rest found now next is_supply at none finds = by_found found finds
  where
    sum_of : (a w : ℤ) → (a +ℤ rest) ≡ w → a ≡ w
    sum_of a w whole = omega (arith, ints)

    into : (other : List (List ℤ)) → IsChoice tools wants other → GoesOn before pieces (drop from supply) other → Begins (before ++ pieces ∷ []) other
    into other is kind =
        goes_on_done tools wants before want pieces (drop from supply) other next
        (each_drop (λ x. pos 1 ≤ℤ x) supply from (each_from (λ x. pos 1 ≤ℤ x) supply is_supply.long))
        (sum_of (total pieces) want.length at.sum) is kind

    by_found : (b : Bool) → Finds tools wants (Begins (before ++ pieces ∷ [])) before b now → Finds tools wants (GoesOn before pieces (drop from supply)) before b now
    by_found true first =
        first_as tools wants (Begins (before ++ pieces ∷ [])) (GoesOn before pieces (drop from supply)) now into
        (λ other kind. done_goes_on before pieces (drop from supply) other kind) first
    by_found false none =
        (none_as tools wants (Begins (before ++ pieces ∷ [])) (GoesOn before pieces (drop from supply)) into none.0, none.1)

-- ---- there are no pieces that make up the rest
pub dead_finds : (tools : ToolsData) (wants : List Want) (before : List (List ℤ)) (want : Want) (supply pieces : List ℤ) (from room : ℕ) (rest : ℤ)
    → IsNext wants before want → IsAt want.length supply pieces from rest → length pieces + room ≡ most_pieces → HasNoFill (drop from supply) rest room
    → HasNone tools wants (GoesOn before pieces (drop from supply))
dead_finds tools wants before want supply pieces from room rest next at most none =
    none_left tools wants before want pieces (drop from supply) rest room next at.sum most none

-- ---- the first choice takes the next piece, or none of that length
pub taken_finds : (tools : ToolsData) (wants : List Want) (before : List (List ℤ)) (want : Want) (supply pieces : List ℤ) (from : ℕ) (rest x : ℤ) (now : List (List ℤ))
    → IsNext wants before want → IsSupply supply → IsAt want.length supply pieces from rest → pos 1 ≤ℤ rest
    → from < length supply → get_or supply from x ≡ x
    → IsFirst tools wants (GoesOn before (pieces ++ x ∷ []) (drop (from + 1) supply)) now → IsFirst tools wants (GoesOn before pieces (drop from supply)) now
taken_finds tools wants before want supply pieces from rest x now next is_supply at some within here first =
    subst (λ (s : List ℤ). IsFirst tools wants (GoesOn before pieces s) now) (sym shape) (record {
      choice = first.choice;
      kind = takes_goes_on before pieces (drop (from + 1) supply) x now first.kind;
      first = λ other is kind. by_kind other is
          (takes_or_leaves tools wants before want pieces (drop (from + 1) supply) x rest other next some at.sum is kind);
    })
  where
    shape : drop from supply ≡ x ∷ drop (from + 1) supply
    shape = from_on supply from x within ∙ ap (λ z. z ∷ drop (from + 1) supply) here

    falls : Falls (x ∷ drop (from + 1) supply)
    falls = subst Falls shape (falls_drop supply from (falls_from supply is_supply.falling))

    by_kind : (other : List (List ℤ)) → IsChoice tools wants other
        → GoesOn before (pieces ++ x ∷ []) (drop (from + 1) supply) other ⊎ GoesOn before pieces (shorter x (drop (from + 1) supply)) other
        → (other ≡ now) ⊎ ComesFirst now other
    by_kind other is (inl taken) = first.first other is taken
    by_kind other is (inr leaves) =
        inr (taking_first tools wants before want pieces (drop (from + 1) supply) x rest now other next some at.sum falls first.kind is leaves)

pub left_finds : (tools : ToolsData) (wants : List Want) (before : List (List ℤ)) (want : Want) (supply pieces : List ℤ) (from : ℕ) (rest x : ℤ)
    (found : Bool) (now : List (List ℤ))
    → IsNext wants before want → IsAt want.length supply pieces from rest → pos 1 ≤ℤ rest
    → from < length supply → get_or supply from x ≡ x
    → HasNone tools wants (GoesOn before (pieces ++ x ∷ []) (drop (from + 1) supply))
    → Finds tools wants (GoesOn before pieces (shorter x (drop (from + 1) supply))) before found now
    → Finds tools wants (GoesOn before pieces (drop from supply)) before found now
left_finds tools wants before want supply pieces from rest x found now next at some within here none finds =
    subst (λ (s : List ℤ). Finds tools wants (GoesOn before pieces s) before found now) (sym shape) (by_found found finds)
  where
    shape : drop from supply ≡ x ∷ drop (from + 1) supply
    shape = from_on supply from x within ∙ ap (λ z. z ∷ drop (from + 1) supply) here

    only : (other : List (List ℤ)) → IsChoice tools wants other
        → GoesOn before (pieces ++ x ∷ []) (drop (from + 1) supply) other ⊎ GoesOn before pieces (shorter x (drop (from + 1) supply)) other
        → GoesOn before pieces (shorter x (drop (from + 1) supply)) other
    only other is (inl taken) = absurd (none other is taken)
    only other is (inr leaves) = leaves

    into : (other : List (List ℤ)) → IsChoice tools wants other → GoesOn before pieces (x ∷ drop (from + 1) supply) other
        → GoesOn before pieces (shorter x (drop (from + 1) supply)) other
    into other is kind = only other is (takes_or_leaves tools wants before want pieces (drop (from + 1) supply) x rest other next some at.sum is kind)

    by_found : (b : Bool) → Finds tools wants (GoesOn before pieces (shorter x (drop (from + 1) supply))) before b now
        → Finds tools wants (GoesOn before pieces (x ∷ drop (from + 1) supply)) before b now
    by_found true first =
        first_as tools wants (GoesOn before pieces (shorter x (drop (from + 1) supply))) (GoesOn before pieces (x ∷ drop (from + 1) supply)) now into
        (λ other kind. leaves_goes_on before pieces (drop (from + 1) supply) x other kind) first
    by_found false nothing =
        (none_as tools wants (GoesOn before pieces (shorter x (drop (from + 1) supply))) (GoesOn before pieces (x ∷ drop (from + 1) supply)) into nothing.0, nothing.1)

-- a piece that is longer than the rest
pub too_long : (tools : ToolsData) (wants : List Want) (before : List (List ℤ)) (want : Want) (supply pieces : List ℤ) (from : ℕ) (rest x : ℤ)
    → IsNext wants before want → IsSupply supply → IsAt want.length supply pieces from rest → rest <ℤ x
    → HasNone tools wants (GoesOn before (pieces ++ x ∷ []) (drop (from + 1) supply))
too_long tools wants before want supply pieces from rest x next is_supply at long other is kind =
    let made = (goes_on_made tools wants before want (pieces ++ x ∷ []) (drop (from + 1) supply) other next is kind).sum in
    let least = total_least kind.more (drawn_each (λ x. pos 1 ≤ℤ x) kind.more (drop (from + 1) supply) kind.drawn
    (each_drop (λ x. pos 1 ≤ℤ x) supply (from + 1) (each_from (λ x. pos 1 ≤ℤ x) supply is_supply.long))) in
    over (total pieces) (total kind.more) (total (pieces ++ x ∷ [])) (total ((pieces ++ x ∷ []) ++ kind.more)) want.length
    (total_append pieces (x ∷ [])) (total_append (pieces ++ x ∷ []) kind.more) made at.sum least long
  where
    over : (a m b w l : ℤ) → b ≡ (a +ℤ (x +ℤ pos 0)) → w ≡ (b +ℤ m) → w ≡ l → (a +ℤ rest) ≡ l → pos 0 ≤ℤ m → rest <ℤ x → ⊥
    over a m b w l whole both made sum least long = absurd (omega (arith, ints))

-- ---- the next want begins
pub start_finds : (tools : ToolsData) (wants : List Want) (before : List (List ℤ)) (want : Want) (supply : List ℤ) (found : Bool) (now : List (List ℤ))
    → IsNext wants before want → IsSupply supply → IsLeftFor tools wants before want supply
    → Finds tools wants (GoesOn before [] supply) before found now → Finds tools wants (Begins before) before found now
start_finds tools wants before want supply found now next is_supply left finds = by_found found finds
  where
    into : (other : List (List ℤ)) → IsChoice tools wants other → Begins before other → GoesOn before [] supply other
    into = begins_with tools wants before want supply next is_supply left

    by_found : (b : Bool) → Finds tools wants (GoesOn before [] supply) before b now → Finds tools wants (Begins before) before b now
    by_found true first = first_as tools wants (GoesOn before [] supply) (Begins before) now into (λ other kind. goes_on_begins before supply other kind) first
    by_found false none = (none_as tools wants (GoesOn before [] supply) (Begins before) into none.0, none.1)

-- ---- nothing is picked yet
pub none_part : (tools : ToolsData) (wants : List Want) → IsPart tools wants []
none_part tools wants = record { each = begun wants; stock = λ tool p. stock wants tool p }
  where
    begun : (ws : List Want) → AreBegun ws []
    begun [] = tt
    begun (w ∷ ws) = tt

    stock : (ws : List Want) (tool : Tool) (p : ℤ) → taken tool p ws [] ≤ held (sections_of tools tool) p
    stock ws tool p = let nothing = taken_nothing tool p ws in omega (arith, nothing)

pub whole_first : (tools : ToolsData) (wants : List Want) (now : List (List ℤ)) → IsFirst tools wants (Begins []) now → IsFirstChoice tools wants now
whole_first tools wants now first = record {
  choice = first.choice;
  first = λ other is. first.first other is (record { lists = other; is = refl });
}

pub whole_none : (tools : ToolsData) (wants : List Want) → HasNone tools wants (Begins []) → (other : List (List ℤ)) → IsChoice tools wants other → ⊥
whole_none tools wants none other is = none other is (record { lists = other; is = refl })

pub next_within : (wants : List Want) (before : List (List ℤ)) (want : Want) → IsNext wants before want → length before < length wants
next_within [] before want next = absurd next
next_within (w ∷ wants) [] want next = omega arith
next_within (w ∷ wants) (pieces ∷ lists) want next = let later = next_within wants lists want next in omega arith

-- ---- the same, where what was there before has another name
pub taken_kind : (tools : ToolsData) (wants : List Want) (before : List (List ℤ)) (supply slice pieces front : List ℤ) (from : ℕ) (x : ℤ)
    (found : Bool) (now : List (List ℤ)) → slice ≡ supply → front ≡ pieces → get_or supply from x ≡ x
    → ((piece : ℤ) → get_or slice from piece ≡ piece
    → Finds tools wants (GoesOn before (front ++ piece ∷ []) (drop (from + 1) slice)) before found now)
    → Finds tools wants (GoesOn before (pieces ++ x ∷ []) (drop (from + 1) supply)) before found now
taken_kind tools wants before supply slice pieces front from x found now same as_before here finds =
    subst (λ (p : List ℤ). Finds tools wants (GoesOn before (p ++ x ∷ []) (drop (from + 1) supply)) before found now) as_before
    (subst (λ (s : List ℤ). get_or s from x ≡ x → Finds tools wants (GoesOn before (front ++ x ∷ []) (drop (from + 1) s)) before found now) same (finds x) here)

pub left_kind : (tools : ToolsData) (wants : List Want) (before first : List (List ℤ)) (supply slice pieces front : List ℤ) (from : ℕ) (x : ℤ)
    (found : Bool) (now : List (List ℤ)) → slice ≡ supply → front ≡ pieces → first ≡ before → get_or supply from x ≡ x
    → ((piece : ℤ) → get_or slice from piece ≡ piece
    → Finds tools wants (GoesOn first front (shorter piece (drop (from + 1) slice))) first found now)
    → Finds tools wants (GoesOn before pieces (shorter x (drop (from + 1) supply))) before found now
left_kind tools wants before first supply slice pieces front from x found now same as_before lists here finds =
    subst (λ (b : List (List ℤ)). Finds tools wants (GoesOn b pieces (shorter x (drop (from + 1) supply))) b found now) lists
    (subst (λ (p : List ℤ). Finds tools wants (GoesOn first p (shorter x (drop (from + 1) supply))) first found now) as_before
    (subst (λ (s : List ℤ). get_or s from x ≡ x → Finds tools wants (GoesOn first front (shorter x (drop (from + 1) s))) first found now) same (finds x) here))

pub start_state : (tools : ToolsData) (wants : List Want) (before : List (List ℤ)) (want first : Want) (supply whole pieces : List ℤ) (rest : ℤ)
    → IsAsked tools wants → IsPart tools wants before → IsNext wants before first → IsLeftFor tools wants before first whole
    → want ≡ first → supply ≡ whole → pieces ≡ [] → rest ≡ first.length → IsState tools wants before want supply pieces 0 rest
start_state tools wants before want first supply whole pieces rest asked part next left same_want same_supply none whole_rest =
    subst (λ (w : Want). IsState tools wants before w supply pieces 0 rest) (sym same_want)
    (subst (λ (s : List ℤ). IsState tools wants before first s pieces 0 rest) (sym same_supply)
    (subst (λ (p : List ℤ). IsState tools wants before first whole p 0 rest) (sym none)
    (subst (λ (r : ℤ). IsState tools wants before first whole [] 0 r) (sym whole_rest)
    (record { asked = asked; part = part; next = next; left = left; at = at_start first.length whole (want_is tools wants before first asked.wants_are next).long }))))

pub next_state : (tools : ToolsData) (wants : List Want) (before : List (List ℤ)) (want : Want) (supply pieces longer : List ℤ) (from : ℕ) (rest x left_over : ℤ)
    → IsState tools wants before want supply pieces from rest → from < length supply → get_or supply from x ≡ x → x ≤ℤ rest
    → longer ≡ pieces ++ x ∷ [] → left_over ≡ (rest -ℤ x) → IsState tools wants before want supply longer (from + 1) left_over
next_state tools wants before want supply pieces longer from rest x left_over state within here small pushed less =
    subst (λ (p : List ℤ). IsState tools wants before want supply p (from + 1) left_over) (sym pushed)
    (subst (λ (r : ℤ). IsState tools wants before want supply (pieces ++ x ∷ []) (from + 1) r) (sym less)
    (record { asked = state.asked; part = state.part; next = state.next; left = state.left; at = at_next want.length supply pieces from rest x state.at within here small }))

pub shorter_state : (tools : ToolsData) (wants : List Want) (before : List (List ℤ)) (want : Want) (supply pieces : List ℤ) (from after : ℕ) (rest x : ℤ)
    → IsState tools wants before want supply pieces from rest → from < length supply → get_or supply from x ≡ x → after ≤ length supply
    → drop after supply ≡ shorter x (drop (from + 1) supply) → IsState tools wants before want supply pieces after rest
shorter_state tools wants before want supply pieces from after rest x state within here inside skips = record {
  asked = state.asked;
  part = state.part;
  next = state.next;
  left = state.left;
  at = at_shorter want.length supply pieces from after rest x state.at within here inside skips;
}

pub moved_state : (tools : ToolsData) (wants : List Want) (before first : List (List ℤ)) (want want_now : Want) (supply slice pieces front : List ℤ) (from : ℕ) (rest : ℤ)
    → first ≡ before → want_now ≡ want → slice ≡ supply → front ≡ pieces
    → IsState tools wants before want supply pieces from rest → IsState tools wants first want_now slice front from rest
moved_state tools wants before first want want_now supply slice pieces front from rest lists same_want same as_before state =
    subst (λ (b : List (List ℤ)). IsState tools wants b want_now slice front from rest) (sym lists)
    (subst (λ (w : Want). IsState tools wants before w slice front from rest) (sym same_want)
    (subst (λ (s : List ℤ). IsState tools wants before want s front from rest) (sym same)
    (subst (λ (p : List ℤ). IsState tools wants before want supply p from rest) (sym as_before) state)))

pub moved_start : (tools : ToolsData) (wants : List Want) (before : List (List ℤ)) (supply slice pieces : List ℤ) (found : Bool) (now : List (List ℤ))
    → slice ≡ supply → pieces ≡ [] → Finds tools wants (GoesOn before pieces slice) before found now → Finds tools wants (GoesOn before [] supply) before found now
moved_start tools wants before supply slice pieces found now same none finds =
    subst (λ (p : List ℤ). Finds tools wants (GoesOn before p supply) before found now) none
    (subst (λ (s : List ℤ). Finds tools wants (GoesOn before pieces s) before found now) same finds)

pub size_of : (picked : List (ArrayVec ℤ)) → length (lists_of picked) ≡ length picked
size_of [] = refl
size_of (p ∷ picked) = let later = size_of picked in omega (arith, later)

pub same_size : (picked others : List (ArrayVec ℤ)) → lists_of picked ≡ lists_of others → length picked ≡ length others
same_size picked others same = sym (size_of picked) ∙ ap length same ∙ size_of others
