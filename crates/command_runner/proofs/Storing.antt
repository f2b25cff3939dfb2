-- What storing texts one after another comes to.
use Rattle.std.proofs.Common.{◌≡◌, ◌≢◌, ℕ, suc, ◌+◌, ◌<◌, ◌≤◌, List, [], ◌∷◌, ◌++◌, length, length-append, map, get_or, take, drop, string_bytes, Option, Some, None, Result, Err, refl, sym, ap, ◌∙◌, drop-cons, arith}
use Rattle.std.specs.Prelude.{IfSome, IsErrOf}
use Rattle.std.proofs.Math.Path.{fun_ext}
use Rattle.std.proofs.lemmas.Grind.{common_steps}
use Rattle.std.proofs.lemmas.Slice.Eq.{bytes_eq-Decides}
use Rattle.std.proofs.lemmas.List.{map-append, map_more, take-append-drop}
use Rattle.brake_io.specs.Rose.{raised}
use Rattle.brake_io.specs.Meanings.{Names, Content, ShelfState, NoCountFalls, IsDue, MayFail, WhereBothTold, WhereTold, ChangesOnly, HoldsNow, HoldsPart, with_bytes}
use Rattle.command_runner.specs.declared.answer.StoredText.{StoredText}
use Rattle.command_runner.specs.Answers.{StoredData, stored_data, one_stored}
use Rattle.command_runner.specs.Fetching.{IsDueBetween, HasDueCall}
use Rattle.command_runner.specs.Delivery.{held_after, HoldsAll, AreStored, AreStoredUpTo}

held_after-append : (xs ys : List StoredData) (names : Names) → held_after (xs ++ ys) names ≡ held_after ys (held_after xs names)
held_after-append [] ys names = refl
held_after-append (x ∷ xs) ys names = held_after-append xs ys (with_bytes x.name x.text names)

-- what is held where one name holds a text, and the others what they held
given_at : (name text : List ℕ) (was is : Names) → is name ≡ Some text → ((other : List ℕ) → other ≢ name → is other ≡ was other) → (other : List ℕ) → is other ≡ with_bytes name text was other
given_at name text was is here there other =
    let elsewhere : other ≢ name → is other ≡ was other = there other in
    grind (arith, common_steps, bytes_eq-Decides)

stored_one : (one : StoredData) (was is : Option Content) → WhereBothTold was is (ChangesOnly one.name) → WhereBothTold was is (HoldsNow one.name one.text) → WhereBothTold was is (HoldsAll (one ∷ []))
stored_one one None None only here = tt
stored_one one None (Some is) only here = absurd only
stored_one one (Some was) None only here = absurd only
stored_one one (Some was) (Some is) only here =
    let held : is.held ≡ with_bytes one.name one.text was.held = fun_ext (given_at one.name one.text was.held is.held here only.others) in
    ap (λ (h : Names). record is { held = h }) held ∙ ap (λ (d : List ℕ). record { held = with_bytes one.name one.text was.held; due = d }) only.due

pub stored_both : (xs ys : List StoredData) (a b c : Option Content) → WhereBothTold a b (HoldsAll xs) → WhereBothTold b c (HoldsAll ys) → WhereBothTold a c (HoldsAll (xs ++ ys))
stored_both xs ys None None None first then = tt
stored_both xs ys None None (Some c) first then = absurd then
stored_both xs ys None (Some b) c first then = absurd first
stored_both xs ys (Some a) None c first then = absurd first
stored_both xs ys (Some a) (Some b) None first then = absurd then
stored_both xs ys (Some a) (Some b) (Some c) first then =
    then ∙ ap (λ (k : Content). record k { held = held_after ys k.held }) first ∙ ap (λ (h : Names). record a { held = h }) (sym (held_after-append xs ys a.held))

stored_none : (o : Option Content) → WhereBothTold o o (HoldsAll [])
stored_none None = tt
stored_none (Some c) = refl

pub nothing_stored : (s : ShelfState) → AreStored [] s s
nothing_stored s = record { holds = stored_none s.content; calls = omega arith; longs = refl }

-- one text more
pub stored_more : (stored : List StoredText) (i : ℕ) (one : StoredText) (name text : List ℕ) (a b c : ShelfState) → i < length stored → one ≡ get_or stored i one
    → name ≡ string_bytes one.name → text ≡ one.text.items → AreStored (map stored_data (take i stored)) a b → WhereTold b c (ChangesOnly name) → WhereTold b c (HoldsNow name text)
    → c.calls ≡ raised b.calls → c.longs ≡ b.longs → AreStored (map stored_data (take (i + 1) stored)) a c
stored_more stored i one name text a b c within here name_is text_is first only holds calls longs =
    let next : map stored_data (take (i + 1) stored) ≡ map stored_data (take i stored) ++ stored_data one ∷ [] =
    map_more stored_data stored i one within ∙ ap (λ (s : StoredText). map stored_data (take i stored) ++ stored_data s ∷ []) (sym here) in
    let only_one : WhereTold b c (ChangesOnly (string_bytes one.name)) = rw name_is at only in
    let holds_one : WhereTold b c (HoldsNow (string_bytes one.name) one.text.items) = rw (name_is, text_is) at holds in
    rw next (record {
      holds = stored_both (map stored_data (take i stored)) (stored_data one ∷ []) a.content b.content c.content first.holds (stored_one (stored_data one) b.content c.content only_one holds_one);
      calls = rw length-append (omega (arith, first.calls, calls));
      longs = longs ∙ first.longs;
    })

-- the texts around one of them
around : (stored : List StoredText) (i : ℕ) (one : StoredText) → i < length stored → one ≡ get_or stored i one
    → map stored_data stored ≡ map stored_data (take i stored) ++ (stored_data one ∷ map stored_data (drop (suc i) stored))
around stored i one within here =
    ap (map stored_data) (sym (take-append-drop i stored)) ∙ map-append stored_data (take i stored) (drop i stored)
    ∙ ap (λ (rest : List StoredText). map stored_data (take i stored) ++ map stored_data rest) (drop-cons stored i one within)
    ∙ ap (λ (s : StoredText). map stored_data (take i stored) ++ (stored_data s ∷ map stored_data (drop (suc i) stored))) (sym here)

-- a text that isn't stored, where those before it are
pub stored_up_to : (stored : List StoredText) (i : ℕ) (one : StoredText) (name text : List ℕ) (a b c : ShelfState) → i < length stored → one ≡ get_or stored i one
    → name ≡ string_bytes one.name → text ≡ one.text.items → AreStored (map stored_data (take i stored)) a b → WhereTold b c (ChangesOnly name) → WhereTold b c (HoldsPart name text)
    → c.calls ≡ raised b.calls → c.longs ≡ b.longs → AreStoredUpTo (map stored_data stored) a c
stored_up_to stored i one name text a b c within here name_is text_is first only part calls longs =
    let only_one : WhereTold b c (ChangesOnly (string_bytes one.name)) = rw name_is at only in
    let part_of_one : WhereTold b c (HoldsPart (string_bytes one.name) one.text.items) = rw (name_is, text_is) at part in
    record {
      whole = map stored_data (take i stored);
      next = stored_data one;
      rest = map stored_data (drop (suc i) stored);
      split = around stored i one within here;
      between = b;
      first = first;
      last = record { others = only_one; part = part_of_one; calls = omega (arith, calls); longs = longs };
    }

-- one text that is stored, or a part of it
pub one_whole : (name text : List ℕ) (b c : ShelfState) → WhereTold b c (ChangesOnly name) → WhereTold b c (HoldsNow name text)
    → c.calls ≡ raised b.calls → c.longs ≡ b.longs → AreStored (one_stored name text) b c
one_whole name text b c only holds calls longs = record {
  holds = stored_one (record { name = name; text = text }) b.content c.content only holds;
  calls = omega (arith, calls);
  longs = longs;
}

pub one_part : (name text : List ℕ) (b c : ShelfState) → WhereTold b c (ChangesOnly name) → WhereTold b c (HoldsPart name text)
    → c.calls ≡ raised b.calls → c.longs ≡ b.longs → AreStoredUpTo (one_stored name text) b c
one_part name text b c only part calls longs = record {
  whole = [];
  next = record { name = name; text = text };
  rest = [];
  split = refl;
  between = b;
  first = nothing_stored b;
  last = record { others = only; part = part; calls = omega (arith, calls); longs = longs };
}

due_among : (stored : List StoredData) (first before now : ℕ) (a b : Option Content) → WhereBothTold a b (HoldsAll stored) → first ≤ before
    → IfSome b (λ content. IsDue content.due before now) → IfSome a (λ content. IsDueBetween first now content.due)
due_among stored first before now None b is least due = tt
due_among stored first before now (Some a) None is least due = absurd is
due_among stored first before now (Some a) (Some b) is least due =
    let there : IsDue a.due before now = rw (ap (λ (content : Content). content.due) is) at due in
    (there.1.0, now, there.1.1, there.1.2, (omega (arith, least, there.0), omega arith))

-- a call that was to fail is one of the run's
pub stored_due : (stored : List StoredData) (a b c : ShelfState) → AreStored stored a b → NoCountFalls a b → MayFail b c → HasDueCall a c
stored_due stored a b c first falls due = due_among stored a.calls b.calls c.calls a.content b.content first.holds falls.calls due

pub one_due : (b c : ShelfState) → MayFail b c → HasDueCall b c
one_due b c due = stored_due [] b b c (nothing_stored b) (record { calls = omega arith; faults = omega arith; longs = omega arith }) due

-- counts that fall at neither of two steps
pub none_falls : (a b c : ShelfState) → NoCountFalls a b → NoCountFalls b c → NoCountFalls a c
none_falls a b c first then = record {
  calls = omega (arith, first.calls, then.calls);
  faults = omega (arith, first.faults, then.faults);
  longs = omega (arith, first.longs, then.longs);
}

-- one error is one fault
pub same_error : {A E : Type 0} (r : Result A E) (fault other : E) → r ≡ Err fault → IsErrOf r other → fault ≡ other
same_error r fault other is fails = cc
