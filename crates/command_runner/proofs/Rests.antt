-- What is stored before there is an answer, and the rest of the answer.
use Rattle.std.proofs.Common.{◌≡◌, ◌⊎◌, inl, inr, ℕ, ◌≤◌, List, [], ◌∷◌, ◌++◌, length, Option, Some, None, refl, sym, ap, ◌∙◌, subst, append_assoc, length-append, arith}
use Rattle.std.specs.Prelude.{IfSome, Any, map, Ok, Err}
use Rattle.std.proofs.lemmas.List.{length-map}
use Rattle.brake_io.specs.Rose.{Rose}
use Rattle.brake_io.specs.Meanings.{Content, ShelfState, SinkState, WhereBothTold}
use Rattle.command_runner.specs.declared.status.Status.{Status}
use Rattle.command_runner.specs.Answers.{StoredData, AnswerData, after_storing, long_refused}
use Rattle.command_runner.specs.declared.word_kind.WordKind.{WordKind}
use Rattle.command_runner.specs.declared.fetching.FileWord.{FileWord}
use Rattle.command_runner.specs.Fetching.{file_words, file_of, files_of, IsFetched, OnlyFetches, names_of, IsDueBetween, HasDueCall, HasCause}
use Rattle.command_runner.specs.Delivery.{IsCutShort, HoldsAll, AreStored, AreStoredUpTo, Outside, Delivers, delivered, stored_in_part, put_in_part}
use Rattle.command_runner.specs.Ends.{Meaning, Beginning, StoresFirst, StoresBeginning, IsAnswer, IsBegun, HasRest, Ends, stops, begun}
use Rattle.command_runner.proofs.Storing.{stored_both, nothing_stored}

-- nothing is stored of an answer yet
pub nothing_first : (IsOne : AnswerData → Type 0) (answer : AnswerData) (s : ShelfState) → IsOne answer → StoresFirst IsOne answer s s
nothing_first IsOne answer s is = record { first = []; are_stored = nothing_stored s; is_one = is; faults = refl }

-- texts that are stored after others
pub stored_after : (xs ys : List StoredData) (a b c : ShelfState) → AreStored xs a b → AreStored ys b c → AreStored (xs ++ ys) a c
stored_after xs ys a b c first then = record {
  holds = stored_both xs ys a.content b.content c.content first.holds then.holds;
  calls = rw length-append (omega (arith, first.calls, then.calls));
  longs = then.longs ∙ first.longs;
}

-- texts of which a beginning is stored after others
pub stored_up_to_after : (xs ys : List StoredData) (a b c : ShelfState) → AreStored xs a b → AreStoredUpTo ys b c → AreStoredUpTo (xs ++ ys) a c
stored_up_to_after xs ys a b c first then = record {
  whole = xs ++ then.whole;
  next = then.next;
  rest = then.rest;
  split = ap (λ (l : List StoredData). xs ++ l) then.split ∙ sym (append_assoc xs then.whole (then.next ∷ then.rest));
  between = then.between;
  first = stored_after xs then.whole a b then.between first then.first;
  last = then.last;
}

-- what is delivered of the rest is delivered of the answer
pub delivers_after : (first : List StoredData) (rest : AnswerData) (a b : ShelfState) (sink : SinkState) (now : Outside) (status : Status) → AreStored first a b → b.faults ≡ a.faults
    → Delivers rest (record { shelf = b; sink = sink }) now status → Delivers (after_storing first rest) (record { shelf = a; sink = sink }) now status
delivers_after first rest a b sink now status stored same (delivered ended then puts faults sink_faults) = delivered ended (stored_after first rest.stored a b now.shelf stored then) puts (faults ∙ same) sink_faults
delivers_after first rest a b sink now status stored same (stored_in_part short then puts) = stored_in_part short (stored_up_to_after first rest.stored a b now.shelf stored then) puts
delivers_after first rest a b sink now status stored same (put_in_part short then puts) = put_in_part short (stored_after first rest.stored a b now.shelf stored then) puts

due_after : (stored : List StoredData) (first before now : ℕ) (a b : Option Content) → WhereBothTold a b (HoldsAll stored) → first ≤ before
    → IfSome b (λ content. IsDueBetween before now content.due) → IfSome a (λ content. IsDueBetween first now content.due)
due_after stored first before now None b is least due = tt
due_after stored first before now (Some a) None is least due = absurd is
due_after stored first before now (Some a) (Some b) is least due =
    let there : IsDueBetween before now a.due = rw (ap (λ (content : Content). content.due) is) at due in
    (there.0, there.1, there.2, there.3, (omega (arith, least, there.4.0), there.4.1))

-- a call that was to fail, after texts were stored
pub due_later : (stored : List StoredData) (a b c : ShelfState) → AreStored stored a b → a.calls ≤ b.calls → HasDueCall b c → HasDueCall a c
due_later stored a b c first least due = due_after stored a.calls b.calls c.calls a.content b.content first.holds least due

among_causes : (names : List (List ℕ)) (first before now : ℕ) (content : Option Content) → first ≤ before → IfSome content (λ c. IsDueBetween before now c.due)
    → IfSome content (λ c. Any (λ name. c.held name ≡ None) names ⊎ IsDueBetween first now c.due)
among_causes names first before now None least due = tt
among_causes names first before now (Some content) least due = inr (due.0, due.1, due.2, due.3, (omega (arith, least, due.4.0), due.4.1))

-- one call for each file
fetches_files : (form : List WordKind) (words : List (List ℕ)) (files : List FileWord) (a b : ShelfState) → files ≡ file_words form → OnlyFetches (length files) a b → OnlyFetches (length (files_of form words)) a b
fetches_files form words files a b is only =
    let same : length (files_of form words) ≡ length (file_words form) = length-map (file_words form) (file_of words) in
    let as_many : length files ≡ length (file_words form) = ap (λ (l : List FileWord). length l) is in
    record { content = only.content; calls = omega (arith, only.calls, same, as_many) }

-- what is left of an answer once the files are fetched
pub has_rest : (form : List WordKind) (meaning : Meaning) (words : List (List ℕ)) (files : List FileWord) (contents : List (List ℕ)) (a b c : ShelfState) (rest : AnswerData) → files ≡ file_words form
    → OnlyFetches (length files) a b → IsFetched a b (map (file_of words) files) (Ok contents) → b.faults ≡ a.faults → StoresFirst (meaning words contents) rest b c → HasRest form meaning words a c rest
has_rest form meaning words files contents a b c rest is only fetched same left = record {
  between = b;
  fetches = fetches_files form words files a b is only;
  stores = record {
    first = left.first;
    are_stored = left.are_stored;
    is_one = record { fetched = Ok contents; is_fetched = rw is at fetched; is_answer = left.is_one; faults = same };
    faults = left.faults;
  };
}

-- a command that is cut short without an answer has only fetched, or has stored a beginning
pub stops_short : (form : List WordKind) (begins : Beginning) (words : List (List ℕ)) (files : List FileWord) (contents : List (List ℕ)) (a b c : ShelfState) → files ≡ file_words form → OnlyFetches (length files) a b
    → IsFetched a b (map (file_of words) files) (Ok contents) → (c ≡ b) ⊎ StoresBeginning (begins words contents) b c → OnlyFetches (length (files_of form words)) a c ⊎ IsBegun form begins words a c
stops_short form begins words files contents a b c is only fetched (inl same) =
    inl (subst (λ (s : ShelfState). OnlyFetches (length (files_of form words)) a s) (sym same) (fetches_files form words files a b is only))
stops_short form begins words files contents a b c is only fetched (inr stores) =
    inr (record { contents = contents; between = b; fetches = fetches_files form words files a b is only; is_fetched = rw is at fetched; stores = stores })

-- the whole answer is left where a file is too long
pub refused_rest : (form : List WordKind) (meaning : Meaning) (words : List (List ℕ)) (files : List FileWord) (number : ℕ) (a b : ShelfState) (answer : AnswerData) → files ≡ file_words form
    → OnlyFetches (length files) a b → IsFetched a b (map (file_of words) files) (Err number) → b.faults ≡ a.faults → answer ≡ long_refused number → HasRest form meaning words a b answer
refused_rest form meaning words files number a b answer is only fetched same refused = record {
  between = b;
  fetches = fetches_files form words files a b is only;
  stores = nothing_first (IsAnswer form meaning words a b) answer b (record { fetched = Err number; is_fetched = rw is at fetched; is_answer = refused; faults = same });
}

-- how a run ends that has no answer
pub ends_early : (form : List WordKind) (meaning : Meaning) (begins : Beginning) (words : List (List ℕ)) (a b : ShelfState) (sink : SinkState) (status : Status) → IsCutShort status
    → OnlyFetches (length (files_of form words)) a b ⊎ IsBegun form begins words a b → Ends form meaning begins words (record { shelf = a; sink = sink }) (record { shelf = b; sink = sink }) status
ends_early form meaning begins words a b sink status short (inl fetches) = stops short fetches refl
ends_early form meaning begins words a b sink status short (inr stores) = begun short stores refl

-- a fault while the rest is delivered has its cause, and is counted
pub may_fault_later : (form : List WordKind) (meaning : Meaning) (words : List (List ℕ)) (rest : AnswerData) (a b c : ShelfState) (P : Type 0) → HasRest form meaning words a b rest → a.calls ≤ b.calls
    → P ⊎ HasDueCall b c → P ⊎ HasCause (names_of (files_of form words)) a c
may_fault_later form meaning words rest a b c P left least (inl put) = inl put
may_fault_later form meaning words rest a b c P left least (inr due) =
    let before = due_after left.stores.first b.calls b.calls c.calls left.between.content b.content left.stores.are_stored.holds (omega arith) due in
    inr (among_causes (names_of (files_of form words)) a.calls b.calls c.calls a.content least (rw left.fetches.content at before))

pub counts_later : (form : List WordKind) (meaning : Meaning) (words : List (List ℕ)) (rest : AnswerData) (a b c : ShelfState) (P : Type 0) → HasRest form meaning words a b rest
    → P ⊎ Rose b.faults c.faults → Rose a.faults c.faults ⊎ P
counts_later form meaning words rest a b c P left (inl put) = inr put
counts_later form meaning words rest a b c P left (inr rose) =
    let same : b.faults ≡ a.faults = left.stores.faults ∙ left.stores.is_one.faults in
    inl (subst (λ (n : ℕ). Rose n c.faults) same rose)
