-- What is stored while setups are tried.
use Rattle.std.proofs.Common.{◌≡◌, ◌≢◌, ◌⊎◌, inl, inr, ℕ, zero, suc, ◌+◌, ◌≤◌, List, [], ◌∷◌, ◌++◌, length, map, take, Option, Some, Result, Ok, Err, refl, sym, ap, ◌∙◌, subst, arith}
use Rattle.std.specs.Prelude.{All, AllPairs, slice_get, OnErr}
use Rattle.std.specs.List.{AllZip, flat_map, enumerate_from}
use Rattle.std.proofs.lemmas.List.{append-nil, length-map, length-take, map_push}
use Rattle.std.proofs.lemmas.Option.{slice_get_within}
use Rattle.std.proofs.lemmas.Slice.Zip.{all_zipped_more}
use Rattle.std.proofs.lemmas.Grind.{flat_map-append}
use Rattle.std.proofs.Math.Seq.{take-length}
use Rattle.brake_io.specs.Meanings.{ShelfState}
use Rattle.setup_choice.specs.declared.outcome.Fit.{Fit}
use Rattle.setup_choice.specs.Setups.{OneSetupData}
use Rattle.command_runner.specs.Answers.{StoredData, AnswerData}
use Rattle.command_runner.specs.Delivery.{AreStored, AreStoredUpTo}
use Rattle.command_runner.specs.Ends.{StoresFirst, StoresBeginning}
use Rattle.command_runner.proofs.Rests.{stored_after, stored_up_to_after}
use Rattle.brake_commands.specs.SetupList.{JobFilesData, SetupList, list_of_files}
use Rattle.brake_commands.specs.SetupStops.{FittedData, IsFitted}
use Rattle.brake_commands.specs.Attempts.{PlannedData, AttemptData, kept_attempt, IsKept, IsPlannedAs, IsAttemptOf}
use Rattle.brake_commands.specs.SetupsAnswer.{stored_at, stored_of, all_stored, try_lines, EndsTried, IsBlankSheetIn, AnswersTried, IsTriedAnswer}
use Rattle.brake_commands.specs.Begun.{StoresPlanned, StoresPart, StoresTried, IsTriedBeginning, IsListBeginning, IsSetupsBeginning}
use Rattle.brake_commands.proofs.NumberedLists.{take_more}
use Rattle.brake_commands.proofs.NumberedNames.{all_different}
use Rattle.brake_commands.proofs.Trying.{all_attempts, all_stand, all_well, as_many}
use Rattle.brake_commands.proofs.CheapestPairs.{ends}
use Rattle.brake_commands.proofs.Kept.{ends_kept, tries_kept, all_kept}
use Rattle.brake_commands.proofs.SetupsAnswers.{few_attempts}

numbered_more : {X : Type 0} (n : ℕ) (xs : List X) (x : X) → enumerate_from n (xs ++ x ∷ []) ≡ enumerate_from n xs ++ (n + length xs, x) ∷ []
numbered_more n [] x =
    let same : n ≡ n + 0 = omega arith in
    λ t. (same t, x) ∷ []
numbered_more n (y ∷ ys) x =
    let same : n + 1 + length ys ≡ n + suc (length ys) = omega arith in
    ap (λ placed. (n, y) ∷ placed) (numbered_more (n + 1) ys x ∙ ap (λ k. enumerate_from (n + 1) ys ++ (k, x) ∷ []) same)

-- what is stored of those so far, and of one more
stored_one_more : (name : List ℕ) (attempts : List AttemptData) (attempt : AttemptData) (i : ℕ) → length attempts ≡ i → all_stored name (attempts ++ attempt ∷ []) ≡ all_stored name attempts ++ stored_at name i attempt.planned
stored_one_more name attempts attempt i count =
    let same : 0 + length attempts ≡ i = omega (arith, count) in
    ap (λ placed. flat_map (stored_of name) placed) (numbered_more 0 attempts attempt ∙ ap (λ k. enumerate_from 0 attempts ++ (k, attempt) ∷ []) same)
    ∙ flat_map-append (stored_of name) (enumerate_from 0 attempts) ((i, attempt) ∷ [])
    ∙ ap (λ t. all_stored name attempts ++ t) (append-nil (stored_at name i attempt.planned))

-- there are as many attempts as setups so far
so_many : (fits : List FittedData) (i : ℕ) (fit : FittedData) (attempts : List AttemptData) → slice_get fits i ≡ Some fit → AllZip IsAttemptOf (take i fits) attempts → length attempts ≡ i
so_many fits i fit attempts here tries = omega (arith, slice_get_within fits i fit here, length-take i fits, as_many IsAttemptOf (take i fits) attempts tries)

-- those so far were tried, and the next
tries_more : (fits : List FittedData) (i : ℕ) (fit : FittedData) (attempts : List AttemptData) (planned : Option PlannedData) → slice_get fits i ≡ Some fit → AllZip IsAttemptOf (take i fits) attempts
    → IsPlannedAs fit.fit planned → AllZip IsAttemptOf (take (suc i) fits) (attempts ++ record { name = fit.name; planned = planned } ∷ [])
tries_more fits i fit attempts planned here tries is =
    subst (λ (l : List FittedData). AllZip IsAttemptOf l (attempts ++ record { name = fit.name; planned = planned } ∷ [])) (sym (take_more i fits fit here))
    (all_zipped_more IsAttemptOf (take i fits) attempts fit (record { name = fit.name; planned = planned }) tries (record { name = refl; planned = is }))

module _ (name : List ℕ) (fits : List FittedData) (i : ℕ) (fit : FittedData) (here : slice_get fits i ≡ Some fit) (kept : List AttemptData) (a b c : ShelfState) (tried : StoresTried name (take i fits) kept a b) where
  -- one more is tried, and its certificate stored
  pub tried_more : (one : AttemptData) → one.name ≡ fit.name → StoresPlanned name i fit.fit one.planned b c → StoresTried name (take (suc i) fits) (kept ++ one ∷ []) a c
  tried_more one named next =
      let attempt : AttemptData = record { name = fit.name; planned = next.planned } in
      let same : one ≡ kept_attempt attempt = λ t. record { name = named t; planned = next.keeps t } in
      let more = stored_one_more name tried.attempts attempt i (so_many fits i fit tried.attempts here tried.tries) in
      record {
        attempts = tried.attempts ++ attempt ∷ [];
        tries = tries_more fits i fit tried.attempts next.planned here tried.tries next.is_planned;
        keeps = ap (λ (l : List AttemptData). l ++ one ∷ []) tried.keeps ∙ ap (λ (o : AttemptData). map kept_attempt tried.attempts ++ o ∷ []) same ∙ sym (map_push kept_attempt tried.attempts attempt);
        are_stored = subst (λ (l : List StoredData). AreStored l a c) (sym more) (stored_after (all_stored name tried.attempts) (stored_at name i next.planned) a b c tried.are_stored next.are_stored);
        faults = next.faults ∙ tried.faults;
      }

-- the certificates so far are a beginning
pub begun_so_far : (name : List ℕ) (fits : List FittedData) (i : ℕ) (kept : List AttemptData) (a b : ShelfState) → StoresTried name (take i fits) kept a b → StoresBeginning (IsTriedBeginning name fits) a b
begun_so_far name fits i kept a b tried = record {
  stored = all_stored name tried.attempts;
  is_beginning = record { count = i; attempts = tried.attempts; tries = tried.tries; stores = refl };
  are_stored = inl tried.are_stored;
}

pub begun_all : (name : List ℕ) (fits : List FittedData) (kept : List AttemptData) (a b : ShelfState) → StoresTried name fits kept a b → StoresBeginning (IsTriedBeginning name fits) a b
begun_all name fits kept a b tried = begun_so_far name fits (length fits) kept a b (subst (λ (l : List FittedData). StoresTried name l kept a b) (sym (take-length fits)) tried)

-- so they are where the next isn't tried to its end
pub begun_part : (name : List ℕ) (fits : List FittedData) (i : ℕ) (fit : FittedData) (kept : List AttemptData) (a b c : ShelfState) → slice_get fits i ≡ Some fit → StoresTried name (take i fits) kept a b → StoresPart name i fit.fit b c
    → StoresBeginning (IsTriedBeginning name fits) a c
begun_part name fits i fit kept a b c here tried (inl same) = begun_so_far name fits i kept a c (subst (λ (s : ShelfState). StoresTried name (take i fits) kept a s) (sym same) tried)
begun_part name fits i fit kept a b c here tried (inr (planned, is, part)) =
    let attempt : AttemptData = record { name = fit.name; planned = planned } in
    let more = stored_one_more name tried.attempts attempt i (so_many fits i fit tried.attempts here tried.tries) in
    record {
      stored = all_stored name (tried.attempts ++ attempt ∷ []);
      is_beginning = record { count = suc i; attempts = tried.attempts ++ attempt ∷ []; tries = tries_more fits i fit tried.attempts planned here tried.tries is; stores = refl };
      are_stored = inr (subst (λ (l : List StoredData). AreStoredUpTo l a c) (sym more) (stored_up_to_after (all_stored name tried.attempts) (stored_at name i planned) a b c tried.are_stored part));
    }

-- a certificate that isn't stored, or in part
pub fails_in_part : (name : List ℕ) (place : ℕ) (fit : Fit) (planned : Option PlannedData) (a b : ShelfState) → IsPlannedAs fit planned → (b ≡ a) ⊎ AreStoredUpTo (stored_at name place planned) a b → StoresPart name place fit a b
fails_in_part name place fit planned a b is (inl same) = inl same
fails_in_part name place fit planned a b is (inr part) = inr (planned, is, part)

-- there are as many kept as setups, and each is kept of a planned setup
pub few_kept : (name : List ℕ) (files : JobFilesData) (setups : List OneSetupData) (fits : List FittedData) (kept : List AttemptData) (a b : ShelfState) → length setups ≤ 16 → AllZip (IsFitted files) setups fits → StoresTried name fits kept a b
    → length kept ≤ 16
few_kept name files setups fits kept a b few fitted tried =
    let same : length kept ≡ length (map kept_attempt tried.attempts) = ap (λ (l : List AttemptData). length l) tried.keeps in
    omega (arith, few_attempts files setups fits tried.attempts few fitted tried.tries, length-map tried.attempts kept_attempt, same)

pub each_kept : (name : List ℕ) (fits : List FittedData) (kept : List AttemptData) (a b : ShelfState) → StoresTried name fits kept a b → All IsKept kept
each_kept name fits kept a b tried = subst (λ (l : List AttemptData). All IsKept l) (sym tried.keeps) (all_kept tried.attempts (all_well fits tried.attempts tried.tries))

zip_take : {A B : Type 0} (R : A → B → Type 0) (k : ℕ) (xs : List A) (ys : List B) → AllZip R xs ys → AllZip R (take k xs) (take k ys)
zip_take R zero xs ys all = tt
zip_take R (suc k) [] [] all = tt
zip_take R (suc k) [] (y ∷ ys) all = absurd all
zip_take R (suc k) (x ∷ xs) [] all = absurd all
zip_take R (suc k) (x ∷ xs) (y ∷ ys) (own, all) = (own, zip_take R k xs ys all)

-- what is stored of the first setups of a list
pub list_begun : (name : List ℕ) (list : SetupList) (fits : List FittedData) (a b : ShelfState) → length list.setups ≤ 16 → AllZip (IsFitted list.files) list.setups fits → StoresBeginning (IsTriedBeginning name fits) a b
    → StoresBeginning (IsListBeginning name list) a b
list_begun name list fits a b few fitted begun =
    let is = begun.is_beginning in
    let firsts = zip_take (IsFitted list.files) is.count list.setups fits fitted in
    let some_few : length (take is.count list.setups) ≤ 16 = omega (arith, length-take is.count list.setups, few) in
    let different = all_different name is.attempts (few_attempts list.files (take is.count list.setups) (take is.count fits) is.attempts some_few firsts is.tries) in
    record {
      stored = begun.stored;
      is_beginning = record {
        stand = all_stand list.files list.setups fits fitted;
        count = is.count;
        attempts = is.attempts;
        tries = all_attempts list.files (take is.count list.setups) (take is.count fits) is.attempts firsts is.tries;
        stores = is.stores;
        different = subst (λ (l : List StoredData). AllPairs (λ one other. one.name ≢ other.name) l) (sym is.stores) different;
      };
      are_stored = begun.are_stored;
    }

on_err : {A E : Type 0} (r : Result A E) (P Q : Type 0) → (P → Q) → OnErr r P → OnErr r Q
on_err (Ok x) P Q to on = tt
on_err (Err e) P Q to on = to on

to_setups : (name : List ℕ) (contents : List (List ℕ)) (list : SetupList) (a b : ShelfState) → list_of_files contents ≡ Ok list → (b ≡ a) ⊎ StoresBeginning (IsListBeginning name list) a b
    → (b ≡ a) ⊎ StoresBeginning (IsSetupsBeginning name contents) a b
to_setups name contents list a b gives (inl same) = inl same
to_setups name contents list a b gives (inr begun) =
    inr (record { stored = begun.stored; is_beginning = (list, gives, begun.is_beginning); are_stored = begun.are_stored })

-- what is stored of the setups of files
pub setups_begun : {A E : Type 0} (r : Result A E) (name : List ℕ) (contents : List (List ℕ)) (list : SetupList) (a b : ShelfState) → list_of_files contents ≡ Ok list
    → OnErr r ((b ≡ a) ⊎ StoresBeginning (IsListBeginning name list) a b) → OnErr r ((b ≡ a) ⊎ StoresBeginning (IsSetupsBeginning name contents) a b)
setups_begun r name contents list a b gives on = on_err r _ _ (to_setups name contents list a b gives) on

-- the answer once all setups are tried
pub tried_is : (name : List ℕ) (list : SetupList) (sheet : List ℕ) (fits : List FittedData) (kept : List AttemptData) (rest : AnswerData) (a b : ShelfState) → IsBlankSheetIn list.files sheet → length list.setups ≤ 16
    → AllZip (IsFitted list.files) list.setups fits → StoresTried name fits kept a b → AnswersTried sheet kept rest → StoresFirst (IsTriedAnswer name list) rest a b
tried_is name list sheet fits kept rest a b is_sheet few fitted tried is =
    let attempts = tried.attempts in
    let tries = all_attempts list.files list.setups fits attempts fitted tried.tries in
    let different = all_different name attempts (few_attempts list.files list.setups fits attempts few fitted tried.tries) in
    let stores : all_stored name attempts ++ rest.stored ≡ all_stored name attempts = ap (λ (l : List StoredData). all_stored name attempts ++ l) is.stores ∙ append-nil (all_stored name attempts) in
    let whole = ends_kept attempts rest.status is.ending (subst (λ (l : List AttemptData). EndsTried l rest.status is.ending) tried.keeps is.ends) in
    record {
      first = all_stored name attempts;
      are_stored = tried.are_stored;
      is_one = record {
        sheet = sheet;
        is_sheet = is_sheet;
        attempts = attempts;
        tries = tries;
        ending = is.ending;
        ends = ends list attempts tries rest.status is.ending (all_well fits attempts tried.tries) whole;
        stores = stores;
        different = subst (λ (l : List StoredData). AllPairs (λ one other. one.name ≢ other.name) l) (sym stores) different;
        texts = is.texts ∙ ap (λ (lines : List ℕ). sheet ∷ lines ∷ is.ending) (ap try_lines tried.keeps ∙ tries_kept attempts);
      };
      faults = tried.faults;
    }

-- what is left of an answer of one kind is left of one of another
pub first_weaker : (P Q : AnswerData → Type 0) (rest : AnswerData) (a b : ShelfState) → ((answer : AnswerData) → P answer → Q answer) → StoresFirst P rest a b → StoresFirst Q rest a b
first_weaker P Q rest a b to left = record { first = left.first; are_stored = left.are_stored; is_one = to _ left.is_one; faults = left.faults }
