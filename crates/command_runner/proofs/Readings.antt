-- What comes of a command that reads its first file itself, from what each step says.
use Rattle.std.proofs.Common.{◌≡◌, ◌⊎◌, inl, inr, ℕ, suc, ◌+◌, ◌^◌, ◌<◌, ◌≤◌, List, [], ◌∷◌, ◌++◌, length, Option, Some, None, Result, Ok, Err, refl, sym, ap, ◌∙◌, subst, append-nil, get_or, take, drop, map, ◌-◌, length-append, arith}
use Rattle.std.specs.Prelude.{IfSome, IsSomeAnd, Any}
use Rattle.std.specs.List.{AllZip}
use Rattle.std.proofs.lemmas.List.{length-drop, take_all}
use Rattle.std.specs.Io.KnownBytes.{Consumes}
use Rattle.std.proofs.KnownBytes.{Consumes-nil}
use Rattle.brake_io.specs.Rose.{raised}
use Rattle.brake_io.specs.Meanings.{Content, ShelfState, IsLonger}
use Rattle.brake_io.specs.Pieces.{WindowState, IsOpened, HasPassed, IsWhole}
use Rattle.brake_io.specs.Pieces.{IsTooLong as IsTooLongText}
use Rattle.brake_io.proofs.Parts.{told_nothing}
use Rattle.command_runner.specs.declared.fetching.FetchStop.{FetchStop}
use Rattle.command_runner.specs.declared.fetching.FetchStop.TheVariants.{TooLong, Fault, NoMemory}
use Rattle.command_runner.specs.declared.fetching.FileWord.{FileWord}
use Rattle.command_runner.specs.declared.word_kind.WordKind.{WordKind}
use Rattle.command_runner.specs.declared.word_kind.WordKind.TheVariants.{Literal, Input, Certificate, Table, Output, NumberedOutput, Number}
use Rattle.command_runner.specs.Kinds.{limit_of}
use Rattle.command_runner.specs.Stops.{OnTooLong}
use Rattle.command_runner.specs.Fetching.{counted, fetched_word, file_words_after, file_words, NamedFile, file_of, names_of, OnlyFetches, IsContent, IsTooLong, IsFetched, all_fetched, one_too_long, IsDueBetween, HasCause}
use Rattle.command_runner.specs.Answers.{AnswerData}
use Rattle.command_runner.specs.Ends.{Meaning, HasRest}
use Rattle.command_runner.specs.Reading.{AnswersFetched}
use Rattle.command_runner.proofs.Fetches.{content_kept}
use Rattle.command_runner.proofs.Rests.{has_rest, nothing_first}

-- all that a reader had is what it gave and what it has still to give
text_is : (left now_left : Option (List ℕ)) (piece last text : List ℕ) → Consumes left now_left piece → IfSome now_left (λ rest. rest ≡ last) → piece ++ last ≡ text → IfSome left (λ bytes. bytes ≡ text)
text_is None now_left piece last text gives is whole = tt
text_is (Some x) None piece last text gives is whole = absurd gives
text_is (Some x) (Some y) piece last text gives is whole = gives ∙ ap (λ (l : List ℕ). piece ++ l) is ∙ whole

text_longer : (left now_left : Option (List ℕ)) (piece : List ℕ) (limit : ℕ) → Consumes left now_left piece → IfSome now_left (λ rest. limit < length piece + length rest) → IfSome left (λ bytes. limit < length bytes)
text_longer None now_left piece limit gives longer = tt
text_longer (Some x) None piece limit gives longer = absurd gives
text_longer (Some x) (Some y) piece limit gives longer = rw (gives, length-append) longer

held_is : (content : Option Content) (name : List ℕ) (left : Option (List ℕ)) (text : List ℕ) → IfSome content (λ c. IsSomeAnd left (λ bytes. c.held name ≡ Some bytes)) → IfSome left (λ bytes. bytes ≡ text)
    → IfSome content (λ c. c.held name ≡ Some text)
held_is None name left text held is = tt
held_is (Some c) name None text held is = absurd held
held_is (Some c) name (Some bytes) text held is = held ∙ ap (λ (l : List ℕ). Some l) is

held_longer : (content : Option Content) (name : List ℕ) (left : Option (List ℕ)) (limit : ℕ) → IfSome content (λ c. IsSomeAnd left (λ bytes. c.held name ≡ Some bytes)) → IfSome left (λ bytes. limit < length bytes)
    → IfSome content (λ c. IsSomeAnd (c.held name) (λ bytes. limit < length bytes))
held_longer None name left limit held longer = tt
held_longer (Some c) name None limit held longer = absurd held
held_longer (Some c) name (Some bytes) limit held longer = subst (λ (o : Option (List ℕ)). IsSomeAnd o (λ bytes. limit < length bytes)) (sym held) longer

untold : (content : Option Content) (name : List ℕ) (left : Option (List ℕ)) → IfSome content (λ c. IsSomeAnd left (λ bytes. c.held name ≡ Some bytes)) → left ≡ None → content ≡ None
untold None name left held none = refl
untold (Some c) name None held none = absurd held
untold (Some c) name (Some bytes) held none = let no : ⊥ = cc in absurd no

-- nothing was passed of a window that didn't go on
pub passes_nothing : (w : WindowState) → HasPassed w w []
passes_nothing w = record { piece = []; bytes = append-nil w.unread; taken = omega arith; limit = refl; left = Consumes-nil w.left }

module _ (a : ShelfState) (file : NamedFile) (start now : WindowState) (passed : List ℕ) (at_open : IsOpened a file.name file.limit start) (has : HasPassed start now passed) where
  -- what is read of the text, once a window on it was opened
  given : has.piece ≡ passed ++ now.unread
  given =
      let empty : start.unread ≡ [] = ap (λ (w : WindowState). w.unread) at_open.is_opened in
      ap (λ (l : List ℕ). l ++ has.piece) (sym empty) ∙ has.bytes

  none_taken : start.taken ≡ 0
  none_taken = ap (λ (w : WindowState). w.taken) at_open.is_opened

  limit_is : start.limit ≡ file.limit
  limit_is = ap (λ (w : WindowState). w.limit) at_open.is_opened

  held : IfSome a.content (λ c. IsSomeAnd start.left (λ bytes. c.held file.name ≡ Some bytes))
  held =
      let left : start.left ≡ at_open.left = ap (λ (w : WindowState). w.left) at_open.is_opened in
      subst (λ (o : Option (List ℕ)). IfSome a.content (λ c. IsSomeAnd o (λ bytes. c.held file.name ≡ Some bytes))) (sym left) at_open.text

  -- a text that was read to its end is the content of its file
  pub text_content : (whole : IsWhole now) → IsContent a file ((passed ++ now.unread) ++ whole.last)
  text_content whole =
      let text = (passed ++ now.unread) ++ whole.last in
      let all : has.piece ++ whole.last ≡ text = ap (λ (l : List ℕ). l ++ whole.last) given in
      let long : length text ≡ length has.piece + length whole.last = rw (← all, length-append) refl in
      record {
        holds = held_is a.content file.name start.left text held (text_is start.left now.left has.piece whole.last text has.left whole.is_left all);
        within = omega (arith, long, has.taken, has.limit, none_taken, limit_is, whole.within);
      }

  -- a text that is longer than its limit is that of a file that is
  pub text_too_long : IsTooLongText now → IsLonger a file.name file.limit
  text_too_long longer =
      let taken : now.taken ≡ length has.piece = omega (arith, has.taken, none_taken) in
      let limit : now.limit ≡ file.limit = has.limit ∙ limit_is in
      let past : IfSome now.left (λ rest. file.limit < length has.piece + length rest) = rw (taken, limit) at longer in
      held_longer a.content file.name start.left file.limit held (text_longer start.left now.left has.piece file.limit has.left past)

  -- a text is told where the content of the shelf is
  pub text_untold : now.left ≡ None → a.content ≡ None
  text_untold none = untold a.content file.name start.left held (told_nothing start.left now.left has.piece has.left none)

contents_kept : (a b : ShelfState) (files : List NamedFile) (contents : List (List ℕ)) → b.content ≡ a.content → AllZip (IsContent b) files contents → AllZip (IsContent a) files contents
contents_kept a b [] [] same all = tt
contents_kept a b [] (text ∷ texts) same all = absurd all
contents_kept a b (file ∷ files) [] same all = absurd all
contents_kept a b (file ∷ files) (text ∷ texts) same all = (content_kept a b file text same all.0, contents_kept a b files texts same all.1)

module _ (a b d e : ShelfState) (first : NamedFile) (others : List NamedFile) (content : b.content ≡ a.content) (longs : b.longs ≡ a.longs) where
  -- the contents of the first and of the others
  pub all_read : (text : List ℕ) (contents : List (List ℕ)) (fetched : Result (List (List ℕ)) ℕ) → IsContent a first text → IsFetched b d others fetched → fetched ≡ Ok contents → e.longs ≡ d.longs
      → IsFetched a e (first ∷ others) (Ok (text ∷ contents))
  all_read text contents fetched is (all_fetched texts all same made) ok last =
      let one : contents ≡ texts = cc in
      all_fetched (text ∷ texts) (is, contents_kept a b others texts content all) (last ∙ same ∙ longs) (ap (λ (l : List (List ℕ)). Ok (text ∷ l)) one)
  all_read text contents fetched is (one_too_long before texts file after split all long made) ok last = let no : ⊥ = cc in absurd no

  -- the first is too long
  pub first_too_long : IsLonger a first.name first.limit → e.longs ≡ raised a.longs → IsFetched a e (first ∷ others) (Err first.number)
  first_too_long longer rose = one_too_long [] [] first others refl tt (record { longer = longer; counted_long = rose }) refl

  -- another is too long, and the first has content
  pub other_too_long : (text : List ℕ) (number : ℕ) (fetched : Result (List (List ℕ)) ℕ) → IsContent a first text → IsFetched b d others fetched → fetched ≡ Err number → e.longs ≡ d.longs
      → IsFetched a e (first ∷ others) (Err number)
  other_too_long text number fetched is (all_fetched texts all same made) err last = let no : ⊥ = cc in absurd no
  other_too_long text number fetched is (one_too_long before texts file after split all long made) err last =
      let one : number ≡ file.number = cc in
      one_too_long (first ∷ before) (text ∷ texts) file after (ap (λ (l : List NamedFile). first ∷ l) split) (is, contents_kept a b before texts content all)
      (record { longer = rw content at long.longer; counted_long = last ∙ long.counted_long ∙ ap raised longs }) (ap (λ (n : ℕ). Err n) one)

  -- the count of long files, once the others are fetched, or one was too long
  pub none_long : (contents : List (List ℕ)) (fetched : Result (List (List ℕ)) ℕ) → IsFetched b d others fetched → fetched ≡ Ok contents → d.longs ≡ a.longs
  none_long contents fetched (all_fetched texts all same made) ok = same ∙ longs
  none_long contents fetched (one_too_long before texts file after split all long made) ok = let no : ⊥ = cc in absurd no

  pub one_long : (number : ℕ) (fetched : Result (List (List ℕ)) ℕ) → IsFetched b d others fetched → fetched ≡ Err number → d.longs ≡ raised a.longs
  one_long number fetched (all_fetched texts all same made) err = let no : ⊥ = cc in absurd no
  one_long number fetched (one_too_long before texts file after split all long made) err = long.counted_long ∙ ap raised longs

  -- why the files aren't fetched, where the first was too long as it was read to its end
  pub stops_at_end : (stop : FetchStop) (contents : List (List ℕ)) (now : WindowState) → IsFetched b d others (Ok contents) → (IsTooLongText now → IsLonger a first.name first.limit)
      → OnTooLong stop (λ at. (at ≡ first.number) × IsTooLongText now × (e.longs ≡ raised d.longs)) → OnTooLong stop (λ number. IsFetched a e (first ∷ others) (Err number))
  stops_at_end (TooLong at) contents now fetched longer told =
      rw told.0 (first_too_long (longer told.1) (told.2 ∙ ap raised (none_long contents (Ok contents) fetched refl)))
  stops_at_end Fault contents now fetched longer told = tt
  stops_at_end NoMemory contents now fetched longer told = tt

  -- and where another was too long
  pub stops_behind : (result stop : FetchStop) (now : WindowState) → (IsTooLongText now → IsLonger a first.name first.limit) → ((whole : IsWhole now) → (text : List ℕ) × IsContent a first text)
      → OnTooLong stop (λ number. IsFetched b d others (Err number))
      → OnTooLong result (λ at. (e.longs ≡ d.longs) × (((stop ≡ TooLong at) × IsWhole now) ⊎ ((at ≡ first.number) × ((other : ℕ) × (stop ≡ TooLong other)) × IsTooLongText now)))
      → OnTooLong result (λ number. IsFetched a e (first ∷ others) (Err number))
  stops_behind (TooLong at) stop now longer read fetched (same, inl (is, whole)) =
      let other : IsFetched b d others (Err at) = rw is at fetched in
      other_too_long (read whole).0 at (Err at) (read whole).1 other refl same
  stops_behind (TooLong at) stop now longer read fetched (same, inr (is, (number, was), past)) =
      let other : IsFetched b d others (Err number) = rw was at fetched in
      rw is (first_too_long (longer past) (same ∙ one_long number (Err number) other refl))
  stops_behind Fault stop now longer read fetched told = tt
  stops_behind NoMemory stop now longer read fetched told = tt

-- why the files aren't fetched, where the first can't be opened
pub stops_first : (stop : FetchStop) (a b : ShelfState) (first : NamedFile) (others : List NamedFile) → OnTooLong stop (λ number. (number ≡ first.number) × IsTooLong a b first)
    → OnTooLong stop (λ number. IsFetched a b (first ∷ others) (Err number))
stops_first (TooLong number) a b first others told = rw told.0 (one_too_long [] [] first others refl tt told.1 refl)
stops_first Fault a b first others told = tt
stops_first NoMemory a b first others told = tt

cause_behind : (content : Option Content) (name : List ℕ) (names : List (List ℕ)) (first before now last : ℕ) → first ≤ before → now ≤ last
    → IfSome content (λ c. Any (λ name. c.held name ≡ None) names ⊎ IsDueBetween before now c.due)
    → IfSome content (λ c. Any (λ name. c.held name ≡ None) (name ∷ names) ⊎ IsDueBetween first last c.due)
cause_behind None name names first before now last least most cause = tt
cause_behind (Some c) name names first before now last least most (inl (i, other, within, here, missing)) = inl (suc i, other, omega (arith, within), here, missing)
cause_behind (Some c) name names first before now last least most (inr due) = inr (due.0, due.1, due.2, due.3, (omega (arith, least, due.4.0), omega (arith, most, due.4.1)))

-- a fault at another file has its cause
pub fails_behind : (a b d e : ShelfState) (first : NamedFile) (others : List NamedFile) → b.content ≡ a.content → a.calls ≤ b.calls → d.calls ≤ e.calls → HasCause (names_of others) b d → HasCause (names_of (first ∷ others)) a e
fails_behind a b d e first others same least most cause = cause_behind a.content first.name (names_of others) a.calls b.calls d.calls e.calls least most (rw same at cause)

-- nothing is asked of a shelf that doesn't tell its content
pub no_cause : (names : List (List ℕ)) (a e : ShelfState) → a.content ≡ None → HasCause names a e
no_cause names a e none = rw none tt

-- one of two reasons
pub either_cause : (names : List (List ℕ)) (a e : ShelfState) (P Q : Type 0) → (P → HasCause names a e) → (Q → HasCause names a e) → P ⊎ Q → HasCause names a e
either_cause names a e P Q one other (inl is) = one is
either_cause names a e P Q one other (inr is) = other is

-- what stands for the first of no files
abbrev pub no_file : FileWord
no_file = record { number = 0; place = 0; limit = 0 }

limit_few : (kind : WordKind) → IfSome (limit_of kind) (λ limit. limit ≤ 1073741824)
limit_few (Literal word) = tt
limit_few Input = omega arith
limit_few Certificate = omega arith
limit_few Table = omega arith
limit_few Output = tt
limit_few NumberedOutput = tt
limit_few Number = tt

word_few : (place number : ℕ) (limit : Option ℕ) (rest : List FileWord) → IfSome limit (λ l. l ≤ 1073741824) → (get_or rest 0 no_file).limit ≤ 1073741824
    → (get_or (fetched_word place number limit ++ rest) 0 no_file).limit ≤ 1073741824
word_few place number None rest few small = small
word_few place number (Some limit) rest few small = few

words_few : (place number : ℕ) (kinds : List WordKind) → (get_or (file_words_after place number kinds) 0 no_file).limit ≤ 1073741824
words_few place number [] = omega arith
words_few place number (kind ∷ kinds) =
    word_few place (counted number kind) (limit_of kind) (file_words_after (place + 1) (counted number kind) kinds) (limit_few kind) (words_few (place + 1) (counted number kind) kinds)

-- the limit of a form's first file
pub first_few : (kinds : List WordKind) (files : List FileWord) → files ≡ file_words kinds → (get_or files 0 no_file).limit + 1 < 2 ^ 64
first_few kinds files is =
    let small : (get_or files 0 no_file).limit ≤ 1073741824 = rw is (words_few 0 0 kinds) in
    omega (arith, small)

tail_is : (files : List FileWord) → take (length files - 1) (drop 1 files) ≡ drop 1 files
tail_is files = take_all (length files - 1) (drop 1 files) (omega (arith, length-drop 1 files))

-- the first file and the others
pub first_and_others : (files : List FileWord) → 1 ≤ length files → get_or files 0 no_file ∷ take (length files - 1) (drop 1 files) ≡ files
first_and_others [] some = absurd (omega arith)
first_and_others (file ∷ files) some = ap (λ (l : List FileWord). file ∷ l) (tail_is (file ∷ files))

-- what is left of an answer once the files are fetched and the first is read to its end
pub reads_rest : (form : List WordKind) (meaning : Meaning) (words : List (List ℕ)) (files : List FileWord) (a e : ShelfState) (answer : AnswerData) → files ≡ file_words form → OnlyFetches (length files) a e
    → AnswersFetched (meaning words) a e (map (file_of words) files) answer → e.faults ≡ a.faults → HasRest form meaning words a e answer
reads_rest form meaning words files a e answer is only told same =
    has_rest form meaning words files told.contents a e e answer is only told.is_fetched same (nothing_first (meaning words told.contents) answer e told.is_one)
