-- What fetching the files of a command comes to.
use Rattle.std.specs.Prelude.{◌≡◌, ◌⊎◌, ℕ, ◌+◌, ◌<◌, ◌≤◌, List, [], ◌∷◌, ◌++◌, length, map, Any}
use Rattle.std.specs.Prelude.{Option, Some, None, IfSome, option_map, Result, Ok, Err, nat_lt}
use Rattle.std.specs.Prelude.{if◌then◌else◌}
use Rattle.std.specs.List.{AllZip, slice_index_or}
use Rattle.brake_io.specs.Rose.{raised}
use Rattle.brake_io.specs.Meanings.{Names, ShelfState, Holds, IsLonger}
use Rattle.command_runner.specs.declared.word_kind.WordKind.{WordKind}
use Rattle.command_runner.specs.declared.fetching.FileWord.{FileWord}
use Rattle.command_runner.specs.Kinds.{limit_of, is_file}

-- the number of file words, once there is a word of this kind
abbrev pub counted : ℕ → WordKind → ℕ
counted number kind = if is_file kind then number + 1 else number

-- the word of a file that is fetched, by its place among the words and its number among the file
-- words
abbrev pub fetched_word : ℕ → ℕ → Option ℕ → List FileWord
fetched_word place number None = []
fetched_word place number (Some limit) =
    record { number = number; place = place; limit = limit } ∷ []

-- the words of the files that are fetched, after so many words of which so many are file words
abbrev pub file_words_after : ℕ → ℕ → List WordKind → List FileWord
file_words_after place number [] = []
file_words_after place number (kind ∷ kinds) =
    fetched_word place (counted number kind) (limit_of kind)
    ++ file_words_after (place + 1) (counted number kind) kinds

-- the words of the files that a form fetches
abbrev pub file_words : List WordKind → List FileWord
file_words kinds = file_words_after 0 0 kinds

-- a file to be fetched: the number of its file word, counted from 1, its name, and the greatest
-- length that it may have, in bytes
pub record NamedFile : Type 0 where
  pub number : ℕ
  pub name : List ℕ
  pub limit : ℕ

-- the word at a place
abbrev pub word_at : List (List ℕ) → ℕ → List ℕ
word_at words place = slice_index_or words place []

-- the file that a file word names
abbrev pub file_of : List (List ℕ) → FileWord → NamedFile
file_of words file =
    record { number = file.number; name = word_at words file.place; limit = file.limit }

-- the files that words of a form name, in the order in which they are fetched
abbrev pub files_of : List WordKind → List (List ℕ) → List NamedFile
files_of kinds words = map (file_of words) (file_words kinds)

abbrev pub names_of : List NamedFile → List (List ℕ)
names_of files = map (λ file. file.name) files

-- where the content is told, the bytes are held under the file's name; they are no longer than the
-- file may be
pub record IsContent (shelf : ShelfState) (file : NamedFile) (bytes : List ℕ) : Type 0 where
  pub holds : Holds shelf file.name bytes
  pub within : length bytes ≤ file.limit

-- the file is longer than it may be: where the content is told, that shows; the shelf counts it
pub record IsTooLong (before now : ShelfState) (file : NamedFile) : Type 0 where
  pub longer : IsLonger before file.name file.limit
  pub counted_long : now.longs ≡ raised before.longs

-- What fetching these files in order comes to: the contents of all, in order; or the number of one
-- that is too long, where all before it have contents.
pub data IsFetched (before now : ShelfState) (files : List NamedFile)
    (fetched : Result (List (List ℕ)) ℕ) : Type 0 where
  all_fetched : (contents : List (List ℕ)) → AllZip (IsContent before) files contents
      → now.longs ≡ before.longs → fetched ≡ Ok contents → IsFetched before now files fetched
  one_too_long : (first : List NamedFile) (contents : List (List ℕ)) (file : NamedFile)
      (after : List NamedFile)
      → files ≡ first ++ (file ∷ after) → AllZip (IsContent before) first contents
      → IsTooLong before now file → fetched ≡ Err file.number → IsFetched before now files fetched

-- nothing that is held has changed, and there were at most so many calls
pub record OnlyFetches (count : ℕ) (before now : ShelfState) : Type 0 where
  pub content : now.content ≡ before.content
  pub calls : now.calls ≤ before.calls + count

-- what fetching a file comes to over these names, where its name is held
abbrev pub content_over : Names → NamedFile → Option (Result (List ℕ) ℕ)
content_over names file =
    option_map (λ bytes. if nat_lt file.limit (length bytes) then Err file.number
    else Ok bytes) (names file.name)

-- go on with the value, or keep the number; nothing comes of a name that isn't held
infixl 10 ◌>>=◌
abbrev pub ◌>>=◌ : {A B : Type 0} → Option (Result A ℕ) → (A → Option (Result B ℕ))
    → Option (Result B ℕ)
None >>= f = None
(Some (Err number)) >>= f = Some (Err number)
(Some (Ok x)) >>= f = f x

-- the one thing that fetching these files in order comes to over these names; nothing where one
-- that is fetched isn't held
abbrev pub fetched_over : Names → List NamedFile → Option (Result (List (List ℕ)) ℕ)
fetched_over names [] = Some (Ok [])
fetched_over names (file ∷ files) = do
  bytes ← content_over names file
  contents ← fetched_over names files
  Some (Ok (bytes ∷ contents))

-- one of these numbers is above the calls before and not above the calls now
abbrev pub IsDueBetween : ℕ → ℕ → List ℕ → Type 0
IsDueBetween before now numbers = Any (λ number. (before < number) × (number ≤ now)) numbers

-- where the content is told, a call of this run was one that is to fail
abbrev pub HasDueCall : ShelfState → ShelfState → Type 0
HasDueCall before now =
    IfSome before.content (λ content. IsDueBetween before.calls now.calls content.due)

-- where the content is told, one of these names isn't held, or a call of this run was one that is
-- to fail
abbrev pub HasCause : List (List ℕ) → ShelfState → ShelfState → Type 0
HasCause names before now = IfSome before.content (λ content.
    Any (λ name. content.held name ≡ None) names ⊎ IsDueBetween before.calls now.calls content.due)
