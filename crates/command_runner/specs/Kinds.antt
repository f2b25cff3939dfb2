-- The words of a command: each form is a list of kinds of words.
use Rattle.std.specs.Prelude.{ℕ, List, [], ◌∷◌, length, drop, codes, Bool, true, false, not, ◌&&◌}
use Rattle.std.specs.Prelude.{◌||◌, ◌==◌, nat_eq, nat_le, bytes_eq, Option, Some, None, is_some}
use Rattle.std.specs.Prelude.{option_and_then, if◌then◌else◌}
use Rattle.std.specs.List.{starts_with}
use Rattle.brake_text.specs.Numbers.{number_of}
use Rattle.command_runner.specs.declared.word_kind.Keyword.{Keyword}
use Rattle.command_runner.specs.declared.word_kind.Keyword.TheVariants.{Blank, Plan, Check, Trial}
use Rattle.command_runner.specs.declared.word_kind.Keyword.TheVariants.{Why, Setups, Settle, Merge}
use Rattle.command_runner.specs.declared.word_kind.Keyword.TheVariants.{Prove, Budget}
use Rattle.command_runner.specs.declared.word_kind.WordKind.{WordKind}
use Rattle.command_runner.specs.declared.word_kind.WordKind.TheVariants.{Literal, Input}
use Rattle.command_runner.specs.declared.word_kind.WordKind.TheVariants.{Certificate, Table, Output}
use Rattle.command_runner.specs.declared.word_kind.WordKind.TheVariants.{NumberedOutput, Number}

-- how a keyword is written
unfoldable pub spelling : Keyword → List ℕ
spelling Blank = codes "blank"
spelling Plan = codes "plan"
spelling Check = codes "check"
spelling Trial = codes "trial"
spelling Why = codes "why"
spelling Setups = codes "setups"
spelling Settle = codes "settle"
spelling Merge = codes "merge"
spelling Prove = codes "prove"
spelling Budget = codes "--budget"

-- a file word isn't empty and doesn't begin with `--`
unfoldable pub is_file_word : List ℕ → Bool
is_file_word word = not (length word == 0) && not (starts_with nat_eq word (codes "--"))

-- the number that a word spells, where it is in the range
abbrev pub number_in : ℕ → ℕ → List ℕ → Option ℕ
number_in least most word =
    option_and_then (λ n. if nat_le least n && nat_le n most then Some n else None) (number_of word)

-- the word is of this kind; any may stand where a number is to be, which the command reads
abbrev pub is_of_kind : WordKind → List ℕ → Bool
is_of_kind (Literal keyword) word = bytes_eq word (spelling keyword)
is_of_kind Number word = true
is_of_kind Input word = is_file_word word
is_of_kind Certificate word = is_file_word word
is_of_kind Table word = is_file_word word
is_of_kind Output word = is_file_word word
is_of_kind NumberedOutput word = is_file_word word

-- the greatest length, in bytes, of a file of this kind that is fetched; none of a word whose file
-- isn't
abbrev pub limit_of : WordKind → Option ℕ
limit_of Input = Some 1048576
limit_of Certificate = Some 1073741824
limit_of Table = Some 1073741824
limit_of _ = None

-- the word names a file, fetched or stored
abbrev pub is_file : WordKind → Bool
is_file (Literal keyword) = false
is_file Number = false
is_file _ = true

-- a full stop, whose byte is 46, and a number from 0 to 15
abbrev pub is_numbered_ending : List ℕ → Bool
is_numbered_ending [] = false
is_numbered_ending (byte ∷ digits) = byte == 46 && is_some (number_in 0 15 digits)

-- the word is one of the names NAME.0 to NAME.15
unfoldable pub is_numbered_name : List ℕ → List ℕ → Bool
is_numbered_name name word =
    starts_with nat_eq word name && is_numbered_ending (drop (length name) word)

-- nothing that is stored for the word of this kind has the other word's name
unfoldable pub is_stored_apart : WordKind → List ℕ → List ℕ → Bool
is_stored_apart Output word other = not (bytes_eq word other)
is_stored_apart NumberedOutput word other = not (is_numbered_name word other)
is_stored_apart _ word other = true

-- each word is of its kind
abbrev pub are_of_kinds : List WordKind → List (List ℕ) → Bool
are_of_kinds [] [] = true
are_of_kinds [] (word ∷ words) = false
are_of_kinds (kind ∷ kinds) [] = false
are_of_kinds (kind ∷ kinds) (word ∷ words) = is_of_kind kind word && are_of_kinds kinds words

-- nothing that is stored for the word of this kind has the name of a file that is fetched for these
-- words
abbrev pub is_apart : WordKind → List ℕ → List WordKind → List (List ℕ) → Bool
is_apart kind word [] words = true
is_apart kind word (other_kind ∷ kinds) [] = true
is_apart kind word (other_kind ∷ kinds) (other ∷ words) =
    (not (is_some (limit_of other_kind)) || is_stored_apart kind word other)
    && is_apart kind word kinds words

-- the same of each of some words
abbrev pub are_apart : List WordKind → List (List ℕ) → List WordKind → List (List ℕ) → Bool
are_apart [] some kinds words = true
are_apart (kind ∷ some_kinds) [] kinds words = true
are_apart (kind ∷ some_kinds) (word ∷ some) kinds words =
    is_apart kind word kinds words && are_apart some_kinds some kinds words

-- the words have this form: each is of its kind, and no output is a file that is fetched
abbrev pub is_form : List WordKind → List (List ℕ) → Bool
is_form kinds words = are_of_kinds kinds words && are_apart kinds words kinds words
