-- The file words of a form, and words that have it.
use Rattle.std.proofs.Common.{◌≡◌, ℕ, suc, ◌+◌, ◌<◌, ◌≤◌, Bool, true, false, List, [], ◌++◌, length, get_or, drop, if◌then◌else◌, sym, ap, ◌∙◌, append_assoc, append-nil, add-one, drop-cons, drop_of_length-le, arith}
use Rattle.command_runner.specs.declared.word_kind.WordKind.{WordKind}
use Rattle.command_runner.specs.declared.fetching.FileWord.{FileWord}
use Rattle.command_runner.specs.Kinds.{limit_of, is_file}
use Rattle.command_runner.specs.Fetching.{counted, fetched_word, file_words_after}

few_more : (t : Bool) (number place : ℕ) → number ≤ place → (if t then number + 1 else number) ≤ place + 1
few_more true number place few = omega (arith, few)
few_more false number place few = omega (arith, few)

-- there are at most as many file words as words
pub counted_few : (kind : WordKind) (number place : ℕ) → number ≤ place → counted number kind ≤ place + 1
counted_few kind number place few = few_more (is_file kind) number place few

-- the file words so far, and of one more kind
pub words_more : (kinds : List WordKind) (d : WordKind) (place number after : ℕ) (items more whole : List FileWord) → place < length kinds
    → after ≡ counted number (get_or kinds place d) → more ≡ items ++ fetched_word place after (limit_of (get_or kinds place d))
    → items ++ file_words_after place number (drop place kinds) ≡ whole → more ++ file_words_after (place + 1) after (drop (place + 1) kinds) ≡ whole
words_more kinds d place number after items more whole within after_is more_is so_far =
    let kind = get_or kinds place d in
    let rest = file_words_after (place + 1) (counted number kind) (drop (suc place) kinds) in
    let unfolded : items ++ (fetched_word place (counted number kind) (limit_of kind) ++ rest) ≡ whole = rw (drop-cons kinds place d within) at so_far in
    ap (λ (k : ℕ). more ++ file_words_after (place + 1) after (drop k kinds)) (add-one place)
    ∙ ap (λ (l : List FileWord). l ++ file_words_after (place + 1) after (drop (suc place) kinds)) more_is
    ∙ ap (λ (n : ℕ). (items ++ fetched_word place n (limit_of kind)) ++ file_words_after (place + 1) n (drop (suc place) kinds)) after_is
    ∙ append_assoc items (fetched_word place (counted number kind) (limit_of kind)) rest
    ∙ unfolded

-- the file words once there is no kind left
pub words_all : (kinds : List WordKind) (place number : ℕ) (items whole : List FileWord) → length kinds ≤ place → items ++ file_words_after place number (drop place kinds) ≡ whole → items ≡ whole
words_all kinds place number items whole past so_far =
    let none : drop place kinds ≡ [] = drop_of_length-le kinds {i = place} past in
    sym (append-nil items) ∙ (rw none at so_far)
