-- The first line feed of a text, and what stands before and after it.
use Rattle.std.proofs.Common.{◌≡◌, ◌≢◌, ℕ, ◌+◌, ◌<◌, List, [], ◌∷◌, ◌++◌, length, take, drop, get_or, Some, None, All, arith, ap, sym, ◌∙◌, subst, suc, true, false, refl, take-append-drop, drop-cons}
use Rattle.std.proofs.lemmas.Grind.{common_steps}
use Rattle.std.proofs.lemmas.List.Elements.{All-from_get_or}
use Rattle.std.proofs.lemmas.List.Sums.{fails_before_first, passes_at_first}
use Rattle.std.specs.List.{position, position_or_len, before_first}
use Rattle.brake_text.specs.Lines.{is_line_feed, BeginsWithLine}

before_first-plain : (text : List ℕ) → All (λ byte. byte ≢ 10) (before_first is_line_feed text)
before_first-plain text = All-from_get_or (λ byte. byte ≢ 10) (before_first is_line_feed text) 0 (λ i within. grind (arith, common_steps, fails_before_first is_line_feed text i 0))

found-within : (text : List ℕ) (i : ℕ) → position is_line_feed text ≡ Some i → (position_or_len is_line_feed text ≡ i) × (i < length text)
found-within text i found = grind (arith, common_steps)

-- a line feed was found: what stands before it is an ended line
pub first_line-ended : (text : List ℕ) (i : ℕ) → position is_line_feed text ≡ Some i → BeginsWithLine text (take i text) true (drop (i + 1) text)
first_line-ended text i found =
    let (place, within) = found-within text i found in
    let feed : get_or text i 0 ≡ 10 = grind (arith, common_steps, passes_at_first is_line_feed text 0) in
    let next : suc i ≡ i + 1 = omega arith in
    let split : drop i text ≡ 10 ∷ drop (i + 1) text =
    drop-cons text i 0 within ∙ ap (λ byte. byte ∷ drop (suc i) text) feed ∙ ap (λ n. 10 ∷ drop n text) next in
    (sym (take-append-drop i text) ∙ ap (λ l. take i text ++ l) split, subst (λ n. All (λ byte. byte ≢ 10) (take n text)) place (before_first-plain text))

-- none was found: the whole text is a line without one
pub first_line-last : (text : List ℕ) → position is_line_feed text ≡ None → BeginsWithLine text text false []
first_line-last text none =
    let all : before_first is_line_feed text ≡ text = grind (arith, common_steps) in
    (refl, refl, subst (All (λ byte. byte ≢ 10)) all (before_first-plain text))
