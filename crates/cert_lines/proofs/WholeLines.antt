-- The lines of a text, cut off one by one.
use Rattle.std.proofs.Common.{◌≡◌, ◌≢◌, ℕ, ◌+◌, ◌<◌, ◌==◌, false, List, [], ◌∷◌, ◌++◌, length, take, drop, get_or, Some, None, All, refl, sym, ap, ◌∙◌, eqb-true, arith}
use Rattle.std.specs.List.{position}
use Rattle.std.proofs.lemmas.Bool.{false_from_ne_true}
use Rattle.std.proofs.lemmas.List.{append_assoc, append-nil, length-append}
use Rattle.std.proofs.lemmas.List.Splits.{slice_split_at, slice_split_none, length-slice_split}
use Rattle.brake_text.specs.Lines.{is_line_feed}
use Rattle.brake_text.proofs.FirstLine.{first_line-ended, first_line-last}
use Rattle.cert_lines.specs.LineReading.{lines_in}
use Rattle.cert_lines.specs.LineReading.{IsCut, IsBehind}

plain : (line : List ℕ) → All (λ byte. byte ≢ 10) line → All (λ byte. is_line_feed byte ≡ false) line
plain line none i d within = false_from_ne_true (get_or line i d == 10) (λ t. none i d within (eqb-true (get_or line i d) 10 t))

-- a line behind which its line feed stands
pub cut_line : (line rest : List ℕ) → All (λ byte. byte ≢ 10) line → lines_in (line ++ 10 ∷ rest) ≡ line ∷ lines_in rest
cut_line line rest none = slice_split_at is_line_feed line 10 rest (plain line none) refl

-- whatever stands behind the text
pub cut_before : (text line rest behind : List ℕ) → IsCut text line rest → lines_in (text ++ behind) ≡ line ∷ lines_in (rest ++ behind)
cut_before text line rest behind cut =
    ap (λ (t : List ℕ). lines_in (t ++ behind)) cut.whole ∙ ap (λ (t : List ℕ). lines_in t) (append_assoc line (10 ∷ rest) behind) ∙ cut_line line (rest ++ behind) cut.alone

-- the first line of a text
pub first_line : (text : List ℕ) (i : ℕ) → position is_line_feed text ≡ Some i → IsCut text (take i text) (drop (i + 1) text)
first_line text i found = let line = first_line-ended text i found in record { whole = line.0; alone = line.1 }

-- ---- what stands behind the bytes that were read
pub all_behind : (text : List ℕ) → IsBehind text text
all_behind text = ([], refl)

pub behind_cut : (text line rest : List ℕ) → IsCut text line rest → IsBehind text rest
behind_cut text line rest cut = (line ++ 10 ∷ [], cut.whole ∙ sym (append_assoc line (10 ∷ []) rest))

pub cut_shorter : (text line rest : List ℕ) → IsCut text line rest → length rest < length text
cut_shorter text line rest cut =
    let whole : length text ≡ length (line ++ 10 ∷ rest) = ap (λ (t : List ℕ). length t) cut.whole in
    omega (arith, whole, length-append line (10 ∷ rest))

pub behind_both : (text middle rest : List ℕ) → IsBehind text middle → IsBehind middle rest → IsBehind text rest
behind_both text middle rest first then = (first.0 ++ then.0, first.1 ∙ ap (λ (t : List ℕ). first.0 ++ t) then.1 ∙ sym (append_assoc first.0 then.0 rest))

-- the last one
pub uncut : (text : List ℕ) → position is_line_feed text ≡ None → lines_in text ≡ text ∷ []
uncut text none = slice_split_none is_line_feed text (plain text (first_line-last text none).2)

pub uncut_before : (text behind : List ℕ) → behind ≡ [] → lines_in text ≡ text ∷ [] → lines_in (text ++ behind) ≡ text ∷ []
uncut_before text behind last uncut = ap (λ (t : List ℕ). lines_in (text ++ t)) last ∙ ap (λ (t : List ℕ). lines_in t) (append-nil text) ∙ uncut

pub some_line : (text : List ℕ) → 0 < length (lines_in text)
some_line text = omega (arith, length-slice_split is_line_feed text)
