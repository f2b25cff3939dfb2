-- The lines of a text that is written.
use Rattle.std.proofs.Common.{◌≡◌, ℕ, ◌==◌, Bool, true, false, not, List, [], ◌∷◌, ◌++◌, map, get_or, All, refl, ap, ◌∙◌, append_assoc, arith}
use Rattle.std.specs.List.{list_all}
use Rattle.std.proofs.lemmas.Bool.{and_parts, and_from, not-true}
use Rattle.std.proofs.lemmas.List.Folds.{list_all-append}
use Rattle.std.proofs.lemmas.List.Sums.{AllPass-from_list_all}
use Rattle.std.proofs.lemmas.List.Splits.{slice_split_at, slice_split_none}
use Rattle.brake_text.specs.Lines.{is_line_feed}
use Rattle.cert_lines.specs.declared.format.Format.TheVariants.{Version1, Version2, Table}
use Rattle.cert_lines.specs.Lines.{CertLine, format_line, part_line, face_line, bed_line, frame_line, upper_line, lower_line, uncovered_line, gauge_line, cost_line, gang_line, force_line, fine_line, stage_line, punch_line, die_line, box_line, pieces_line, load_line, claim_line, step_line, row_line, note_line, end_line, keyword_of, words_of, line_text, lines_text}
use Rattle.cert_lines.specs.LineReading.{lines_in}
use Rattle.cert_lines.proofs.WordsRead.{is_plain, IsPlain, plain_bytes, spelled}

-- a line without its line feed
abbrev pub line_bytes : CertLine → List ℕ
line_bytes line = keyword_of line ++ spelled (words_of line)

abbrev pub ArePlain : List (List ℕ) → Type 0
ArePlain [] = Unit {0}
ArePlain (word ∷ words) = IsPlain word × ArePlain words

-- no word of a line holds a space or a line feed
abbrev pub ArePlainLines : List CertLine → Type 0
ArePlainLines [] = Unit {0}
ArePlainLines (line ∷ lines) = ArePlain (words_of line) × ArePlainLines lines

abbrev is_other : ℕ → Bool
is_other byte = not (byte == 10)

others : (bytes : List ℕ) → list_all is_plain bytes ≡ true → list_all is_other bytes ≡ true
others [] all = refl
others (byte ∷ bytes) all =
    let parts = and_parts (is_plain byte) (list_all is_plain bytes) all in
    and_from (is_other byte) (list_all is_other bytes) ((and_parts (not (byte == 32)) (not (byte == 10)) parts.0).1) (others bytes parts.1)

both : (xs ys : List ℕ) → list_all is_other xs ≡ true → list_all is_other ys ≡ true → list_all is_other (xs ++ ys) ≡ true
both xs ys one two = list_all-append is_other xs ys ∙ and_from (list_all is_other xs) (list_all is_other ys) one two

pub spelled_other : (words : List (List ℕ)) → ArePlain words → list_all is_other (spelled words) ≡ true
spelled_other [] plain = refl
spelled_other (word ∷ words) plain = both word (spelled words) (others word (plain_bytes word plain.0)) (spelled_other words plain.1)

keyword_other : (line : CertLine) → list_all is_other (keyword_of line) ≡ true
keyword_other (format_line Table) = refl
keyword_other (format_line Version1) = refl
keyword_other (format_line Version2) = refl
keyword_other (part_line m t r q) = refl
keyword_other (face_line f) = refl
keyword_other (bed_line b) = refl
keyword_other (frame_line f) = refl
keyword_other (upper_line b) = refl
keyword_other (lower_line b) = refl
keyword_other (uncovered_line u) = refl
keyword_other (gauge_line g) = refl
keyword_other (cost_line a b c d e f) = refl
keyword_other (gang_line g) = refl
keyword_other (force_line f) = refl
keyword_other (fine_line d) = refl
keyword_other (stage_line a b) = refl
keyword_other (punch_line n h s) = refl
keyword_other (die_line n h v l) = refl
keyword_other (box_line b) = refl
keyword_other (pieces_line p) = refl
keyword_other (load_line l m) = refl
keyword_other (claim_line c) = refl
keyword_other (step_line s) = refl
keyword_other (row_line r) = refl
keyword_other (note_line a r) = refl
keyword_other end_line = refl

no_feed : (bytes : List ℕ) → list_all is_other bytes ≡ true → All (λ byte. is_line_feed byte ≡ false) bytes
no_feed bytes all i d within = not-true (is_line_feed (get_or bytes i d)) (AllPass-from_list_all is_other bytes all i d within)

pub one_line : (line : CertLine) (rest : List ℕ) → ArePlain (words_of line) → lines_in (line_text line ++ rest) ≡ line_bytes line ∷ lines_in rest
unfolding line_text
one_line line rest plain =
    ap (λ (t : List ℕ). lines_in t) (append_assoc (line_bytes line) (10 ∷ []) rest)
    ∙ slice_split_at is_line_feed (line_bytes line) 10 rest (no_feed (line_bytes line) (both (keyword_of line) (spelled (words_of line)) (keyword_other line) (spelled_other (words_of line) plain))) refl

pub lines_back : (lines : List CertLine) → ArePlainLines lines → lines_in (lines_text lines) ≡ map line_bytes lines ++ [] ∷ []
lines_back [] plain = slice_split_none is_line_feed [] (λ i d within. absurd (omega arith))
lines_back (line ∷ lines) plain = one_line line (lines_text lines) plain.0 ∙ ap (λ (ls : List (List ℕ)). line_bytes line ∷ ls) (lines_back lines plain.1)

pub plain_both : (xs ys : List CertLine) → ArePlainLines xs → ArePlainLines ys → ArePlainLines (xs ++ ys)
plain_both [] ys one two = two
plain_both (x ∷ xs) ys one two = (one.0, plain_both xs ys one.1 two)
