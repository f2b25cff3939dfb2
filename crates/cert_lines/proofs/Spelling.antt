-- What is read of a line is spelled as it is written: the words of a line, from the front.
use Rattle.std.proofs.Common.{◌≡◌, ℕ, ◌≤◌, zero, suc, ◌==◌, ℤ, pos, negsuc, Bool, true, false, nat_le, List, [], ◌∷◌, ◌++◌, codes, take, drop, Option, Some, None, refl, sym, ap, subst, ◌∙◌, eqb-true, arith}
use Rattle.std.specs.Prelude.{if◌then◌else◌, bytes_eq, option_map, option_and_then, slice_index}
use Rattle.std.specs.Fmt.{signed_decimal}
use Rattle.std.specs.Str.Parse.{digits_value}
use Rattle.std.proofs.lemmas.Grind.{common_steps}
use Rattle.std.proofs.lemmas.Slice.Eq.{bytes_eq-Decides}
use Rattle.std.proofs.lemmas.Fmt.{decimal_digit}
use Rattle.std.proofs.lemmas.List.{append-nil, take-append-drop}
use Rattle.toml_fields.specs.Fields.{is_name, checked_name}
use Rattle.brake_text.specs.Numbers.{is_number, number_of, below_zero, signed_of}
use Rattle.brake_text.proofs.Numerals.{number-spelled}
use Rattle.brake_base.specs.declared.plane.Quarter.{Quarter}
use Rattle.brake_base.specs.declared.plane.Quarter.TheVariants.{Q1, Q2, Q3, Q4}
use Rattle.brake_base.specs.declared.stroke.Back.{Back}
use Rattle.brake_base.specs.declared.stroke.Back.TheVariants.{Parent, Child}
use Rattle.brake_base.specs.declared.stroke.Half.{Half}
use Rattle.brake_base.specs.declared.stroke.Half.TheVariants.{Back as BackHalf, Front as FrontHalf}
use Rattle.brake_base.specs.declared.stroke.Worth.{Worth}
use Rattle.brake_base.specs.declared.stroke.Worth.TheVariants.{Cost, Blocked}
use Rattle.brake_base.specs.Reasons.{quarter_number}
use Rattle.part_file.specs.declared.part.Side.{Side}
use Rattle.part_file.specs.declared.part.Side.TheVariants.{N, E, S, W}
use Rattle.part_file.specs.declared.part.Dir.{Dir}
use Rattle.part_file.specs.declared.part.Dir.TheVariants.{Up, Down}
use Rattle.cert_words.specs.LineWords.{is_space, word_length, word_at, side_of, dir_of, back_of, half_of, quarter_of, cost_of, worth_of}
use Rattle.cert_lines.specs.Lines.{CertLine, keyword_of, words_of, number, side_word, dir_word, back_word, half_word, worth_word}
use Rattle.cert_lines.specs.LineReading.{keyword_in, behind_keyword}
use Rattle.cert_lines.specs.Lines.{IsWorth}
use Rattle.cert_lines.proofs.Each.{Each, each_then, each_if}
use Rattle.cert_lines.proofs.WordsRead.{spelled, IsShort, IsSmall}

-- a word behind a space
pub word_begins : (text : List ℕ) → Each (λ (w : List ℕ × List ℕ). text ≡ spelled (w.0 ∷ []) ++ w.1) (word_at text)
unfolding word_at
word_begins [] = tt
word_begins (byte ∷ text) = by_space (is_space byte) refl
  where
    shape : List ℕ → List ℕ → (32 ∷ []) ++ text ≡ spelled (take (word_length text) text ∷ []) ++ drop (word_length text) text
    shape a b = ap (λ (t : List ℕ). 32 ∷ t) (sym (take-append-drop (word_length text) text) ∙ ap (λ (t : List ℕ). t ++ drop (word_length text) text) (sym (append-nil (take (word_length text) text))))

    by_space : (b : Bool) → is_space byte ≡ b → Each (λ (w : List ℕ × List ℕ). byte ∷ text ≡ spelled (w.0 ∷ []) ++ w.1) (if b then Some (take (word_length text) text, drop (word_length text) text) else None)
    by_space true is = ap (λ (n : ℕ). n ∷ text) (eqb-true byte 32 is) ∙ shape [] []
    by_space false is = tt

-- numbers
pub number_is : (word : List ℕ) → Each (λ n. IsShort n × (word ≡ number n)) (number_of word)
unfolding number_of
number_is word = each_if (λ n. IsShort n × (word ≡ number n)) (is_number word) (Some (digits_value 10 word)) None (λ is. number-spelled word is) (λ is. tt)

minus_front : (word : List ℕ) → (slice_index word 0 == 45) ≡ true → word ≡ 45 ∷ drop 1 word
minus_front [] is = absurd (cc)
minus_front (byte ∷ word) is = ap (λ (n : ℕ). n ∷ word) (eqb-true byte 45 is)

below_suc : (n : ℕ) → below_zero (suc n) ≡ Some (negsuc n)
below_suc n = grind (arith, common_steps)

below_is : (word : List ℕ) (n : ℕ) → IsShort n → word ≡ 45 ∷ number n → Each (λ z. IsSmall z × (word ≡ signed_decimal z)) (below_zero n)
below_is word zero short is = tt
below_is word (suc n) short is = subst (λ (o : Option ℤ). Each (λ z. IsSmall z × (word ≡ signed_decimal z)) o) (sym (below_suc n)) (short, is)

pub signed_is : (word : List ℕ) → Each (λ z. IsSmall z × (word ≡ signed_decimal z)) (signed_of word)
unfolding signed_of
signed_is word =
    each_if Is (slice_index word 0 == 45) (option_and_then below_zero (number_of (drop 1 word))) (option_map pos (number_of word)) (λ is. minus (number_of (drop 1 word)) (number_is (drop 1 word)) (minus_front word is)) (λ is. plain (number_of word) (number_is word))
  where
    Is : ℤ → Type 0
    Is z = IsSmall z × (word ≡ signed_decimal z)

    minus : (o : Option ℕ) → Each (λ n. IsShort n × (drop 1 word ≡ number n)) o → word ≡ 45 ∷ drop 1 word → Each Is (option_and_then below_zero o)
    minus None each front = tt
    minus (Some n) each front = below_is word n each.0 (front ∙ ap (λ (t : List ℕ). 45 ∷ t) each.1)

    plain : (o : Option ℕ) → Each (λ n. IsShort n × (word ≡ number n)) o → Each Is (option_map pos o)
    plain None each = tt
    plain (Some n) each = each

pub respelled : (text word rest other : List ℕ) → text ≡ spelled (word ∷ []) ++ rest → word ≡ other → text ≡ spelled (other ∷ []) ++ rest
respelled text word rest other is same = is ∙ ap (λ (w : List ℕ). spelled (w ∷ []) ++ rest) same

pub by_word : {A : Type 0} (P : A → Type 0) (w code : List ℕ) (x : A) (other : Option A) → (w ≡ code → P x) → Each P other → Each P (if bytes_eq w code then Some x else other)
by_word P w code x other is each = by_test (bytes_eq w code) refl
  where
    by_test : (b : Bool) → bytes_eq w code ≡ b → Each P (if b then Some x else other)
    by_test true e = is ((bytes_eq-Decides w code).0 e)
    by_test false e = each

pub side_is : (w : List ℕ) → Each (λ x. w ≡ side_word x) (side_of w)
side_is w = let P : Side → Type 0 = λ x. w ≡ side_word x in
    by_word P w (codes "N") N _ (λ e. e) (by_word P w (codes "E") E _ (λ e. e) (by_word P w (codes "S") S _ (λ e. e) (by_word P w (codes "W") W None (λ e. e) tt)))

pub dir_is : (w : List ℕ) → Each (λ x. w ≡ dir_word x) (dir_of w)
dir_is w = let P : Dir → Type 0 = λ x. w ≡ dir_word x in by_word P w (codes "up") Up _ (λ e. e) (by_word P w (codes "down") Down None (λ e. e) tt)

pub back_is : (w : List ℕ) → Each (λ x. w ≡ back_word x) (back_of w)
back_is w = let P : Back → Type 0 = λ x. w ≡ back_word x in by_word P w (codes "P") Parent _ (λ e. e) (by_word P w (codes "C") Child None (λ e. e) tt)

pub half_is : (w : List ℕ) → Each (λ x. w ≡ half_word x) (half_of w)
half_is w = let P : Half → Type 0 = λ x. w ≡ half_word x in by_word P w (codes "B") BackHalf _ (λ e. e) (by_word P w (codes "F") FrontHalf None (λ e. e) tt)

pub quarter_is : (w : List ℕ) → Each (λ x. w ≡ number (quarter_number x)) (quarter_of w)
quarter_is w = let P : Quarter → Type 0 = λ x. w ≡ number (quarter_number x) in
    by_word P w (codes "1") Q1 _ (λ e. e ∙ sym (decimal_digit 1 (omega arith))) (by_word P w (codes "2") Q2 _ (λ e. e ∙ sym (decimal_digit 2 (omega arith))) (by_word P w (codes "3") Q3 _ (λ e. e ∙ sym (decimal_digit 3 (omega arith))) (by_word P w (codes "4") Q4 None (λ e. e ∙ sym (decimal_digit 4 (omega arith))) tt)))

cost_is : (w : List ℕ) → Each (λ x. IsWorth x × (w ≡ worth_word x)) (cost_of w)
cost_is w =
    let Is : Worth → Type 0 = λ x. IsWorth x × (w ≡ worth_word x) in
    each_then (λ n. IsShort n × (w ≡ number n)) Is (number_of w) (λ cost. if nat_le cost 1000000000 then Some (Cost cost) else None) (number_is w)
    (λ n is. each_if Is (nat_le n 1000000000) (Some (Cost n)) None (λ few. (le_from n 1000000000 few, is.1)) (λ many. tt))
  where
    le_from : (a b : ℕ) → nat_le a b ≡ true → a ≤ b
    le_from a b is = grind (arith, common_steps)

pub worth_is : (w : List ℕ) → Each (λ x. IsWorth x × (w ≡ worth_word x)) (worth_of w)
worth_is w = by_word (λ x. IsWorth x × (w ≡ worth_word x)) w (codes "none") Blocked (cost_of w) (λ e. (tt, e)) (cost_is w)

pub name_is : (w : List ℕ) → Each (λ name. (is_name name ≡ true) × (w ≡ name)) (checked_name w)
name_is w = each_if (λ name. (is_name name ≡ true) × (w ≡ name)) (is_name w) (Some w) None (λ is. (is, refl)) (λ other. tt)

-- a line whose keyword and words are those of a kind
pub each_line : (line : List ℕ) (kind : CertLine) → keyword_in line ≡ keyword_of kind → behind_keyword line ≡ spelled (words_of kind) → line ≡ keyword_of kind ++ spelled (words_of kind)
each_line line kind key words =
    sym (take-append-drop (word_length line) line) ∙ ap (λ (w : List ℕ). w ++ behind_keyword line) key ∙ ap (λ (t : List ℕ). keyword_of kind ++ t) words
