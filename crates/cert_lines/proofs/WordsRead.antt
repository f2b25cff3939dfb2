-- Words that are written are read back, each behind a space.
use Rattle.std.proofs.Common.{◌≡◌, ℕ, suc, ◌+◌, ◌^◌, ◌<◌, ◌≤◌, ◌==◌, ℤ, pos, negsuc, Bool, true, false, cond, not, ◌&&◌, nat_le, nat_lt, List, [], ◌∷◌, ◌++◌, codes, take, drop, length, Option, Some, None, decimal, refl, sym, ap, ◌∙◌, arith}
use Rattle.std.specs.Prelude.{if◌then◌else◌, bytes_eq, unsigned_abs}
use Rattle.std.proofs.lemmas.Slice.Eq.{bytes_eq-Decides}
use Rattle.std.specs.List.{flat_map, list_all}
use Rattle.std.specs.Char.{is_ascii_digit}
use Rattle.std.specs.Fmt.{signed_decimal}
use Rattle.std.proofs.lemmas.Bool.{and_parts, and_from}
use Rattle.std.proofs.lemmas.Grind.{common_steps}
use Rattle.std.proofs.lemmas.Fmt.{digits_decimal, decimal_digit, length-decimal-le}
use Rattle.std.proofs.Math.Seq.{take-append_seam, drop-append_seam}
use Rattle.toml_fields.specs.Fields.{is_name, checked_name}
use Rattle.brake_text.specs.Numbers.{number_of, signed_of}
use Rattle.brake_text.proofs.Numerals.{digits_model}
use Rattle.brake_text.proofs.ReadBack.{number_of-decimal, signed_of-decimal}
use Rattle.brake_base.specs.declared.plane.Quarter.{Quarter}
use Rattle.brake_base.specs.declared.plane.Quarter.TheVariants.{Q1, Q2, Q3, Q4}
use Rattle.brake_base.specs.declared.stroke.Back.{Back}
use Rattle.brake_base.specs.declared.stroke.Back.TheVariants.{Parent, Child}
use Rattle.brake_base.specs.declared.stroke.Half.{Half}
use Rattle.brake_base.specs.declared.stroke.Half.TheVariants.{Back as BackHalf, Front as FrontHalf}
use Rattle.brake_base.specs.declared.stroke.Worth.{Worth}
use Rattle.brake_base.specs.declared.stroke.Worth.TheVariants.{Cost, Blocked}
use Rattle.brake_base.specs.Reasons.{quarter_number}
use Rattle.part_file.specs.declared.part.Side.{Side}
use Rattle.part_file.specs.declared.part.Side.TheVariants.{N, E, S, W}
use Rattle.part_file.specs.declared.part.Dir.{Dir}
use Rattle.part_file.specs.declared.part.Dir.TheVariants.{Up, Down}
use Rattle.cert_words.specs.LineWords.{is_space, word_length, word_at, count_at, signed_at, side_of, dir_of, back_of, half_of, quarter_of, cost_of, worth_of, kind_at}
use Rattle.cert_lines.specs.Lines.{number, side_word, dir_word, back_word, half_word, worth_word, spaced, spaced_number}
use Rattle.cert_lines.specs.Lines.{IsWorth}

-- words, each behind a space
abbrev pub spelled : List (List ℕ) → List ℕ
spelled words = flat_map spaced words

-- neither a space nor a line feed
abbrev pub is_plain : ℕ → Bool
is_plain byte = not (byte == 32) && not (byte == 10)

-- a word has at most 24 bytes, all of them plain
abbrev pub IsPlain : List ℕ → Type 0
IsPlain word = (list_all is_plain word && nat_le (length word) 24) ≡ true

pub plain_bytes : (word : List ℕ) → IsPlain word → list_all is_plain word ≡ true
plain_bytes word plain = (and_parts (list_all is_plain word) (nat_le (length word) 24) plain).0

is_24 : (n : ℕ) → n ≤ 24 → nat_le n 24 ≡ true
is_24 n few = grind (arith, common_steps)

-- a word ends here: at a space or at the end of the line
abbrev pub Ends : List ℕ → Type 0
Ends [] = Unit {0}
Ends (byte ∷ rest) = is_space byte ≡ true

word_size : (word rest : List ℕ) → list_all is_plain word ≡ true → Ends rest → word_length (word ++ rest) ≡ length word
word_size [] [] plain ends = refl
word_size [] (byte ∷ rest) plain ends = ap (λ (b : Bool). cond (not b) (1 + word_length rest) 0) ends
word_size (byte ∷ word) rest plain ends =
    let parts = and_parts (is_plain byte) (list_all is_plain word) plain in
    let other : not (is_space byte) ≡ true = (and_parts (not (byte == 32)) (not (byte == 10)) parts.0).0 in
    let more : 1 + length word ≡ suc (length word) = omega arith in
    ap (λ (b : Bool). cond b (1 + word_length (word ++ rest)) 0) other ∙ ap (λ (n : ℕ). 1 + n) (word_size word rest parts.1 ends) ∙ more

pub word_read : (word rest : List ℕ) → IsPlain word → Ends rest → word_at (spaced word ++ rest) ≡ Some (word, rest)
unfolding word_at
word_read word rest plain ends =
    let size = word_size word rest (plain_bytes word plain) ends in
    ap (λ (n : ℕ). Some (take n (word ++ rest), drop n (word ++ rest))) size
    ∙ ap (λ (w : List ℕ). Some (w, drop (length word) (word ++ rest))) (take-append_seam word rest)
    ∙ ap (λ (r : List ℕ). Some (word, r)) (drop-append_seam word rest)

-- what passes one test passes another
all_weaker : (p q : ℕ → Bool) → ((b : ℕ) → p b ≡ true → q b ≡ true) → (bytes : List ℕ) → list_all p bytes ≡ true → list_all q bytes ≡ true
all_weaker p q weaker [] all = refl
all_weaker p q weaker (byte ∷ bytes) all =
    let parts = and_parts (p byte) (list_all p bytes) all in and_from (q byte) (list_all q bytes) (weaker byte parts.0) (all_weaker p q weaker bytes parts.1)

digit_plain : (byte : ℕ) → is_ascii_digit byte ≡ true → is_plain byte ≡ true
digit_plain byte is = grind (arith, common_steps)

letter_plain : (byte : ℕ) → (nat_le 0x21 byte && nat_le byte 0x7E) ≡ true → is_plain byte ≡ true
letter_plain byte is = grind (arith, common_steps)

-- a number that has at most 18 digits
abbrev pub IsShort : ℕ → Type 0
IsShort n = n < 10 ^ 18

abbrev pub IsSmall : ℤ → Type 0
IsSmall z = unsigned_abs z < 10 ^ 18

digits_plain : (n : ℕ) → IsShort n → list_all is_plain (decimal n) ≡ true
digits_plain n short = all_weaker is_ascii_digit is_plain digit_plain (decimal n) (digits_decimal digits_model n (omega (arith, short)))

few_digits : (n : ℕ) → IsShort n → length (decimal n) ≤ 18
few_digits n short = length-decimal-le 18 n (omega arith) short (omega (arith, short))

pub number_plain : (n : ℕ) → IsShort n → IsPlain (number n)
number_plain n short = and_from (list_all is_plain (decimal n)) (nat_le (length (decimal n)) 24) (digits_plain n short) (is_24 (length (decimal n)) (omega (arith, few_digits n short)))

pub signed_plain : (z : ℤ) → IsSmall z → IsPlain (signed_decimal z)
signed_plain (pos n) small = number_plain n small
signed_plain (negsuc n) small =
    let word = signed_decimal (negsuc n) in
    and_from (list_all is_plain word) (nat_le (length word) 24) (digits_plain (suc n) small) (is_24 (length word) (omega (arith, few_digits (suc n) small)))

pub name_plain : (name : List ℕ) → is_name name ≡ true → IsPlain name
name_plain name is =
    let parts = and_parts (nat_le 1 (length name) && nat_le (length name) 24) (list_all (λ b. nat_le 0x21 b && nat_le b 0x7E) name) is in
    let few = (and_parts (nat_le 1 (length name)) (nat_le (length name) 24) parts.0).1 in
    and_from (list_all is_plain name) (nat_le (length name) 24) (all_weaker (λ b. nat_le 0x21 b && nat_le b 0x7E) is_plain letter_plain name parts.1) few

pub checked : (name : List ℕ) → is_name name ≡ true → checked_name name ≡ Some name
checked name is = ap (λ (b : Bool). if b then Some name else None) is

both_true : (low end n : ℕ) → low ≤ n → n < end → (nat_le low n && nat_lt n end) ≡ true
both_true low end n le lt = grind (arith, common_steps)

pub count_read : (low end n : ℕ) (rest : List ℕ) → low ≤ n → n < end → IsShort n → Ends rest → count_at low end (spaced (number n) ++ rest) ≡ Some (n, rest)
unfolding count_at
count_read low end n rest le lt short ends = rw (word_read (number n) rest (number_plain n short) ends, number_of-decimal n short, both_true low end n le lt) refl

pub kind_read : {A : Type 0} (of : List ℕ → Option A) (word rest : List ℕ) (x : A) → of word ≡ Some x → IsPlain word → Ends rest → kind_at of (spaced word ++ rest) ≡ Some (x, rest)
unfolding kind_at
kind_read of word rest x is plain ends = rw (word_read word rest plain ends, is) refl

pub signed_read : (z : ℤ) (rest : List ℕ) → IsSmall z → Ends rest → signed_at (spaced_number z ++ rest) ≡ Some (z, rest)
unfolding signed_at
signed_read z rest small ends = kind_read signed_of (signed_decimal z) rest z (signed_of-decimal z small) (signed_plain z small) ends

pub side_back : (x : Side) → side_of (side_word x) ≡ Some x
side_back N = refl
side_back E = refl
side_back S = refl
side_back W = refl

pub side_plain : (x : Side) → IsPlain (side_word x)
side_plain N = refl
side_plain E = refl
side_plain S = refl
side_plain W = refl

pub dir_back : (x : Dir) → dir_of (dir_word x) ≡ Some x
dir_back Up = refl
dir_back Down = refl

pub dir_plain : (x : Dir) → IsPlain (dir_word x)
dir_plain Up = refl
dir_plain Down = refl

pub back_back : (x : Back) → back_of (back_word x) ≡ Some x
back_back Parent = refl
back_back Child = refl

pub back_plain : (x : Back) → IsPlain (back_word x)
back_plain Parent = refl
back_plain Child = refl

pub half_back : (x : Half) → half_of (half_word x) ≡ Some x
half_back BackHalf = refl
half_back FrontHalf = refl

pub half_plain : (x : Half) → IsPlain (half_word x)
half_plain BackHalf = refl
half_plain FrontHalf = refl

digit_word : (n : ℕ) → n < 10 → number n ≡ (48 + n) ∷ []
digit_word n few = decimal_digit n few

pub quarter_back : (x : Quarter) → quarter_of (number (quarter_number x)) ≡ Some x
quarter_back Q1 = rw (digit_word 1 (omega arith)) refl
quarter_back Q2 = rw (digit_word 2 (omega arith)) refl
quarter_back Q3 = rw (digit_word 3 (omega arith)) refl
quarter_back Q4 = rw (digit_word 4 (omega arith)) refl

pub quarter_plain : (x : Quarter) → IsPlain (number (quarter_number x))
quarter_plain x = number_plain (quarter_number x) (few x)
  where
    few : (x : Quarter) → IsShort (quarter_number x)
    few Q1 = omega arith
    few Q2 = omega arith
    few Q3 = omega arith
    few Q4 = omega arith

cost_read : (cost : ℕ) → cost ≤ 1000000000 → cost_of (number cost) ≡ Some (Cost cost)
cost_read cost few = let le : nat_le cost 1000000000 ≡ true = grind (arith, common_steps) in rw (number_of-decimal cost (omega (arith, few)), le) refl

not_none : (cost : ℕ) → cost ≤ 1000000000 → worth_of (number cost) ≡ cost_of (number cost)
unfolding number_of
not_none cost few = by_test (bytes_eq (number cost) (codes "none")) refl
  where
    clash : number_of (codes "none") ≡ Some cost → ⊥
    clash e = absurd (cc)

    by_test : (b : Bool) → bytes_eq (number cost) (codes "none") ≡ b → (if b then Some Blocked else cost_of (number cost)) ≡ cost_of (number cost)
    by_test true e = absurd (clash (sym (ap number_of ((bytes_eq-Decides (number cost) (codes "none")).0 e)) ∙ number_of-decimal cost (omega (arith, few))))
    by_test false e = refl

pub worth_back : (x : Worth) → IsWorth x → worth_of (worth_word x) ≡ Some x
worth_back (Cost cost) is = not_none cost is ∙ cost_read cost is
worth_back Blocked is = refl

pub worth_plain : (x : Worth) → IsWorth x → IsPlain (worth_word x)
worth_plain (Cost cost) is = number_plain cost (omega (arith, is))
worth_plain Blocked is = refl
