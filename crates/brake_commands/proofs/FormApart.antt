-- `setups` is run for its words exactly where no file that is fetched has a name under which a certificate is stored.
use Rattle.std.proofs.Common.{◌≡◌, ℕ, ◌≤◌, ◌==◌, List, [], ◌∷◌, ◌++◌, length, drop, Bool, true, false, ◌&&◌, cond, Option, Some, None, refl, sym, ap, subst, ◌∙◌, append_assoc, decimal, arith}
use Rattle.std.specs.Prelude.{IsTrue, IfSome, not, codes, All, bytes_eq, nat_eq, nat_le, is_some}
use Rattle.std.specs.List.{starts_with}
use Rattle.std.specs.Str.Parse.{digits_value}
use Rattle.std.proofs.lemmas.Bool.{false≢true}
use Rattle.std.proofs.lemmas.Bool.Decides.{Decides-eqb}
use Rattle.std.proofs.lemmas.Slice.Eq.{starts_is, bytes_eq-Decides}
use Rattle.std.proofs.lemmas.List.Elements.{All-nil, All-cons}
use Rattle.brake_text.specs.Numbers.{is_number, number_of}
use Rattle.brake_text.proofs.Numerals.{number-spelled}
use Rattle.command_runner.specs.declared.word_kind.WordKind.{WordKind}
use Rattle.command_runner.specs.Kinds.{number_in, spelling, is_file_word, is_numbered_ending, is_numbered_name, is_stored_apart, is_of_kind, are_of_kinds, are_apart, is_form}
use Rattle.brake_commands.specs.declared.form.Form.TheVariants as form
use Rattle.brake_commands.specs.declared.command.Command.{Command}
use Rattle.brake_commands.specs.declared.command.Command.TheVariants.{Setups}
use Rattle.brake_commands.specs.Forms.{kinds_of, forms, form_of, read_by}
use Rattle.brake_commands.specs.SetupsWords.{IsStoredName, AreSetupsWords, five_files}
use Rattle.brake_commands.proofs.NumberedNames.{numbered_is}

-- the kinds of the words
abbrev kinds : List WordKind
kinds = kinds_of form.Setups

left : (a b : Bool) → IsTrue (a && b) → IsTrue a
left true b is = refl
left false b is = is

right : (a b : Bool) → IsTrue (a && b) → IsTrue b
right true b is = is
right false b is = absurd (false≢true is)

both : (a b : Bool) → IsTrue a → IsTrue b → IsTrue (a && b)
both true b first second = second
both false b first second = first

first_not : (n m : Bool) → IsTrue (not n && m) → n ≡ false
first_not false m is = refl
first_not true m is = absurd (false≢true is)

-- ---- a word that passes the test of numbered names is one of them
-- the number that digits spell, in the range
in_range : (digits : List ℕ) (read : Option ℕ) → number_of digits ≡ read → IsTrue (is_some (number_in 0 15 digits)) → (n : ℕ) × (n ≤ 15) × (number_of digits ≡ Some n)
in_range digits None reads is = absurd (false≢true (rw reads at is))
in_range digits (Some n) reads is = (n, few (nat_le 0 n && nat_le n 15) refl (rw reads at is), reads)
  where
    few : (t : Bool) → (nat_le 0 n && nat_le n 15) ≡ t → IsTrue (is_some (cond t (Some n) None)) → n ≤ 15
    few true both some = below n (right (nat_le 0 n) (nat_le n 15) both)
      where
        below : (m : ℕ) → nat_le m 15 ≡ true → m ≤ 15
        below m is = grind arith
    few false other some = absurd (false≢true some)

-- they are its decimal
spelled : (digits : List ℕ) (n : ℕ) → number_of digits ≡ Some n → digits ≡ decimal n
unfolding number_of
spelled digits n reads = by_test (is_number digits) refl reads
  where
    some_is : (a b : ℕ) → Some a ≡ Some b → a ≡ b
    some_is a b same = cc

    by_test : (t : Bool) → is_number digits ≡ t → cond t (Some (digits_value 10 digits)) None ≡ Some n → digits ≡ decimal n
    by_test true is value = (number-spelled digits is).1 ∙ ap decimal (some_is (digits_value 10 digits) n value)
    by_test false is value = absurd (let c = value in cc)

numbered_ending : (name word ending : List ℕ) → word ≡ name ++ ending → IsTrue (is_numbered_ending ending) → IsStoredName name word
numbered_ending name word [] whole is = absurd (false≢true is)
numbered_ending name word (byte ∷ digits) whole is =
    let dot : byte ≡ 46 = (Decides-eqb byte 46).0 (left (byte == 46) (is_some (number_in 0 15 digits)) is) in
    let found = in_range digits (number_of digits) refl (right (byte == 46) (is_some (number_in 0 15 digits)) is) in
    record {
      number = found.0;
      few = found.1;
      is = whole ∙ ap (λ b. name ++ b ∷ digits) dot ∙ ap (λ ds. name ++ 46 ∷ ds) (spelled digits found.0 found.2)
          ∙ sym (append_assoc name (codes ".") (decimal found.0));
    }

stored_name : (name word : List ℕ) → IsTrue (is_numbered_name name word) → IsStoredName name word
unfolding is_numbered_name
stored_name name word is =
    let starts = left (starts_with nat_eq word name) (is_numbered_ending (drop (length name) word)) is in
    let ends = right (starts_with nat_eq word name) (is_numbered_ending (drop (length name) word)) is in
    numbered_ending name word (drop (length name) word) ((starts_is Decides-eqb word name (starts_with nat_eq word name) refl).0 starts) ends

-- and no other word is
not_stored : (name word : List ℕ) → is_numbered_name name word ≡ false → IsStoredName name word → ⊥
not_stored name word other stored =
    false≢true (sym other ∙ ap (is_numbered_name name) stored.is ∙ numbered_is name stored.number stored.few)

not_numbered : (name word : List ℕ) → (IsStoredName name word → ⊥) → is_numbered_name name word ≡ false
not_numbered name word other = by_test (is_numbered_name name word) refl
  where
    by_test : (t : Bool) → is_numbered_name name word ≡ t → t ≡ false
    by_test true is = absurd (other (stored_name name word is))
    by_test false is = refl

-- ---- words of the form
apart_words : (a b c d e f : List ℕ) → IsTrue (is_form kinds (a ∷ b ∷ c ∷ d ∷ e ∷ f ∷ [])) → All (λ word. IsStoredName f word → ⊥) (b ∷ c ∷ d ∷ e ∷ [])
unfolding is_stored_apart
apart_words a b c d e f is =
    let P = λ (word : List ℕ). IsStoredName f word → ⊥ in
    let last = left _ _ (right _ _ is) in
    let later = right _ _ last in
    let third = right _ _ later in
    All-cons P b (c ∷ d ∷ e ∷ []) (not_stored f b (first_not (is_numbered_name f b) _ last))
    (All-cons P c (d ∷ e ∷ []) (not_stored f c (first_not (is_numbered_name f c) _ later))
    (All-cons P d (e ∷ []) (not_stored f d (first_not (is_numbered_name f d) _ third))
    (All-cons P e [] (not_stored f e (first_not (is_numbered_name f e) _ (right _ _ third))) (All-nil P))))

file_words : (b c d e f : List ℕ) → IsTrue (is_file_word b && (is_file_word c && (is_file_word d && (is_file_word e && (is_file_word f && true)))))
    → All (λ word. IsTrue (is_file_word word)) (b ∷ c ∷ d ∷ e ∷ f ∷ [])
file_words b c d e f is =
    let P = λ (word : List ℕ). IsTrue (is_file_word word) in
    let of_c = right _ _ is in
    let of_d = right _ _ of_c in
    let of_e = right _ _ of_d in
    All-cons P b (c ∷ d ∷ e ∷ f ∷ []) (left _ _ is)
    (All-cons P c (d ∷ e ∷ f ∷ []) (left _ _ of_c)
    (All-cons P d (e ∷ f ∷ []) (left _ _ of_d)
    (All-cons P e (f ∷ []) (left _ _ of_e)
    (All-cons P f [] (left _ _ (right _ _ of_e)) (All-nil P)))))

-- words of a form are as many as its kinds
as_many_words : (some : List WordKind) (words : List (List ℕ)) → IsTrue (are_of_kinds some words) → length words ≡ length some
as_many_words [] [] is = refl
as_many_words [] (word ∷ words) is = absurd (false≢true is)
as_many_words (kind ∷ some) [] is = absurd (false≢true is)
as_many_words (kind ∷ some) (word ∷ words) is =
    let rest = as_many_words some words (right (is_of_kind kind word) (are_of_kinds some words) is) in
    omega (arith, rest)

of_six : (words : List (List ℕ)) → length words ≡ 6 → IsTrue (is_form kinds words) → AreSetupsWords words
unfolding spelling
of_six (a ∷ b ∷ c ∷ d ∷ e ∷ f ∷ []) six is =
    let kinds_are = left (are_of_kinds kinds (a ∷ b ∷ c ∷ d ∷ e ∷ f ∷ [])) (are_apart kinds (a ∷ b ∷ c ∷ d ∷ e ∷ f ∷ []) kinds (a ∷ b ∷ c ∷ d ∷ e ∷ f ∷ [])) is in
    let setups : a ≡ codes "setups" = (bytes_eq-Decides a (codes "setups")).0 (left (bytes_eq a (codes "setups")) _ kinds_are) in
    subst (λ (word : List ℕ). AreSetupsWords (word ∷ b ∷ c ∷ d ∷ e ∷ f ∷ [])) (sym setups)
    (five_files b c d e f (file_words b c d e f (right (bytes_eq a (codes "setups")) _ kinds_are)) (apart_words a b c d e f is))
of_six [] six is = absurd (omega (arith, six))
of_six (a ∷ []) six is = absurd (omega (arith, six))
of_six (a ∷ b ∷ []) six is = absurd (omega (arith, six))
of_six (a ∷ b ∷ c ∷ []) six is = absurd (omega (arith, six))
of_six (a ∷ b ∷ c ∷ d ∷ []) six is = absurd (omega (arith, six))
of_six (a ∷ b ∷ c ∷ d ∷ e ∷ []) six is = absurd (omega (arith, six))
of_six (a ∷ b ∷ c ∷ d ∷ e ∷ f ∷ g ∷ words) six is = absurd (omega (arith, six))

setups_words : (words : List (List ℕ)) → IsTrue (is_form kinds words) → AreSetupsWords words
setups_words words is = of_six words (as_many_words kinds words (left (are_of_kinds kinds words) (are_apart kinds words kinds words) is)) is

pub words_told : (words : List (List ℕ)) (result : Option Command) → IfSome result (λ command. IsTrue (is_form (kinds_of (form_of command)) words))
    → result ≡ Some (Setups 1 2 3 4 5) → AreSetupsWords words
words_told words result told is =
    setups_words words (subst (λ (r : Option Command). IfSome r (λ command. IsTrue (is_form (kinds_of (form_of command)) words))) is told)

-- ---- the command is read of them
pub setups_read : (words : List (List ℕ)) → AreSetupsWords words → read_by forms words ≡ Some (Setups 1 2 3 4 5)
unfolding spelling is_stored_apart
setups_read _ (five_files b c d e f files apart) =
    rw (
      files 0 [] (omega arith),
      files 1 [] (omega arith),
      files 2 [] (omega arith),
      files 3 [] (omega arith),
      files 4 [] (omega arith),
      not_numbered f b (apart 0 [] (omega arith)),
      not_numbered f c (apart 1 [] (omega arith)),
      not_numbered f d (apart 2 [] (omega arith)),
      not_numbered f e (apart 3 [] (omega arith)),
    ) refl
