-- Words that are numbers.
use Rattle.std.proofs.Common.{◌≡◌, ℕ, ◌&&◌, Bool, true, false, List, Option, Some, None, refl, sym, ◌∙◌, ap, codes, ◌<◌, ◌≤◌, arith}
use Rattle.std.specs.Prelude.{bytes_eq, nat_le, nat_lt, if◌then◌else◌}
use Rattle.std.proofs.lemmas.Bool.{le-leb}
use Rattle.std.proofs.lemmas.Grind.{common_steps}
use Rattle.std.proofs.lemmas.Slice.Eq.{bytes_eq-Decides}
use Rattle.brake_base.specs.declared.stroke.Worth.{Worth}
use Rattle.brake_base.specs.declared.stroke.Worth.TheVariants.{Cost, Blocked}
use Rattle.brake_text.specs.Numbers.{number_of}
use Rattle.cert_words.specs.LineWords.{◌>>=◌, word_at, kind_at, count_at, blocked_of, cost_of, worth_of}

-- a number within its range
abbrev pub ranged : ℕ → ℕ → Option (ℕ × List ℕ) → Option (ℕ × List ℕ)
ranged low end None = None
ranged low end (Some x) = if nat_le low x.0 && nat_lt x.0 end then Some x else None

-- a number with a range is a number that is then tested
pub count_is : (low end : ℕ) (text : List ℕ) → count_at low end text ≡ ranged low end (kind_at number_of text)
unfolding count_at kind_at
count_is low end text = by_word (word_at text)
  where
    by_number : (rest : List ℕ) (n : Option ℕ) → (n >>= λ v. if nat_le low v && nat_lt v end then Some (v, rest) else None) ≡ ranged low end (n >>= λ v. Some (v, rest))
    by_number rest None = refl
    by_number rest (Some v) = refl

    by_word : (word : Option (List ℕ × List ℕ)) → (word >>= λ w. number_of w.0 >>= λ v. if nat_le low v && nat_lt v end then Some (v, w.1) else None) ≡ ranged low end (word >>= λ w. number_of w.0 >>= λ v. Some (v, w.1))
    by_word None = refl
    by_word (Some w) = by_number w.1 (number_of w.0)

pub ruleset counted = (count_is)

-- a cost where the word is a number, else that there is no way on
abbrev pub cost_or_blocked : Option (ℕ × List ℕ) → Option (Worth × List ℕ) → Option (Worth × List ℕ)
cost_or_blocked None blocked = blocked
cost_or_blocked (Some x) blocked = if nat_le x.0 1000000000 then Some (Cost x.0, x.1) else None

-- what is told of a word, with the text behind it
abbrev worth_with : List ℕ → Option Worth → Option (Worth × List ℕ)
worth_with rest told = told >>= λ x. Some (x, rest)

abbrev number_with : List ℕ → Option ℕ → Option (ℕ × List ℕ)
number_with rest told = told >>= λ v. Some (v, rest)

none_is_no_number : number_of (codes "none") ≡ None
unfolding number_of
none_is_no_number = refl

pub worth_is : (text : List ℕ) → kind_at worth_of text ≡ cost_or_blocked (kind_at number_of text) (kind_at blocked_of text)
unfolding kind_at
worth_is text = by_word (word_at text)
  where
    by_cost : (v : ℕ) (rest : List ℕ) (t : Bool) → worth_with rest (if t then Some (Cost v) else None) ≡ (if t then Some (Cost v, rest) else None)
    by_cost v rest true = refl
    by_cost v rest false = refl

    by_tests : (word rest : List ℕ) (t : Bool) (n : Option ℕ) → bytes_eq word (codes "none") ≡ t → number_of word ≡ n
        → worth_with rest (if t then Some Blocked else n >>= λ cost. if nat_le cost 1000000000 then Some (Cost cost) else None)
        ≡ cost_or_blocked (number_with rest n) (worth_with rest (if t then Some Blocked else None))
    by_tests word rest true None is told = refl
    by_tests word rest true (Some v) is told = absurd (not_both (sym none_is_no_number ∙ ap number_of (sym ((bytes_eq-Decides word (codes "none")).0 is)) ∙ told))
      where
        not_both : None ≡ Some v → ⊥
        not_both e = absurd (cc)
    by_tests word rest false None is told = refl
    by_tests word rest false (Some v) is told = by_cost v rest (nat_le v 1000000000)

    by_word : (word : Option (List ℕ × List ℕ)) → (word >>= λ w. worth_with w.1 (worth_of w.0)) ≡ cost_or_blocked (word >>= λ w. number_with w.1 (number_of w.0)) (word >>= λ w. worth_with w.1 (blocked_of w.0))
    by_word None = refl
    by_word (Some w) = by_tests w.0 w.1 (bytes_eq w.0 (codes "none")) (number_of w.0) refl refl

-- a number that is a cost
pub cost_there : (text rest : List ℕ) (v : ℕ) → kind_at number_of text ≡ Some (v, rest) → v ≤ 1000000000 → kind_at worth_of text ≡ Some (Cost v, rest)
cost_there text rest v read few =
    worth_is text ∙ ap (λ (n : Option (ℕ × List ℕ)). cost_or_blocked n (kind_at blocked_of text)) read ∙ ap (λ (t : Bool). if t then Some (Cost v, rest) else None) (le-leb v 1000000000 few)

-- one that is too great
pub no_cost : (text rest : List ℕ) (v : ℕ) → kind_at number_of text ≡ Some (v, rest) → 1000000000 < v → kind_at worth_of text ≡ None
no_cost text rest v read many =
    worth_is text ∙ ap (λ (n : Option (ℕ × List ℕ)). cost_or_blocked n (kind_at blocked_of text)) read ∙ ap (λ (t : Bool). if t then Some (Cost v, rest) else None) (above v many)
  where
    above : (n : ℕ) → 1000000000 < n → nat_le n 1000000000 ≡ false
    above n more = grind (arith, common_steps)

-- no number
pub else_blocked : (text : List ℕ) → kind_at number_of text ≡ None → kind_at worth_of text ≡ kind_at blocked_of text
else_blocked text read = worth_is text ∙ ap (λ (n : Option (ℕ × List ℕ)). cost_or_blocked n (kind_at blocked_of text)) read
