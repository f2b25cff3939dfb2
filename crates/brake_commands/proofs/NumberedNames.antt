-- The numbered names under which certificates are stored are different, and they are those that may be no other file word.
use Rattle.std.proofs.Common.{◌≡◌, ℕ, ◌+◌, ◌≤◌, true, List, [], ◌∷◌, ◌++◌, length, pos, Option, Some, None, refl, sym, ap, ◌∙◌, append_assoc, arith}
use Rattle.std.specs.Prelude.{◌≢◌, All, AllPairs, codes, unsigned_abs, nat_eq}
use Rattle.std.specs.Fmt.{signed_decimal}
use Rattle.std.specs.List.{starts_with, flat_map, enumerate_from}
use Rattle.std.proofs.lemmas.List.Elements.{All-cons}
use Rattle.std.proofs.lemmas.List.Kept.{AllPairs-cons}
use Rattle.sweep_check.proofs.Ascending.{pairs_nil}
use Rattle.std.proofs.Math.Seq.{drop-append_seam}
use Rattle.std.proofs.lemmas.List.{append_cancel_left}
use Rattle.std.proofs.lemmas.Grind.{common_steps}
use Rattle.std.proofs.lemmas.Fmt.{signed_decimal_injective}
use Rattle.brake_text.proofs.ReadBack.{number_of-decimal}
use Rattle.command_runner.specs.Kinds.{number_in, is_numbered_name}
use Rattle.command_runner.specs.Answers.{StoredData}
use Rattle.brake_commands.specs.Attempts.{PlannedData, AttemptData}
use Rattle.brake_commands.specs.SetupsAnswer.{numbered_name, stored_at, stored_of, all_stored}

begins : (name rest : List ℕ) → starts_with nat_eq (name ++ rest) name ≡ true
begins [] rest = refl
begins (x ∷ xs) rest = grind (arith, common_steps, begins xs rest)

-- a number of at most 15 is in the range
in_range : (i : ℕ) → i ≤ 15 → number_in 0 15 (signed_decimal (pos i)) ≡ Some i
in_range i few = rw (number_of-decimal i (omega arith)) (grind (arith, common_steps))

-- a name, a full stop and a number of at most 15
is_ending : (name text : List ℕ) (i : ℕ) → number_in 0 15 text ≡ Some i → is_numbered_name name (name ++ (codes "." ++ text)) ≡ true
unfolding is_numbered_name
is_ending name text i reads = rw (begins name (codes "." ++ text), drop-append_seam name (codes "." ++ text), reads) refl

-- such a name is one of those that are numbered
pub numbered_is : (name : List ℕ) (i : ℕ) → i ≤ 15 → is_numbered_name name (numbered_name name i) ≡ true
numbered_is name i few = rw (append_assoc name (codes ".") (signed_decimal (pos i))) (is_ending name (signed_decimal (pos i)) i (in_range i few))

-- different numbers give different names
pub numbered_different : (name : List ℕ) (i j : ℕ) → i ≤ 15 → j ≤ 15 → numbered_name name i ≡ numbered_name name j → i ≡ j
numbered_different name i j few_i few_j same =
    let behind : codes "." ++ signed_decimal (pos i) ≡ codes "." ++ signed_decimal (pos j) =
    append_cancel_left name _ _ (sym (append_assoc name (codes ".") (signed_decimal (pos i))) ∙ same ∙ append_assoc name (codes ".") (signed_decimal (pos j))) in
    let texts : signed_decimal (pos i) ≡ signed_decimal (pos j) = append_cancel_left (codes ".") _ _ behind in
    ap unsigned_abs (signed_decimal_injective (pos i) (pos j) (omega arith) (omega arith) texts)

-- it has the numbered name of a place from there on
abbrev Named : List ℕ → ℕ → StoredData → Type 0
Named name n one = (place : ℕ) × (n ≤ place) × (place ≤ 15) × (one.name ≡ numbered_name name place)

later : (name : List ℕ) (n : ℕ) (rest : List StoredData) → All (Named name (n + 1)) rest → All (Named name n) rest
later name n rest all = λ i d within.
    let named = all i d within in
    (named.0, omega (arith, named.1), named.2, named.3)

named_with : (name : List ℕ) (n : ℕ) (planned : Option PlannedData) (rest : List StoredData) → n ≤ 15 → All (Named name (n + 1)) rest → All (Named name n) (stored_at name n planned ++ rest)
named_with name n None rest low all = later name n rest all
named_with name n (Some planned) rest low all = All-cons (Named name n) _ rest (n, omega arith, low, refl) (later name n rest all)

different_with : (name : List ℕ) (n : ℕ) (planned : Option PlannedData) (rest : List StoredData) → n ≤ 15 → All (Named name (n + 1)) rest
    → AllPairs (λ one other. one.name ≢ other.name) rest → AllPairs (λ one other. one.name ≢ other.name) (stored_at name n planned ++ rest)
different_with name n None rest low all pairs = pairs
different_with name n (Some planned) rest low all pairs =
    AllPairs-cons (λ one other. one.name ≢ other.name) _ rest (λ i d within. λ same.
    let named = all i d within in
    let clash = numbered_different name n named.0 low named.2 (same ∙ named.3) in
    omega (arith, clash, named.1)) pairs

-- what is stored of tried setups from a place on
named_from : (name : List ℕ) (n : ℕ) (attempts : List AttemptData) → n + length attempts ≤ 16 → All (Named name n) (flat_map (stored_of name) (enumerate_from n attempts))
named_from name n [] few = λ i d within. absurd (omega (arith, within))
named_from name n (attempt ∷ attempts) few =
    named_with name n attempt.planned (flat_map (stored_of name) (enumerate_from (n + 1) attempts)) (omega (arith, few)) (named_from name (n + 1) attempts (omega (arith, few)))

different_from : (name : List ℕ) (n : ℕ) (attempts : List AttemptData) → n + length attempts ≤ 16
    → AllPairs (λ one other. one.name ≢ other.name) (flat_map (stored_of name) (enumerate_from n attempts))
different_from name n [] few = pairs_nil (λ one other. one.name ≢ other.name)
different_from name n (attempt ∷ attempts) few =
    different_with name n attempt.planned (flat_map (stored_of name) (enumerate_from (n + 1) attempts)) (omega (arith, few)) (named_from name (n + 1) attempts (omega (arith, few)))
    (different_from name (n + 1) attempts (omega (arith, few)))

-- all names under which certificates are stored are different
pub all_different : (name : List ℕ) (attempts : List AttemptData) → length attempts ≤ 16 → AllPairs (λ one other. one.name ≢ other.name) (all_stored name attempts)
all_different name attempts few = different_from name 0 attempts (omega (arith, few))
