-- Reading a list of numbers, one after the other.
use Rattle.std.proofs.Common.{◌≡◌, ◌↔◌, ℕ, zero, suc, ◌+◌, ◌-◌, ◌<◌, ◌≤◌, ◌==◌, Bool, true, false, not, IsTrue, ℤ, List, [], ◌∷◌, ◌++◌, length, Option, Some, None, refl, sym, ◌∙◌, ap, subst, arith, append_assoc}
use Rattle.std.proofs.lemmas.Grind.{common_steps}
use Rattle.std.proofs.lemmas.Bool.{both_ways}
use Rattle.std.proofs.lemmas.List.{length-append}
use Rattle.cert_words.specs.LineWords.{◌>>=◌, signed_at}
use Rattle.cert_words.specs.JobWords.{numbers_in}

-- numbers, and those that are still to be read
abbrev pub in_front : List ℤ → Option (List ℤ) → Option (List ℤ)
in_front front read = read >>= λ numbers. Some (front ++ numbers)

pub none_yet : (read : Option (List ℤ)) → in_front [] read ≡ read
none_yet None = refl
none_yet (Some numbers) = refl

joined : (front : List ℤ) (n : ℤ) (read : Option (List ℤ)) → in_front (front ++ n ∷ []) read ≡ in_front front (read >>= λ numbers. Some (n ∷ numbers))
joined front n None = refl
joined front n (Some numbers) = ap Some (append_assoc front (n ∷ []) numbers)

-- one more number
pub one_more : (front : List ℤ) (most : ℕ) (rest behind : List ℕ) (n : ℤ) → (rest ≡ [] → ⊥) → signed_at rest ≡ Some (n, behind)
    → in_front (front ++ n ∷ []) (numbers_in most behind) ≡ in_front front (numbers_in (suc most) rest)
one_more front most [] behind n some read = absurd (some refl)
one_more front most (byte ∷ text) behind n some read =
    joined front n (numbers_in most behind) ∙ ap (λ x. in_front front (x >>= λ m. numbers_in most m.1 >>= λ numbers. Some (m.0 ∷ numbers))) (sym read)

-- no number
pub no_more : (front : List ℤ) (most : ℕ) (rest : List ℕ) → (rest ≡ [] → ⊥) → signed_at rest ≡ None → in_front front (numbers_in most rest) ≡ None
no_more front most [] some read = absurd (some refl)
no_more front zero (byte ∷ text) some read = refl
no_more front (suc most) (byte ∷ text) some read = ap (λ x. in_front front (x >>= λ m. numbers_in most m.1 >>= λ numbers. Some (m.0 ∷ numbers))) read

-- too many numbers
pub too_many : (front : List ℤ) (rest : List ℕ) → (rest ≡ [] → ⊥) → in_front front (numbers_in 0 rest) ≡ None
too_many front [] some = absurd (some refl)
too_many front (byte ∷ text) some = refl

-- some text is left
pub not_end : (ended : Bool) (rest : List ℕ) → IsTrue ended ↔ (rest ≡ []) → ended ≡ false → rest ≡ [] → ⊥
not_end ended rest iff going e = both_ways ended going (iff.1 e)

pub has_room : (full : Bool) (n : ℕ) → full ≡ (n == 32) → full ≡ false → n ≤ 32 → n < 32
has_room full n is not_full few = grind (arith, common_steps)

pub preserved : (front : List ℤ) (n : ℤ) (rest behind text : List ℕ) → length front < 32 → (rest ≡ [] → ⊥) → signed_at rest ≡ Some (n, behind)
    → in_front front (numbers_in (32 - length front) rest) ≡ numbers_in 32 text → in_front (front ++ n ∷ []) (numbers_in (32 - length (front ++ n ∷ [])) behind) ≡ numbers_in 32 text
preserved front n rest behind text room some read told =
    let grown : length (front ++ n ∷ []) ≡ length front + 1 = length-append front (n ∷ []) in
    let one : suc (32 - length (front ++ n ∷ [])) ≡ 32 - length front = omega (arith, grown, room) in
    one_more front (32 - length (front ++ n ∷ [])) rest behind n some read ∙ ap (λ m. in_front front (numbers_in m rest)) one ∙ told
