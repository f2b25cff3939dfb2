-- The words of attitudes and stages, by their places.
use Rattle.std.proofs.Common.{◌≡◌, ℕ, ◌+◌, ◌*◌, ◌/◌, ◌%◌, ◌<◌, List, [], ◌∷◌, ◌++◌, length, get_or, ap, sym, ◌∙◌, arith, inl, inr}
use Rattle.std.proofs.Math.Seq.{get_or-append_seam}
use Rattle.std.proofs.lemmas.List.{length-append, get_or_append_left}
use Rattle.std.proofs.lemmas.Bool.{cases_lt}
use Rattle.row_text.specs.RowWords.{key_words}
use Rattle.row_text.specs.Writer.{AreKeyWords}

-- each of the first so many places has the words of its attitude and its stage
abbrev pub AreKeysBelow : List (List ℕ) → ℕ → Type 0
AreKeysBelow keys count = (place : ℕ) → place < count → get_or keys place [] ≡ key_words (place / 6) (place % 6)

pub count_more : (keys : List (List ℕ)) (count : ℕ) (text : List ℕ) → length keys ≡ count → length (keys ++ text ∷ []) ≡ count + 1
count_more keys count text long = let all = length-append keys (text ∷ []) in omega (arith, all, long)

pub keys_more : (keys : List (List ℕ)) (count : ℕ) (text : List ℕ) → length keys ≡ count → AreKeysBelow keys count → text ≡ key_words (count / 6) (count % 6) → AreKeysBelow (keys ++ text ∷ []) (count + 1)
keys_more keys count text long all is place within = elim (cases_lt place count) [
  | inl below ↦ get_or_append_left keys (text ∷ []) [] place (omega (arith, long, below)) ∙ all place below
  | inr above ↦
      let last : place ≡ count = omega (arith, within, above) in
      let end : place ≡ length keys = omega (arith, last, long) in
      ap (λ (k : ℕ). get_or (keys ++ text ∷ []) k []) end ∙ get_or-append_seam keys text [] [] ∙ is ∙ ap (λ (k : ℕ). key_words (k / 6) (k % 6)) (sym last)
]

pub keys_done : (keys : List (List ℕ)) (count : ℕ) → length keys ≡ count → count ≡ 144 → AreKeysBelow keys count → AreKeyWords keys
keys_done keys count long all is = record {
  count = omega (arith, long, all);
  words = λ attitude stage few small.
      let attitude_is : (attitude * 6 + stage) / 6 ≡ attitude = omega (arith, small) in
      let stage_is : (attitude * 6 + stage) % 6 ≡ stage = omega (arith, small) in
      is (attitude * 6 + stage) (omega (arith, few, small, all)) ∙ (λ i. key_words (attitude_is i) (stage_is i));
}
