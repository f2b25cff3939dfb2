-- A table's text that is given in pieces, up to its last line.
use Rattle.std.proofs.Common.{◌≡◌, ℕ, suc, ◌==◌, not, Bool, true, false, List, [], ◌∷◌, ◌++◌, length, refl, sym, ◌∙◌, ap, append_assoc, append-nil, true≢false, arith}
use Rattle.std.specs.Prelude.{codes}
use Rattle.cert_merge.specs.TextLeft.{end_text, text_left, GoesOn}

-- a text that has no byte
pub empty_is : (xs : List ℕ) (t : Bool) → t ≡ (length xs == 0) → t ≡ true → xs ≡ []
empty_is [] t is told = refl
empty_is (x ∷ xs) t is told = absurd (true≢false (sym told ∙ is ∙ some (length xs)))
  where
    some : (n : ℕ) → (suc n == 0) ≡ false
    some n = grind arith

pub not_true : (t : Bool) → not t ≡ true → t ≡ false
not_true true is = sym is
not_true false is = refl

pub not_false : (t : Bool) → not t ≡ false → t ≡ true
not_false true is = refl
not_false false is = sym is

-- more of the rows is given
pub gone_further : (old middle new from next later here : List ℕ) → GoesOn old middle from next → new ≡ middle ++ here → next ≡ here ++ later → GoesOn old new from later
gone_further old middle new from next later here before told split = record {
  piece = before.piece ++ here;
  text = told ∙ ap (λ (t : List ℕ). t ++ here) before.text ∙ append_assoc old before.piece here;
  rest = before.rest ∙ ap (λ (t : List ℕ). before.piece ++ t) split ∙ sym (append_assoc before.piece here later);
}

-- behind the last line nothing is left
pub nothing_left : (beginning rows : List ℕ) (is_ended : Bool) → beginning ≡ [] → rows ≡ [] → is_ended ≡ true → text_left beginning rows is_ended ≡ []
unfolding end_text
nothing_left beginning rows is_ended none past ended = (λ i. (none i ++ past i) ++ end_text (ended i))

-- the last rows and the last line are given
pub end_given : (from next : List ℕ) (is_ended : Bool) (beginning text out new ended : List ℕ) → beginning ≡ [] → GoesOn out new from next → next ≡ [] → is_ended ≡ false → text_left beginning from is_ended ≡ text → ended ≡ new ++ codes "end\n"
    → (piece : List ℕ) × (ended ≡ out ++ piece) × (text ≡ piece ++ text_left beginning next true)
unfolding end_text
end_given from next is_ended beginning text out new ended none gone past opens seen is =
    let line : List ℕ = codes "end\n" in (
      gone.piece ++ line,
      is ∙ ap (λ (t : List ℕ). t ++ line) gone.text ∙ append_assoc out gone.piece line,
      sym seen ∙ (λ i. (none i ++ from) ++ end_text (opens i))
          ∙ ap (λ (t : List ℕ). t ++ line) (gone.rest ∙ ap (λ (t : List ℕ). gone.piece ++ t) past ∙ append-nil gone.piece)
          ∙ sym (append-nil (gone.piece ++ line)) ∙ ap (λ (t : List ℕ). (gone.piece ++ line) ++ t) (sym (nothing_left beginning next true none past refl)),
    )

-- a part behind the rows is given, of which none are left
pub behind_given : (beginning before from next behind later text out middle new : List ℕ) (is_ended : Bool) → beginning ≡ [] → before ≡ [] → from ≡ [] → next ≡ [] → middle ≡ out
    → (given : (piece : List ℕ) × (new ≡ middle ++ piece) × (behind ≡ piece ++ later)) → text_left beginning (before ++ (from ++ behind)) is_ended ≡ text
    → (piece : List ℕ) × (new ≡ out ++ piece) × (text ≡ piece ++ text_left beginning (before ++ (next ++ later)) is_ended)
behind_given beginning before from next behind later text out middle new is_ended none none_before none_from none_next same given seen = (
  given.0,
  given.1 ∙ ap (λ (t : List ℕ). t ++ given.0) same,
  sym seen
      ∙ ((λ i. (none i ++ (none_before i ++ (none_from i ++ given.2 i))) ++ end_text is_ended)
      ∙ (append_assoc given.0 later (end_text is_ended)
      ∙ ap (λ (t : List ℕ). given.0 ++ t) (sym (λ i. (none i ++ (none_before i ++ (none_next i ++ later))) ++ end_text is_ended)))),
)

-- nothing is given of rows of which none are left
pub none_given : (old new from next : List ℕ) → new ≡ old → from ≡ next → GoesOn old new from next
none_given old new from next same alike = record { piece = []; text = same ∙ sym (append-nil old); rest = alike }
