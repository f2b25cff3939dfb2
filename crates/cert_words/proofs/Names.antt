-- What isn't text is no name.
use Rattle.std.proofs.Common.{◌≡◌, ℕ, zero, suc, ◌<◌, ◌≤◌, ◌&&◌, Bool, true, false, cond, List, [], ◌∷◌, length, get_or, Option, Some, None, refl, sym, ap, subst, arith}
use Rattle.std.specs.Prelude.{IsUtf8, nat_le, if◌then◌else◌}
use Rattle.std.specs.List.{list_all}
use Rattle.std.proofs.lemmas.Bool.{leb-true}
use Rattle.std.proofs.lemmas.Str.{IsUtf8-from_ascii}
use Rattle.toml_fields.specs.Fields.{is_name, checked_name}

abbrev pub is_visible : ℕ → Bool
is_visible b = nat_le 0x21 b && nat_le b 0x7E

pub first_passes : (p q : Bool) → (p && q) ≡ true → p ≡ true
first_passes true q t = refl
first_passes false q t = t

pub second_passes : (p q : Bool) → (p && q) ≡ true → q ≡ true
second_passes true q t = t
second_passes false q t = absurd (cc)

small : (b : ℕ) → nat_le b 0x7E ≡ true → b < 128
small b t = omega (arith, leb-true b 0x7E t)

ascii : (bytes : List ℕ) → list_all is_visible bytes ≡ true → (i : ℕ) → get_or bytes i 0 < 128
ascii [] t zero = omega arith
ascii [] t (suc i) = omega arith
ascii (b ∷ bytes) t zero = small b (second_passes (nat_le 0x21 b) (nat_le b 0x7E) (first_passes (is_visible b) (list_all is_visible bytes) t))
ascii (b ∷ bytes) t (suc i) = ascii bytes (second_passes (is_visible b) (list_all is_visible bytes) t) i

pub no_text_no_name : (word : List ℕ) → (IsUtf8 word → ⊥) → checked_name word ≡ None
no_text_no_name word other = by_test (is_name word) refl
  where
    by_test : (b : Bool) → is_name word ≡ b → (if b then Some word else None) ≡ None
    by_test true is = absurd (other (IsUtf8-from_ascii word (ascii word (second_passes (nat_le 1 (length word) && nat_le (length word) 24) (list_all is_visible word) is))))
    by_test false is = refl
