-- An escaped text is read as the text.
use Rattle.std.proofs.Common.{◌≡◌, ℕ, Bool, true, false, List, [], ◌∷◌, ◌++◌, arith, refl, sym, subst}
use Rattle.std.proofs.lemmas.Grind.{common_steps}
use Rattle.svg_text.specs.Escapes.{is_markup, escaped_byte, escaped, IsReadAs}
use Rattle.svg_text.specs.Escapes.IsReadAs.{empty, plain, marked}

-- what couldn't be markup stands as it is
plain_byte : (byte : ℕ) → is_markup byte ≡ false → escaped_byte byte ≡ byte ∷ []
unfolding escaped_byte
plain_byte byte not_markup = grind (arith, common_steps)

reads_byte : (byte : ℕ) (b : Bool) (text bytes : List ℕ) → is_markup byte ≡ b → IsReadAs text bytes → IsReadAs (escaped_byte byte ++ text) (byte ∷ bytes)
reads_byte byte true text bytes is h = marked byte text bytes is h
reads_byte byte false text bytes is h = subst (λ t. IsReadAs (t ++ text) (byte ∷ bytes)) (sym (plain_byte byte is)) (plain byte text bytes is h)

pub reads_back : (bytes : List ℕ) → IsReadAs (escaped bytes) bytes
reads_back [] = empty
reads_back (byte ∷ bytes) = reads_byte byte (is_markup byte) (escaped bytes) bytes refl (reads_back bytes)
