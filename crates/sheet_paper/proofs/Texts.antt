-- What the lines of a figure cite.
use Rattle.std.proofs.Common.{◌≡◌, ℕ, ℤ, List, refl, append_assoc}
use Rattle.std.specs.Fmt.{signed_decimal}
use Rattle.std.specs.Borrow.{Bor}
use Rattle.std.proofs.lemmas.Int.{to_z-of_z}
use Rattle.svg_text.specs.declared.form.Hole.TheVariants.{Number, Decimal, Text, Word}
use Rattle.svg_text.specs.Decimals.{decimal_text}
use Rattle.svg_text.specs.Escapes.{escaped}
use Rattle.svg_text.specs.Forms.{hole_text}

pub number_hole : (value : ℤ) → hole_text (Number value) ≡ signed_decimal value
unfolding hole_text
number_hole value = refl

pub decimal_hole : (value : ℤ) (places : ℕ) → hole_text (Decimal value places) ≡ decimal_text places value
unfolding hole_text
decimal_hole value places = refl

pub text_hole : (text : Bor (List ℕ)) → hole_text (Text text) ≡ escaped text.now
unfolding hole_text
text_hole text = refl

pub word_hole : (word : Bor (List ℕ)) → hole_text (Word word) ≡ word.now
unfolding hole_text
word_hole word = refl

pub ruleset pieces = (append_assoc, to_z-of_z, number_hole, decimal_hole, text_hole, word_hole)
