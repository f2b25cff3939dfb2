-- The lines of notes at the front of a text.
use Rattle.std.proofs.Common.{◌≡◌, ℕ, ◌+◌, ◌==◌, Bool, true, false, List, [], ◌∷◌, ◌++◌, length, take, drop, refl, sym, ap, ◌∙◌, eq-eqb}
use Rattle.std.proofs.Math.Seq.{take-append_seam}
use Rattle.std.specs.Prelude.{if◌then◌else◌}
use Rattle.std.proofs.lemmas.List.{append-nil}
use Rattle.cert_merge.specs.RowTexts.{AreNoteLines, begins_with_note, note_bytes}

-- whole lines of notes are found, and what stands behind them is looked at as the start of a line
pub lines_front : (start : Bool) (lines text : List ℕ) → AreNoteLines start lines → note_bytes start (lines ++ text) ≡ lines ++ note_bytes true text
lines_front true [] text are = refl
lines_front false [] text are = absurd are
lines_front true (byte ∷ lines) text are =
    ap (λ (t : Bool). if t then byte ∷ note_bytes false (lines ++ text) else []) (eq-eqb byte 120 are.0) ∙ ap (λ (t : List ℕ). byte ∷ t) (lines_front false lines text are.1)
lines_front false (byte ∷ lines) text are = ap (λ (t : List ℕ). byte ∷ t) (lines_front (byte == 10) lines text are)

-- at a line of another kind they end
pub none_front : (text : List ℕ) → begins_with_note text ≡ false → note_bytes true text ≡ []
none_front [] other = refl
none_front (byte ∷ text) other = ap (λ (t : Bool). if t then byte ∷ note_bytes false text else []) other

-- ---- looking through them
module _ (text : List ℕ) where
  -- so many bytes are found
  abbrev pub FoundTo : ℕ → Bool → Type 0
  FoundTo i at_start = note_bytes true text ≡ take i text ++ note_bytes at_start (drop i text)

-- lines of notes, behind which another line stands
pub lines_before : (text lines rest : List ℕ) → text ≡ lines ++ rest → AreNoteLines true lines → begins_with_note rest ≡ false → (lines ≡ note_bytes true text) × (take (length lines) text ≡ lines)
lines_before text lines rest whole are other = (
  sym (ap (note_bytes true) whole ∙ lines_front true lines rest are ∙ ap (λ (t : List ℕ). lines ++ t) (none_front rest other) ∙ append-nil lines),
  ap (λ (t : List ℕ). take (length lines) t) whole ∙ take-append_seam lines rest,
)
