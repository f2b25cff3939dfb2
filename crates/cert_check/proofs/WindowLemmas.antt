-- What is read of a text by what is at hand of it.
use Rattle.std.proofs.Common.{◌≡◌, ℕ, ◌+◌, ◌-◌, ◌<◌, ◌≤◌, IsTrue, Bool, true, false, List, [], ◌++◌, length, take, drop, append_assoc, append-nil, length-append, take-append-drop, Result, Ok, refl, sym, ap, subst, ◌∙◌, arith}
use Rattle.std.proofs.KnownBytes.{Consumes-nil, Consumes-trans}
use Rattle.std.proofs.lemmas.List.{drop-append-le, drop_all}
use Rattle.brake_io.specs.Pieces.{WindowState, GoesOn, HasPassed, IsOver, MayFollow, reads_left}
use Rattle.cert_lines.specs.declared.format.TextKind.{TextKind}
use Rattle.plan_lines.specs.declared.line_place.LinePlace.{LinePlace}
use Rattle.cert_lines.specs.LineReading.{IsBehind}
use Rattle.plan_lines.specs.Reading.{MayBeBehind}
use Rattle.cert_check.specs.declared.fault.CheckFault.{CheckFault}
use Rattle.cert_check.specs.declared.read_cert.ReadCert.{ReadCert}
use Rattle.cert_check.specs.ReadCert.{IsReadBefore, PieceAnswer}

-- ---- what is left of a piece
pub rest_left : (piece rest : List ℕ) → IsBehind piece rest → drop (length piece - length rest) piece ≡ rest
rest_left piece rest is =
    let front = is.0 in
    let long : length piece ≡ length front + length rest = ap (λ (t : List ℕ). length t) is.1 ∙ length-append front rest in
    let count : length piece - length rest ≡ length front = omega (arith, long) in
    ap (λ (n : ℕ). drop n piece) count ∙ ap (λ (t : List ℕ). drop (length front) t) is.1 ∙ drop-append-le (length front) front rest (omega arith) ∙ ap (λ (t : List ℕ). t ++ rest) (none_behind front)
  where
    none_behind : (front : List ℕ) → drop (length front) front ≡ []
    none_behind front = drop_all (length front) front (omega arith)

-- ---- what is passed of a window
abbrev pub passing : ℕ → WindowState → WindowState
passing count window = record window { unread = drop count window.unread }

pub passed_none : (w : WindowState) → HasPassed w w []
passed_none w = record { piece = []; bytes = append-nil w.unread; taken = omega arith; limit = refl; left = Consumes-nil w.left }

pub passed_on : (a b c : WindowState) (passed : List ℕ) → HasPassed a b passed → GoesOn b c → HasPassed a c passed
passed_on a b c passed first next = record {
  piece = first.piece ++ next.piece;
  bytes =
      sym (append_assoc a.unread first.piece next.piece) ∙ ap (λ (t : List ℕ). t ++ next.piece) first.bytes ∙ append_assoc passed b.unread next.piece
      ∙ ap (λ (t : List ℕ). passed ++ t) (sym next.unread);
  taken = rw length-append (omega (arith, first.taken, next.taken));
  limit = next.limit ∙ first.limit;
  left = Consumes-trans a.left b.left c.left first.piece next.piece first.left next.left;
}

pub passed_more : (a b next : WindowState) (passed : List ℕ) (count : ℕ) → next ≡ passing count b → HasPassed a b passed → HasPassed a next (passed ++ take count b.unread)
passed_more a b next passed count same is = subst (λ (w : WindowState). HasPassed a w (passed ++ take count b.unread)) (sym same) (record {
  piece = is.piece;
  bytes = is.bytes ∙ ap (λ (t : List ℕ). passed ++ t) (sym (take-append-drop count b.unread)) ∙ sym (append_assoc passed (take count b.unread) (drop count b.unread));
  taken = is.taken;
  limit = is.limit;
  left = is.left;
})

-- the text is the same, wherever it is cut
pub cut_text : (passed unread last : List ℕ) (count : ℕ) → passed ++ unread ++ last ≡ passed ++ take count unread ++ drop count unread ++ last
cut_text passed unread last count =
    ap (λ (t : List ℕ). t ++ last) (ap (λ (t : List ℕ). passed ++ t) (sym (take-append-drop count unread)) ∙ sym (append_assoc passed (take count unread) (drop count unread)))

pub nearer_passed : (w next later : WindowState) (count : ℕ) → next ≡ passing count w → (IsOver w → ⊥) → ((IsOver next → ⊥) → reads_left later < reads_left next) → reads_left later < reads_left w
nearer_passed w next later count same more nearer =
    let at : (IsOver (passing count w) → ⊥) → reads_left later < reads_left (passing count w) = subst (λ (v : WindowState). (IsOver v → ⊥) → reads_left later < reads_left v) same nearer in
    at more

-- where more of the certificate is left, its last bytes weren't at hand
pub not_over : (w : WindowState) (is_last more : Bool) → (IsOver w → IsTrue is_last) → (is_last ≡ true → more ≡ false) → more ≡ true → IsOver w → ⊥
not_over w is_last more at last goes over = let done = last (at over) in cc

-- ---- what is read of the text
-- so far the text is read that goes on with what is at hand, of which these bytes were passed
abbrev pub IsReadAt : TextKind → WindowState → List ℕ → ReadCert → LinePlace → Type 0
IsReadAt kind window passed read place = (last : List ℕ) → MayFollow window last → IsReadBefore kind (passed ++ window.unread ++ last) read place (window.unread ++ last)

-- where more came to hand
pub read_on : (kind : TextKind) (w later : WindowState) (passed : List ℕ) (read : ReadCert) (place : LinePlace) → GoesOn w later → (IsOver w → ⊥) → IsReadAt kind w passed read place → IsReadAt kind later passed read place
read_on kind w later passed read place goes more is = λ last may.
    let next = goes.piece ++ last in
    let same : w.unread ++ next ≡ later.unread ++ last = sym (append_assoc w.unread goes.piece last) ∙ ap (λ (t : List ℕ). t ++ last) (sym goes.unread) in
    let was : IsReadBefore kind (passed ++ (w.unread ++ next)) read place (w.unread ++ next) =
    subst (λ (t : List ℕ). IsReadBefore kind t read place (w.unread ++ next)) (append_assoc passed w.unread next) (is next (λ over. absurd (more over))) in
    subst (λ (t : List ℕ). IsReadBefore kind t read place (later.unread ++ last)) (sym (append_assoc passed later.unread last))
    (subst (λ (t : List ℕ). IsReadBefore kind (passed ++ t) read place t) same was)

-- what is behind the job of a piece
pub begun_piece : (kind : TextKind) (piece own rest left behind : List ℕ) (read : ReadCert) (place other : LinePlace) → own ≡ piece → other ≡ place → left ≡ rest → IsBehind own rest → IsReadBefore kind (own ++ behind) read place (rest ++ behind)
    → IsReadBefore kind (piece ++ behind) read other (drop (length piece - length left) piece ++ behind)
begun_piece kind piece own rest left behind read place other same there over is_behind is =
    let at : IsBehind piece rest = subst (λ (p : List ℕ). IsBehind p rest) same is_behind in
    let dropped : drop (length piece - length left) piece ≡ rest = ap (λ (t : List ℕ). drop (length piece - length t) piece) over ∙ rest_left piece rest at in
    subst (λ (t : List ℕ). IsReadBefore kind (piece ++ behind) read other (t ++ behind)) (sym dropped)
    (subst (λ (p : List ℕ). IsReadBefore kind (p ++ behind) read other (rest ++ behind)) same (subst (λ (q : LinePlace). IsReadBefore kind (own ++ behind) read q (rest ++ behind)) (sym there) is))

-- what a piece comes to that the text goes on with
pub piece_on : (result : Result Bool CheckFault) (kind : TextKind) (text piece own rest left behind : List ℕ) (old new : ReadCert) (place first after other : LinePlace) → own ≡ piece → first ≡ place → left ≡ rest → other ≡ after → IsBehind own rest
    → (IsReadBefore kind text old first (own ++ behind) → PieceAnswer result kind text new after (rest ++ behind)) → IsReadBefore kind text old place (piece ++ behind)
    → PieceAnswer result kind text new other (drop (length piece - length left) piece ++ behind)
piece_on result kind text piece own rest left behind old new place first after other same start over there is_behind answer is =
    let at : IsBehind piece rest = subst (λ (p : List ℕ). IsBehind p rest) same is_behind in
    let dropped : drop (length piece - length left) piece ≡ rest = ap (λ (t : List ℕ). drop (length piece - length t) piece) over ∙ rest_left piece rest at in
    let before : IsReadBefore kind text old first (own ++ behind) = subst (λ (q : LinePlace). IsReadBefore kind text old q (own ++ behind)) (sym start) (subst (λ (p : List ℕ). IsReadBefore kind text old place (p ++ behind)) (sym same) is) in
    subst (λ (q : LinePlace). PieceAnswer result kind text new q (drop (length piece - length left) piece ++ behind)) (sym there)
    (subst (λ (t : List ℕ). PieceAnswer result kind text new after (t ++ behind)) (sym dropped) (answer before))

-- what is behind a piece's job
pub begun_at : (kind : TextKind) (w next : WindowState) (piece : List ℕ) (read : ReadCert) (place : LinePlace) (count : ℕ) → piece ≡ w.unread → next ≡ passing count w → ((behind : List ℕ) → IsReadBefore kind (piece ++ behind) read place (drop count piece ++ behind))
    → IsReadAt kind next (take count w.unread) read place
begun_at kind w next piece read place count at same is = subst (λ (v : WindowState). IsReadAt kind v (take count w.unread) read place) (sym same) (λ last may.
    subst (λ (t : List ℕ). IsReadBefore kind (t ++ last) read place (drop count w.unread ++ last)) (sym (take-append-drop count w.unread))
    (subst (λ (p : List ℕ). IsReadBefore kind (p ++ last) read place (drop count p ++ last)) at (is last)))

-- what the bytes at hand come to, where this was read before them
module _ (kind : TextKind) (w : WindowState) (passed piece : List ℕ) (is_last : Bool) (old new : ReadCert) (place after : LinePlace) (count : ℕ) (at : piece ≡ w.unread) (over : is_last ≡ true → IsOver w) (before : IsReadAt kind w passed old place) where
  pub piece_read : (result : Result Bool CheckFault)
      → ((text behind : List ℕ) → MayBeBehind is_last behind → IsReadBefore kind text old place (piece ++ behind) → PieceAnswer result kind text new after (drop count piece ++ behind))
      → (last : List ℕ) → MayFollow w last → PieceAnswer result kind (passed ++ w.unread ++ last) new after (drop count w.unread ++ last)
  piece_read result answer last may =
      subst (λ (p : List ℕ). PieceAnswer result kind (passed ++ w.unread ++ last) new after (drop count p ++ last)) at
      (answer (passed ++ w.unread ++ last) last (λ is. may (over is)) (subst (λ (p : List ℕ). IsReadBefore kind (passed ++ w.unread ++ last) old place (p ++ last)) (sym at) (before last may)))

  -- behind them, where they were passed
  pub piece_passed : (next : WindowState) (goes : Bool) → next ≡ passing count w
      → ((text behind : List ℕ) → MayBeBehind is_last behind → IsReadBefore kind text old place (piece ++ behind) → PieceAnswer (Ok goes) kind text new after (drop count piece ++ behind))
      → (last : List ℕ) → MayFollow next last → PieceAnswer (Ok goes) kind ((passed ++ take count w.unread) ++ next.unread ++ last) new after (next.unread ++ last)
  piece_passed next goes same answer = subst (λ (v : WindowState). (last : List ℕ) → MayFollow v last → PieceAnswer (Ok goes) kind ((passed ++ take count w.unread) ++ v.unread ++ last) new after (v.unread ++ last)) (sym same) (λ last may.
      subst (λ (t : List ℕ). PieceAnswer (Ok goes) kind t new after (drop count w.unread ++ last)) (cut_text passed w.unread last count) (piece_read (Ok goes) answer last may))
