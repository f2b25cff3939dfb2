-- The front of a list that is written in turns.
use Rattle.std.proofs.Common.{◌≡◌, ℕ, ◌+◌, ◌-◌, List, ◌++◌, Option, Result, Ok, Err, length, take, drop, ap, sym, subst, ◌∙◌, append_assoc, take-append-drop}
use Rattle.std.proofs.lemmas.List.{take_rest}
use Rattle.std.proofs.Math.Seq.{take-add, take-append_seam, drop-append_seam}
use Rattle.std.specs.Io.KnownBytes.{Appends, WriteAppends}
use Rattle.std.proofs.KnownBytes.{Appends-trans, Appends-kept}
use Rattle.brake_io.specs.Meanings.{AppendsPart}

-- what is done and k bytes of the rest are a front of the whole
pub take-done : (all done rest : List ℕ) (k : ℕ) → all ≡ done ++ rest → take (length done + k) all ≡ done ++ take k rest
take-done all done rest k e =
    ap (take (length done + k)) e
    ∙ take-add (length done) k (done ++ rest)
    ∙ ap (λ l. l ++ take k (drop (length done) (done ++ rest))) (take-append_seam done rest)
    ∙ ap (λ l. done ++ take k l) (drop-append_seam done rest)

-- k bytes move from the rest to what is done
pub move_front : (all done rest : List ℕ) (k : ℕ) → all ≡ done ++ rest → all ≡ (done ++ take k rest) ++ take (length rest - k) (drop k rest)
move_front all done rest k e =
    e
    ∙ ap (λ l. done ++ l) (sym (take-append-drop k rest))
    ∙ sym (append_assoc done (take k rest) (drop k rest))
    ∙ ap (λ l. (done ++ take k rest) ++ l) (sym (take_rest rest k))

-- a writer that took what is done, and then answered a write of the rest, took a front of the whole
pub AppendsPart-write : {E : Type 0} (a b c : Option (List ℕ)) (r : Result ℕ E) (all done rest : List ℕ) → all ≡ done ++ rest → Appends a b done → WriteAppends b c r rest → AppendsPart a c all
AppendsPart-write a b c (Ok k) all done rest e before now =
    (length done + k, subst (Appends a c) (sym (take-done all done rest k e)) (Appends-trans a b c done (take k rest) before now))
AppendsPart-write a b c (Err _) all done rest e before now =
    (length done, subst (Appends a c) (sym (ap (take (length done)) e ∙ take-append_seam done rest)) (Appends-kept a b c done before now))
