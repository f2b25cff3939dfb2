use Rattle.std.proofs.Common.{rules, add-one, ◌++◌, List, ℕ, pos, get_or, take-suc, FitsSigned, w64, ap, ◌∙◌}
use Rattle.std.specs.Fmt.{signed_decimal}
use Rattle.std.proofs.lemmas.Int.{to_z-of_z}
use Rattle.std.proofs.lemmas.List.{append-nil, map_push}
use Rattle.cert_lines.specs.Lines.{spaced_number}
use Rattle.cert_lines.proofs.Texts.{pieces}
use Rattle.cert_lines.proofs.words.put_numbers.Goals as goal

pub loop-value-preserved : goal.loop-value-preserved
loop-value-preserved c =
    let xs = c.args.values.now in
    let i = c.loop-value.value-index in
    let fits : FitsSigned w64 (get_or xs i (pos 0)) = search rules in
    rw (add-one i, take-suc xs i (pos 0) c.loop-value-test.true, map_push signed_decimal _ _)
    ((simp to_z-of_z at c.in_ok-put_signed.ensures) ∙ ap (λ (t : List ℕ). t ++ spaced_number (get_or xs i (pos 0))) c.loop-value.invariant ∙ simp (append-nil, pieces))
