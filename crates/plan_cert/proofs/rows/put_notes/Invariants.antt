use Rattle.std.proofs.Common.{◌≡◌, ◌++◌, take}
use Rattle.std.specs.List.{flat_map}
use Rattle.cert_lines.specs.Lines.{line_text}
use Rattle.plan_cert.specs.CertText.{line_of_note}
use Rattle.plan_cert.proofs.rows.put_notes.Given as goal

abbrev pub invariant-loop-note : goal.invariant-loop-note
invariant-loop-note l = l.out.items ≡ l.initial.out.items ++ flat_map (λ note. line_text (line_of_note l.stages note)) (take l.note-index l.notes)
