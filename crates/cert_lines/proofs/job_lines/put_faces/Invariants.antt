use Rattle.std.proofs.Common.{◌≡◌, ◌++◌, take}
use Rattle.std.specs.List.{flat_map}
use Rattle.part_file.specs.Part.{face_data}
use Rattle.cert_lines.specs.Lines.{line_text, face_line}
use Rattle.cert_lines.proofs.job_lines.put_faces.Given as goal

abbrev pub invariant-loop-face : goal.invariant-loop-face
invariant-loop-face l = l.out.items ≡ l.initial.out.items ++ flat_map (λ face. line_text (face_line (face_data face))) (take l.face-index l.faces)
