use Rattle.std.proofs.Common.{◌≡◌, ◌++◌, take}
use Rattle.std.specs.List.{flat_map}
use Rattle.cert_lines.specs.Lines.{text_line, fixed_words}
use Rattle.cert_lines.proofs.job_lines.put_all_fixed.Given as goal

abbrev pub invariant-loop-fixed : goal.invariant-loop-fixed
invariant-loop-fixed l = l.out.items ≡ l.initial.out.items ++ flat_map (λ fixed. text_line l.keyword (fixed_words fixed)) (take l.fixed-index l.boxes)
