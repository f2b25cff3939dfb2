use Rattle.std.proofs.Common.{◌≡◌, ◌++◌, take}
use Rattle.std.specs.List.{flat_map}
use Rattle.job_setup.specs.Setup.{stage_data}
use Rattle.cert_lines.specs.Lines.{lines_text}
use Rattle.cert_lines.specs.JobText.{stage_lines}
use Rattle.cert_lines.proofs.job_lines.put_stages.Given as goal

abbrev pub invariant-loop-stage : goal.invariant-loop-stage
invariant-loop-stage l = l.out.items ≡ l.initial.out.items ++ flat_map (λ stage. lines_text (stage_lines (stage_data stage))) (take l.stage-index l.stages)
