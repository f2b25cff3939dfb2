use Rattle.std.proofs.Common.{FitsSigned, w64, ap}
use Rattle.std.proofs.lemmas.Int.{to_z-of_z}
use Rattle.std.proofs.lemmas.List.{map_push}
use Rattle.job_setup.specs.Setup.{StageData, stage_data}
use Rattle.cert_lines.specs.Lines.{load_line}
use Rattle.cert_lines.specs.JobLines.{job_lines_data}
use Rattle.cert_lines.specs.JobFold.{with_values}
use Rattle.cert_lines.proofs.job_reading.JobLines.end_stage.Goals as goal

pub returns : goal.returns
unfolding with_values
returns c =
    let load : FitsSigned w64 c.args.load = c.ranges.load in
    let limit : FitsSigned w64 c.args.limit = c.ranges.limit in
    let pushed = rw c.replace-stage.ensures.value at (simp to_z-of_z at c.push.ensures.items) in
    let all = with_values (job_lines_data c.args.self.now) (load_line c.args.load c.args.limit) in
    rw (pushed, c.replace-stage.ensures.after, map_push stage_data _ _) (ap (λ (stage : StageData). record all { stage = stage }) c.begun_stage.ensures)
