use Rattle.std.proofs.Common.{◌≡◌, ℕ, List, ◌++◌, length}
use Rattle.cert_lines.specs.JobLines.{job_lines_data}
use Rattle.cert_lines.specs.LineReading.{lines_in}
use Rattle.plan_lines.specs.Items.{job_items}
use Rattle.cert_lines.specs.LineReading.{IsBehind}
use Rattle.plan_lines.proofs.job_answers.behind_job_lines.Given as goal

-- what was taken is gone from the rest
abbrev pub invariant-loop-line : goal.invariant-loop-line
invariant-loop-line l = record {
  same : (behind : List ℕ) → job_items l.number (job_lines_data l.initial.lines) (lines_in (l.text ++ behind)) ≡ job_items l.at (job_lines_data l.lines) (lines_in (l.rest ++ behind));
  rest : IsBehind l.text l.rest;
}

abbrev pub decreases-loop-line : goal.decreases-loop-line
decreases-loop-line l = length l.rest
