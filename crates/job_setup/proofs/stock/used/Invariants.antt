use Rattle.std.proofs.Common.{◌≡◌, ◌≤◌, ◌*◌, take, map}
use Rattle.machine_file.specs.Machine.{stage_text_data}
use Rattle.job_setup.specs.Stock.{used}
use Rattle.job_setup.proofs.stock.used.Given as goal

abbrev pub invariant-loop-stage : goal.invariant-loop-stage
invariant-loop-stage l = (l.used ≡ used l.kind (take l.stage-index (map stage_text_data l.stages)) l.name.bytes l.piece) × (l.used ≤ 32 * l.stage-index)
