use Rattle.std.proofs.Common.{◌≡◌, ◌++◌, map}
use Rattle.std.specs.List.{flat_map, range_with_len, slice_index_or}
use Rattle.job_setup.specs.Setup.{stage_data}
use Rattle.job_setup.specs.StageOf.{no_stage}
use Rattle.setup_sheet.specs.Sheets.{stage_lines}
use Rattle.setup_sheet.proofs.setup.put_stages.Given as goal

abbrev pub invariant-loop-i : goal.invariant-loop-i
invariant-loop-i l = l.out.items ≡ l.initial.out.items ++ flat_map (λ s. stage_lines s (slice_index_or (map stage_data l.stages) s no_stage)) (range_with_len 0 l.i)
