use Rattle.std.proofs.Common.{◌≡◌, ◌≤◌, ◌+◌, ◌*◌, ◌^◌, ◌++◌, drop, unsigned_abs}
use Rattle.job_setup.specs.Setup.{stage_data}
use Rattle.sheet_figures.specs.Fronts.{joint_lines}
use Rattle.sheet_figures.proofs.front.put_joints.Given as goal

abbrev pub invariant-loop-piece : goal.invariant-loop-piece
invariant-loop-piece l = record {
  so_far : l.out.items ++ joint_lines l.window (stage_data l.stage) l.end (drop l.piece-index l.stage.pieces.items) ≡ l.initial.out.items ++ joint_lines l.window (stage_data l.stage) l.stage.x0 l.stage.pieces.items;
  near : unsigned_abs l.end ≤ 2 ^ 40 + l.piece-index * 2 ^ 24;
}
