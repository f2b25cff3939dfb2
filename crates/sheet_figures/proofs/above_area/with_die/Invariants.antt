use Rattle.std.proofs.Common.{◌≡◌, take}
use Rattle.job_setup.specs.Setup.{stage_data}
use Rattle.sheet_paper.specs.Windows.{IsDrawable}
use Rattle.sheet_figures.specs.ShownAreas.{with_die}
use Rattle.sheet_figures.proofs.above_area.with_die.Given as goal

abbrev pub invariant-loop-rect : goal.invariant-loop-rect
invariant-loop-rect l = record {
  value : l.grown ≡ with_die l.area (stage_data l.stage) (take l.rect-index l.boxes);
  near : IsDrawable l.grown;
}
