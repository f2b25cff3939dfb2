use Rattle.stage_lanes.specs.Lanes.{AreLanes}
use Rattle.stroke_table.specs.Codes.{at_stages}
use Rattle.stroke_table.proofs.codes.at_stages.Given as goal

abbrev pub invariant-loop-stage : goal.invariant-loop-stage
invariant-loop-stage l = AreLanes l.codes.0 (at_stages l.code l.stage)
