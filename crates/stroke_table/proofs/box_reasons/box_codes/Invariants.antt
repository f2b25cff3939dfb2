use Rattle.stroke_table.specs.BoxReasons.{box_at}
use Rattle.stroke_table.specs.Codes.{IsGiven, AreLeastCodes}
use Rattle.stroke_table.proofs.box_reasons.box_codes.Given as goal

abbrev pub invariant-loop-stage : goal.invariant-loop-stage
invariant-loop-stage l = AreLeastCodes l.stage (λ stage. IsGiven l.job (box_at l.job l.of.group stage l.body) l.of.back stage) l.codes.0
