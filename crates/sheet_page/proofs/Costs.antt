-- The parts of a stroke's cost.
use Rattle.std.proofs.Common.{◌≡◌, ◌+◌, ◌∙◌, ap, sym}
use Rattle.brake_base.specs.declared.stroke.Key.{Key}
use Rattle.job_setup.specs.Setup.{JobData}
use Rattle.handling_cost.specs.StepCost.{change, change_cost, cost_to, key_after}
use Rattle.sheet_page.specs.Facts.{turn_cost, way_cost}
use Rattle.sheet_page.specs.Strokes.{StrokeData, IsStroke}

-- they are three: the stroke, the turn, and the way to the station
pub cost_parts : (job : JobData) (stroke : StrokeData) → IsStroke job stroke → stroke.cost ≡ job.setup.cost.stroke + turn_cost job stroke + way_cost job stroke
unfolding cost_to key_after
cost_parts job stroke is =
    is.cost
    ∙ ap (λ (k : Key). job.setup.cost.stroke + change_cost job.setup.cost (change stroke.before.attitude k.attitude) + way_cost job stroke)
    (sym is.after)
