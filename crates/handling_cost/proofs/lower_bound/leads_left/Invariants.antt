use Rattle.std.proofs.Common.{◌≡◌, ◌-◌, length, filter}
use Rattle.std.specs.List.{range_with_len}
use Rattle.job_setup.specs.StrokeGroup.{is_lead}
use Rattle.handling_cost.proofs.lower_bound.leads_left.Given as goal

abbrev pub invariant-loop-bend : goal.invariant-loop-bend
invariant-loop-bend l = l.leads ≡ length (filter (is_lead l.job l.mask) (range_with_len 1 (l.bend - 1)))
