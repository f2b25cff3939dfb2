use Rattle.std.proofs.Common.{◌≡◌, ◌-◌, map, filter}
use Rattle.std.specs.List.{range_with_len}
use Rattle.job_setup.specs.StrokeGroup.{is_lead}
use Rattle.handling_cost.specs.Bound.{greatest, nearest, meeting_stages}
use Rattle.handling_cost.proofs.lower_bound.farthest.Given as goal

abbrev pub invariant-loop-bend : goal.invariant-loop-bend
invariant-loop-bend l = l.farthest ≡ greatest (map (λ b. nearest l.stage (meeting_stages l.job l.mask b)) (filter (is_lead l.job l.mask) (range_with_len 1 (l.bend - 1))))
