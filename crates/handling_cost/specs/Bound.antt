-- The bound: what every rest from a key costs at least, in tenths of a second.
use Rattle.std.specs.Prelude.{ℕ, ◌+◌, ◌*◌, ◌==◌, min, max, List, [], ◌∷◌, map, filter, length}
use Rattle.std.specs.Prelude.{if◌then◌else◌}
use Rattle.std.specs.List.{range_with_len}
use Rattle.brake_base.specs.declared.mask.Mask.{Mask}
use Rattle.brake_base.specs.declared.stroke.Key.{Key}
use Rattle.brake_base.specs.declared.stroke.Action.{Action}
use Rattle.brake_base.specs.Masks.{has}
use Rattle.fold_boxes.specs.Groups.{members}
use Rattle.job_setup.specs.Setup.{JobData, shape_of, stage_count}
use Rattle.job_setup.specs.StrokeGroup.{in_group, is_lead}
use Rattle.job_setup.specs.StageOf.{stage_of}
use Rattle.job_setup.specs.Reasons.{meets}
use Rattle.handling_cost.specs.StepCost.{distance, key_after, cost_of}

-- the leads left: the bends of the strokes that may come next where the bends of the mask are
-- folded
abbrev pub leads_left : JobData → Mask → List ℕ
leads_left job mask = members (shape_of job) (is_lead job mask)

-- the stages that meet the group of a bend
abbrev pub meeting_stages : JobData → Mask → ℕ → List ℕ
meeting_stages job mask b =
    filter (λ stage. meets job (in_group job (has mask) b) (stage_of job stage))
    (range_with_len 0 (stage_count job))

-- how far the nearest of some stages is from a stage; 0 where there is none
abbrev pub nearest : ℕ → List ℕ → ℕ
nearest from [] = 0
nearest from (stage ∷ []) = distance from stage
nearest from (stage ∷ next ∷ others) = min (distance from stage) (nearest from (next ∷ others))

-- the greatest of some numbers; 0 where there is none
abbrev pub greatest : List ℕ → ℕ
greatest [] = 0
greatest (n ∷ ns) = max n (greatest ns)

-- the greatest, over the leads left, of the distance from a stage to the nearest that meets the
-- lead's group
unfoldable pub farthest : JobData → Mask → ℕ → ℕ
farthest job mask from =
    greatest (map (λ b. nearest from (meeting_stages job mask b)) (leads_left job mask))

-- so many strokes, and a way over so many stages; no way is paid where no bend is folded
abbrev pub bound_with : JobData → Mask → ℕ → ℕ → ℕ
bound_with job mask leads way =
    job.setup.cost.stroke * leads + (if mask.0 == 0 then 0 else job.setup.cost.stage * way)

-- a stroke for each lead left, and the way to the stage that is farthest; 0 where every bend is
-- folded, since no lead is left
unfoldable pub bound_of : JobData → Key → ℕ
bound_of job key =
    bound_with job key.mask (length (leads_left job key.mask)) (farthest job key.mask key.stage)

-- the sum of an action: its step cost plus the bound of its next key
abbrev pub sum_of : JobData → Key → Action → ℕ
sum_of job key action = cost_of job key action + bound_of job (key_after job key action)
