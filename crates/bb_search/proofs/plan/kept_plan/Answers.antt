use Rattle.std.proofs.Common.{◌≡◌, ◌+◌, ◌≤◌, [], ◌∷◌, length, length-append, arith, refl, sym, ◌∙◌, ap}
use Rattle.brake_base.specs.declared.space.Place.{Place}
use Rattle.brake_base.specs.declared.mask.Mask.{Mask}
use Rattle.brake_base.specs.declared.stroke.Worth.TheVariants.{Cost}
use Rattle.brake_base.specs.Masks.{union}
use Rattle.undo_region.specs.Room.{ListWithRoom}
use Rattle.fold_boxes.specs.Shapes.{ShapeData}
use Rattle.handling_cost.proofs.ActionGroups.{action_groups}
use Rattle.handling_cost.specs.StepCost.{left, key_after, cost_of}
use Rattle.handling_cost.specs.Plan.{start}
use Rattle.handling_cost.proofs.Actions.{few_bends, few_left, fewer_left}
use Rattle.handling_cost.proofs.Keys.{start_in_range, next_in_range}
use Rattle.bb_search.proofs.FoldLemmas.{room_left}
use Rattle.bb_search.proofs.CallLemmas.{mask_after}
use Rattle.bb_search.proofs.PlanLemmas.{known_row, prefix_starts, prefix_more, plan_ends, gauges_end, plan_costs}
use Rattle.bb_search.proofs.plan.kept_plan.Goals as goal

pub loop-key-init : goal.loop-key-init
loop-key-init c =
    let few_bends_left = few_left c.args.job.now c.requires.job start in
    let room = ap (λ (r : ListWithRoom Place). r.room) c.requires.room in
    let items = ap (λ (r : ListWithRoom Place). length r.items) c.requires.room in
    rw (c.start_key-key.ensures, c.new-steps.ensures) (record {
      in_range = start_in_range c.args.job.now c.requires.job;
      known = c.requires.known;
      prefix = (0, omega arith, prefix_starts c.args.job.now);
      table = refl;
      shape = c.requires.shape;
      mask = c.requires.mask;
      few = omega (arith, few_bends_left);
      room = omega (arith, few_bends_left, room);
      all = omega (arith, room, items);
    })

pub next_step-onward-requires-clause-row : goal.next_step-onward-requires-clause-row
next_step-onward-requires-clause-row c =
    known_row c.args.job.now c.args.pool.now c.requires.sound c.loop-key.key (λ full. let yes = c.is_full.ensures.1 full in let no = c.loop-key-test.true in cc) (Cost c.loop-key.worth) c.loop-key.invariant.known

pub push-requires : goal.push-requires
push-requires c =
    let less = fewer_left c.args.job.now (few_bends c.args.job.now c.requires.job) c.loop-key.key c.next_step-onward.result.step.action c.next_step-onward.ensures.onward.legal.action in
    omega (arith, less, c.loop-key.invariant.few)

pub fold-requires-clause-group : goal.fold-requires-clause-group
fold-requires-clause-group c =
    rw (c.loop-key.invariant.shape, c.loop-key.invariant.mask, c.group.ensures.value)
    (action_groups c.args.job.now (few_bends c.args.job.now c.requires.job) c.loop-key.key c.next_step-onward.result.step.action c.next_step-onward.ensures.onward.legal.action)

pub fold-requires-clause-room : goal.fold-requires-clause-room
fold-requires-clause-room c =
    let less = fewer_left c.args.job.now (few_bends c.args.job.now c.requires.job) c.loop-key.key c.next_step-onward.result.step.action c.next_step-onward.ensures.onward.legal.action in
    omega (arith, less, c.loop-key.invariant.room)

pub loop-key-smaller : goal.loop-key-smaller
loop-key-smaller c =
    let less = fewer_left c.args.job.now (few_bends c.args.job.now c.requires.job) c.loop-key.key c.next_step-onward.result.step.action c.next_step-onward.ensures.onward.legal.action in
    rw c.next_step-onward.ensures.next less

pub loop-key-preserved : goal.loop-key-preserved
loop-key-preserved c =
    let job = c.args.job.now in
    let key = c.loop-key.key in
    let state = c.loop-key.state in
    let on = c.next_step-onward.ensures.onward in
    let action = c.next_step-onward.result.step.action in
    let prefix = c.loop-key.invariant.prefix in
    let sum : prefix.0 + c.loop-key.worth ≡ c.args.cost = prefix.1 in
    let less = fewer_left job (few_bends job c.requires.job) key action on.legal.action in
    let faces = ap (λ (s : ShapeData). length s.part.faces) c.loop-key.invariant.shape in
    let few : length state.shape.part.faces ≤ 13 = omega (arith, faces, c.requires.job.part.few_faces) in
    rw (c.next_step-onward.ensures.next, c.push.ensures.items) (record {
      in_range = next_in_range job c.requires.job key action c.loop-key.invariant.in_range on.legal.action;
      known = on.known;
      prefix = (
        prefix.0 + cost_of job key action,
        omega (arith, on.sum, sum),
        prefix_more job c.loop-key.steps.items key prefix.0 c.next_step-onward.result.step on.legal c.next_step-onward.ensures.gauge prefix.2,
      );
      table = c.next_step-onward.ensures.table ∙ c.loop-key.invariant.table;
      shape = c.fold.ensures.shape ∙ c.loop-key.invariant.shape;
      mask = c.fold.ensures.mask ∙ (ap (λ (m : Mask). union m c.group.result) c.loop-key.invariant.mask ∙ (ap (λ (g : Mask). union key.mask g) c.group.ensures.value ∙ sym (mask_after job key action)));
      few = let count = length-append c.loop-key.steps.items (c.next_step-onward.result.step ∷ []) in omega (arith, count, less, c.loop-key.invariant.few);
      room = room_left state.shape state.mask c.group.result c.loop-key.trail c.fold.new.trail (left job (key_after job key action)) few c.fold.ensures.kept c.fold.ensures.left (omega (arith, less, c.loop-key.invariant.room));
      all = c.fold.ensures.left ∙ c.loop-key.invariant.all;
    })

pub returns-clause-plan : goal.returns-clause-plan
returns-clause-plan c =
    plan_ends c.args.job.now c.args.pool.now c.requires.sound c.loop-key.steps.items c.loop-key.key c.loop-key.worth c.args.cost c.loop-key.invariant.known c.loop-key.invariant.prefix (c.is_full.ensures.0 c.loop-key-test.false)

pub returns-clause-cost : goal.returns-clause-cost
returns-clause-cost c =
    plan_costs c.args.job.now c.args.pool.now c.requires.sound c.loop-key.steps.items c.loop-key.key c.loop-key.worth c.args.cost c.loop-key.invariant.known c.loop-key.invariant.prefix (c.is_full.ensures.0 c.loop-key-test.false)

pub returns-clause-gauges : goal.returns-clause-gauges
returns-clause-gauges c =
    gauges_end c.args.job.now c.args.pool.now c.requires.sound c.loop-key.steps.items c.loop-key.key c.loop-key.worth c.args.cost c.loop-key.invariant.known c.loop-key.invariant.prefix (c.is_full.ensures.0 c.loop-key-test.false)
