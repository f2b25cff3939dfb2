use Rattle.std.proofs.Common.{◌≡◌, ◌<◌, ◌∙◌, ap, sym, arith, subst}
use Rattle.brake_base.specs.declared.stroke.Key.{Key}
use Rattle.undo_region.specs.Room.{ListWithRoom}
use Rattle.job_setup.specs.Setup.{bend_count}
use Rattle.handling_cost.specs.StepCost.{left, IsKeyOf}
use Rattle.handling_cost.specs.Plan.{start}
use Rattle.handling_cost.specs.Reach.{IsNode}
use Rattle.handling_cost.proofs.Actions.{few_left}
use Rattle.handling_cost.proofs.Keys.{start_in_range}
use Rattle.bb_search.proofs.CallLemmas.{known_full}
use Rattle.bb_search.proofs.OutcomeLemmas.{start_full, start_node, empty_sound, empty_open, empty_new}
use Rattle.bb_search.proofs.search.start_worth.Goals as goal

pub returns-then-bends-eq0-clause-found : goal.returns-then-bends-eq0-clause-found
returns-then-bends-eq0-clause-found c =
    let none : bend_count c.args.job.now ≡ 0 = omega (arith, c.bends.ensures.value, c.if-bends-eq0.true) in
    known_full c.args.job.now c.args.pool.now (empty_sound c.args.job.now c.args.pool.now c.requires.empty) start (start_full c.args.job.now c.bends.ensures.valid none)

pub settle-requires-clause-sound : goal.settle-requires-clause-sound
settle-requires-clause-sound c = empty_sound c.args.job.now c.args.pool.now c.requires.empty

pub settle-requires-clause-range : goal.settle-requires-clause-range
settle-requires-clause-range c = subst (λ (k : Key). IsKeyOf c.args.job.now k) (sym c.start_key.ensures) (start_in_range c.args.job.now c.bends.ensures.valid)

pub settle-requires-clause-node : goal.settle-requires-clause-node
settle-requires-clause-node c =
    let some : 0 < bend_count c.args.job.now = omega (arith, c.bends.ensures.value, c.if-bends-eq0.false) in
    subst (λ (k : Key). IsNode c.args.job.now k) (sym c.start_key.ensures) (start_node c.args.job.now c.bends.ensures.valid some)

pub settle-requires-clause-open : goal.settle-requires-clause-open
settle-requires-clause-open c = empty_open c.args.job.now c.args.pool.now c.requires.empty (left c.args.job.now c.start_key.result)

pub settle-requires-clause-new_key : goal.settle-requires-clause-new_key
settle-requires-clause-new_key c = empty_new c.args.job.now c.args.pool.now c.requires.empty c.start_key.result

pub settle-requires-clause-mask : goal.settle-requires-clause-mask
settle-requires-clause-mask c = c.requires.mask ∙ ap (λ (k : Key). k.mask) (sym c.start_key.ensures)

pub settle-requires-clause-room : goal.settle-requires-clause-room
settle-requires-clause-room c =
    let few = few_left c.args.job.now c.bends.ensures.valid c.start_key.result in
    let room = ap (λ (r : ListWithRoom _). r.room) c.requires.room in
    omega (arith, few, room)
