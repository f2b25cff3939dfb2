use Rattle.std.proofs.Common.{◌≡◌, ◌<◌, length, arith}
use Rattle.brake_base.specs.Masks.{bends_of}
use Rattle.sheet_page.proofs.KeptStates.{only_kept, push_kept, less_kept}
use Rattle.sheet_page.proofs.kept.DeadEnds.add.Goals as goal

pub returns-then-folded-self-clause-dead_ends : goal.returns-then-folded-self-clause-dead_ends
returns-then-folded-self-clause-dead_ends c = λ j all states is are.
    let more : c.args.self.now.most < length (bends_of c.args.state.mask) = omega (arith, c.if-folded-self.true, c.count-folded.ensures) in
    only_kept j all states c.args.state is c.args.self.now c.only.result are more c.only.ensures.most c.only.ensures.count c.only.ensures.shown

pub returns-then-folded-self-2-clause-dead_ends : goal.returns-then-folded-self-2-clause-dead_ends
returns-then-folded-self-2-clause-dead_ends c = λ j all states is are.
    let same : length (bends_of c.args.state.mask) ≡ c.args.self.now.most = omega (arith, c.if-folded-self-2.true, c.count-folded.ensures) in
    push_kept j all states c.args.state is c.args.self.now c.push.new.self are same c.push.ensures.most c.push.ensures.count c.push.ensures.shown

pub returns-else-folded-self-2-clause-dead_ends : goal.returns-else-folded-self-2-clause-dead_ends
returns-else-folded-self-2-clause-dead_ends c = λ j all states is are.
    let below : length (bends_of c.args.state.mask) < c.args.self.now.most = omega (arith, c.if-folded-self.false, c.if-folded-self-2.false, c.count-folded.ensures) in
    less_kept j all states c.args.state is c.args.self.now are below
