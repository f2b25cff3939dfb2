use Rattle.std.proofs.Common.{◌≡◌, ◌+◌, ◌-◌, ℕ, subst, arith}
use Rattle.set_facts.specs.LaneFacts.{AreFilled}
use Rattle.set_facts.proofs.LaneTables.{filled_none, filled_more}
use Rattle.set_facts.proofs.lane_facts.fill.Goals as goal

pub loop-left-init : goal.loop-left-init
loop-left-init c =
    let count = c.set_count-left.ensures.value in
    record {
      within = omega (arith, count);
      few = c.set_count-left.ensures.few;
      filled = filled_none c.args.job.now c.set_count-left.result c.args.sets.now.items count c.requires;
    }

pub of-found-requires-clause-greater : goal.of-found-requires-clause-greater
of-found-requires-clause-greater c =
    let job = c.args.job.now in
    let left = c.loop-left.left in
    let one : left ≡ (left - 1) + 1 = omega (arith, c.loop-left-test.true) in
    rw c.deref.ensures.value (subst (λ (n : ℕ). AreFilled job n c.loop-left.sets.items) one c.loop-left.invariant.filled)

pub loop-left-preserved : goal.loop-left-preserved
loop-left-preserved c =
    let job = c.args.job.now in
    let left = c.loop-left.left in
    let sets = c.loop-left.sets.items in
    let inv = c.loop-left.invariant in
    let one : left ≡ (left - 1) + 1 = omega (arith, c.loop-left-test.true) in
    record {
      within = omega (arith, inv.within);
      few = omega (arith, inv.few);
      filled = filled_more job (left - 1) sets c.of-found.result (omega (arith, inv.within, c.loop-left-test.true)) c.of-found.ensures
          (subst (λ (n : ℕ). AreFilled job n sets) one inv.filled);
    }

pub returns : goal.returns
returns c =
    let none : c.loop-left.left ≡ 0 = omega (arith, c.loop-left-test.false) in
    subst (λ (n : ℕ). AreFilled c.args.job.now n c.loop-left.sets.items) none c.loop-left.invariant.filled
