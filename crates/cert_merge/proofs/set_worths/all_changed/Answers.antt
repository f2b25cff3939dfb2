use Rattle.std.proofs.Common.{ℕ, subst, arith}
use Rattle.cert_merge.specs.SetWorths.{AreChangedFrom}
use Rattle.cert_merge.proofs.LaneWorths.{never_rows, row_put, changed_put}
use Rattle.cert_merge.proofs.set_worths.all_changed.Goals as goal

pub loop-from-init : goal.loop-from-init
loop-from-init c = record { rows = never_rows c.all-changed.result c.all-changed.ensures.lanes; done = λ from less. absurd (omega (arith, less)) }

pub loop-from-preserved : goal.loop-from-preserved
loop-from-preserved c =
    let from = c.loop-from.from in
    let lanes = c.changed_from.result in
    let less = c.loop-from-test.true in
    let told = c.changed_from.ensures in
    let is : AreChangedFrom c.args.facts.now c.args.proved.now from lanes.0 = subst (λ (n : ℕ). AreChangedFrom c.args.facts.now c.args.proved.now n lanes.0) c.from_number.ensures told.changed in
    rw c.from.ensures record {
      rows = row_put c.loop-from.changed from lanes (omega (arith, less)) told.small c.loop-from.invariant.rows;
      done = changed_put c.args.facts.now c.args.proved.now c.loop-from.changed from lanes (omega (arith, less)) c.loop-from.invariant.rows.count is c.loop-from.invariant.done;
    }

pub returns-clause-changed : goal.returns-clause-changed
returns-clause-changed c = λ from turn. c.loop-from.invariant.done from (let end = c.loop-from-test.false in omega (arith, end, turn))
