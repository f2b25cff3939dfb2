use Rattle.std.proofs.Common.{◌+◌, ◌∙◌, replicate, sym, subst, arith}
use Rattle.plan_cert.proofs.RowOrder.{few_stages}
use Rattle.cert_merge.specs.SetWorths.{AreLaneRows}
use Rattle.cert_merge.proofs.LaneWorths.{AreProvedBelow, all_never, never_rows, proved_none, proved_same, proved_more, proved_all, lowered_rows}
use Rattle.cert_merge.proofs.set_worths.least_proved.Goals as goal
use Rattle.cert_merge.proofs.set_worths.least_proved.Goals.{in-Some, in_default}

pub loop-number-init : goal.loop-number-init
loop-number-init c = record {
  rows = never_rows c.all-proved.result c.all-proved.ensures.lanes;
  below = proved_none c.args.nexts.now (replicate 24 c.all-proved.result) (all_never c.all-proved.result c.all-proved.ensures.lanes);
}

pub lower-requires-clause-stage : goal.lower-requires-clause-stage
lower-requires-clause-stage c =
    let few = few_stages c.args.job.now c.recall_valid.ensures in
    let stage = (c.requires c.loop-number.number c.in-Some.next (sym c.in-Some.ensures)).1.stage in
    omega (arith, few, stage)

pub lower-requires-clause-worth : goal.lower-requires-clause-worth
lower-requires-clause-worth c = (c.requires c.loop-number.number c.in-Some.next (sym c.in-Some.ensures)).1.proved

pub loop-number-preserved : goal.loop-number-preserved
loop-number-preserved c =
    let nexts = c.args.nexts.now in
    let number = c.loop-number.number in
    let so_far = c.loop-number.invariant in
    elim c.match-next_at.branch [
      | in-Some w ↦
          let told = w.lower.ensures in
          record {
            rows = subst AreLaneRows (sym w.proved-is) (lowered_rows w.in-Some.next c.loop-number.proved w.lower.new.proved told.count told.here told.rest so_far.rows);
            below = subst (AreProvedBelow nexts (number + 1)) (sym w.proved-is) (proved_more nexts number w.in-Some.next c.loop-number.proved w.lower.new.proved (sym w.in-Some.ensures) told.here told.rest so_far.below);
          }
      | in_default w ↦
          record {
            rows = subst AreLaneRows (sym w.proved-is) so_far.rows;
            below = subst (AreProvedBelow nexts (number + 1)) (sym w.proved-is) (proved_same nexts number c.loop-number.proved (sym c.next_at.ensures ∙ w.in_default.is) so_far.below);
          }
    ]

pub returns-clause-proved : goal.returns-clause-proved
returns-clause-proved c =
    proved_all c.args.nexts.now c.args.job.now c.loop-number.number c.loop-number.proved c.requires (let end = c.loop-number-test.false in let count = c.action_count-number-end.ensures.value in omega (arith, end, count)) c.loop-number.invariant.below
