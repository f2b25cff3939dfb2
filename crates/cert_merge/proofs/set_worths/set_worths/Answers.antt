use Rattle.std.proofs.Common.{◌≡◌, ◌+◌, ◌/◌, ◌%◌, ◌<◌, ◌∙◌, ℕ, List, length, set, refl, sym, arith, subst, ap}
use Rattle.std.proofs.lemmas.List.{length-set}
use Rattle.brake_base.specs.declared.stroke.Key.{Key}
use Rattle.brake_base.specs.declared.stroke.Worth.{Worth}
use Rattle.job_setup.specs.Setup.{JobData, stage_count}
use Rattle.plan_cert.proofs.RowOrder.{few_stages}
use Rattle.cert_merge.specs.SetWorths.{AreChanged}
use Rattle.cert_merge.proofs.SettledWorths.{AreLeastBelow, worths_on, worths_same}
use Rattle.cert_merge.proofs.LaneWorths.{settled_by_lanes}
use Rattle.cert_merge.proofs.set_worths.set_worths.Goals as goal
use Rattle.cert_merge.proofs.set_worths.set_worths.Goals.{then-place-stages, else-place-stages}

pub loop-place-init : goal.loop-place-init
loop-place-init c = record { count = refl; found = λ key ranged same less. absurd (omega (arith, less)) }

pub loop-place-preserved : goal.loop-place-preserved
loop-place-preserved c =
    let job = c.args.job.now in
    let place = c.loop-place.place in
    let worths = c.loop-place.worths in
    let count = c.loop-place.invariant.count in
    let less = c.loop-place-test.true in
    let few = few_stages job c.recall_valid.ensures in
    elim c.if-place-stages.branch [
      | then-place-stages w ↦
          let made : Key = record { mask = c.args.mask; attitude = w.from_number.result; stage = place % 6 } in
          let is : made ≡ record { mask = c.args.mask; attitude = place / 6; stage = place % 6 } = λ i. record { mask = c.args.mask; attitude = w.from_number.ensures i; stage = place % 6 } in
          let at : w.from.result ≡ place = w.from.ensures in
          let stages = c.stages.ensures.value in
          let stage : place % 6 < stage_count job = omega (arith, w.if-place-stages.true, stages) in
          let number = w.from_number.ensures in
          let turn : w.from_number.result < 24 = omega (arith, number, less) in
          record {
            count = ap (λ (xs : List Worth). length xs) w.worths-is ∙ (length-set worths w.from.result w.settled_worth.result ∙ count);
            found = subst (AreLeastBelow job c.args.mask c.args.nexts.now (place + 1)) (sym (w.worths-is ∙ ap (λ (n : ℕ). set worths n w.settled_worth.result) at))
                (worths_on job c.args.mask c.args.nexts.now place worths made w.settled_worth.result few (omega (arith, count, less)) is
                (settled_by_lanes job c.recall_valid.ensures made c.args.nexts.now c.requires.nexts c.least_proved-proved.result c.all_changed-changed.result w.settled_worth.result few stage turn c.least_proved-proved.ensures.proved
                (subst (λ (j : JobData). AreChanged j c.least_proved-proved.result c.all_changed-changed.result) (sym c.requires.facts) c.all_changed-changed.ensures.changed) w.settled_worth.ensures)
                c.loop-place.invariant.found);
          }
      | else-place-stages w ↦
          let past = w.if-place-stages.false in
          let stages = c.stages.ensures.value in
          record {
            count = ap (λ (xs : List Worth). length xs) w.worths-is ∙ count;
            found = subst (AreLeastBelow job c.args.mask c.args.nexts.now (place + 1)) (sym w.worths-is)
                (worths_same job c.args.mask c.args.nexts.now place worths few (omega (arith, past, stages)) c.loop-place.invariant.found);
          }
    ]

pub returns : goal.returns
returns c = λ key ranged same.
    let attitude = ranged.attitude in
    let stage = ranged.stage in
    let few = few_stages c.args.job.now c.recall_valid.ensures in
    let end = c.loop-place-test.false in
    c.loop-place.invariant.found key ranged same (omega (arith, attitude, stage, few, end))
