use Rattle.std.proofs.Common.{◌≡◌, ◌+◌, ◌-◌, ◌∙◌, List, length, refl, ap, arith}
use Rattle.std.proofs.lemmas.List.{length_push}
use Rattle.cert_merge.specs.declared.settled_sets.SettledSet.{SettledSet}
use Rattle.cert_merge.specs.declared.settled_sets.SettledSets.{SettledSets}
use Rattle.cert_merge.specs.Settling.{proved_over}
use Rattle.cert_merge.proofs.SettledSets.{none_settled, settled_on}
use Rattle.cert_merge.proofs.settled.settle_sets.Goals as goal

pub loop-below-init : goal.loop-below-init
loop-below-init c =
    let start : SettledSets = record { high = c.args.high; sets = c.new.result } in
    record {
      high = refl;
      count = ap (λ (sets : List SettledSet). length sets) c.new.ensures.items;
      settled = none_settled c.args.job.now (proved_over c.args.job.now c.args.base.now start) start c.new.ensures.items;
      strokes = c.in_ok-strokes.ensures;
    }

pub loop-below-preserved : goal.loop-below-preserved
loop-below-preserved c =
    let old = c.loop-below.settled in
    let new : SettledSets = record { high = old.high; sets = c.push.new.self } in
    let set = c.settle_set-set.result in
    let so_far = c.loop-below.invariant in
    let count = so_far.count in
    let top = so_far.high in
    let less = c.loop-below-test.true in
    let range = c.requires.range in
    let items = c.in_ok-push.ensures.items in
    let more : length c.push.new.self.items ≡ length old.sets.items + 1 = ap (λ (sets : List SettledSet). length sets) items ∙ length_push old.sets.items set in
    record {
      high = so_far.high;
      count = omega (arith, more, count);
      settled = settled_on old new set refl items c.args.job.now c.recall_valid.ensures c.args.base.now (record { 0 = c.args.high - c.loop-below.below }) so_far.settled c.settle_set-set.ensures.set (omega (arith, count, top, less, range));
      strokes = c.settle_set-set.ensures.strokes ∙ so_far.strokes;
    }

pub returns-clause-range : goal.returns-clause-range
returns-clause-range c =
    let count = c.loop-below.invariant.count in
    let end = c.loop-below-test.false in
    let far = c.loop-below.auto.below-end in
    let range = c.requires.range in
    record { top = c.loop-below.invariant.high; count = omega (arith, count, end, far, range) }

pub returns-clause-settled : goal.returns-clause-settled
returns-clause-settled c = c.loop-below.invariant.settled
