use Rattle.std.proofs.Common.{ap, sym, subst, arith}
use Rattle.std.proofs.lemmas.Int.{ints}
use Rattle.job_setup.specs.Setup.{StageData, SetupData}
use Rattle.job_setup.proofs.StageAt.{stage_is}
use Rattle.job_setup.proofs.StageRanges.{IsBedRange, stage_range}
use Rattle.job_setup.proofs.job.Job.stage_range.Goals as goal

pub returns-clause-order : goal.returns-clause-order
returns-clause-order c =
    let stage = c.index-as_slice-from.result in
    let value = stage_is c.args.self.now _ _ _ _ _ (ap (λ (s : SetupData). s.stages) c.setup.ensures.value) c.as_slice.ensures.value c.from.ensures c.requires c.index-as_slice-from.is in
    let range = subst (λ (s : StageData). IsBedRange s.x0 s.x1) (sym value) (stage_range c.args.self.now c.setup.ensures.valid c.args.stage c.requires) in
    omega (arith, ints, range.order, range.from.low, range.from.high, range.to.low, range.to.high)

pub returns-clause-near_from : goal.returns-clause-near_from
returns-clause-near_from c =
    let value = stage_is c.args.self.now _ _ _ _ _ (ap (λ (s : SetupData). s.stages) c.setup.ensures.value) c.as_slice.ensures.value c.from.ensures c.requires c.index-as_slice-from.is in
    let range = subst (λ (s : StageData). IsBedRange s.x0 s.x1) (sym value) (stage_range c.args.self.now c.setup.ensures.valid c.args.stage c.requires) in
    record { low = omega (arith, ints, range.from.low, range.from.high); high = omega (arith, ints, range.from.low, range.from.high) }

pub returns-clause-near_to : goal.returns-clause-near_to
returns-clause-near_to c =
    let value = stage_is c.args.self.now _ _ _ _ _ (ap (λ (s : SetupData). s.stages) c.setup.ensures.value) c.as_slice.ensures.value c.from.ensures c.requires c.index-as_slice-from.is in
    let range = subst (λ (s : StageData). IsBedRange s.x0 s.x1) (sym value) (stage_range c.args.self.now c.setup.ensures.valid c.args.stage c.requires) in
    record { low = omega (arith, ints, range.to.low, range.to.high); high = omega (arith, ints, range.to.low, range.to.high) }
