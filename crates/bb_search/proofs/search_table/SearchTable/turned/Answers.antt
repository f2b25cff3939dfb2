use Rattle.std.proofs.Common.{ℕ, ◌+◌, ◌∙◌, ap, arith, sym}
use Rattle.std.specs.Prelude.{slice_index}
use Rattle.job_setup.specs.Setup.{JobData}
use Rattle.handling_cost.specs.StepCost.{attitude_at, change, change_cost}
use Rattle.bb_search.specs.KnownActions.{TableData}
use Rattle.bb_search.proofs.LaneSumLemmas.{side_sums}
use Rattle.bb_search.proofs.search_table.SearchTable.turned.Goals as goal

pub returns : goal.returns
returns c =
    let job = c.args.job.now in
    let key = c.args.key.now in
    let same = c.self.invariant.1 ∙ (ap (λ (t : TableData). t.job) c.self.view_is ∙ sym c.requires.job) in
    let few = c.requires.valid.setup.stages.few_stages in
    let attitude = c.attitude-attitude.result in
    let paid = c.change-change.result in
    side_sums job key c.args.bend c.args.back attitude paid c.args.onward.0 c.plus.result.0
    (λ stage. c.attitude-attitude.ensures stage
    ∙ ap (λ (j : JobData). attitude_at j key.mask (record { bend = c.args.bend; back = c.args.back; stage = stage })) same)
    (c.change-change.ensures.value
    ∙ ap (λ (j : JobData). change_cost j.setup.cost (change key.attitude attitude)) same)
    c.change-change.ensures.small c.requires.onward
    (λ stage wide. c.plus.ensures.lanes stage wide
    ∙ ap (λ (n : ℕ). slice_index c.args.onward.0 stage + n) (c.all.ensures.lanes stage wide))
    (omega (arith, few))
