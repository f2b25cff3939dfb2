use Rattle.std.proofs.Common.{ℕ, ◌+◌, ◌^◌, ◌<◌, ◌∙◌, ap, arith, subst, sym}
use Rattle.std.specs.Prelude.{slice_index}
use Rattle.brake_base.specs.declared.mask.Mask.{Mask}
use Rattle.job_setup.specs.Setup.{JobData, SetupData, bend_count}
use Rattle.set_facts.specs.LaneFacts.{HasBounds}
use Rattle.handling_cost.proofs.Actions.{few_bends}
use Rattle.handling_cost.proofs.Small.{prices}
use Rattle.bb_search.specs.Groups.{AreGroups}
use Rattle.bb_search.specs.KnownActions.{TableData}
use Rattle.bb_search.proofs.BendSumLemmas.{after_in_range}
use Rattle.bb_search.proofs.LaneSumLemmas.{still_sums}
use Rattle.bb_search.proofs.search_table.SearchTable.onward.Goals as goal

pub folded_after-requires : goal.folded_after-requires
folded_after-requires c =
    let few = few_bends c.args.job.now c.requires.valid in
    let last = c.requires.last in
    record { first = c.requires.first; last = omega (arith, last, few) }

pub bounds-after-requires : goal.bounds-after-requires
bounds-after-requires c =
    let job = c.args.job.now in
    let key = c.args.key.now in
    let same = c.requires.job ∙ sym (c.self.invariant.1 ∙ ap (λ (t : TableData). t.job) c.self.view_is) in
    let groups = subst (λ (j : JobData). AreGroups j c.self.inside.groups) (ap (λ (t : TableData). t.job) c.self.view_is ∙ sym c.requires.job) c.self.invariant.2 in
    let mask = c.folded_after.ensures job groups c.requires.last in
    subst (λ (j : JobData). c.folded_after.result.0 < 2 ^ bend_count j) same
    (subst (λ (m : Mask). m.0 < 2 ^ bend_count job) (sym mask)
    (after_in_range job c.requires.valid key c.requires.key c.args.bend c.requires.first c.requires.last c.requires.lead))

pub returns : goal.returns
returns c =
    let job = c.args.job.now in
    let key = c.args.key.now in
    let same = c.self.invariant.1 ∙ (ap (λ (t : TableData). t.job) c.self.view_is ∙ sym c.requires.job) in
    let groups = subst (λ (j : JobData). AreGroups j c.self.inside.groups) (ap (λ (t : TableData). t.job) c.self.view_is ∙ sym c.requires.job) c.self.invariant.2 in
    let mask = c.folded_after.ensures job groups c.requires.last in
    let bounds = c.bounds-after.result.0 in
    let few = c.requires.valid.setup.stages.few_stages in
    still_sums job key c.args.bend job.setup.cost.stroke bounds c.args.ways.0 c.plus.result.0 c.plus-2.result.0
    (λ i. job.setup.cost.stroke)
    (prices job.setup.cost c.requires.valid.setup.rules.cost).stroke
    (subst (λ (m : Mask). HasBounds job m bounds) mask
    (subst (λ (j : JobData). HasBounds j c.folded_after.result bounds) same c.bounds-after.ensures.lanes))
    c.bounds-after.ensures.small c.requires.ways c.requires.small c.plus.ensures.lanes
    (λ stage wide. c.plus-2.ensures.lanes stage wide
    ∙ ap (λ (n : ℕ). slice_index c.plus.result.0 stage + n)
    (c.all-stroke.ensures.lanes stage wide ∙ ap (λ (s : SetupData). s.cost.stroke) c.setup.ensures.value))
    (omega (arith, few))
