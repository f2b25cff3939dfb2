use Rattle.std.proofs.Common.{sym, subst, ◌∙◌}
use Rattle.handling_cost.specs.StepCost.{IsKeyOf}
use Rattle.handling_cost.proofs.Keys.{start_in_range}
use Rattle.plan_cert.specs.WellFormed.{AreRowsOf}
use Rattle.cert_merge.specs.TableChecks.{proved_by}
use Rattle.cert_merge.proofs.MergeLaws.{merge_laws}
use Rattle.cert_merge.proofs.MergeToldOf.{heads_of_job, told_of}
use Rattle.cert_merge.proofs.merged_texts.merge_texts.Goals as goal

pub proved-at_start-requires-clause-rows : goal.proved-at_start-requires-clause-rows
proved-at_start-requires-clause-rows c =
    let a = c.requires.0 in
    let b = c.requires.1 in
    let are = c.requires.2 in
    subst (AreRowsOf c.args.job.now) (sym c.as_slice.ensures.value) (heads_of_job c.args.job.now a b c.args.first.now c.args.second.now are c.in_ok-rows.rows (c.in_ok-rows.ensures a b are))

pub proved-at_start-requires-clause-key : goal.proved-at_start-requires-clause-key
proved-at_start-requires-clause-key c = subst (IsKeyOf c.args.job.now) (sym c.start_key.ensures) (start_in_range c.args.job.now c.recall_valid.ensures)

pub returns-clause-merged : goal.returns-clause-merged
returns-clause-merged c = λ a b are.
    told_of c.args.job.now a b c.args.first.now c.args.second.now are c.in_ok-rows.rows (c.in_ok-rows.ensures a b are) c.proved-at_start.result c.start_key.result c.start_key.ensures
    (c.proved-at_start.ensures.value ∙ (λ i. proved_by c.args.job.now (c.as_slice.ensures.value i) c.start_key.result))

pub returns-clause-laws : goal.returns-clause-laws
returns-clause-laws c = merge_laws

pub returns-in_err-rows-clause-laws : goal.returns-in_err-rows-clause-laws
returns-in_err-rows-clause-laws c = merge_laws
