use Rattle.std.proofs.Common.{ℕ, List, All, false, sym, ap, subst, ◌∙◌}
use Rattle.plan_cert.specs.CertText.{table_text}
use Rattle.cert_merge.specs.Table.{TableData}
use Rattle.cert_merge.specs.MergedRows.{IsWithin, parts_text}
use Rattle.cert_merge.specs.declared.merged_rows.Part.{Part}
use Rattle.cert_merge.specs.TextLeft.{text_left}
use Rattle.cert_merge.proofs.MergedParts.{opened_whole}
use Rattle.cert_merge.proofs.merged_text.MergedText.open.Goals as goal

pub invariant_of-result : goal.invariant_of-result
invariant_of-result c =
    subst (λ (t : List ℕ). All (IsWithin t) c.as_slice.result.now) (sym c.as_slice-2.ensures.value)
    (subst (λ (ps : List Part). All (IsWithin c.args.merged.now.rows.joined.items) ps) (sym c.as_slice.ensures.value) c.requires.1.holds.within)

pub returns : goal.returns
returns c = λ table told.
    (λ i. text_left c.in_ok-beginning.beginning.items (parts_text (c.as_slice-2.ensures.value i) (c.as_slice.ensures.value i)) false)
    ∙ opened_whole c.args.job.now told.rows c.args.merged.now.rows c.in_ok-beginning.beginning.items c.in_ok-beginning.ensures told.holds
    ∙ ap (λ (t : TableData). table_text c.args.job.now t.rows t.notes) (sym told.table_is)
