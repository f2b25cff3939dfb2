-- The text of parts, made in pieces.
use Rattle.std.proofs.Common.{◌≡◌, ℕ, ◌+◌, ◌≤◌, false, List, [], ◌++◌, codes, length, drop, refl, ap, ◌∙◌}
use Rattle.std.proofs.lemmas.List.{drop_all}
use Rattle.job_setup.specs.Setup.{JobData, stage_count}
use Rattle.plan_cert.specs.CertText.{table_text}
use Rattle.cert_merge.specs.declared.merged_rows.MergedRows.{MergedRows}
use Rattle.cert_merge.specs.declared.merged_rows.Part.{Part}
use Rattle.cert_merge.specs.MergeSteps.{Rows, flat, heads}
use Rattle.cert_merge.specs.MergedRows.{HoldsRows, parts_text}
use Rattle.cert_merge.specs.TextLeft.{end_text, text_left}
use Rattle.cert_merge.proofs.SaidTexts.{beginning_of, rows_written}

pub none_left : (joined : List ℕ) (all : List Part) (next : ℕ) → length all ≤ next → parts_text joined (drop next all) ≡ []
none_left joined all next past = ap (parts_text joined) (drop_all next all past)

-- all of the text is left
pub opened_whole : (job : JobData) (rows : Rows) (merged : MergedRows) (beginning : List ℕ) → beginning ≡ beginning_of job → HoldsRows (stage_count job) rows merged
    → text_left beginning (parts_text merged.joined.items (drop 0 merged.parts.items)) false ≡ table_text job (heads rows) (flat 0 rows)
unfolding end_text
opened_whole job rows merged beginning begins holds = (λ i. (begins i ++ holds.text_is i) ++ codes "end\n") ∙ rows_written job (stage_count job) rows refl
