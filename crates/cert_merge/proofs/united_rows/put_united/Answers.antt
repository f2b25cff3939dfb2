use Rattle.std.proofs.Common.{◌≡◌, ◌++◌, ◌∷◌, [], ℕ, List, None, Result, Ok, Err, ap, ◌∙◌}
use Rattle.std.specs.Prelude.{slice_index_or, OnOk}
use Rattle.plan_lines.specs.declared.note.Note.{Note}
use Rattle.cert_lines.specs.Lines.{lines_text}
use Rattle.plan_cert.specs.CertText.{rows_lines}
use Rattle.cert_merge.specs.MergeSteps.{most_actions, notes_upto}
use Rattle.cert_merge.proofs.UnitedRows.{few_there, order_there, text_there}
use Rattle.cert_merge.proofs.united_rows.put_united.Goals as goal

on_ok : {X E : Type 0} (r : Result X E) (P Q : Type 0) → OnOk r P → (P → Q) → OnOk r Q
on_ok (Ok x) P Q is to = to is
on_ok (Err e) P Q is to = tt

pub put_rows-requires-clause-actions : goal.put_rows-requires-clause-actions
put_rows-requires-clause-actions c =
    let all = c.as_slice.ensures.value ∙ c.in_ok-put_reasons.ensures ∙ ap (λ (ns : List Note). ns ++ notes_upto 0 (λ action. slice_index_or c.united-reasons.result action None) most_actions) c.new-notes.ensures.items in
    few_there c.requires.rows.0 c.args.bends c.args.stages c.requires.rows.1 c.requires.rows.2 c.args.first.now c.args.second.now c.requires.rows.3 c.requires.bends c.in_ok-own.own c.in_ok-other.other c.united-reasons.result c.in_ok-own.ensures c.in_ok-other.ensures c.united-reasons.ensures
    c.as_slice.result.now all

pub put_rows-requires-clause-order : goal.put_rows-requires-clause-order
put_rows-requires-clause-order c =
    let all = c.as_slice.ensures.value ∙ c.in_ok-put_reasons.ensures ∙ ap (λ (ns : List Note). ns ++ notes_upto 0 (λ action. slice_index_or c.united-reasons.result action None) most_actions) c.new-notes.ensures.items in
    order_there c.requires.rows.0 c.args.bends c.args.stages c.requires.rows.1 c.requires.rows.2 c.args.first.now c.args.second.now c.requires.rows.3 c.requires.bends c.in_ok-own.own c.in_ok-other.other c.united-reasons.result c.in_ok-own.ensures c.in_ok-other.ensures c.united-reasons.ensures
    c.as_slice.result.now all

pub returns : goal.returns
returns c =
    let all = c.as_slice.ensures.value ∙ c.in_ok-put_reasons.ensures ∙ ap (λ (ns : List Note). ns ++ notes_upto 0 (λ action. slice_index_or c.united-reasons.result action None) most_actions) c.new-notes.ensures.items in
    on_ok c.put_rows.result (c.put_rows.new.out.items ≡ c.args.out.now.items ++ lines_text (rows_lines c.args.stages (c.args.first.now.head ∷ []) c.as_slice.result.now)) _ c.put_rows.ensures (λ put job x y are.
    put
    ∙ ap (λ (t : List ℕ). c.args.out.now.items ++ t)
    (text_there job c.args.bends c.args.stages x y c.args.first.now c.args.second.now are c.requires.bends c.in_ok-own.own c.in_ok-other.other c.united-reasons.result c.in_ok-own.ensures c.in_ok-other.ensures c.united-reasons.ensures
    c.as_slice.result.now all))
