use Rattle.std.proofs.Common.{sym, ◌∙◌, ap, subst}
use Rattle.bb_search.specs.declared.written.WrittenCert.{WrittenCert}
use Rattle.bb_search.specs.Searches.{SearchData, search_data}
use Rattle.bb_search.specs.Certificates.{HasAnswer, IsWritten}
use Rattle.bb_search.proofs.CertWritten.{rows_written, begun_well, written_is}
use Rattle.bb_search.proofs.search.Search.write.Goals as goal

pub open-requires-clause-begins : goal.open-requires-clause-begins
open-requires-clause-begins c =
    let inside = c.self.inside in
    let search = search_data inside.table.job inside.pool inside.budget inside.outcome inside.steps.items in
    begun_well search c.args.job.now (c.requires.job ∙ sym (ap (λ (s : SearchData). s.job) c.self.view_is)) c.recall_valid.ensures
    (subst HasAnswer (sym c.self.view_is) c.requires.answered) c.claim_of-claim.result c.claim_of-claim.ensures c.copy_of-steps.result.items c.copy_of-steps.ensures

pub open-requires-clause-writable : goal.open-requires-clause-writable
open-requires-clause-writable c =
    let inside = c.self.inside in
    let search = search_data inside.table.job inside.pool inside.budget inside.outcome inside.steps.items in
    rows_written search c.args.job.now (c.requires.job ∙ sym (ap (λ (s : SearchData). s.job) c.self.view_is)) c.recall_valid.ensures
    (subst HasAnswer (sym c.self.view_is) c.requires.answered) c.claim_of-claim.result c.claim_of-claim.ensures c.self.invariant.actions

pub returns : goal.returns
returns c =
    let inside = c.self.inside in
    let search = search_data inside.table.job inside.pool inside.budget inside.outcome inside.steps.items in
    let written : WrittenCert = record { claim = c.claim_of-claim.result; steps = c.copy_of-steps.result; text = c.in_ok-text.text } in
    subst (λ (s : SearchData). IsWritten s written) c.self.view_is
    (written_is search c.args.job.now (c.requires.job ∙ sym (ap (λ (s : SearchData). s.job) c.self.view_is)) c.recall_valid.ensures c.in_ok-text.ensures.pool c.self.invariant.limit
    (subst HasAnswer (sym c.self.view_is) c.requires.answered) written c.claim_of-claim.ensures c.copy_of-steps.ensures c.in_ok-text.ensures.text)
