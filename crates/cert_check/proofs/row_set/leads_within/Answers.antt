use Rattle.std.proofs.Common.{sym, ◌∙◌}
use Rattle.cert_check.proofs.ActionLemmas.{leads_at}
use Rattle.cert_check.proofs.row_set.leads_within.Goals as goal

pub returns-then-is_within : goal.returns-then-is_within
returns-then-is_within c =
    let within = c.is_within.ensures.0 c.if-is_within.true in
    let leads = leads_at c.args.facts.now c.args.job.now c.args.mask c.leads.result c.requires.facts c.leads.ensures.leads in
    record {
      all = λ mask. leads;
      only = λ bend first last is. (within, sym (leads bend first last) ∙ is);
    }

pub returns-else-is_within : goal.returns-else-is_within
returns-else-is_within c = record {
  all = λ mask. absurd (let yes = c.is_within.ensures.1 mask in let no = c.if-is_within.false in cc);
  only = λ bend first last is. absurd (let none = c.empty.ensures.value bend in cc);
}
