use Rattle.std.proofs.Common.{sym, ◌∙◌, eqb-true, eq-eqb}
use lib.Pointwise.{pointwise_decides}
use Rattle.plan_lines.proofs.NoteRuns.{facts_same}
use Rattle.plan_lines.proofs.note_lines.are_same.Goals as goal

pub returns-clause-kept : goal.returns-clause-kept
returns-clause-kept c = λ same job kept.
    let counts = c.is_of.ensures.0 c.if-not-is_of.false in
    let alike = pointwise_decides (λ a b. (λ e. let one = eqb-true a.0 b.0 e in λ i. record { 0 = one i }, λ e. eq-eqb a.0 b.0 (λ i. (e i).0))) in
    facts_same c.args.facts.now c.args.other.now job counts.0 counts.1 ((alike c.args.facts.now.earlier c.args.other.now.earlier).0 (sym c.eq.ensures ∙ same)) kept

pub returns-clause-same : goal.returns-clause-same
returns-clause-same c = λ bends stages earlier.
    let alike = pointwise_decides (λ a b. (λ e. let one = eqb-true a.0 b.0 e in λ i. record { 0 = one i }, λ e. eq-eqb a.0 b.0 (λ i. (e i).0))) in
    c.eq.ensures ∙ (alike c.args.facts.now.earlier c.args.other.now.earlier).1 earlier
