use Rattle.std.proofs.Common.{◌∙◌, ap, sym, subst, arith}
use Rattle.std.specs.Prelude.{ℕ}
use Rattle.brake_base.specs.declared.stroke.Worth.TheVariants.{Cost}
use Rattle.brake_base.specs.Worths.{greater}
use Rattle.cert_lines.specs.Lines.{IsWorth}
use Rattle.cert_merge.proofs.ProvedWorths.{row_small, bound_proved, row_proved, greater_small}
use Rattle.cert_merge.proofs.proved_keys.proved.Goals as goal

pub returns-in-Some-clause-value : goal.returns-in-Some-clause-value
returns-in-Some-clause-value c =
    let job = c.args.job.now in
    let row = c.in-Some.ensures in
    c.greater.ensures ∙ (ap (λ (n : ℕ). greater (Cost n) c.in-Some.worth) c.bound-bound.ensures.value ∙ row_proved job c.recall_valid.ensures c.args.rows.now c.requires.rows c.args.key.now c.in-Some.worth row)

pub returns-in-Some-clause-small : goal.returns-in-Some-clause-small
returns-in-Some-clause-small c =
    let small = c.bound-bound.ensures.small in
    subst IsWorth (sym c.greater.ensures) (greater_small (Cost c.bound-bound.result) c.in-Some.worth (omega (arith, small)) (row_small c.args.job.now c.recall_valid.ensures c.args.rows.now c.requires.rows c.args.key.now c.in-Some.worth c.in-Some.ensures))

pub returns-in-None-clause-value : goal.returns-in-None-clause-value
returns-in-None-clause-value c =
    ap Cost c.bound-bound.ensures.value ∙ bound_proved c.args.job.now c.recall_valid.ensures c.args.rows.now c.requires.rows c.args.key.now c.in-None.ensures
