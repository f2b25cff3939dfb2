use Rattle.std.proofs.Common.{◌≡◌, ◌∙◌, ℕ, ◌-◌, ◌^◌, ap, sym, arith}
use Rattle.std.proofs.lemmas.Bool.{eqb-true, eq-eqb}
use Rattle.job_setup.specs.Setup.{bend_count}
use Rattle.handling_cost.proofs.Keys.{full_from_number, number_of_full}
use Rattle.handling_cost.proofs.leads.is_full.Goals as goal

pub returns : goal.returns
returns c =
    let job = c.args.job.now in
    let key = c.args.key.now in
    let bends : c.bends.result ≡ bend_count job = omega (arith, c.bends.ensures.value) in
    let number : c.full.result.0 ≡ 2 ^ bend_count job - 1 = c.full.ensures.number ∙ ap (λ (n : ℕ). 2 ^ n - 1) bends in (
      λ yes. full_from_number job c.bends.ensures.valid key (eqb-true key.mask.0 c.full.result.0 (sym c.eq.ensures ∙ yes) ∙ number),
      λ full. c.eq.ensures ∙ eq-eqb key.mask.0 c.full.result.0 (number_of_full job c.bends.ensures.valid key c.requires.key full ∙ sym number),
    )
