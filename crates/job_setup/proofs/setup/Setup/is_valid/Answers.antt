use Rattle.std.proofs.Common.{◌∙◌, sym}
use Rattle.std.proofs.lemmas.Bool.{false≢true}
use Rattle.job_setup.proofs.setup.Setup.is_valid.Goals.{then-are_fixtures, else-are_fixtures}
use Rattle.job_setup.proofs.setup.Setup.is_valid.Goals as goal

pub returns-then-are_rules : goal.returns-then-are_rules
returns-then-are_rules c =
    let stages = c.are_stages.ensures in
    elim c.if-are_fixtures.branch [
      | then-are_fixtures w ↦
          let fixtures = c.are_fixtures.ensures.0 w.if-are_fixtures.true in
          let rules = w.are_rules.ensures.0 (sym w.value-is ∙ c.if-are_rules.true) in
          (λ passes. record { fixtures = fixtures; rules = rules; stages = stages.0 passes }, λ valid. stages.1 valid.stages)
      | else-are_fixtures w ↦ absurd (false≢true (sym w.if-are_fixtures.false ∙ sym w.value-is ∙ c.if-are_rules.true))
    ]
