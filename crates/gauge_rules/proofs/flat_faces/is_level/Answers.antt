use Rattle.std.proofs.Common.{IsTrue, nat_lt, ◌<◌, ℕ, rules, tests, arith}
use Rattle.gauge_rules.proofs.LevelTurns.{level_below, below_level}
use Rattle.gauge_rules.proofs.flat_faces.is_level.Goals as goal

low_from : (n : ℕ) → IsTrue (nat_lt n 8) → n < 8
low_from n h = search (rules, tests)

low_to : (n : ℕ) → n < 8 → IsTrue (nat_lt n 8)
low_to n h = search (rules, tests)

pub returns : goal.returns
returns c =
    let same = c.number.ensures.value in (
      λ h. level_below c.args.turn (omega (arith, same, low_from c.number.result h)),
      λ h. low_to c.number.result (omega (arith, same, below_level c.args.turn (omega (arith, same, c.number.ensures.below)) h)),
    )
