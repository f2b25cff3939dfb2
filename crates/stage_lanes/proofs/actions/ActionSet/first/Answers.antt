use Rattle.std.proofs.Common.{arith}
use Rattle.stage_lanes.proofs.SetLemmas.{first_is, none_from_words, each_below_one, each_below_two}
use Rattle.stage_lanes.proofs.actions.ActionSet.first.Goals as goal

pub returns-then-words-ne0-clause-some : goal.returns-then-words-ne0-clause-some
returns-then-words-ne0-clause-some c = first_is c.args.self c.action_at.result 0 (omega (arith, c.if-words-ne0.true)) c.if-words-ne0.element_fits.fits (λ other h. absurd (omega (arith, h))) c.action_at.ensures.action (omega (arith, c.action_at.ensures.value))

pub returns-then-words-ne0-2-clause-some : goal.returns-then-words-ne0-2-clause-some
returns-then-words-ne0-2-clause-some c = first_is c.args.self c.action_at-then-words-ne0-2.result 1 (omega (arith, c.if-words-ne0-2.true)) c.if-words-ne0-2.element_fits.fits (each_below_one c.args.self (omega (arith, c.if-words-ne0.false))) c.action_at-then-words-ne0-2.ensures.action c.action_at-then-words-ne0-2.ensures.value

pub returns-then-words-ne0-3-clause-some : goal.returns-then-words-ne0-3-clause-some
returns-then-words-ne0-3-clause-some c = first_is c.args.self c.action_at-then-words-ne0-3.result 2 (omega (arith, c.if-words-ne0-3.true)) c.if-words-ne0-3.element_fits.fits (each_below_two c.args.self (omega (arith, c.if-words-ne0.false)) (omega (arith, c.if-words-ne0-2.false))) c.action_at-then-words-ne0-3.ensures.action c.action_at-then-words-ne0-3.ensures.value

pub returns-clause-none : goal.returns-clause-none
returns-clause-none c = none_from_words c.args.self (omega (arith, c.if-words-ne0.false)) (omega (arith, c.if-words-ne0-2.false)) (omega (arith, c.if-words-ne0-3.false))
