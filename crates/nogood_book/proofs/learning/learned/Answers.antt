use Rattle.std.proofs.Common.{sym, subst, rules, not}
use Rattle.brake_base.specs.Masks.{has}
use Rattle.nogood_book.specs.declared.nogood.Nogood.{Nogood}
use Rattle.nogood_book.specs.Nogood.{IsVerified, Matches}
use Rattle.nogood_book.proofs.Supports.{is_part}
use Rattle.nogood_book.proofs.NamedBoxes.{names_boxes}
use Rattle.nogood_book.proofs.Truth.{learned_is_verified, learned_matches}
use Rattle.nogood_book.proofs.learning.learned.Goals as goal

pub support-support-requires-clause-boxes : goal.support-support-requires-clause-boxes
support-support-requires-clause-boxes c = names_boxes c.args.job.now c.recall_valid.ensures c.args.mask c.args.action c.args.reason c.requires.holds

pub returns-clause-value : goal.returns-clause-value
returns-clause-value c =
    let b = c.args.action.bend in
    let folded = is_part c.args.job.now b c.args.reason c.support-support.result c.intersection.result (has c.args.mask) c.support-support.ensures.value (search rules) c.intersection.ensures in
    let flat = is_part c.args.job.now b c.args.reason c.support-support.result c.without.result (λ bend. not (has c.args.mask bend)) c.support-support.ensures.value (search rules) c.without.ensures in
    λ i. record { action = c.args.action; reason = c.args.reason; folded = folded i; flat = flat i }

pub returns-clause-law : goal.returns-clause-law
returns-clause-law c =
    let job = c.args.job.now in
    let is = returns-clause-value c in
    subst (λ (nogood : Nogood). IsVerified job nogood × Matches nogood c.args.mask) (sym is) (
      learned_is_verified job c.recall_valid.ensures c.args.mask c.requires.mask c.args.action c.args.reason c.requires.action c.requires.kind c.requires.holds,
      learned_matches job c.recall_valid.ensures c.args.mask c.requires.mask c.args.action c.args.reason c.requires.action,
    )
