use Rattle.std.proofs.Common.{◌↔◌, IsTrue, rules}
use Rattle.nogood_book.specs.Nogood.{IsVerified}
use Rattle.nogood_book.proofs.Truth.{verified_is_true}
use Rattle.nogood_book.proofs.verifying.verify.Goals as goal

pub returns-clause-law : goal.returns-clause-law
returns-clause-law c =
    let exact : IsTrue c.holds_against.result ↔ IsVerified c.args.job.now c.args.nogood.now = search rules in
    λ yes. verified_is_true c.args.job.now c.recall_valid.ensures c.args.nogood.now (exact.0 yes)
