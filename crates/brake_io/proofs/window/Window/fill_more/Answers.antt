use Rattle.std.proofs.Common.{ℕ, List, ◌+◌, ◌*◌, length, refl, ap}
use Rattle.brake_io.proofs.Parts.{has_more, has_read, nearer_by, stays}
use Rattle.brake_io.proofs.window.Window.fill_more.Goals as goal

pub loop-alloc-init : goal.loop-alloc-init
loop-alloc-init g c = stays _

pub loop-alloc-preserved : goal.loop-alloc-preserved
loop-alloc-preserved g c = has_read _ _ _ c.loop-alloc.invariant c.in_ok-read_more.ensures.goes_on c.in_ok-read_more.ensures.nearer

pub returns-clause-more : goal.returns-clause-more
returns-clause-more g c = has_more c.args.self.now c.loop-alloc.self _ (ap (λ (bytes : List ℕ). 2 * length bytes + 1) c.unread.ensures) (c.loop-alloc-test.ensures.enough refl)

pub returns-clause-nearer : goal.returns-clause-nearer
returns-clause-nearer g c = λ more. nearer_by c.args.self.now c.loop-alloc.self _ (ap (λ (bytes : List ℕ). 2 * length bytes + 1) c.unread.ensures) c.loop-alloc.invariant (c.loop-alloc-test.ensures.enough refl) more
