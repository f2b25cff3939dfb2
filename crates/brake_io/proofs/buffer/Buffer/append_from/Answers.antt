use Rattle.std.proofs.Common.{◌≡◌, ◌≤◌, ◌++◌, length, take, slice_range, ap, ◌∙◌, length-take-le, arith}
use Rattle.brake_io.proofs.Parts.{read_behind}
use Rattle.brake_io.proofs.buffer.Buffer.append_from.Goals as goal

pub returns-clause-bytes : goal.returns-clause-bytes
returns-clause-bytes g c =
    let here = c.move_front.new.self in
    let all = c.deref_mut.result.now in
    let to = c.read.new.to in
    let n = c.in_ok-count.count in
    let fits : n ≤ length to = c.in_ok-count.ensures.within in
    let at_hand : slice_range all here.start here.end ≡ slice_range c.args.self.now.bytes.items c.args.self.now.start c.args.self.now.end =
    ap (λ l. slice_range l here.start here.end) c.deref_mut.ensures.value ∙ c.move_front.ensures.bytes in
    (take n to, length-take-le n to fits, omega (arith, fits), read_behind all to _ _ here.start here.end _ n (omega arith) (omega arith) fits (omega arith) ∙ ap (λ l. l ++ take n to) at_hand, c.in_ok-count.ensures.bytes)
