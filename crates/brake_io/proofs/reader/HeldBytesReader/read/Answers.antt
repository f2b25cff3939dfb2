use Rattle.std.proofs.Common.{◌≡◌, ◌+◌, ◌++◌, ◌≤◌, length, take, drop, sym, ap, ◌∙◌, take_at, length-take-le, arith}
use Rattle.std.specs.Prelude.{slice_range}
use Rattle.std.proofs.lemmas.Slice.{between_to_end}
use Rattle.brake_io.proofs.Parts.{front_of_left}
use Rattle.brake_io.proofs.reader.HeldBytesReader.read.Goals as goal

pub returns-clause-bytes : goal.returns-clause-bytes
returns-clause-bytes c =
    let bytes = c.args.self.now.bytes.items in
    let held = c.deref.result.now in
    let at = c.args.self.now.at in
    let n = c.copy_front-count.result in
    let rest = slice_range held at (length held) in
    let few : n ≤ length rest = omega (arith, c.copy_front-count.ensures.count) in
    let front : take n c.copy_front-count.new.to ≡ take n rest = ap (take n) c.copy_front-count.ensures.copied ∙ take_at (take n rest) _ n (length-take-le n rest few) in
    let from_held : take n c.copy_front-count.new.to ≡ take n (drop at held) = front ∙ ap (take n) (between_to_end held at (length held) (omega arith)) in
    let copied : take n c.copy_front-count.new.to ≡ take n (drop at bytes) = rw c.deref.ensures.value at from_held in
    front_of_left bytes at n ∙ ap (λ l. l ++ drop (at + n) bytes) (sym copied)
