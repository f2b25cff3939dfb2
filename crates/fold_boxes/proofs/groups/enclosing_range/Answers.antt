use Rattle.std.proofs.Common.{ℤ, Option, subst, arith}
use Rattle.std.specs.Prelude.{IfSome}
use Rattle.std.proofs.lemmas.Int.{ints, clamps}
use Rattle.fold_boxes.specs.Spans.{IsNearRange}
use Rattle.fold_boxes.proofs.groups.enclosing_range.Goals as goal

pub returns-in-Some-clause-near : goal.returns-in-Some-clause-near
returns-in-Some-clause-near c = λ one second.
    let first : IsNearRange c.in-Some.first = subst (λ (o : Option (ℤ × ℤ)). IfSome o IsNearRange) c.in-Some.is one in
    let a = first.from in
    let b = second.from in
    let d = first.to in
    let e = second.to in
    let one_order = first.in_order in
    let two_order = second.in_order in
    record {
      in_order = omega (arith, ints, clamps, c.min.ensures.value, c.max.ensures.value, one_order, two_order, a.low, a.high, b.low, b.high, d.low, d.high, e.low, e.high);
      from = record { low = omega (arith, ints, clamps, c.min.ensures.value, a.low, b.low); high = omega (arith, ints, clamps, c.min.ensures.value, a.high, a.low, b.high, b.low) };
      to = record { low = omega (arith, ints, clamps, c.max.ensures.value, d.low, e.low, d.high, e.high); high = omega (arith, ints, clamps, c.max.ensures.value, d.high, e.high, d.low, e.low) };
    }
