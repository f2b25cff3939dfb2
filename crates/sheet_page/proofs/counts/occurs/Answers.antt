use Rattle.std.proofs.Common.{◌≡◌, ◌∙◌, ◌-◌, ◌≤◌, ℕ, false, ap, sym, arith}
use Rattle.std.specs.Prelude.{nat_lt}
use Rattle.std.specs.List.{list_any}
use Rattle.std.proofs.lemmas.Bool.{le-ltb}
use Rattle.brake_base.specs.Masks.{numbers_to}
use Rattle.sheet_page.specs.Kept.{count_in}
use Rattle.sheet_page.proofs.Numbered.{any_next}
use Rattle.sheet_page.proofs.counts.occurs.Goals as goal

pub loop-bend-preserved : goal.loop-bend-preserved
loop-bend-preserved c =
    let count = c.of.ensures in
    let none : count_in c.args.counts.now c.loop-bend.bend c.args.kind ≤ 0 = omega (arith, count, c.if-of-gt0.false) in
    any_next (λ bend. nat_lt 0 (count_in c.args.counts.now bend c.args.kind)) c.loop-bend.bend false (omega (arith, c.loop-bend.auto.bend)) c.loop-bend.invariant (le-ltb 0 (count_in c.args.counts.now c.loop-bend.bend c.args.kind) none)

pub returns : goal.returns
returns c =
    let past : c.loop-bend.bend - 1 ≡ 12 = omega (arith, c.loop-bend.auto.bend-end, c.loop-bend-test.false) in
    sym (ap (λ (n : ℕ). list_any (λ bend. nat_lt 0 (count_in c.args.counts.now bend c.args.kind)) (numbers_to n)) (sym past) ∙ c.loop-bend.invariant)
