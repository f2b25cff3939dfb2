use Rattle.std.proofs.Common.{◌≡◌, ℕ, ◌+◌, ◌-◌, ◌<◌, ◌≤◌, true, false, length, sym, ◌∙◌, arith}
use Rattle.unfolder.specs.Blank.{is_overlap_in}
use Rattle.unfolder.proofs.Finding.{find_first, find_none, none_more}
use Rattle.unfolder.proofs.refusals.first_over.Goals as goal

pub returns-then-is_overlap-clause-value : goal.returns-then-is_overlap-clause-value
returns-then-is_overlap-clause-value c =
    let test : is_overlap_in c.args.faces.now (c.args.a, c.loop-b.b) ≡ true = sym c.is_overlap.ensures ∙ c.if-is_overlap.true in
    sym (find_first (λ b. is_overlap_in c.args.faces.now (c.args.a, b)) (c.args.a + 1) _ c.loop-b.b c.loop-b.invariant test (omega arith) (omega arith))

pub loop-b-preserved : goal.loop-b-preserved
loop-b-preserved c =
    let test : is_overlap_in c.args.faces.now (c.args.a, c.loop-b.b) ≡ false = sym c.is_overlap.ensures ∙ c.if-is_overlap.false in
    none_more (λ b. is_overlap_in c.args.faces.now (c.args.a, b)) (c.args.a + 1) c.loop-b.b c.loop-b.invariant test

pub returns-clause-value : goal.returns-clause-value
returns-clause-value c =
    let all : (k : ℕ) → c.args.a + 1 ≤ k → k < (c.args.a + 1) + (length c.args.faces.now - (c.args.a + 1)) → is_overlap_in c.args.faces.now (c.args.a, k) ≡ false = λ k low high. c.loop-b.invariant k low (omega arith) in
    sym (find_none (λ b. is_overlap_in c.args.faces.now (c.args.a, b)) (c.args.a + 1) _ all)
