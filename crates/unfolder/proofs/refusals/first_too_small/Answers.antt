use Rattle.std.proofs.Common.{◌≡◌, true, false, get_or, sym, ◌∙◌, arith}
use Rattle.unfolder.specs.Cores.{is_too_small}
use Rattle.unfolder.specs.Tables.{no_rect}
use Rattle.unfolder.proofs.Finding.{position_first, position_none, none_more}
use Rattle.unfolder.proofs.refusals.first_too_small.Goals as goal

pub returns-then-is_too_small : goal.returns-then-is_too_small
returns-then-is_too_small c =
    let test : is_too_small (get_or c.args.cores.now c.loop-face.face no_rect) ≡ true = sym c.is_too_small.ensures ∙ c.if-is_too_small.true in
    sym (position_first is_too_small c.args.cores.now no_rect c.loop-face.face c.loop-face.invariant test (omega arith))

pub loop-face-preserved : goal.loop-face-preserved
loop-face-preserved c =
    let test : is_too_small (get_or c.args.cores.now c.loop-face.face no_rect) ≡ false = sym c.is_too_small.ensures ∙ c.if-is_too_small.false in
    λ k high. none_more (λ f. is_too_small (get_or c.args.cores.now f no_rect)) 0 c.loop-face.face (λ f l h. c.loop-face.invariant f h) test k (omega arith) high

pub returns : goal.returns
returns c = sym (position_none is_too_small c.args.cores.now no_rect (λ k h. c.loop-face.invariant k (omega arith)))
