use Rattle.std.proofs.Common.{◌≡◌, ◌∙◌, ◌==◌, ℕ, Bool, sym, ap, arith}
use Rattle.std.specs.Prelude.{if◌then◌else◌}
use Rattle.std.proofs.lemmas.Bool.{le-ltb}
use Rattle.stroke_table.specs.Codes.{at_stages}
use Rattle.stroke_table.proofs.LeastCodes.{at_stages_more}
use Rattle.stroke_table.proofs.codes.at_stages.Goals as goal

pub loop-stage-init : goal.loop-stage-init
loop-stage-init c = λ stage low. c.all-codes.ensures.lanes stage low ∙ sym (ap (λ (t : Bool). if t then c.args.code else 65535) (le-ltb stage 0 (omega arith)))

pub loop-stage-preserved : goal.loop-stage-preserved
loop-stage-preserved c = λ stage low.
    c.with-codes.ensures.lanes stage low ∙ ap (λ (n : ℕ). if stage == c.loop-stage.stage then c.args.code else n) (c.loop-stage.invariant stage low) ∙ at_stages_more c.args.code c.loop-stage.stage stage

pub returns : goal.returns
returns c = λ stage low.
    let same : c.loop-stage.stage ≡ c.args.stages = omega (arith, c.loop-stage-test.false, c.loop-stage.auto.stage-end) in
    c.loop-stage.invariant stage low ∙ ap (λ (n : ℕ). at_stages c.args.code n stage) same
