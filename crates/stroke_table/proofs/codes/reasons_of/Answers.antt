use Rattle.std.proofs.Common.{◌∙◌, ◌+◌, ◌<◌, ℕ, slice_index, sym, subst, arith}
use Rattle.std.specs.Prelude.{slice_set}
use Rattle.std.proofs.lemmas.List.{length-set}
use Rattle.stroke_table.specs.Strokes.{reason_at}
use Rattle.stage_lanes.specs.Codes.{IsCode}
use Rattle.stroke_table.specs.Codes.{IsToldBy}
use Rattle.stroke_table.proofs.FirstCodes.{told_more}
use Rattle.stroke_table.proofs.codes.reasons_of.Goals as goal

pub told-requires : goal.told-requires
told-requires c = subst IsCode (sym c.code.ensures) (c.requires.codes c.loop-stage.stage (omega (arith, c.loop-stage-test.true)))

pub loop-stage-preserved : goal.loop-stage-preserved
loop-stage-preserved c =
    let reasons = c.loop-stage.reasons in
    let stage = c.loop-stage.stage in
    let found = c.told.result in
    record {
      count = length-set reasons c.from-place.result found ∙ c.loop-stage.invariant.count;
      told = subst (λ (place : ℕ). (other : ℕ) → other < stage + 1 → IsToldBy (slice_index c.args.codes.0 other) (reason_at (slice_set reasons place found) other)) (sym c.from-place.ensures)
          (told_more c.args.codes.0 reasons stage found (omega (arith, c.loop-stage-test.true, c.requires.stages, c.loop-stage.invariant.count)) c.loop-stage.invariant.told (subst (λ (code : ℕ). IsToldBy code found) c.code.ensures c.told.ensures));
    }
