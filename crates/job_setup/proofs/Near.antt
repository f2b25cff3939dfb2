-- All coordinates of a valid job's setup lie within 1,000,000,000 micrometres of 0.
use Rattle.std.proofs.Common.{suc, ◌*◌, ℤ, pos, neg_ℤ, ◌+ℤ◌, ◌≤ℤ◌, List, [], ◌∷◌, length, arith}
use Rattle.std.specs.Prelude.{All, fold}
use Rattle.std.proofs.lemmas.Int.{ints}
use Rattle.brake_base.specs.declared.plane.Rect.{Rect}
use Rattle.tool_library.specs.Tools.{IsBodyBox}
use Rattle.machine_file.specs.declared.machine.Fixed.{Fixed}
use Rattle.machine_file.specs.declared.machine.GaugeRule.{GaugeRule}
use Rattle.toml_fields.specs.Ranges.{IsRange}
use Rattle.machine_file.specs.Machine.{coordinate_limit, IsFixed, IsLength, IsFinger, IsGaugeRule, IsPiece}
use Rattle.unfolder.specs.Extent.{IsNear}
use Rattle.job_setup.specs.Setup.{StageData, JobData}
use Rattle.job_setup.specs.ValidJob.{IsStage, IsJob}
use Rattle.job_setup.specs.Near.{IsNearBox, IsNearStage, IsNearProfile, HasNearTools, IsNearGauge, IsNearSetup}

-- how long some pieces can be together, after a length
total_from : (pieces : List ℤ) (a : ℤ) → All IsPiece pieces → (a ≤ℤ fold ◌+ℤ◌ a pieces) × (fold ◌+ℤ◌ a pieces ≤ℤ (a +ℤ pos (10000000 * length pieces)))
total_from [] a all = (omega (arith, ints), omega (arith, ints))
total_from (piece ∷ pieces) a all =
    let one : IsPiece piece = all 0 piece (omega arith) in
    let later = total_from pieces (a +ℤ piece) (λ k d within. all (suc k) d (omega arith)) in
    (omega (arith, ints, later.0, one.bottom), omega (arith, ints, later.1, one.top))

span_near : (low high from to : ℤ) → IsRange low high from to → neg_ℤ coordinate_limit ≤ℤ low → high ≤ℤ coordinate_limit → IsNear from × IsNear to
span_near low high from to span bottom top =
    ((omega (arith, ints, span.bottom, bottom), omega (arith, ints, span.order, span.top, top)), (omega (arith, ints, span.order, span.bottom, bottom), omega (arith, ints, span.top, top)))

box_near : (low high : ℤ) (box : Fixed) → IsFixed low high box → neg_ℤ coordinate_limit ≤ℤ low → high ≤ℤ coordinate_limit → IsNearBox box
box_near low high box fit bottom top =
    let x = span_near _ _ _ _ fit.footprint.along (omega (arith, ints)) (omega (arith, ints)) in
    let y = span_near _ _ _ _ fit.footprint.across (omega (arith, ints)) (omega (arith, ints)) in
    let z = span_near _ _ _ _ fit.upwards bottom top in
    record { x0 = x.0; x1 = x.1; y0 = y.0; y1 = y.1; z0 = z.0; z1 = z.1 }

stage_near : (stage : StageData) → IsStage stage → IsNearStage stage
stage_near stage fit =
    let long = total_from stage.pieces (pos 0) fit.pieces in
    record {
      x0 = (omega (arith, ints, fit.at.bottom), omega (arith, ints, fit.at.top));
      x1 = (omega (arith, ints, fit.long, long.0, fit.at.bottom), omega (arith, ints, fit.long, long.1, fit.at.top, fit.few_pieces));
    }

profile_near : (low high : ℤ) (profile : Rect) → IsBodyBox low high profile → neg_ℤ coordinate_limit ≤ℤ low → high ≤ℤ coordinate_limit → IsNearProfile profile
profile_near low high profile fit bottom top =
    let y = span_near _ _ _ _ fit.across (omega (arith, ints)) (omega (arith, ints)) in
    let z = span_near _ _ _ _ fit.upwards bottom top in
    record { y0 = y.0; y1 = y.1; z0 = z.0; z1 = z.1 }

tools_near : (stage : StageData) → IsStage stage → HasNearTools stage
tools_near stage fit =
    let punch = fit.punch.sizes.height in
    let die = fit.die.sizes.height in
    record {
      punch = λ k d within. profile_near (pos 0) stage.punch.height _ (fit.punch.lists.each_box k d within) (omega (arith, ints)) (omega (arith, ints, punch.top));
      die = λ k d within. profile_near (neg_ℤ stage.die.height) (pos 0) _ (fit.die.lists.each_box k d within) (omega (arith, ints, die.top)) (omega (arith, ints));
    }

length_near : (n : ℤ) → IsLength n → IsNear n
length_near n fit = (omega (arith, ints, fit.bottom), omega (arith, ints, fit.top))

finger_near : (n : ℤ) → IsFinger n → IsNear n
finger_near n fit = (omega (arith, ints, fit.bottom), omega (arith, ints, fit.top))

gauge_near : (gauge : GaugeRule) → IsGaugeRule gauge → IsNearGauge gauge
gauge_near gauge fit = record {
  near = length_near _ fit.near;
  far = length_near _ fit.far;
  inset = length_near _ fit.inset;
  finger = finger_near _ fit.finger;
  gap = length_near _ fit.gap;
  depth = finger_near _ fit.depth;
  above = length_near _ fit.above;
  below = length_near _ fit.below;
}

pub setup_near : (j : JobData) → IsJob j → IsNearSetup j
setup_near j fit =
    let setup = fit.setup in
    let bed = span_near _ _ _ _ setup.rules.bed (omega (arith, ints)) (omega (arith, ints)) in
    record {
      bed_from = bed.0;
      bed_to = bed.1;
      frames_from = λ k d within. (span_near _ _ _ _ (setup.fixtures.frames k d within) (omega (arith, ints)) (omega (arith, ints))).0;
      frames_to = λ k d within. (span_near _ _ _ _ (setup.fixtures.frames k d within) (omega (arith, ints)) (omega (arith, ints))).1;
      upper = λ k d within. box_near _ _ _ (setup.fixtures.upper k d within) (omega (arith, ints)) (omega (arith, ints));
      lower = λ k d within. box_near _ _ _ (setup.fixtures.lower k d within) (omega (arith, ints)) (omega (arith, ints));
      stages = λ k d within. stage_near _ (setup.stages.each k d within);
      tools = λ k d within. tools_near _ (setup.stages.each k d within);
      gauge = gauge_near _ setup.rules.gauge;
    }
