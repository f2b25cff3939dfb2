-- The stages of a valid job have a length, and lie near.
use Rattle.std.proofs.Common.{◌≡◌, ℕ, suc, ◌<◌, ◌≤◌, ℤ, pos, ◌+ℤ◌, ◌≤ℤ◌, ◌<ℤ◌, List, [], ◌∷◌, length, arith}
use Rattle.std.specs.Prelude.{All, fold}
use Rattle.std.proofs.lemmas.Int.{ints}
use Rattle.toml_fields.specs.Ranges.{IsWithin}
use Rattle.unfolder.specs.Near.{IsWithin as IsNear}
use Rattle.job_setup.specs.Setup.{StageData, JobData}
use Rattle.job_setup.specs.ValidJob.{IsStage, IsJob}
use Rattle.job_setup.specs.StageOf.{no_stage, stage_of}
use Rattle.job_setup.proofs.Near.{setup_near}

at_least : (pieces : List ℤ) (a : ℤ) → All (IsWithin (pos 1) (pos 10000000)) pieces → a ≤ℤ fold ◌+ℤ◌ a pieces
at_least [] a all = omega (arith, ints)
at_least (piece ∷ pieces) a all =
    let one : IsWithin (pos 1) (pos 10000000) piece = all 0 piece (omega arith) in
    let later = at_least pieces (a +ℤ piece) (λ k d within. all (suc k) d (omega arith)) in
    omega (arith, ints, later, one.bottom)

some_length : (pieces : List ℤ) → 0 < length pieces → All (IsWithin (pos 1) (pos 10000000)) pieces → pos 1 ≤ℤ fold ◌+ℤ◌ (pos 0) pieces
some_length [] some all = absurd (omega arith)
some_length (piece ∷ pieces) some all =
    let one : IsWithin (pos 1) (pos 10000000) piece = all 0 piece (omega arith) in
    let later = at_least pieces (pos 0 +ℤ piece) (λ k d within. all (suc k) d (omega arith)) in
    omega (arith, ints, later, one.bottom)

-- a range of the bed that a pose may be centred on
pub record IsBedRange (x0 x1 : ℤ) : Type 0 where
  pub order : x0 <ℤ x1
  pub from : IsNear 1000000000 x0
  pub to : IsNear 1000000000 x1

pub stage_range : (job : JobData) → IsJob job → (stage : ℕ) → stage < length job.setup.stages → IsBedRange (stage_of job stage).x0 (stage_of job stage).x1
stage_range job valid stage within =
    let fit : IsStage (stage_of job stage) = valid.setup.stages.each stage no_stage within in
    let near = (setup_near job valid).stages stage no_stage within in
    let long = some_length (stage_of job stage).pieces fit.some_piece fit.pieces in
    record {
      order = omega (arith, ints, fit.long, long);
      from = record { low = omega (arith, ints, near.x0.0); high = near.x0.1 };
      to = record { low = omega (arith, ints, near.x1.0); high = near.x1.1 };
    }
