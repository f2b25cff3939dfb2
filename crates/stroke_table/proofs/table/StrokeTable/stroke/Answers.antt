use Rattle.std.proofs.Common.{slice_index, arith}
use Rattle.job_setup.specs.StrokeGroup.{group_of}
use Rattle.stroke_table.specs.Strokes.{reason_at}
use Rattle.stroke_table.proofs.FirstCodes.{is_code, first_told}
use Rattle.stroke_table.proofs.table.StrokeTable.stroke.Goals as goal

pub reasons_of-requires-clause-codes : goal.reasons_of-requires-clause-codes
reasons_of-requires-clause-codes c = λ stage low.
    is_code c.args.job.now c.args.mask (group_of c.args.job.now c.args.mask c.args.lead) c.args.back stage (slice_index c.codes-codes.result.0 stage)
    (c.codes-codes.ensures.codes.each stage (omega (arith, low, c.stages.ensures.value)))

pub returns-clause-stroke : goal.returns-clause-stroke
returns-clause-stroke c =
    let job = c.args.job.now in
    let codes = c.codes-codes.result.0 in
    record {
      attitude = c.held-hold.ensures.hold.attitude;
      gauge = c.held-hold.ensures.hold.gauge;
      few = c.stages.ensures.valid.setup.stages.few_stages;
      reasons = λ stage within.
          first_told job c.args.mask (group_of job c.args.mask c.args.lead) c.args.back stage (slice_index codes stage) (reason_at c.reasons_of.result stage) (c.codes-codes.ensures.codes.each stage within)
          (c.reasons_of.ensures.reasons stage (omega (arith, within, c.stages.ensures.value)));
    }
