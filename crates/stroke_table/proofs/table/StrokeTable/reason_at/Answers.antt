use Rattle.job_setup.specs.StrokeGroup.{group_of}
use Rattle.stroke_table.proofs.FirstCodes.{is_code, first_told}
use Rattle.stroke_table.proofs.table.StrokeTable.reason_at.Goals as goal

pub told-requires : goal.told-requires
told-requires c =
    let action = c.args.action in
    is_code c.args.job.now c.args.mask (group_of c.args.job.now c.args.mask action.bend) action.back action.stage c.first_code-code.result c.first_code-code.ensures.code

pub returns-clause-reason : goal.returns-clause-reason
returns-clause-reason c =
    let action = c.args.action in
    first_told c.args.job.now c.args.mask (group_of c.args.job.now c.args.mask action.bend) action.back action.stage c.first_code-code.result c.told.result c.first_code-code.ensures.code c.told.ensures
