use Rattle.stroke_table.proofs.table.StrokeTable.stroke_at.Goals as goal

pub returns-clause-stroke : goal.returns-clause-stroke
returns-clause-stroke c = record {
  attitude = c.held-hold.ensures.hold.attitude;
  gauge = c.held-hold.ensures.hold.gauge c.args.action.stage c.requires.stage;
  reason = c.reason_at-reason.ensures.reason;
}
