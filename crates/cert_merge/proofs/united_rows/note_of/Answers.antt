use Rattle.std.proofs.Common.{sym}
use Rattle.plan_lines.proofs.PlanLineRead.{note_among}
use Rattle.cert_merge.proofs.UnitedRows.{among_all}
use Rattle.cert_merge.proofs.united_rows.note_of.Goals as goal

pub action_number-requires-clause-action : goal.action_number-requires-clause-action
action_number-requires-clause-action c = among_all c.args.bends c.args.stages c.in_ok-action.action c.requires.bends (note_among c.args.bends c.args.stages c.split_word.result.1.now c.in_ok-action.action c.in_ok-action.reason (sym c.in_ok-action.ensures))
