use Rattle.std.proofs.Common.{sym, subst}
use Rattle.brake_base.specs.Actions.{IsActionAmong}
use Rattle.cert_check.proofs.NoteLemmas.{wide, put_places}
use Rattle.cert_check.proofs.row_notes.put_action.Goals as goal

pub with-requires : goal.with-requires
with-requires c = subst (IsActionAmong 12 8) (sym c.action_at-action.ensures.value) (wide c.args.job.now c.recall_valid.ensures c.args.number c.requires.number)

pub returns : goal.returns
returns c = put_places c.args.job.now c.args.sets.now c.args.row c.args.number c.action_at-action.result c.with.result _ c.requires.row c.action_at-action.ensures.value c.with.ensures.places
