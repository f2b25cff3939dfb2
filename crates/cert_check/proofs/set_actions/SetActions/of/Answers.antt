use Rattle.cert_check.proofs.set_actions.SetActions.of.Goals as goal

pub returns-clause-actions : goal.returns-clause-actions
returns-clause-actions c = c.all_next-next.ensures
