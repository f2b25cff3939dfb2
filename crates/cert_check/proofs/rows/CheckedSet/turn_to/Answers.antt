use Rattle.cert_check.proofs.rows.CheckedSet.turn_to.Goals as goal

pub returns-then-ne-clause-set : goal.returns-then-ne-clause-set
returns-then-ne-clause-set c = record {
  actions = c.requires.set.actions;
  proved = c.turn_to.ensures.costs;
  closing = c.none-self.ensures c.args.job.now c.turn_to.new.self;
}
