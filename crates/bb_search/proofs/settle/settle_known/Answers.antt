use Rattle.bb_search.proofs.DoneLemmas.{once_common, once_within, once_ends}
use Rattle.bb_search.proofs.settle.settle_known.Goals as goal

pub choose-choice-requires-clause-small : goal.choose-choice-requires-clause-small
choose-choice-requires-clause-small c = λ at here. (c.requires.known.each c.args.key.now.mask at here).small

pub set_notes-requires-clause-common : goal.set_notes-requires-clause-common
set_notes-requires-clause-common c =
    once_common c.args.job.now c.requires.job c.args.pool.now c.add.new.self c.args.key.now c.args.table.now
    c.known-known.result.now c.choose-choice.result c.without.result c.intersection-notes.result c.in_ok-row.row
    c.in_ok-row.ensures.added c.in_ok-row.ensures.row c.requires.sound c.requires.node c.requires.known c.known-known.ensures
    c.choose-choice.ensures c.without.ensures.places (c.is_empty.ensures.0 c.if-not-is_empty.false)
    c.intersection-notes.ensures.places

pub set_worth-requires : goal.set_worth-requires
set_worth-requires c = record {
  row = once_within c.args.job.now c.requires.job c.args.pool.now c.add.new.self c.args.key.now c.args.table.now
      c.known-known.result.now c.choose-choice.result c.without.result c.intersection-notes.result c.in_ok-row.row
      c.in_ok-row.ensures.added c.in_ok-row.ensures.row c.requires.sound c.requires.node c.requires.known c.known-known.ensures
      c.choose-choice.ensures c.without.ensures.places (c.is_empty.ensures.0 c.if-not-is_empty.false)
      c.intersection-notes.ensures.places
      c.set_notes.new.self c.set_notes.ensures.set;
}

pub returns-clause-found : goal.returns-clause-found
returns-clause-found c =
    (once_ends c.args.job.now c.requires.job c.args.pool.now c.add.new.self c.args.key.now c.args.table.now
    c.known-known.result.now c.choose-choice.result c.without.result c.intersection-notes.result c.in_ok-row.row
    c.in_ok-row.ensures.added c.in_ok-row.ensures.row c.requires.sound c.requires.node c.requires.known c.known-known.ensures
    c.choose-choice.ensures c.without.ensures.places (c.is_empty.ensures.0 c.if-not-is_empty.false)
    c.intersection-notes.ensures.places
    c.requires.range c.worth_from-worth.result c.worth_from-worth.ensures c.set_notes.new.self c.set_worth.new.self
    c.set_notes.ensures.set c.set_worth.ensures.set).0

pub returns-clause-known : goal.returns-clause-known
returns-clause-known c =
    (once_ends c.args.job.now c.requires.job c.args.pool.now c.add.new.self c.args.key.now c.args.table.now
    c.known-known.result.now c.choose-choice.result c.without.result c.intersection-notes.result c.in_ok-row.row
    c.in_ok-row.ensures.added c.in_ok-row.ensures.row c.requires.sound c.requires.node c.requires.known c.known-known.ensures
    c.choose-choice.ensures c.without.ensures.places (c.is_empty.ensures.0 c.if-not-is_empty.false)
    c.intersection-notes.ensures.places
    c.requires.range c.worth_from-worth.result c.worth_from-worth.ensures c.set_notes.new.self c.set_worth.new.self
    c.set_notes.ensures.set c.set_worth.ensures.set).1
