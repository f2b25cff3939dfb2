use Rattle.stroke_table.proofs.finding.group_record.Goals as goal

pub returns-in-Some-clause-record_ : goal.returns-in-Some-clause-record_
returns-in-Some-clause-record_ c = c.in-Some.ensures.1 c.args.job.now c.requires.kept

pub returns-in-None-clause-kept : goal.returns-in-None-clause-kept
returns-in-None-clause-kept c = c.keep_group.ensures c.args.job.now c.requires.kept c.find_group-found.ensures.record_
