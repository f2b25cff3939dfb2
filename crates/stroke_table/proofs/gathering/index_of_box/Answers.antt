use Rattle.std.proofs.Common.{Option, refl, sym, subst}
use Rattle.std.specs.Prelude.{IfSome, IsSome}
use Rattle.stroke_table.specs.declared.records.BoxRecord.{BoxRecord}
use Rattle.stroke_table.specs.Records.{IsFoundBox}
use Rattle.stroke_table.proofs.BoxCodes.{box_carried}
use Rattle.stroke_table.proofs.FoundBoxes.{record_there, found_there}
use Rattle.stroke_table.proofs.gathering.index_of_box.Goals as goal

pub returns-in-Ok-clause-some : goal.returns-in-Ok-clause-some
returns-in-Ok-clause-some c = record_there c.args.kept.now.boxes.items c.args.key c.in-Ok.index c.in-Ok.ensures.found

pub returns-in-Ok-clause-found : goal.returns-in-Ok-clause-found
returns-in-Ok-clause-found c = found_there c.args.kept.now.boxes.items c.args.key c.in-Ok.index c.in-Ok.ensures.found c.args.job.now c.args.mask c.requires.kept.boxes c.requires.mask c.requires.box_

pub returns-in-Err-clause-kept : goal.returns-in-Err-clause-kept
returns-in-Err-clause-kept c =
    c.keep_box.ensures.kept c.args.job.now c.requires.kept (λ other fits at. box_carried c.args.job.now c.find_box-found.ensures.valid c.args.key c.args.mask other c.requires.mask fits c.requires.box_ at c.find_box-found.result c.find_box-found.ensures.found)

pub returns-in-Err-clause-some : goal.returns-in-Err-clause-some
returns-in-Err-clause-some c = subst IsSome (sym c.keep_box.ensures.here) refl

pub returns-in-Err-clause-found : goal.returns-in-Err-clause-found
returns-in-Err-clause-found c = subst (λ (o : Option BoxRecord). IfSome o (λ record_. IsFoundBox c.args.job.now c.args.mask c.args.key record_.found)) (sym c.keep_box.ensures.here) c.find_box-found.ensures.found
