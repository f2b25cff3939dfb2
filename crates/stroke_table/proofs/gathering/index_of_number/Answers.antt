use Rattle.std.proofs.Common.{ℕ, Option, Some, None, subst}
use Rattle.std.specs.Prelude.{IfSome}
use Rattle.stroke_table.specs.declared.keys.GroupKey.{GroupKey}
use Rattle.stroke_table.specs.declared.records.BoxRecord.{BoxRecord}
use Rattle.stroke_table.specs.Records.{IsFoundOf}
use Rattle.stroke_table.proofs.FoundBoxes.{record_there, found_there}
use Rattle.stroke_table.proofs.gathering.index_of_number.Goals as goal

where_some : (P Q : BoxRecord → Type 0) (o : Option BoxRecord) → ((one : BoxRecord) → P one → Q one) → IfSome o P → IfSome o Q
where_some P Q None each is = is
where_some P Q (Some one) each is = each one is

pub returns-in-Some-clause-some : goal.returns-in-Some-clause-some
returns-in-Some-clause-some c = record_there c.args.kept.now.boxes.items c.box_key-key.result c.in-Some.index c.in-Some.ensures

pub returns-in-Some-clause-found : goal.returns-in-Some-clause-found
returns-in-Some-clause-found c =
    let job = c.args.job.now in
    let mask = c.args.stroke.now.mask in
    where_some _ _ _
    (λ one found. subst (λ (of : GroupKey). IsFoundOf job mask of c.args.number one.found) c.box_key-key.ensures.of (subst (λ (n : ℕ). IsFoundOf job mask c.box_key-key.result.of n one.found) c.box_key-key.ensures.number found))
    (found_there c.args.kept.now.boxes.items c.box_key-key.result c.in-Some.index c.in-Some.ensures job mask c.requires.kept.boxes c.requires.mask c.box_key-key.ensures.box_)

pub returns-in-None-clause-found : goal.returns-in-None-clause-found
returns-in-None-clause-found c =
    let job = c.args.job.now in
    let mask = c.args.stroke.now.mask in
    where_some _ _ _
    (λ one found. subst (λ (of : GroupKey). IsFoundOf job mask of c.args.number one.found) c.box_key-key.ensures.of (subst (λ (n : ℕ). IsFoundOf job mask c.box_key-key.result.of n one.found) c.box_key-key.ensures.number found))
    c.index_of_box.ensures.found
