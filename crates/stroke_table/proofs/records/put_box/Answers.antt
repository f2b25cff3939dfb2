use Rattle.std.proofs.Common.{◌∙◌, List, ap, sym, subst, arith}
use Rattle.std.specs.Prelude.{All, slice_get}
use Rattle.std.proofs.lemmas.List.Elements.{All-set, All-push}
use Rattle.stroke_table.specs.declared.records.BoxRecord.{BoxRecord}
use Rattle.stroke_table.specs.Records.{IsBoxRecord}
use Rattle.stroke_table.proofs.TrueRecords.{put_here, pushed_here}
use Rattle.stroke_table.proofs.records.put_box.Goals as goal

pub returns-then-index-len-clause-here : goal.returns-then-index-len-clause-here
returns-then-index-len-clause-here c = put_here c.args.boxes.now.items c.args.index c.args.found (omega (arith, c.if-index-len.true, c.len.ensures))

pub returns-then-index-len-clause-each : goal.returns-then-index-len-clause-each
returns-then-index-len-clause-each c = λ job all is. All-set (IsBoxRecord job) c.args.boxes.now.items c.args.index c.args.found is all

pub returns-else-index-len-clause-here : goal.returns-else-index-len-clause-here
returns-else-index-len-clause-here c =
    ap (λ (xs : List BoxRecord). slice_get xs c.args.index) c.push_reserved.ensures.items
    ∙ pushed_here c.args.boxes.now.items c.args.index c.args.found (omega (arith, c.if-index-len.false, c.len.ensures, c.requires.within))

pub returns-else-index-len-clause-each : goal.returns-else-index-len-clause-each
returns-else-index-len-clause-each c = λ job all is.
    subst (All (IsBoxRecord job)) (sym c.push_reserved.ensures.items) (All-push (IsBoxRecord job) c.args.boxes.now.items c.args.found all is)
