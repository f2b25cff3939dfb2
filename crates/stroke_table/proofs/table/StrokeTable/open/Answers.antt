use Rattle.std.proofs.Common.{sym, subst, List, Option}
use Rattle.stroke_table.specs.declared.known.KeptStroke.{KeptStroke}
use Rattle.job_setup.specs.Setup.{JobData}
use Rattle.stroke_table.specs.Table.{IsTable}
use Rattle.stroke_table.specs.Records.{AreKept}
use Rattle.stroke_table.proofs.Places.{no_stroke}
use Rattle.stroke_table.proofs.table.StrokeTable.open.Goals as goal

pub invariant_of-result : goal.invariant_of-result
invariant_of-result c =
    let empty = no_stroke c.args.job.now c.place_count.ensures.few c.place_count.result c.place_count.ensures.value in
    let of_items = subst (λ (strokes : List (Option KeptStroke)). IsTable c.args.job.now strokes) (sym c.in_ok-no_strokes.ensures) empty in
    (subst (λ (job : JobData). IsTable job c.in_ok-no_strokes.field-0.items) (sym c.copy.ensures.value) of_items, subst (λ (job : JobData). AreKept job c.in_ok-open.field-0) (sym c.copy.ensures.value) c.in_ok-open.ensures)
