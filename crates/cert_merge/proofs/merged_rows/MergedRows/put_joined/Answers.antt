use Rattle.std.proofs.Common.{◌≡◌, Result, Ok, Err, not, true, sym, ap, ◌∙◌, true≢false}
use Rattle.std.specs.Prelude.{OnOk}
use Rattle.cert_merge.proofs.JoinedRows.{second_put, first_put, both_put, equal_put, of_one_row, second_at_most, first_at_most}
use Rattle.cert_merge.proofs.merged_rows.MergedRows.put_joined.Goals.{then-not-is_at_most-2, else-not-is_at_most-2}
use Rattle.cert_merge.proofs.merged_rows.MergedRows.put_joined.Goals as goal

on_ok : {X E : Type 0} (r : Result X E) (P Q : Type 0) → OnOk r P → (P → Q) → OnOk r Q
on_ok (Ok x) P Q is to = to is
on_ok (Err e) P Q is to = tt

pub returns-then-not-is_at_most : goal.returns-then-not-is_at_most
returns-then-not-is_at_most c =
    on_ok c.put_row.result _ _ c.put_row.ensures (λ put job done x y holds are.
    second_put job c.args.bends c.args.stages c.requires.bends c.requires.stages done x y c.args.first.now c.args.second.now are c.put_row.new.self c.is_at_most.result c.is_at_most.ensures c.if-not-is_at_most.true (put job c.args.stages done y holds are.second_is))

pub returns-then-are_equal : goal.returns-then-are_equal
returns-then-are_equal c =
    on_ok c.put_row-then-are_equal.result _ _ c.put_row-then-are_equal.ensures (λ put job done x y holds are.
    let put_first = put job c.args.stages done x holds are.first_is in
    elim c.if-not-is_at_most-2.branch [
      | then-not-is_at_most-2 w ↦
          first_put job c.args.bends c.args.stages c.requires.bends c.requires.stages done x y c.args.first.now c.args.second.now are c.put_row-then-are_equal.new.self c.is_at_most-else-not-is_at_most.result c.is_at_most-else-not-is_at_most.ensures w.if-not-is_at_most-2.true put_first
      | else-not-is_at_most-2 w ↦
          equal_put job c.args.bends c.args.stages c.requires.bends c.requires.stages done x y c.args.first.now c.args.second.now are c.put_row-then-are_equal.new.self c.is_at_most.result c.is_at_most-else-not-is_at_most.result c.is_at_most.ensures c.is_at_most-else-not-is_at_most.ensures
          c.if-not-is_at_most.false (w.are_equal.ensures (sym w.value-is ∙ c.if-are_equal.true)) put_first
    ])

pub put_united-requires-clause-rows : goal.put_united-requires-clause-rows
put_united-requires-clause-rows c =
    let job = c.requires.rows.0 in
    let x = c.requires.rows.1 in
    let y = c.requires.rows.2 in
    let are = c.requires.rows.3 in
    let most : c.is_at_most-else-not-is_at_most.result ≡ true = elim c.if-not-is_at_most-2.branch [
      | then-not-is_at_most-2 w ↦ absurd (true≢false (ap not (sym w.if-not-is_at_most-2.true) ∙ sym w.value-is ∙ c.if-are_equal.false))
      | else-not-is_at_most-2 w ↦ w.if-not-is_at_most-2.false
    ] in (
      job,
      x,
      y,
      of_one_row job c.args.bends c.args.stages x y c.args.first.now c.args.second.now are
          (second_at_most job c.args.bends c.args.stages x y c.args.first.now c.args.second.now are c.is_at_most.result c.is_at_most.ensures ∙ c.if-not-is_at_most.false)
          (first_at_most job c.args.bends c.args.stages x y c.args.first.now c.args.second.now are c.is_at_most-else-not-is_at_most.result c.is_at_most-else-not-is_at_most.ensures ∙ most),
    )

pub returns-else-are_equal : goal.returns-else-are_equal
returns-else-are_equal c =
    let most : c.is_at_most-else-not-is_at_most.result ≡ true = elim c.if-not-is_at_most-2.branch [
      | then-not-is_at_most-2 w ↦ absurd (true≢false (ap not (sym w.if-not-is_at_most-2.true) ∙ sym w.value-is ∙ c.if-are_equal.false))
      | else-not-is_at_most-2 w ↦ w.if-not-is_at_most-2.false
    ] in
    on_ok c.put_united.result _ _ c.put_united.ensures (λ put job done x y holds are.
    both_put job c.args.bends c.args.stages c.requires.bends c.requires.stages done x y c.args.first.now c.args.second.now are c.put_united.new.self c.is_at_most.result c.is_at_most-else-not-is_at_most.result c.is_at_most.ensures c.is_at_most-else-not-is_at_most.ensures
    c.if-not-is_at_most.false most
    (put job done x y holds (of_one_row job c.args.bends c.args.stages x y c.args.first.now c.args.second.now are
    (second_at_most job c.args.bends c.args.stages x y c.args.first.now c.args.second.now are c.is_at_most.result c.is_at_most.ensures ∙ c.if-not-is_at_most.false)
    (first_at_most job c.args.bends c.args.stages x y c.args.first.now c.args.second.now are c.is_at_most-else-not-is_at_most.result c.is_at_most-else-not-is_at_most.ensures ∙ most))))
