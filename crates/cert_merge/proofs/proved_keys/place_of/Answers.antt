use Rattle.std.proofs.Common.{rules, arith, get_or}
use Rattle.std.proofs.lemmas.List.Sorted.{IsPartitionPoint-from_clause}
use Rattle.cert_lines.specs.declared.row_head.RowHead.{RowHead}
use Rattle.brake_base.specs.Keys.{key_numbers}
use Rattle.cert_merge.specs.MergeSteps.{key_before}
use Rattle.cert_merge.proofs.Orders.{told, tested}
use Rattle.cert_merge.proofs.ProvedWorths.{earlier_too, is_place}
use Rattle.cert_merge.proofs.proved_keys.place_of.Goals as goal

pub returns : goal.returns
returns c =
    let rows = c.args.rows.now in
    let key = c.args.key.now in
    let point = IsPartitionPoint-from_clause (λ (r : RowHead). key_before r.key key) _ _ c.partition_point.ensures.partitioned
    (λ i j d at_most within before. tested (key_numbers (get_or rows i d).key) (key_numbers key) (earlier_too rows c.requires key i j d at_most within (told (key_numbers (get_or rows j d).key) (key_numbers key) before)))
    (λ a r q k. search rules) in
    is_place rows key c.partition_point.result (λ k d less. point.0 k d (omega arith) less) (λ k d past within. point.1 k d past within)
