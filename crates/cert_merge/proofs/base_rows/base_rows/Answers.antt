use Rattle.std.proofs.Common.{◌≡◌, ◌∙◌, ◌-◌, List, length, subst, refl, arith, rules, vec_len}
use Rattle.cert_lines.specs.declared.row_head.RowHead.{RowHead}
use Rattle.cert_merge.specs.BaseRows.{AreTaken}
use Rattle.cert_merge.specs.MergeSteps.{table_said}
use Rattle.cert_merge.specs.Table.{IsTable}
use Rattle.cert_merge.proofs.BaseTaking.{are_cut}
use Rattle.cert_merge.proofs.SaidTexts.{long_enough}
use Rattle.cert_merge.proofs.base_rows.base_rows.Goals as goal

pub rows_behind-texts-requires : goal.rows_behind-texts-requires
rows_behind-texts-requires c = long_enough c.args.job.now c.requires.text.0 c.args.text.now c.requires.text.1 c.as_slice.result.now (c.as_slice.ensures.value ∙ c.in_ok-beginning.ensures)

pub returns : goal.returns
returns c = λ base is.
    let job = c.args.job.now in
    let is_base : IsTable job base = record { valid = is.valid; rows = is.rows } in
    let left = c.rows_behind-texts.ensures.rows base (c.as_slice.ensures.value ∙ c.in_ok-beginning.ensures) is in
    let first = subst (λ (old : List RowHead). AreTaken job (table_said base) c.args.low old c.in_ok-before.before.now c.take_below.new.heads.items c.take_below.new.texts) c.new-heads.ensures.items (c.in_ok-before.ensures job (table_said base) left) in
    let second = c.in_ok-take_below.ensures job first.so.left first.so.are_left in
    let third = c.in_ok-behind.ensures job second.so.left second.so.are_left in
    let before : vec_len c.take_below.new.heads ≡ length c.take_below.new.heads.items = search rules in
    let upto : vec_len c.take_below-2.new.heads ≡ length c.take_below-2.new.heads.items = search rules in
    are_cut job base is_base c.args.low c.args.high 65535 (omega arith) c.rows_behind-texts.result c.take_below.new.texts c.take_below-2.new.texts c.take_below-3.new.texts c.take_below.new.heads.items c.take_below-2.new.heads.items c.take_below-3.new.heads.items
    c.in_ok-before.before.now c.in_ok-take_below.field-0.now c.in_ok-behind.behind.now first second third _ refl refl refl (λ i. (c.len.ensures ∙ upto) i - (c.len-first.ensures ∙ before) i)
