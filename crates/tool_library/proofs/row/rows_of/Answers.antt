use Rattle.std.proofs.Common.{◌≡◌, ◌+◌, ◌++◌, ◌∷◌, [], map, add_assoc, inr, rules, arith}
use Rattle.std.proofs.lemmas.List.{map_push, length-append}
use Rattle.std.proofs.lemmas.List.Elements.{All-push}
use Rattle.std.proofs.lemmas.Result.{err_from_is_err_and}
use Rattle.toml.specs.View.{view}
use Rattle.toml_fields.proofs.Each.{goes_on, stops, is_done}
use Rattle.tool_library.specs.ToolsFile.{of_table}
use Rattle.tool_library.proofs.row.rows_of.Goals as goal

pub returns-in_err-row-clause-value : goal.returns-in_err-row-clause-value
returns-in_err-row-clause-value g c =
    let r = g.R.Row in
    let p = err_from_is_err_and c.from_residual.result c.from_residual.ensures.1 in
    rw (p.1, p.2) (inr (stops view (of_table r.KEY r.row_of) c.args.items.now c.index-items-i.result c.loop-i.i (c.args.first + c.loop-i.i) (map r.view_of c.loop-i.rows.items) c.in_err-row.field-0.0 _ c.loop-i-test.true c.index-items-i.is c.in_err-row.ensures.value c.loop-i.invariant.reads))

pub loop-i-preserved : goal.loop-i-preserved
loop-i-preserved g c =
    let r = g.R.Row in
    let pushed : c.push.new.self.items ≡ c.loop-i.rows.items ++ c.in_ok-row.row ∷ [] = search rules in
    record {
      reads = rw (pushed, map_push r.view_of c.loop-i.rows.items c.in_ok-row.row, ← add_assoc c.args.first c.loop-i.i 1) (goes_on view (of_table r.KEY r.row_of) c.args.items.now c.index-items-i.result c.loop-i.i (c.args.first + c.loop-i.i) (map r.view_of c.loop-i.rows.items) (r.view_of c.in_ok-row.row) _ c.loop-i-test.true c.index-items-i.is c.in_ok-row.ensures.value c.loop-i.invariant.reads);
      fit = rw (pushed, map_push r.view_of c.loop-i.rows.items c.in_ok-row.row) (All-push r.IsRow (map r.view_of c.loop-i.rows.items) (r.view_of c.in_ok-row.row) c.loop-i.invariant.fit c.in_ok-row.ensures.fit);
      count = rw pushed (simp length-append (omega arith));
    }

pub returns-clause-value : goal.returns-clause-value
returns-clause-value g c =
    let r = g.R.Row in
    is_done view (of_table r.KEY r.row_of) c.args.items.now c.loop-i.i (c.args.first + c.loop-i.i) (map r.view_of c.loop-i.rows.items) _ c.loop-i-test.false c.loop-i.invariant.reads
