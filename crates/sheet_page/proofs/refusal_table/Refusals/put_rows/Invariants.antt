use Rattle.std.proofs.Common.{◌≡◌, ◌++◌, [], take, flat_map}
use Rattle.sheet_page.specs.Refused.{is_one_row, last_firsts, refusal_row}
use Rattle.sheet_page.proofs.refusal_table.Refusals.put_rows.Given as goal

-- the rows so far
abbrev pub invariant-loop-i : goal.invariant-loop-i
invariant-loop-i l =
    let job = l.self.job.now in
    let mask = l.self.mask in
    let notes = l.self.notes.now in
    l.out.items ≡ l.fn.out.items ++ flat_map (refusal_row job mask notes) (last_firsts (is_one_row job mask) [] (take l.i notes))
