use Rattle.std.proofs.Common.{ℕ, replicate, ◌∙◌, ap}
use Rattle.bb_search.specs.KnownActions.{TableData}
use Rattle.bb_search.proofs.KnownTables.{none_known_anywhere}
use Rattle.bb_search.proofs.search_table.SearchTable.open.Goals as goal

pub returns-clause-known : goal.returns-clause-known
returns-clause-known c =
    let table : TableData = record { job = c.in_ok-strokes.strokes; known = c.in_ok-known.known } in
    let blank = c.in_ok-known.ensures in
    λ limit. none_known_anywhere c.args.job.now c.set_count.ensures.valid table blank.0 limit c.in_ok-strokes.ensures
    (blank.2 ∙ ap (λ (n : ℕ). replicate n blank.0) c.set_count.ensures.value) blank.1
