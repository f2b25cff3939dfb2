use Rattle.sector_geom.specs.Free.{is_short, is_wide, halves_along_y, halves_along_z}
use Rattle.sector_geom.proofs.FreeLaw.{none_chosen, first_chosen, second_chosen}
use Rattle.std.proofs.Common.{sym, ◌∙◌}
use Rattle.sector_geom.proofs.halving.halved.Goals as goal

pub returns-then-is_short : goal.returns-then-is_short
returns-then-is_short c =
    let r = c.args.r.now in
    none_chosen (is_short r) (is_wide r) (halves_along_y r) (halves_along_z r) (sym c.is_short.ensures ∙ c.if-is_short.true)

pub returns-then-is_wide : goal.returns-then-is_wide
returns-then-is_wide c =
    let r = c.args.r.now in
    first_chosen (is_short r) (is_wide r) (halves_along_y r) (halves_along_z r) c.halves_along_y.result (sym c.is_short.ensures ∙ c.if-is_short.false) (sym c.is_wide.ensures ∙ c.if-is_wide.true) c.halves_along_y.ensures

pub returns-else-is_wide : goal.returns-else-is_wide
returns-else-is_wide c =
    let r = c.args.r.now in
    second_chosen (is_short r) (is_wide r) (halves_along_y r) (halves_along_z r) c.halves_along_z.result (sym c.is_short.ensures ∙ c.if-is_short.false) (sym c.is_wide.ensures ∙ c.if-is_wide.false) c.halves_along_z.ensures
