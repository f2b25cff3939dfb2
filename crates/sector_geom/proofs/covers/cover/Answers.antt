use Rattle.std.proofs.Common.{sym, subst, rules}
use Rattle.sector_geom.specs.declared.sector.Sector.{Sector}
use Rattle.sector_geom.specs.Covers.{HoldsTurned}
use Rattle.sector_geom.proofs.CornerTables.{cover_by_table, is_cover_by_table}
use Rattle.sector_geom.proofs.CoverLaw.{cover_law}
use Rattle.sector_geom.proofs.CoverShape.{cover_of_some}
use Rattle.sector_geom.proofs.covers.cover.Goals as goal

pub returns-clause-value : goal.returns-clause-value
returns-clause-value c = cover_by_table c.args.quarter c.args.sweep c.args.r _ c.requires.in_quarter c.requires.interior (search rules)

pub returns-clause-holds : goal.returns-clause-holds
returns-clause-holds c =
    subst (λ (s : Sector). HoldsTurned c.args.r c.args.sweep s) (sym (returns-clause-value c)) (cover_law c.args.quarter c.args.sweep c.args.r c.requires.in_quarter c.requires.interior)

pub returns-clause-by : goal.returns-clause-by
returns-clause-by c = is_cover_by_table c.args.quarter c.args.sweep c.args.r _ c.requires.in_range c.requires.in_quarter c.requires.interior (search rules)

pub returns-clause-some : goal.returns-clause-some
returns-clause-some c = cover_of_some c.args.sweep _ (returns-clause-by c)
