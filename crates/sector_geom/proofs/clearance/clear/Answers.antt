use Rattle.std.proofs.Common.{sym, ◌∙◌}
use Rattle.std.proofs.lemmas.Bool.{false≢true}
use Rattle.sector_geom.proofs.Cases.{apart, clear_past, clear_if_past}
use Rattle.sector_geom.proofs.clearance.clear.Goals as goal

pub returns-then-passes_by-clause-law : goal.returns-then-passes_by-clause-law
returns-then-passes_by-clause-law c = λ t. apart c.args.s.now c.args.r.now c.requires.cover (c.passes_by.ensures.sound t)

pub returns-else-passes_by-clause-exact : goal.returns-else-passes_by-clause-exact
returns-else-passes_by-clause-exact c =
    clear_if_past c.args.s.now c.args.r.now c.special_points_pass.result (λ h. false≢true (sym c.if-passes_by.false ∙ c.passes_by.ensures.complete h)) c.special_points_pass.ensures.exact

pub returns-else-passes_by-clause-law : goal.returns-else-passes_by-clause-law
returns-else-passes_by-clause-law c =
    λ t. apart c.args.s.now c.args.r.now c.requires.cover (clear_past c.args.s.now c.args.r.now (c.special_points_pass.ensures.exact.0 t))
