use Rattle.std.proofs.Common.{◌∙◌, sym, subst, refl, ◌-◌, ◌<◌, ◌≤◌, arith}
use Rattle.std.proofs.lemmas.Bool.{false≢true}
use Rattle.sector_geom.specs.declared.sector.Sector.{Sector}
use Rattle.sector_geom.specs.Clear.{IsClear}
use Rattle.sector_geom.proofs.Comparisons.{and_then, and_else}
use Rattle.sector_geom.proofs.FreeLaw.{are_halves, free_law, free_deeper, free_if_clear, not_free_at_0, not_free_whole, free_by_halves, unclear, through}
use Rattle.sector_geom.proofs.halving.+free.Goals as goal

pub returns-then-clear-clause-exact : goal.returns-then-clear-clause-exact
returns-then-clear-clause-exact t c =
    let clear = subst (λ (s : Sector). IsClear s c.args.o.now) c.cover.ensures.value (c.clear.ensures.exact.0 c.if-clear.true) in
    (λ _. free_if_clear c.args.depth c.args.quarter c.args.sweep c.args.r c.args.o.now clear, λ _. refl)

pub returns-then-clear-clause-law : goal.returns-then-clear-clause-law
returns-then-clear-clause-law t c =
    λ h. free_law c.args.depth c.args.quarter c.args.sweep c.args.r c.args.o.now (record { in_range = c.requires.in_range; in_quarter = c.requires.in_quarter; interior = c.requires.interior }) ((returns-then-clear-clause-exact t c).0 h)

pub returns-then-clear-clause-deeper : goal.returns-then-clear-clause-deeper
returns-then-clear-clause-deeper t c =
    λ h more l. free_deeper c.args.depth more c.args.quarter c.args.sweep c.args.r c.args.o.now l ((returns-then-clear-clause-exact t c).0 h)

pub returns-then-depth-eq0-clause-exact : goal.returns-then-depth-eq0-clause-exact
returns-then-depth-eq0-clause-exact t c =
    let off = unclear c.args.quarter c.args.sweep c.args.r c.args.o.now c.cover.result c.clear.result c.cover.ensures.value c.clear.ensures.exact c.if-clear.false in
    (λ e. absurd (false≢true e), λ f. absurd (not_free_at_0 c.args.depth c.args.quarter c.args.sweep c.args.r c.args.o.now (grind (arith, c.if-depth-eq0.true)) off f))

pub free-requires : goal.free-requires
free-requires t c =
    let h = are_halves c.args.quarter c.args.r c.in-Some.halves (record { in_range = c.requires.in_range; in_quarter = c.requires.in_quarter; interior = c.requires.interior }) (sym c.halved.ensures ∙ c.in-Some.is) in
    let less : c.args.depth - 1 < t = grind (arith, c.decreases, c.if-depth-eq0.false) in
    let few : c.args.depth - 1 ≤ 12 = omega (arith, c.requires.depth) in
    (less, (h.lower.in_range, (h.lower.in_quarter, (h.lower.interior, (c.requires.other_in_range, (c.requires.other_interior, few))))))

pub free-requires-then-free : goal.free-requires-then-free
free-requires-then-free t c =
    let h = are_halves c.args.quarter c.args.r c.in-Some.halves (record { in_range = c.requires.in_range; in_quarter = c.requires.in_quarter; interior = c.requires.interior }) (sym c.halved.ensures ∙ c.in-Some.is) in
    let less : c.args.depth - 1 < t = grind (arith, c.decreases, c.if-depth-eq0.false) in
    let few : c.args.depth - 1 ≤ 12 = omega (arith, c.requires.depth) in
    (less, (h.upper.in_range, (h.upper.in_quarter, (h.upper.interior, (c.requires.other_in_range, (c.requires.other_interior, few))))))

pub returns-then-free-clause-exact : goal.returns-then-free-clause-exact
returns-then-free-clause-exact t c =
    let off = unclear c.args.quarter c.args.sweep c.args.r c.args.o.now c.cover.result c.clear.result c.cover.ensures.value c.clear.ensures.exact c.if-clear.false in
    through
    (free_by_halves c.args.depth (c.args.depth - 1) c.args.quarter c.args.sweep c.args.r c.args.o.now c.in-Some.halves (grind (arith, c.if-depth-eq0.false)) (sym c.halved.ensures ∙ c.in-Some.is) off)
    (and_then c.free.result c.free-then-free.result c.if-free.true c.free.ensures.exact c.free-then-free.ensures.exact)

pub returns-then-free-clause-law : goal.returns-then-free-clause-law
returns-then-free-clause-law t c =
    λ h. free_law c.args.depth c.args.quarter c.args.sweep c.args.r c.args.o.now (record { in_range = c.requires.in_range; in_quarter = c.requires.in_quarter; interior = c.requires.interior }) ((returns-then-free-clause-exact t c).0 h)

pub returns-then-free-clause-deeper : goal.returns-then-free-clause-deeper
returns-then-free-clause-deeper t c =
    λ h more l. free_deeper c.args.depth more c.args.quarter c.args.sweep c.args.r c.args.o.now l ((returns-then-free-clause-exact t c).0 h)

pub returns-else-free-clause-exact : goal.returns-else-free-clause-exact
returns-else-free-clause-exact t c =
    let off = unclear c.args.quarter c.args.sweep c.args.r c.args.o.now c.cover.result c.clear.result c.cover.ensures.value c.clear.ensures.exact c.if-clear.false in
    through
    (free_by_halves c.args.depth (c.args.depth - 1) c.args.quarter c.args.sweep c.args.r c.args.o.now c.in-Some.halves (grind (arith, c.if-depth-eq0.false)) (sym c.halved.ensures ∙ c.in-Some.is) off)
    (and_else c.free.result c.if-free.false c.free.ensures.exact)

pub returns-in-None-clause-exact : goal.returns-in-None-clause-exact
returns-in-None-clause-exact t c =
    let off = unclear c.args.quarter c.args.sweep c.args.r c.args.o.now c.cover.result c.clear.result c.cover.ensures.value c.clear.ensures.exact c.if-clear.false in
    (λ e. absurd (false≢true e), λ f. absurd (not_free_whole c.args.depth c.args.quarter c.args.sweep c.args.r c.args.o.now (sym c.in-None.is ∙ c.halved.ensures) off f))
