use Rattle.std.proofs.Common.{◌↔◌, IsTrue, refl, sym, subst, arith}
use Rattle.std.proofs.lemmas.Bool.{false≢true}
use Rattle.brake_base.specs.declared.plane.Rect.{Rect}
use Rattle.sector_geom.specs.Plane.{HasInterior, IsInRange}
use Rattle.sector_geom.specs.Clear.{IsClear}
use Rattle.sector_geom.specs.Free.{IsFree}
use Rattle.sector_geom.proofs.CoverShape.{cover_of_some}
use Rattle.sector_geom.proofs.FreeLaw.{free_if_clear, not_free_at_0, unclear}
use Rattle.job_setup.specs.Reasons.{seen_from}
use Rattle.sweep_check.proofs.Bounds.{seen_in_range, seen_interior}
use Rattle.sweep_check.proofs.hits.is_free.Goals as goal

pub clear-requires-clause-cover : goal.clear-requires-clause-cover
clear-requires-clause-cover c =
    let piece = c.args.piece.now in
    let h = c.requires.covered in
    cover_of_some piece.sweep piece.cover (record { piece = piece.rect; quarter = piece.quarter; in_range = h.in_range; in_quarter = h.in_quarter; interior = h.interior; value = h.cover })

pub clear-requires-clause-in_range : goal.clear-requires-clause-in_range
clear-requires-clause-in_range c = subst IsInRange (sym c.seen_from-other.ensures) (seen_in_range c.args.piece.now.half c.args.obstacle.now.rect c.requires.solid.in_range)

pub clear-requires-clause-interior : goal.clear-requires-clause-interior
clear-requires-clause-interior c = subst HasInterior (sym c.seen_from-other.ensures) (seen_interior c.args.piece.now.half c.args.obstacle.now.rect c.requires.solid.interior)

pub returns-then-clear : goal.returns-then-clear
returns-then-clear c =
    let piece = c.args.piece.now in
    let other = seen_from piece.half c.args.obstacle.now.rect in
    let seen = subst (λ (r : Rect). IsClear piece.cover r) c.seen_from-other.ensures (c.clear.ensures.exact.0 c.if-clear.true) in
    let clear = subst (λ s. IsClear s other) c.requires.covered.cover seen in
    (λ _. free_if_clear piece.depth piece.quarter piece.sweep piece.rect other clear, λ _. refl)

pub returns-then-piece-eq0 : goal.returns-then-piece-eq0
returns-then-piece-eq0 c =
    let piece = c.args.piece.now in
    let other = seen_from piece.half c.args.obstacle.now.rect in
    let exact = subst (λ (r : Rect). IsTrue c.clear.result ↔ IsClear piece.cover r) c.seen_from-other.ensures c.clear.ensures.exact in
    let off = unclear piece.quarter piece.sweep piece.rect other piece.cover c.clear.result c.requires.covered.cover exact c.if-clear.false in
    (λ e. absurd (false≢true e), λ f. absurd (not_free_at_0 piece.depth piece.quarter piece.sweep piece.rect other (grind (arith, c.if-piece-eq0.true)) off f))

pub free-requires-clause-other_in_range : goal.free-requires-clause-other_in_range
free-requires-clause-other_in_range c = subst IsInRange (sym c.seen_from-other.ensures) (seen_in_range c.args.piece.now.half c.args.obstacle.now.rect c.requires.solid.in_range)

pub free-requires-clause-other_interior : goal.free-requires-clause-other_interior
free-requires-clause-other_interior c = subst HasInterior (sym c.seen_from-other.ensures) (seen_interior c.args.piece.now.half c.args.obstacle.now.rect c.requires.solid.interior)

pub returns : goal.returns
returns c =
    let piece = c.args.piece.now in
    subst (λ (r : Rect). IsTrue c.free.result ↔ IsFree piece.depth piece.quarter piece.sweep piece.rect r) c.seen_from-other.ensures c.free.ensures.exact
