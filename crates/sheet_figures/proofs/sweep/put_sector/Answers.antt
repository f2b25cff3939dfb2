use Rattle.std.proofs.Common.{◌≡◌, ◌∙◌, ◌^◌, ℕ, pos, List, ◌++◌, ap, append_assoc, OnOk, FitsSigned, to_z, w64, arith}
use Rattle.std.proofs.lemmas.Int.{to_z_pos}
use Rattle.std.proofs.lemmas.Result.{on_ok_weaker}
use Rattle.algebra.proofs.Widths.{fits_64}
use Rattle.sheet_figures.specs.SweptShapes.{sector_lines, ring_line, wedge_line, wedge_of}
use Rattle.sheet_figures.proofs.sweep.put_sector.Goals as goal

pub returns : goal.returns
unfolding sector_lines
returns c =
    let window = c.args.window.now in
    let radii = c.args.radii in
    let old = c.args.out.now.items in
    let wedge = wedge_line window (wedge_of c.args.cover.now radii.far) in
    let ring = ring_line window (pos radii.near) (pos radii.far) in
    let near : to_z w64 radii.near ≡ pos radii.near = to_z_pos w64 radii.near (omega (arith, c.requires.near)) in
    let far : to_z w64 radii.far ≡ pos radii.far = to_z_pos w64 radii.far (omega (arith, c.requires.far)) in
    let fits_near : FitsSigned w64 (pos radii.near) = fits_64 _ (2 ^ 32) c.requires.near (omega arith) in
    let fits_far : FitsSigned w64 (pos radii.far) = fits_64 _ (2 ^ 32) c.requires.far (omega arith) in
    let first : c.put_wedge.new.out.items ≡ old ++ wedge = c.in_ok-put_wedge.ensures ∙ (λ i. old ++ wedge_line window (c.wedge_of.ensures i)) in
    let last : OnOk c.put_ring.result (c.put_ring.new.out.items ≡ c.put_wedge.new.out.items ++ ring) = simp (near, far) at c.put_ring.ensures in
    on_ok_weaker c.put_ring.result (λ (more : c.put_ring.new.out.items ≡ c.put_wedge.new.out.items ++ ring). more ∙ ap (λ (t : List ℕ). t ++ ring) first ∙ append_assoc old wedge ring) last
