use Rattle.std.proofs.Common.{◌∙◌, ap, length, map, List, ◌-ℤ◌, to_z-of_z, arith}
use Rattle.std.proofs.lemmas.Int.{ints}
use Rattle.unfolder.specs.declared.blank.FlatRect.{FlatRect}
use Rattle.unfolder.specs.declared.blank.FlatFace.{FlatFace}
use Rattle.unfolder.specs.declared.blank.BendLine.{BendLine}
use Rattle.unfolder.specs.Extent.{IsNearRect}
use Rattle.sheet_figures.specs.MovedBlanks.{moved_face, moved_line}
use Rattle.sheet_figures.proofs.Apart.{near_fits, apart_fits}
use Rattle.sheet_figures.proofs.blank.flat_blank.Goals as goal

pub returns-clause-near : goal.returns-clause-near
returns-clause-near c =
    let near : IsNearRect c.extent-extent.result = c.extent-extent.ensures.near (record { faces = c.blank_of-blank.ensures.faces; bends = c.blank_of-blank.ensures.lines }) in
    record {
      some = omega (arith, c.moved_faces.ensures.same, ap length c.as_slice.ensures.value, c.blank_of-blank.ensures.some);
      faces = c.moved_faces.ensures.near;
      lines = c.moved_lines.ensures.near;
      width = omega (arith, ints, near.x0.0, near.x0.1, near.x1.0, near.x1.1);
      height = omega (arith, ints, near.y0.0, near.y0.1, near.y1.0, near.y1.1);
    }

pub returns-clause-moved : goal.returns-clause-moved
returns-clause-moved c =
    let blank = c.blank_of-blank.result in
    let extent = c.extent-extent.result in
    let is = c.extent-extent.ensures.value in
    let near : IsNearRect extent = c.extent-extent.ensures.near (record { faces = c.blank_of-blank.ensures.faces; bends = c.blank_of-blank.ensures.lines }) in
    rw c.blank_of-blank.ensures.value (record {
      faces = c.moved_faces.ensures.value ∙ ap (λ (faces : List FlatFace). map (moved_face extent) faces) c.as_slice.ensures.value ∙ ap (λ (e : FlatRect). map (moved_face e) blank.faces.items) is;
      lines = c.moved_lines.ensures.value ∙ ap (λ (lines : List BendLine). map (moved_line extent) lines) c.as_slice-2.ensures.value ∙ ap (λ (e : FlatRect). map (moved_line e) blank.bends.items) is;
      width = simp (to_z-of_z (near_fits extent.x0 near.x0), to_z-of_z (near_fits extent.x1 near.x1), to_z-of_z (apart_fits extent.x1 extent.x0 near.x1 near.x0)) (ap (λ (e : FlatRect). e.x1 -ℤ e.x0) is);
      height = simp (to_z-of_z (near_fits extent.y0 near.y0), to_z-of_z (near_fits extent.y1 near.y1), to_z-of_z (apart_fits extent.y1 extent.y0 near.y1 near.y0)) (ap (λ (e : FlatRect). e.y1 -ℤ e.y0) is);
    })
