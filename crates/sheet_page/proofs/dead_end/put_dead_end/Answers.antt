use Rattle.std.proofs.Common.{◌∙◌, ◌++◌, [], ℕ, List, pos, ◌^◌, FitsSigned, to_z-of_z, w64, ap, subst, arith}
use Rattle.std.proofs.lemmas.Int.{ints}
use Rattle.algebra.proofs.Widths.{fits_64}
use Rattle.brake_base.specs.declared.mask.Mask.{Mask}
use Rattle.job_setup.specs.Setup.{JobData}
use Rattle.plan_lines.specs.declared.note.Note.{Note}
use Rattle.svg_text.specs.Forms.{line_of}
use Rattle.sheet_page.specs.declared.forms.TheConstants.{ROW, SECTION_END}
use Rattle.sheet_page.specs.NoPlan.{dead_end_text}
use Rattle.sheet_page.specs.Pictured.{AreLast}
use Rattle.sheet_page.proofs.dead_end.put_dead_end.Goals as goal

pub returns-clause-value : goal.returns-clause-value
returns-clause-value c =
    let job = c.args.job.now in
    let mask = c.args.mask in
    let notes = c.args.notes.now in
    let figure = c.args.figure in
    let count = c.in_ok-count.count in
    let few = c.in_ok-count.ensures.count in
    let of = c.in_ok-refusals.ensures in
    let made = c.in_ok-refusals.refusals in
    let row = c.put_line.new.out.items in
    let pictured = c.put_pictures.new.out.items in
    let fits : FitsSigned w64 figure = c.ranges.figure in
    let fits_count : FitsSigned w64 count = fits_64 _ (2 ^ 20) (omega (arith, ints, few.low, few.high)) (omega arith) in
    let put : AreLast made.job.now made.mask [] made.notes.now figure (pos 0) count row pictured = simp to_z-of_z at c.in_ok-count.ensures.value in
    let of_these : AreLast job mask [] notes figure (pos 0) count row pictured =
    subst (λ (n : List Note). AreLast job mask [] n figure (pos 0) count row pictured) of.of_notes
    (subst (λ (m : Mask). AreLast job m [] made.notes.now figure (pos 0) count row pictured) of.of_mask
    (subst (λ (j : JobData). AreLast j made.mask [] made.notes.now figure (pos 0) count row pictured) of.of_job put)) in
    let words =
    c.in_ok-put_words.ensures ∙ ap (λ (j : JobData). c.args.out.now.items ++ dead_end_text j made.mask made.notes.now) of.of_job
    ∙ ap (λ (m : Mask). c.args.out.now.items ++ dead_end_text job m made.notes.now) of.of_mask ∙ ap (λ (n : List Note). c.args.out.now.items ++ dead_end_text job mask n) of.of_notes in
    simp to_z-of_z (record {
      pictured = pictured;
      pictures = subst (λ (t : List ℕ). AreLast job mask [] notes figure (pos 0) count t pictured)
          (c.in_ok-put_line.ensures ∙ ap (λ (t : List ℕ). t ++ line_of ROW.now []) words) of_these;
      text = c.in_ok-put_line-3.ensures ∙ ap (λ (t : List ℕ). t ++ line_of SECTION_END.now []) c.in_ok-put_line-2.ensures;
    })
