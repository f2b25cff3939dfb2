use Rattle.std.proofs.Common.{◌∙◌, sym}
use Rattle.std.proofs.lemmas.Bool.{false≢true}
use Rattle.std.proofs.lemmas.Int.{to_z-of_z}
use Rattle.job_setup.proofs.Validity.{job_of_parts, shape_of_job}
use Rattle.job_setup.proofs.valid.job_from.Goals.{else-is_shape-via-then-is_shape+else-is_valid, else-is_shape-via-else-is_shape}
use Rattle.job_setup.proofs.valid.job_from.Goals as goal

pub new-requires : goal.new-requires
new-requires c = job_of_parts _ _ _ (c.is_shape.ensures.0 c.if-is_shape.true) (c.is_valid.ensures.0 c.if-is_valid.true)

pub returns-then-is_valid : goal.returns-then-is_valid
returns-then-is_valid c =
    let q_fits = c.ranges.q in
    let fit = job_of_parts _ _ _ (c.is_shape.ensures.0 c.if-is_shape.true) (c.is_valid.ensures.0 c.if-is_valid.true) in
    (simp to_z-of_z at c.new.ensures, simp to_z-of_z at fit)

pub returns-else-is_shape : goal.returns-else-is_shape
returns-else-is_shape c = λ fit.
    let q_fits = c.ranges.q in
    let shape = shape_of_job _ fit in
    elim c.else-is_shape.branch [
      | else-is_shape-via-then-is_shape+else-is_valid w ↦ false≢true (sym w.if-is_valid.false ∙ w.is_valid.ensures.1 fit.setup)
      | else-is_shape-via-else-is_shape w ↦ false≢true (sym w.if-is_shape.false ∙ c.is_shape.ensures.1 (simp to_z-of_z shape))
    ]
