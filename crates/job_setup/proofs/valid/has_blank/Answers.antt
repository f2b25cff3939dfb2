use Rattle.std.proofs.lemmas.Int.{to_z-of_z}
use Rattle.job_setup.proofs.Validity.{unfolds_where}
use Rattle.job_setup.proofs.valid.has_blank.Goals as goal

pub returns : goal.returns
returns c =
    let q_fits = c.ranges.q in
    unfolds_where c.unfold.result _ c.is_ok.result (simp to_z-of_z at c.unfold.ensures.value) c.is_ok.ensures.value
