use Rattle.std.proofs.Common.{List, take, ◌∙◌, sym, subst}
use Rattle.std.specs.Prelude.{All}
use Rattle.machine_file.specs.declared.machine.Fixed.{Fixed}
use Rattle.job_setup.specs.Near.{IsNearBox}
use Rattle.handling_cost.proofs.Keys.{some_stage}
use Rattle.sheet_views.proofs.Reach.{beam_near}
use Rattle.sheet_views.proofs.hazards.is_in_beam.Goals as goal

pub upper_boxes-boxes-requires : goal.upper_boxes-boxes-requires
upper_boxes-boxes-requires c = record { some = some_stage c.args.job.now c.setup.ensures.valid }

pub is_some_met-requires-clause-near : goal.is_some_met-requires-clause-near
is_some_met-requires-clause-near c =
    let job = c.args.job.now in
    let valid = c.setup.ensures.valid in
    subst (λ (boxes : List Fixed). All IsNearBox (take c.len-count.result boxes)) (sym (c.as_slice.ensures.value ∙ c.upper_boxes-boxes.ensures.value)) (beam_near job valid (some_stage job valid) c.len-count.result)
