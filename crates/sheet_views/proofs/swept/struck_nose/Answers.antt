use Rattle.std.proofs.Common.{◌≡◌, ◌∙◌, ◌<◌, ◌≤◌, length, Option, Some, ap, sym, to_z, of_z, w64, arith}
use Rattle.std.specs.Prelude.{option_map}
use Rattle.std.proofs.lemmas.Int.{ints}
use Rattle.std.proofs.lemmas.Option.{slice_get-get_or, slice_get_past}
use Rattle.job_setup.specs.Setup.{StageData}
use Rattle.job_setup.specs.StageOf.{no_stage}
use Rattle.sheet_views.specs.declared.swept.Struck.TheVariants.{Nose}
use Rattle.sheet_views.proofs.swept.struck_nose.Goals as goal

pub returns-then-stage-stages-clause-value : goal.returns-then-stage-stages-clause-value
returns-then-stage-stages-clause-value c =
    let stages = c.args.job.now.setup.stages in
    let inside : c.args.stage < length stages = omega (arith, c.if-stage-stages.true, c.stages.ensures.value) in
    let size : to_z w64 (of_z w64 c.stage_at.result.now.punch.nose) ≡ c.stage_at.result.now.punch.nose = omega (arith, ints) in
    let same = size ∙ ap (λ (s : StageData). s.punch.nose) c.stage_at.ensures.value in
    (λ i. Some (Nose (same i))) ∙ ap (λ (o : Option StageData). option_map (λ s. Nose s.punch.nose) o) (sym (slice_get-get_or stages c.args.stage no_stage inside))

pub returns-else-stage-stages-clause-value : goal.returns-else-stage-stages-clause-value
returns-else-stage-stages-clause-value c =
    let stages = c.args.job.now.setup.stages in
    let past : length stages ≤ c.args.stage = omega (arith, c.if-stage-stages.false, c.stages.ensures.value) in
    ap (λ (o : Option StageData). option_map (λ s. Nose s.punch.nose) o) (sym (slice_get_past stages c.args.stage past))
