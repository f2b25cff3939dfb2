use Rattle.std.proofs.Common.{◌≡◌, ◌∙◌, pos, neg_ℤ, ◌-ℤ◌, ap, to_z, of_z, w64, arith}
use Rattle.std.proofs.lemmas.Int.{ints}
use Rattle.part_file.specs.Part.{PartData}
use Rattle.job_setup.specs.Setup.{StageData}
use Rattle.sheet_views.specs.Hazards.{is_tool_met}
use Rattle.sheet_views.proofs.hazards.is_in_die.Goals as goal

pub is_tool_met-requires-clause-low : goal.is_tool_met-requires-clause-low
is_tool_met-requires-clause-low c =
    let thick = c.part.ensures.valid.part.sheet.thickness.range in
    let thickness = ap (λ (p : PartData). p.thickness) c.part.ensures.value in
    omega (arith, ints, thickness, thick.bottom, thick.top)

pub returns : goal.returns
returns c =
    let thick = c.part.ensures.valid.part.sheet.thickness.range in
    let thickness = ap (λ (p : PartData). p.thickness) c.part.ensures.value in
    let by : to_z w64 (of_z w64 (pos 0 -ℤ to_z w64 (of_z w64 c.part.result.now.thickness))) ≡ neg_ℤ c.args.job.now.part.thickness = omega (arith, ints, thickness, thick.bottom, thick.top) in
    let stage = c.stage_at-stage.ensures.value in
    let profile = c.as_slice.ensures.value ∙ ap (λ (s : StageData). s.die.body) stage in
    c.is_tool_met.ensures ∙ (λ i. is_tool_met c.args.finger.now (by i) (stage i) (profile i))
