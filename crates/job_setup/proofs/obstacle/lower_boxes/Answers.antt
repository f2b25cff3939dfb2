use Rattle.std.proofs.Common.{◌≡◌, ◌∙◌, ap, sym, subst, ℤ, pos, neg_ℤ, ◌-ℤ◌, List, map, to_z, of_z, w64, arith}
use Rattle.std.specs.Prelude.{All}
use Rattle.std.proofs.lemmas.Int.{ints}
use Rattle.std.proofs.lemmas.List.Elements.{All-weaker}
use Rattle.machine_file.specs.declared.machine.Fixed.{Fixed}
use Rattle.job_setup.specs.Setup.{StageData, SetupData, stage_data}
use Rattle.job_setup.specs.StageOf.{stage_of}
use Rattle.job_setup.specs.Near.{IsNearBox}
use Rattle.job_setup.specs.Obstacles.{along_stage, lower_boxes}
use Rattle.job_setup.proofs.Near.{setup_near}
use Rattle.job_setup.proofs.BoxByBox.{group_is}
use Rattle.job_setup.proofs.Solid.{IsSolid, solid_near, first_is, lower_solid}
use Rattle.job_setup.proofs.obstacle.lower_boxes.Goals as goal

pub put_raised-requires-clause-near : goal.put_raised-requires-clause-near
put_raised-requires-clause-near c =
    let job = c.args.job.now in
    let listed : c.as_slice.result.now ≡ job.setup.lower = c.as_slice.ensures.value ∙ ap (λ (s : SetupData). s.lower) c.setup-setup.ensures.value in
    subst (λ (xs : List Fixed). All IsNearBox xs) (sym listed) (setup_near job c.setup-setup.ensures.valid).lower

pub put_raised-requires-clause-by : goal.put_raised-requires-clause-by
put_raised-requires-clause-by c =
    let job = c.args.job.now in
    let tool = (first_is job c.setup-setup.ensures.valid c.requires.some).die in
    let height = ap (λ (s : StageData). s.die.height) c.stage_at.ensures.value in
    (omega (arith, ints, height, tool.sizes.height.bottom, tool.sizes.height.top), omega (arith, ints, height, tool.sizes.height.bottom, tool.sizes.height.top))

pub returns-clause-value : goal.returns-clause-value
returns-clause-value c =
    let job = c.args.job.now in
    let tool = (first_is job c.setup-setup.ensures.valid c.requires.some).die in
    let same = ap (λ (s : StageData). s.die.height) c.stage_at.ensures.value in
    let height : to_z w64 (of_z w64 (pos 0 -ℤ to_z w64 (of_z w64 c.stage_at.result.now.die.height))) ≡ neg_ℤ (stage_of job 0).die.height = omega (arith, ints, same, tool.sizes.height.bottom, tool.sizes.height.top) in
    group_is (λ stage. map (along_stage stage) stage.die.body) _ _ _ _ _ _ _ _ _ c.put_dies.ensures.value c.put_raised.ensures.value c.new-boxes.ensures height (c.as_slice.ensures.value ∙ ap (λ (s : SetupData). s.lower) c.setup-setup.ensures.value)
    (ap (map stage_data) c.as_slice-2.ensures.value ∙ ap (λ (s : SetupData). s.stages) c.setup-setup.ensures.value)

pub returns-clause-near : goal.returns-clause-near
returns-clause-near c =
    let job = c.args.job.now in
    subst (λ (xs : List Fixed). All IsNearBox xs) (sym (returns-clause-value c)) (All-weaker IsSolid IsNearBox solid_near _ (lower_solid job c.setup-setup.ensures.valid c.requires.some))
