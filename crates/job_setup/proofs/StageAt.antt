-- The stages of a job as the code reads them.
use Rattle.std.proofs.Common.{◌≡◌, ℕ, ◌<◌, List, map, length, get_or, ◌∙◌, ap, sym, subst, arith}
use Rattle.std.proofs.lemmas.List.{length-map, get_or-map}
use Rattle.job_setup.specs.declared.setup.Stage.{Stage}
use Rattle.job_setup.specs.Setup.{StageData, JobData, stage_data}
use Rattle.job_setup.specs.ValidJob.{IsJob}
use Rattle.job_setup.specs.Near.{IsNearStage}
use Rattle.job_setup.specs.StageOf.{no_stage, stage_of}
use Rattle.job_setup.proofs.Near.{setup_near}

-- the index of a stage lies within the code's list
pub stage_within : (job : JobData) (items stages : List Stage) (i n : ℕ) → map stage_data items ≡ job.setup.stages → stages ≡ items → i ≡ n → n < length job.setup.stages → i < length stages
stage_within job items stages i n listed same number inside =
    let long : length items ≡ length job.setup.stages = sym (length-map items stage_data) ∙ ap length listed in
    omega (arith, number, inside, long, ap length same)

-- the stage at that index
pub stage_is : (job : JobData) (items stages : List Stage) (i n : ℕ) (stage : Stage) → map stage_data items ≡ job.setup.stages → stages ≡ items → i ≡ n → n < length job.setup.stages → stage ≡ get_or stages i stage
    → stage_data stage ≡ stage_of job n
stage_is job items stages i n stage listed same number inside here =
    let within = stage_within job items stages i n listed same number inside in
    let at : get_or (map stage_data stages) i no_stage ≡ stage_data stage = get_or-map stage_data stages i stage no_stage within ∙ ap stage_data (sym here) in
    sym at ∙ ap (λ (xs : List Stage). get_or (map stage_data xs) i no_stage) same ∙ ap (λ (xs : List StageData). get_or xs i no_stage) listed ∙ ap (λ (k : ℕ). get_or job.setup.stages k no_stage) number

pub stage_is_near : (job : JobData) (n : ℕ) (stage : StageData) → IsJob job → n < length job.setup.stages → stage ≡ stage_of job n → IsNearStage stage
stage_is_near job n stage valid inside is = subst IsNearStage (sym is) ((setup_near job valid).stages n no_stage inside)
