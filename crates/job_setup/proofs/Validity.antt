-- The stages that the definition gives, and the jobs whose checks passed, are valid.
use Rattle.std.proofs.Common.{◌≡◌, ℕ, suc, ◌+◌, ℤ, pos, ◌≤ℤ◌, Bool, true, false, List, [], ◌∷◌, length, Option, Some, None, Result, Ok, Err, ok_or, if◌then◌else◌, refl, sym, ◌∙◌, ap, subst, arith}
use Rattle.std.specs.Prelude.{◌≤◌, All, find, bytes_eq, IsOk}
use Rattle.std.specs.Int.{int_min}
use Rattle.std.specs.Ordering.{int_eq}
use Rattle.std.specs.Result.{is_ok}
use Rattle.std.proofs.lemmas.Bool.{false≢true}
use Rattle.std.proofs.lemmas.Int.{ints, clamps}
use Rattle.std.proofs.lemmas.List.Elements.{All-nil, All-cons}
use Rattle.toml_fields.specs.Results.{Gives, each_from}
use Rattle.toml_fields.proofs.Bind.{bind_ok, ok_or_ok, ok_same}
use Rattle.part_file.specs.Part.{PartData, IsPart, half_thickness}
use Rattle.unfolder.specs.declared.blank.Blank.{Blank}
use Rattle.unfolder.specs.declared.blank.UnfoldFault.{UnfoldFault}
use Rattle.unfolder.specs.Blank.{BlankData, blank_data, blank_of_part}
use Rattle.tool_library.specs.Bounds.{greatest_limit}
use Rattle.tool_library.specs.Tools.{PunchData, DieData, LoadData, ToolsData, IsPunch, IsDie, IsLoad, IsLimit, IsTools}
use Rattle.machine_file.specs.Machine.{StageTextData, MachineData, IsStageText, IsMachine}
use Rattle.job_setup.specs.declared.fault.JobFault.TheVariants.{UnknownTool}
use Rattle.fold_boxes.specs.Shapes.{IsShape}
use Rattle.job_setup.specs.Setup.{StageData, SetupData, JobData}
use Rattle.job_setup.specs.Loads.{is_load_for, load_of, stage_load}
use Rattle.job_setup.specs.Stages.{punch_named, die_named, punch_shape, die_shape, least_limit, stage_with, stage_of_text}
use Rattle.job_setup.specs.ValidJob.{IsStage, IsStageLoad, IsSetup, IsJob}
use Rattle.job_setup.specs.Places.{places_fit}
use Rattle.job_setup.specs.JobOf.{setup_of}
use Rattle.job_setup.proofs.Lists.{found_has}

punch_is : (p : PunchData) → IsPunch p → IsPunch (punch_shape p)
punch_is p fit = record {
  name = fit.name;
  sizes = record { height = fit.sizes.height; nose = fit.sizes.nose; limit = record { bottom = omega (arith, ints); top = omega (arith, ints) } };
  lists = record { few_boxes = fit.lists.few_boxes; each_box = fit.lists.each_box; few_sections = omega arith; each_section = λ k d within. absurd (omega arith) };
}

die_is : (d : DieData) → IsDie d → IsDie (die_shape d)
die_is d fit = record {
  name = fit.name;
  sizes = record { height = fit.sizes.height; v = fit.sizes.v; least_flange = fit.sizes.least_flange; limit = record { bottom = omega (arith, ints); top = omega (arith, ints) } };
  lists = record { few_boxes = fit.lists.few_boxes; each_box = fit.lists.each_box; few_sections = omega arith; each_section = λ k d within. absurd (omega arith) };
}

load_is : (part : PartData) (loads : List LoadData) (v : ℤ) → All IsLoad loads → IsStageLoad (stage_load part loads v)
load_is part loads v all = by_found (find (is_load_for part v) loads) refl
  where
    by_found : (found : Option LoadData) → find (is_load_for part v) loads ≡ found → IsStageLoad (load_of found)
    by_found None is = record { bottom = omega (arith, ints); top = omega (arith, ints) }
    by_found (Some row) is =
        let fit : IsLoad row = found_has IsLoad (is_load_for part v) loads row all is in
        record { bottom = omega (arith, ints, fit.load.bottom); top = fit.load.top }

limit_is : (a b : ℤ) → pos 0 ≤ℤ a → a ≤ℤ greatest_limit → pos 0 ≤ℤ b → b ≤ℤ greatest_limit → IsLimit (least_limit a b)
limit_is a b a_low a_high b_low b_high = by_tests (int_eq a (pos 0)) (int_eq b (pos 0))
  where
    by_tests : (no_a no_b : Bool) → IsLimit (if no_a then b else if no_b then a else int_min a b)
    by_tests true no_b = record { bottom = b_low; top = b_high }
    by_tests false true = record { bottom = a_low; top = a_high }
    by_tests false false = record { bottom = omega (arith, ints, clamps, a_low, b_low); top = omega (arith, ints, clamps, a_high) }

stage_is : (part : PartData) (loads : List LoadData) (text : StageTextData) (punch : PunchData) (die : DieData) → All IsLoad loads → IsStageText text → IsPunch punch → IsDie die → IsStage (stage_with part loads text punch die)
stage_is part loads text punch die all fit punch_fit die_fit = record {
  punch = punch_is punch punch_fit;
  die = die_is die die_fit;
  no_punch_sections = refl;
  no_die_sections = refl;
  no_punch_limit = refl;
  no_die_limit = refl;
  at = fit.at;
  long = refl;
  some_piece = fit.some_piece;
  few_pieces = fit.few_pieces;
  pieces = fit.pieces;
  load = load_is part loads die.v all;
  limit = limit_is punch.limit die.limit punch_fit.sizes.limit.bottom punch_fit.sizes.limit.top die_fit.sizes.limit.bottom die_fit.sizes.limit.top;
}

-- the stage that a text gives
one_is : (part : PartData) (tools : ToolsData) → IsTools tools → (number : ℕ) (text : StageTextData) → IsStageText text → (stage : StageData) → stage_of_text part tools number text ≡ Ok stage → IsStage stage
unfolding stage_of_text
one_is part tools fit number text text_fit stage given =
    let punch = bind_ok (ok_or (punch_named tools.punches text.punch) (UnknownTool number)) _ stage given in
    let die = bind_ok (ok_or (die_named tools.dies text.die) (UnknownTool number)) _ stage punch.2 in
    let punch_fit : IsPunch punch.0 = found_has IsPunch (λ p. bytes_eq p.name text.punch) tools.punches punch.0 fit.punches (ok_or_ok _ _ punch.0 punch.1) in
    let die_fit : IsDie die.0 = found_has IsDie (λ d. bytes_eq d.name text.die) tools.dies die.0 fit.dies (ok_or_ok _ _ die.0 die.1) in
    let same : stage_with part tools.loads text punch.0 die.0 ≡ stage = ok_same _ _ die.2 in
    subst IsStage same (stage_is part tools.loads text punch.0 die.0 fit.loads text_fit punch_fit die_fit)

-- all stages that a machine's texts give
pub stages_are : (part : PartData) (tools : ToolsData) → IsTools tools → (number : ℕ) (texts : List StageTextData) → All IsStageText texts → (stages : List StageData) → each_from (stage_of_text part tools) number texts ≡ Ok stages → All IsStage stages
unfolding each_from
stages_are part tools fit number [] texts_fit stages given = let same : [] ≡ stages = ok_same _ _ given in subst (All IsStage) same (All-nil IsStage)
stages_are part tools fit number (text ∷ texts) texts_fit stages given =
    let one = bind_ok (stage_of_text part tools number text) _ stages given in
    let rest = bind_ok (each_from (stage_of_text part tools) (number + 1) texts) _ stages one.2 in
    let one_fit : IsStage one.0 = one_is part tools fit number text (texts_fit 0 text (omega arith)) one.0 one.1 in
    let rest_fit : All IsStage rest.0 = stages_are part tools fit (number + 1) texts (λ k d within. texts_fit (suc k) d (omega arith)) rest.0 rest.1 in
    let same : one.0 ∷ rest.0 ≡ stages = ok_same _ _ rest.2 in
    subst (All IsStage) same (All-cons IsStage one.0 rest.0 one_fit rest_fit)

-- a job whose checks passed
pub job_is : (part : PartData) (q : ℤ) (machine : MachineData) (stages : List StageData) → IsPart part → half_thickness part ≤ℤ q → q ≤ℤ pos 100000 → IsOk (blank_of_part part q) → IsMachine machine → All IsStage stages → length stages ≤ 6
    → places_fit machine.bed stages ≡ Ok tt → IsJob (record { part = part; q = q; setup = setup_of machine stages })
job_is part q machine stages part_fit q_low q_high unfolds fit stages_fit few places = record {
  part = part_fit;
  q_low = q_low;
  q_high = q_high;
  unfolds = unfolds;
  setup = record {
    fixtures = record {
      frames = fit.frames;
      few_frames = fit.few_frames;
      upper = fit.upper;
      few_upper = fit.few_upper;
      lower = fit.lower;
      few_lower = fit.few_lower;
    };
    rules = record { bed = fit.bed; gauge = fit.gauge; cost = fit.cost; uncovered = fit.uncovered; force = fit.force; fine = fit.fine };
    stages = record { each = stages_fit; few_stages = few; places = places };
  };
}

-- a shape and a setup make a job
pub job_of_parts : (part : PartData) (q : ℤ) (setup : SetupData) → IsShape (record { part = part; q = q }) → IsSetup setup → IsJob (record { part = part; q = q; setup = setup })
job_of_parts part q setup shape fit = record { part = shape.part; q_low = shape.q_low; q_high = shape.q_high; unfolds = shape.unfolds; setup = fit }

pub shape_of_job : (job : JobData) → IsJob job → IsShape (record { part = job.part; q = job.q })
shape_of_job job fit = record { part = fit.part; q_low = fit.q_low; q_high = fit.q_high; unfolds = fit.unfolds }

-- a part unfolds where its blank is given
pub unfolds_where : (r : Result Blank UnfoldFault) (defined : Result BlankData UnfoldFault) (ok : Bool) → Gives blank_data r defined → ok ≡ is_ok r → (ok ≡ true → IsOk defined) × (IsOk defined → ok ≡ true)
unfolds_where (Ok blank) defined ok given is = (λ _. ap is_ok given, λ _. is)
unfolds_where (Err fault) defined ok given is = (λ t. absurd (false≢true (sym is ∙ t)), λ fit. absurd (false≢true (sym (ap is_ok given) ∙ fit)))
