-- The tools of a setup's stages, by their names and by their places.
use Rattle.std.proofs.Common.{◌≡◌, ℕ, suc, ◌+◌, ◌<◌, Bool, true, cond, nat_lt, List, []}
use Rattle.std.proofs.Common.{◌∷◌, map, length, find, position, Some, None, unwrap_or}
use Rattle.std.proofs.Common.{Ok, ok_or, All, sym, ap, subst, ◌∙◌, arith}
use Rattle.std.specs.Prelude.{bytes_eq}
use Rattle.std.specs.List.{slice_get, position_or_len}
use Rattle.std.proofs.lemmas.Bool.{lt-ltb}
use Rattle.std.proofs.lemmas.Option.{slice_get_within}
use Rattle.std.proofs.lemmas.List.Elements.{All-nil, All-cons}
use Rattle.std.proofs.lemmas.List.Folds.{find_at}
use Rattle.toml_fields.specs.Results.{each_from}
use Rattle.toml_fields.proofs.Bind.{bind_ok, ok_or_ok}
use Rattle.part_file.specs.Part.{PartData}
use Rattle.tool_library.specs.Tools.{PunchData, DieData, ToolsData}
use Rattle.machine_file.specs.Machine.{StageTextData}
use Rattle.job_setup.specs.declared.fault.JobFault.TheVariants.{UnknownTool}
use Rattle.job_setup.specs.Setup.{StageData}
use Rattle.job_setup.specs.Stages.{punch_named, die_named, stage_of_text}
use Rattle.piece_pick.specs.Choice.{IsWant}
use Rattle.setup_choice.specs.Setups.{StageWantData, IsStageWant}
use Rattle.setup_choice.specs.Wanted.{wanted_by}
use Rattle.setup_choice.specs.Fitting.{want_of}

-- what is found in a list stands at its place
pub at_place : {X : Type 0} (p : X → Bool) (xs : List X) (x : X) → find p xs ≡ Some x
    → (unwrap_or (position p xs) 0 < length xs) × (slice_get xs (unwrap_or (position p xs) 0) ≡ Some x)
at_place {X = X} p xs x found =
    let here : slice_get xs (position_or_len p xs) ≡ Some x = sym (find_at p xs) ∙ found in
    let within = slice_get_within xs (position_or_len p xs) x here in
    let test : nat_lt (position_or_len p xs) (length xs) ≡ true = lt-ltb _ _ within in
    let same : unwrap_or (position p xs) 0 ≡ position_or_len p xs =
    ap (λ (b : Bool). unwrap_or (cond b (Some (position_or_len p xs)) None) 0) test in (
      subst (λ (n : ℕ). n < length xs) (sym same) within,
      subst (λ (n : ℕ). slice_get xs n ≡ Some x) (sym same) here,
    )

-- the tools of a wanted stage are there
pub record HasTools (tools : ToolsData) (stage : StageWantData) : Type 0 where
  pub punch : PunchData
  pub die : DieData
  pub is_punch : punch_named tools.punches stage.punch ≡ Some punch
  pub is_die : die_named tools.dies stage.die ≡ Some die

tools_of_text : (part : PartData) (tools : ToolsData) (number : ℕ) (text : StageTextData)
    (stage : StageData) → stage_of_text part tools number text ≡ Ok stage
    → HasTools tools (wanted_by text)
unfolding stage_of_text
tools_of_text part tools number text stage given =
    let punch = bind_ok (ok_or (punch_named tools.punches text.punch) (UnknownTool number)) _ stage
    given in
    let die = bind_ok (ok_or (die_named tools.dies text.die) (UnknownTool number)) _ stage
    punch.2 in
    record {
      punch = punch.0;
      die = die.0;
      is_punch = ok_or_ok _ _ punch.0 punch.1;
      is_die = ok_or_ok _ _ die.0 die.1;
    }

-- where stages are read, their tools are there
pub tools_of_texts : (part : PartData) (tools : ToolsData) (number : ℕ)
    (texts : List StageTextData) (stages : List StageData)
    → each_from (stage_of_text part tools) number texts ≡ Ok stages
    → All (HasTools tools) (map wanted_by texts)
unfolding each_from
tools_of_texts part tools number [] stages given = All-nil (HasTools tools)
tools_of_texts part tools number (text ∷ texts) stages given =
    let one = bind_ok (stage_of_text part tools number text) _ stages given in
    let rest = bind_ok (each_from (stage_of_text part tools) (number + 1) texts) _ stages one.2 in
    All-cons (HasTools tools) (wanted_by text) (map wanted_by texts)
    (tools_of_text part tools number text one.0 one.1)
    (tools_of_texts part tools (number + 1) texts rest.0 rest.1)

want_is : (tools : ToolsData) (stage : StageWantData) → IsStageWant stage → HasTools tools stage
    → IsWant tools (want_of tools stage)
want_is tools stage fit has = record {
  punch = (at_place (λ punch. bytes_eq punch.name stage.punch) tools.punches has.punch
      has.is_punch).0;
  die = (at_place (λ die. bytes_eq die.name stage.die) tools.dies has.die has.is_die).0;
  long = fit.length.bottom;
}

-- what stages want whose tools are there may be picked
pub wants_are : (tools : ToolsData) (stages : List StageWantData) → All IsStageWant stages
    → All (HasTools tools) stages → All (IsWant tools) (map (want_of tools) stages)
wants_are tools [] fit has = All-nil (IsWant tools)
wants_are tools (stage ∷ stages) fit has =
    All-cons (IsWant tools) (want_of tools stage) (map (want_of tools) stages)
    (want_is tools stage (fit 0 stage (omega arith)) (has 0 stage (omega arith)))
    (wants_are tools stages (λ k d within. fit (suc k) d (omega arith))
    (λ k d within. has (suc k) d (omega arith)))
