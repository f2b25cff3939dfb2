-- A setup's refusals don't depend on the pieces of which its stages are made, but for that of the
-- stock: stages that are wanted alike stand alike.
use Rattle.std.proofs.Common.{◌≡◌, ℕ, ◌+◌, ℤ, pos, ◌+ℤ◌, List, [], ◌∷◌, map, length, position}
use Rattle.std.proofs.Common.{Option, Some, None, ◌==◌, Result, Ok, Err, find, ok_or, refl, sym, ap, ◌∙◌}
use Rattle.std.specs.List.{slice_index_or}
use Rattle.std.proofs.Math.IntN.{+ℤ_idl}
use Rattle.std.proofs.lemmas.List.{length-map}
use Rattle.toml_fields.specs.Results.{◌>>=◌, each_from, refuse_first, refuse_found, refuse_if}
use Rattle.part_file.specs.Part.{PartData}
use Rattle.part_file.proofs.RowData.{position_map}
use Rattle.unfolder.specs.Blank.{pairs_below}
use Rattle.tool_library.specs.Tools.{PunchData, DieData, LoadData, ToolsData}
use Rattle.machine_file.specs.Machine.{StageTextData, MachineData}
use Rattle.job_setup.specs.declared.fault.JobFault.{JobFault}
use Rattle.job_setup.specs.declared.fault.JobFault.TheVariants.{UnknownTool, UnequalHeight, OffBed}
use Rattle.job_setup.specs.declared.fault.JobFault.TheVariants.{NoStage, NoLoad, TwoLoads}
use Rattle.job_setup.specs.Setup.{StageData}
use Rattle.job_setup.specs.Stages.{punch_named, die_named, total, stage_with, stage_of_text}
use Rattle.job_setup.specs.Places.{heights, range, is_unequal, is_overlap, is_off_bed}
use Rattle.job_setup.specs.Places.{refuse_pair, places_fit}
use Rattle.job_setup.specs.Loads.{lacks_load, has_two_loads, loads_fit}
use Rattle.setup_choice.specs.Setups.{StageWantData, OneSetupData}
use Rattle.setup_choice.specs.Wanted.{wanted_by}
use Rattle.setup_choice.specs.Fitting.{in_one_piece, stages_stand}

-- a stage without its pieces
abbrev pub bare : StageData → StageData
bare s = record {
  punch = s.punch;
  die = s.die;
  x0 = s.x0;
  x1 = s.x1;
  pieces = [];
  load = s.load;
  limit = s.limit;
}

-- what is read of stages is read of them without their pieces
same_read : {A : Type 0} (f : StageData → A) → ((s : StageData) → f (bare s) ≡ f s)
    → (stages : List StageData) → map f (map bare stages) ≡ map f stages
same_read f same [] = refl
same_read {A = A} f same (s ∷ stages) =
    ap (λ (x : A). x ∷ map f (map bare stages)) (same s)
    ∙ ap (λ (xs : List A). f s ∷ xs) (same_read f same stages)

-- where stages stand, by their heights, their ranges, the first off the bed, and their number
placed_by : List (ℤ × ℤ) → List (ℤ × ℤ) → Option ℕ → ℕ → Result (Unit {0}) JobFault
placed_by tall wide off number = do
  level ← refuse_first (λ i. is_unequal (slice_index_or tall 0 (pos 0, pos 0))
      (slice_index_or tall i (pos 0, pos 0))) number UnequalHeight
  apart ← refuse_pair (find (λ pair. is_overlap (slice_index_or wide pair.0 (pos 0, pos 0))
      (slice_index_or wide pair.1 (pos 0, pos 0))) (pairs_below number))
  on_bed ← refuse_found off OffBed
  refuse_if (number == 0) NoStage

placed : (bed : ℤ × ℤ) (stages : List StageData) → places_fit bed stages ≡ placed_by
    (map heights stages) (map range stages) (position (is_off_bed bed) stages) (length stages)
unfolding places_fit placed_by
placed bed stages = refl

places_bare : (bed : ℤ × ℤ) (stages : List StageData)
    → places_fit bed (map bare stages) ≡ places_fit bed stages
places_bare bed stages =
    let bares = map bare stages in
    placed bed bares
    ∙ ap (λ (tall : List (ℤ × ℤ)). placed_by tall (map range bares)
    (position (is_off_bed bed) bares) (length bares)) (same_read heights (λ s. refl) stages)
    ∙ ap (λ (wide : List (ℤ × ℤ)). placed_by (map heights stages) wide
    (position (is_off_bed bed) bares) (length bares)) (same_read range (λ s. refl) stages)
    ∙ ap (λ (off : Option ℕ). placed_by (map heights stages) (map range stages) off
    (length bares)) (position_map (is_off_bed bed) bare stages)
    ∙ ap (λ (number : ℕ). placed_by (map heights stages) (map range stages)
    (position (is_off_bed bed) stages) number) (length-map stages bare)
    ∙ sym (placed bed stages)

loads_bare : (part : PartData) (loads : List LoadData) (stages : List StageData)
    → loads_fit part loads (map bare stages) ≡ loads_fit part loads stages
unfolding loads_fit
loads_bare part loads stages =
    ap (λ (none : Option ℕ). refuse_found none NoLoad
    >>= λ some. refuse_found (position (has_two_loads part loads) (map bare stages)) TwoLoads)
    (position_map (lacks_load part loads) bare stages)
    ∙ ap (λ (two : Option ℕ). refuse_found (position (lacks_load part loads) stages) NoLoad
    >>= λ some. refuse_found two TwoLoads) (position_map (has_two_loads part loads) bare stages)

-- the refusals of stages that have their tools
abbrev pub judged : PartData → ToolsData → MachineData → List StageData
    → Result (Unit {0}) JobFault
judged part tools machine stages = do
  placed ← places_fit machine.bed stages
  loads_fit part tools.loads stages

judged_bare : (part : PartData) (tools : ToolsData) (machine : MachineData)
    (stages : List StageData)
    → judged part tools machine (map bare stages) ≡ judged part tools machine stages
judged_bare part tools machine stages =
    ap (λ (r : Result (Unit {0}) JobFault). r
    >>= λ u. loads_fit part tools.loads (map bare stages)) (places_bare machine.bed stages)
    ∙ ap (λ (r : Result (Unit {0}) JobFault). places_fit machine.bed stages >>= λ u. r)
    (loads_bare part tools.loads stages)

-- stages that are read, without their pieces
abbrev bares : Result (List StageData) JobFault → Result (List StageData) JobFault
bares (Ok stages) = Ok (map bare stages)
bares (Err e) = Err e

judged_read : (part : PartData) (tools : ToolsData) (machine : MachineData)
    (read : Result (List StageData) JobFault)
    → (bares read >>= judged part tools machine) ≡ (read >>= judged part tools machine)
judged_read part tools machine (Ok stages) = judged_bare part tools machine stages
judged_read part tools machine (Err e) = refl

-- a stage that is read, without its pieces
abbrev bare_one : Result StageData JobFault → Result StageData JobFault
bare_one (Ok stage) = Ok (bare stage)
bare_one (Err e) = Err e

-- the stage that is read for a wanted one, without pieces
bare_of : PartData → ToolsData → ℕ → StageWantData → Result StageData JobFault
bare_of part tools number want = bare_one (stage_of_text part tools number (in_one_piece want))

same_end : (part : PartData) (loads : List LoadData) (text : StageTextData) (punch : PunchData)
    (die : DieData) → bare (stage_with part loads text punch die)
    ≡ bare (stage_with part loads (in_one_piece (wanted_by text)) punch die)
same_end part loads text punch die =
    ap (λ (x : ℤ). bare (record {
      punch = (stage_with part loads text punch die).punch;
      die = (stage_with part loads text punch die).die;
      x0 = text.at;
      x1 = text.at +ℤ x;
      pieces = [];
      load = (stage_with part loads text punch die).load;
      limit = (stage_with part loads text punch die).limit;
    })) (sym (+ℤ_idl (total text.pieces)))

one_is : (part : PartData) (tools : ToolsData) (number : ℕ) (text : StageTextData)
    → bare_one (stage_of_text part tools number text)
    ≡ bare_of part tools number (wanted_by text)
unfolding stage_of_text bare_of
one_is part tools number text =
    by_tools (punch_named tools.punches text.punch) (die_named tools.dies text.die)
  where
    by_tools : (p : Option PunchData) (d : Option DieData) → bare_one (ok_or p (UnknownTool number)
        >>= λ punch. ok_or d (UnknownTool number) >>= λ die. Ok (stage_with part tools.loads text
        punch die)) ≡ bare_one (ok_or p (UnknownTool number) >>= λ punch. ok_or d (UnknownTool number)
        >>= λ die. Ok (stage_with part tools.loads (in_one_piece (wanted_by text)) punch die))
    by_tools None d = refl
    by_tools (Some punch) None = refl
    by_tools (Some punch) (Some die) =
        ap (λ (s : StageData). Ok s) (same_end part tools.loads text punch die)

all_are : (part : PartData) (tools : ToolsData) (number : ℕ) (texts : List StageTextData)
    → bares (each_from (stage_of_text part tools) number texts)
    ≡ each_from (bare_of part tools) number (map wanted_by texts)
unfolding each_from
all_are part tools number [] = refl
all_are part tools number (text ∷ texts) =
    by_read (stage_of_text part tools number text) (each_from (stage_of_text part tools) (number + 1) texts)
    (one_is part tools number text) (all_are part tools (number + 1) texts)
  where
    by_read : (one : Result StageData JobFault) (rest : Result (List StageData) JobFault)
        → bare_one one ≡ bare_of part tools number (wanted_by text)
        → bares rest ≡ each_from (bare_of part tools) (number + 1) (map wanted_by texts)
        → bares (one >>= λ y. rest >>= λ ys. Ok (y ∷ ys))
        ≡ (bare_of part tools number (wanted_by text) >>= λ y. each_from (bare_of part tools)
        (number + 1) (map wanted_by texts) >>= λ ys. Ok (y ∷ ys))
    by_read (Ok stage) (Ok stages) is are = rw (← is, ← are) refl
    by_read (Ok stage) (Err e) is are = rw (← is, ← are) refl
    by_read (Err e) rest is are = rw (← is) refl

-- stages in one piece are those that are wanted
pub in_one_is : (stages : List StageWantData) → map wanted_by (map in_one_piece stages) ≡ stages
in_one_is [] = refl
in_one_is (s ∷ stages) =
    ap (λ (n : ℤ). record { punch = s.punch; die = s.die; at = s.at; length = n }
    ∷ map wanted_by (map in_one_piece stages)) (+ℤ_idl s.length)
    ∙ ap (λ (others : List StageWantData). s ∷ others) (in_one_is stages)

-- the stages of a setup stand as any stages do that are made for them
pub stand_alike : (part : PartData) (tools : ToolsData) (machine : MachineData)
    (one : OneSetupData) (texts : List StageTextData) → map wanted_by texts ≡ one.stages
    → stages_stand part tools machine one
    ≡ (each_from (stage_of_text part tools) 0 texts >>= judged part tools machine)
unfolding stages_stand
stand_alike part tools machine one texts wanted =
    let read = each_from (stage_of_text part tools) 0 in
    let same : bares (read (map in_one_piece one.stages)) ≡ bares (read texts) =
    all_are part tools 0 (map in_one_piece one.stages)
    ∙ ap (each_from (bare_of part tools) 0) (in_one_is one.stages ∙ sym wanted)
    ∙ sym (all_are part tools 0 texts) in
    sym (judged_read part tools machine (read (map in_one_piece one.stages)))
    ∙ ap (λ (r : Result (List StageData) JobFault). r >>= judged part tools machine) same
    ∙ judged_read part tools machine (read texts)

-- where the stages of a setup can't be read, don't stand, or come to their loads
pub unread : (part : PartData) (tools : ToolsData) (machine : MachineData) (one : OneSetupData)
    (texts : List StageTextData) (e : JobFault) → map wanted_by texts ≡ one.stages
    → each_from (stage_of_text part tools) 0 texts ≡ Err e
    → stages_stand part tools machine one ≡ Err e
unread part tools machine one texts e wanted read =
    stand_alike part tools machine one texts wanted
    ∙ ap (λ (r : Result (List StageData) JobFault). r >>= judged part tools machine) read

pub unplaced : (part : PartData) (tools : ToolsData) (machine : MachineData) (one : OneSetupData)
    (texts : List StageTextData) (stages : List StageData) (e : JobFault)
    → map wanted_by texts ≡ one.stages → each_from (stage_of_text part tools) 0 texts ≡ Ok stages
    → places_fit machine.bed stages ≡ Err e → stages_stand part tools machine one ≡ Err e
unplaced part tools machine one texts stages e wanted read placed =
    stand_alike part tools machine one texts wanted
    ∙ ap (λ (r : Result (List StageData) JobFault). r >>= judged part tools machine) read
    ∙ ap (λ (r : Result (Unit {0}) JobFault). r >>= λ u. loads_fit part tools.loads stages) placed

pub at_loads : (part : PartData) (tools : ToolsData) (machine : MachineData) (one : OneSetupData)
    (texts : List StageTextData) (stages : List StageData) → map wanted_by texts ≡ one.stages
    → each_from (stage_of_text part tools) 0 texts ≡ Ok stages
    → places_fit machine.bed stages ≡ Ok tt
    → stages_stand part tools machine one ≡ loads_fit part tools.loads stages
at_loads part tools machine one texts stages wanted read placed =
    stand_alike part tools machine one texts wanted
    ∙ ap (λ (r : Result (List StageData) JobFault). r >>= judged part tools machine) read
    ∙ ap (λ (r : Result (Unit {0}) JobFault). r >>= λ u. loads_fit part tools.loads stages) placed
