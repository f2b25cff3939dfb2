-- One more stage.
use Rattle.std.proofs.Common.{◌≡◌, ℕ, suc, ◌<◌, List, ◌++◌, length, get_or, map, ap, sym, ◌∙◌}
use Rattle.std.specs.List.{flat_map, range_with_len, slice_index_or}
use Rattle.std.proofs.lemmas.List.{get_or-map, length-map}
use Rattle.job_setup.specs.declared.setup.Stage.{Stage}
use Rattle.job_setup.specs.Setup.{StageData, stage_data}
use Rattle.job_setup.specs.StageOf.{no_stage}
use Rattle.setup_sheet.specs.Sheets.{stage_lines, stages_lines}
use Rattle.setup_sheet.proofs.Numbered.{numbered_more}

-- the lines of the stage of a number
abbrev pub lines_of : List StageData → ℕ → List ℕ
lines_of stages s = stage_lines s (slice_index_or stages s no_stage)

-- a text that ends with the lines of the first stages, and then those of the next
pub stages_more : (i : ℕ) (stages : List Stage) (stage : Stage) (front before after : List ℕ) → i < length stages → stage ≡ get_or stages i stage
    → before ≡ front ++ flat_map (lines_of (map stage_data stages)) (range_with_len 0 i)
    → after ≡ before ++ stage_lines i (stage_data stage)
    → after ≡ front ++ flat_map (lines_of (map stage_data stages)) (range_with_len 0 (suc i))
stages_more i stages stage front before after within at so_far grown =
    let here : slice_index_or (map stage_data stages) i no_stage ≡ stage_data stage =
    get_or-map stage_data stages i stage no_stage within ∙ ap (λ (s : Stage). stage_data s) (sym at) in
    numbered_more (lines_of (map stage_data stages)) i front before after _ so_far grown (ap (λ (s : StageData). stage_lines i s) here)

-- the lines of as many stages as there are
pub stages_done : (i : ℕ) (stages : List Stage) (front after : List ℕ) → i ≡ length stages
    → after ≡ front ++ flat_map (lines_of (map stage_data stages)) (range_with_len 0 i)
    → after ≡ front ++ stages_lines (map stage_data stages)
unfolding stages_lines
stages_done i stages front after all so_far =
    so_far ∙ ap (λ (n : ℕ). front ++ flat_map (lines_of (map stage_data stages)) (range_with_len 0 n)) (all ∙ sym (length-map stages stage_data))
