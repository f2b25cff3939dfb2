use Rattle.std.proofs.Common.{◌≡◌, ◌+◌, ◌∙◌, ap, sym, map, refl}
use Rattle.std.proofs.lemmas.List.{get_or-map, take-map}
use Rattle.machine_file.specs.Machine.{stage_text_data}
use Rattle.job_setup.specs.StageStock.{no_stage_text, stage_text_at, is_stage_short}
use Rattle.job_setup.proofs.stock.is_stage_short.Goals as goal

pub returns : goal.returns
unfolding is_stage_short
returns c =
    let text : stage_text_at (map stage_text_data c.args.stages.now) c.args.i ≡ stage_text_data c.index-stages-i.result = get_or-map stage_text_data c.args.stages.now c.args.i c.index-stages-i.result no_stage_text c.requires.within ∙ ap stage_text_data (sym c.index-stages-i.is) in
    rw (c.runs_short.ensures, text, take-map stage_text_data (c.args.i + 1) c.args.stages.now) refl
