use Rattle.std.proofs.Common.{◌∙◌, ◌++◌, ℤ, List, ap}
use Rattle.std.specs.List.{flat_map}
use Rattle.job_setup.specs.Setup.{SetupData}
use Rattle.sheet_figures.specs.Beds.{side_frame_line}
use Rattle.sheet_figures.proofs.bed.put_bed_frames.Goals as goal

pub returns : goal.returns
returns c =
    let is = c.as_slice.ensures.value ∙ ap (λ (s : SetupData). s.frames) c.setup.ensures.value in
    c.in_ok-put_side_frames.ensures ∙ ap (λ (frames : List (ℤ × ℤ)). c.args.out.now.items ++ flat_map (side_frame_line c.args.window.now) frames) is
