use Rattle.std.proofs.Common.{◌∙◌, nat_le, filter, length, ap}
use Rattle.job_setup.specs.Setup.{SetupData}
use Rattle.sheet_views.specs.declared.stations.Tool.{Tool}
use Rattle.sheet_views.specs.Stations.{numbered}
use Rattle.sheet_views.proofs.stations.die_boxes.Goals as goal

pub returns : goal.returns
returns c =
    let first = c.len.ensures.value ∙ ap (λ (s : SetupData). length s.lower) c.setup.ensures.value in
    let listed = c.as_slice-2.ensures.value ∙ c.numbered-tools.ensures.value ∙ ap numbered (c.as_slice.ensures.value ∙ c.lower_boxes-boxes.ensures.value) in
    c.numbered_from.ensures ∙ (λ i. filter (λ (tool : Tool). nat_le (first i) tool.index) (listed i))
