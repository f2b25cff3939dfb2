use Rattle.std.proofs.Common.{to_z-of_z}
use Rattle.sheet_figures.specs.Fronts.{IsFrontWindow}
use Rattle.sheet_figures.proofs.front.put_front.Goals as goal

pub returns-clause-value : goal.returns-clause-value
returns-clause-value c =
    let window = c.front_window-window.result in
    let window_is : IsFrontWindow c.args.number window = simp (to_z-of_z c.ranges.number) at c.front_window-window.ensures.value in
    record { window = window; window_is = window_is; lines = c.in_ok-put_view.ensures.value }

pub returns-clause-grows : goal.returns-clause-grows
returns-clause-grows c = c.in_ok-put_view.ensures.grows
