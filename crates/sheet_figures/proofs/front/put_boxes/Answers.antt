use Rattle.std.proofs.Common.{◌∙◌, ◌++◌, ◌+◌, ◌<◌, ℕ, List, length, drop, ap, arith}
use Rattle.sheet_paper.specs.declared.window.Area.{Area}
use Rattle.sheet_figures.specs.Tools.{numbered_line}
use Rattle.sheet_figures.specs.Fronts.{machine_lines}
use Rattle.sheet_figures.proofs.MachineBoxes.{box_step}
use Rattle.sheet_figures.proofs.front.put_boxes.Goals as goal

pub loop-i-preserved : goal.loop-i-preserved
loop-i-preserved c =
    let form = c.args.form.now in
    let window = c.args.window.now in
    let boxes = c.args.boxes.now in
    let i = c.loop-i.i in
    let inside : i < length boxes = omega (arith, c.loop-i-test.true) in
    ap (λ (t : List ℕ). t ++ machine_lines form window (i + 1) (drop (i + 1) boxes)) (c.in_ok-put_numbered.ensures ∙ ap (λ (area : Area). c.loop-i.out.items ++ numbered_line form window i area) c.front_of.ensures)
    ∙ box_step form window boxes i _ c.loop-i.out.items inside ∙ c.loop-i.invariant
