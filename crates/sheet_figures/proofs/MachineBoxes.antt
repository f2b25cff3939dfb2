-- Boxes of the machine, one after the other.
use Rattle.std.proofs.Common.{◌≡◌, ◌∙◌, ℕ, suc, ◌+◌, ◌<◌, List, ◌∷◌, ◌++◌, length, drop, drop-cons, get_or, append_assoc, ap, sym, arith}
use Rattle.machine_file.specs.declared.machine.Fixed.{Fixed}
use Rattle.sheet_paper.specs.declared.window.Window.{Window}
use Rattle.sheet_figures.specs.Tools.{numbered_line}
use Rattle.sheet_figures.specs.Fronts.{front_of, machine_lines}

-- a box more
pub box_step : (form : List ℕ) (window : Window) (boxes : List Fixed) (i : ℕ) (d : Fixed) (out : List ℕ) → i < length boxes
    → (out ++ numbered_line form window i (front_of (get_or boxes i d))) ++ machine_lines form window (i + 1) (drop (i + 1) boxes) ≡ out ++ machine_lines form window i (drop i boxes)
box_step form window boxes i d out inside =
    let box = get_or boxes i d in
    let shown = numbered_line form window i (front_of box) in
    let cons : drop i boxes ≡ box ∷ drop (suc i) boxes = drop-cons boxes i d inside in
    let next : i + 1 ≡ suc i = omega arith in
    append_assoc out shown (machine_lines form window (i + 1) (drop (i + 1) boxes))
    ∙ ap (λ (n : ℕ). out ++ (shown ++ machine_lines form window (i + 1) (drop n boxes))) next
    ∙ ap (λ (rest : List Fixed). out ++ machine_lines form window i rest) (sym cons)
