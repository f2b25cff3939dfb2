-- The joints of a station, one after the other.
use Rattle.std.proofs.Common.{◌≡◌, ◌∙◌, ℕ, suc, ◌+◌, ◌<◌, ◌≤◌, ◌^◌, ℤ, pos, neg_ℤ, ◌+ℤ◌, List, ◌∷◌, ◌++◌, length, drop, drop-cons, get_or, append_assoc, ap, sym, subst, unsigned_abs, FitsSigned, w64, arith}
use Rattle.std.proofs.lemmas.Int.{ints}
use Rattle.algebra.proofs.Widths.{abs-neg, fits_64}
use Rattle.tool_library.specs.Tools.{IsHeight}
use Rattle.sheet_paper.specs.declared.window.Window.{Window}
use Rattle.job_setup.specs.Setup.{StageData}
use Rattle.sheet_figures.specs.Fronts.{piece_end, joint_lines}

-- a piece more
pub joint_step : (window : Window) (stage : StageData) (end : ℤ) (pieces : List ℤ) (i : ℕ) (out : List ℕ) → i < length pieces
    → (out ++ piece_end window stage (end +ℤ get_or pieces i (pos 0))) ++ joint_lines window stage (end +ℤ get_or pieces i (pos 0)) (drop (i + 1) pieces) ≡ out ++ joint_lines window stage end (drop i pieces)
joint_step window stage end pieces i out inside =
    let piece = get_or pieces i (pos 0) in
    let shown = piece_end window stage (end +ℤ piece) in
    let cons : drop i pieces ≡ piece ∷ drop (suc i) pieces = drop-cons pieces i (pos 0) inside in
    let next : i + 1 ≡ suc i = omega arith in
    append_assoc out shown (joint_lines window stage (end +ℤ piece) (drop (i + 1) pieces))
    ∙ ap (λ (n : ℕ). out ++ (shown ++ joint_lines window stage (end +ℤ piece) (drop n pieces))) next
    ∙ ap (λ (rest : List ℤ). out ++ joint_lines window stage end rest) (sym cons)

pub height_near : (h : ℤ) → IsHeight h → unsigned_abs h ≤ 2 ^ 20
height_near h is = omega (arith, ints, is.bottom, is.top)

pub height_fits : (h : ℤ) → IsHeight h → FitsSigned w64 h
height_fits h is = fits_64 _ (2 ^ 20) (height_near h is) (omega arith)

pub depth_fits : (h : ℤ) → IsHeight h → FitsSigned w64 (neg_ℤ h)
depth_fits h is = fits_64 _ (2 ^ 20) (subst (λ (n : ℕ). n ≤ 2 ^ 20) (sym (abs-neg h)) (height_near h is)) (omega arith)
