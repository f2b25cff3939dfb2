use Rattle.std.proofs.Common.{◌≡◌, ◌∙◌, ◌+◌, ◌*◌, ◌^◌, ◌<◌, ◌≤◌, ◌++◌, List, ℤ, pos, ◌+ℤ◌, ℕ, drop, get_or, length, ap, subst, unsigned_abs, FitsSigned, to_z-of_z, w64, rules, arith}
use Rattle.std.proofs.lemmas.Int.{ints}
use Rattle.algebra.proofs.Widths.{fits_64}
use Rattle.machine_file.specs.Machine.{IsPiece}
use Rattle.job_setup.specs.Setup.{stage_data}
use Rattle.sheet_figures.specs.Fronts.{piece_end, joint_lines}
use Rattle.sheet_figures.proofs.Joints.{joint_step}
use Rattle.sheet_figures.proofs.front.put_joints.Goals as goal

-- the next end lies near too
sum_near : (end piece : ℤ) (i : ℕ) → i < 32 → unsigned_abs end ≤ 2 ^ 40 + i * 2 ^ 24 → IsPiece piece → unsigned_abs (end +ℤ piece) ≤ 2 ^ 40 + (i + 1) * 2 ^ 24
sum_near end piece i few near one = omega (arith, ints, few, near, one.bottom, one.top)

pub loop-piece-init : goal.loop-piece-init
loop-piece-init c = record {
  so_far = search rules;
  near = omega (arith, ints, c.requires.near.x0.0, c.requires.near.x0.1);
}

pub overflow_add-end : goal.overflow_add-end
overflow_add-end c =
    let i = c.loop-piece.piece-index in
    let same = c.as_slice-piece-items.ensures.value in
    let inside : i < length c.args.stage.now.pieces.items = omega (arith, c.loop-piece-test.true, ap length same) in
    let one : IsPiece (get_or c.args.stage.now.pieces.items i (pos 0)) = c.requires.stage.pieces i (pos 0) inside in
    let is : get_or c.as_slice-piece-items.result.now i (pos 0) ≡ get_or c.args.stage.now.pieces.items i (pos 0) = ap (λ (ps : List ℤ). get_or ps i (pos 0)) same in
    omega (arith, ints, is, one.bottom, one.top, c.loop-piece.invariant.near, c.requires.stage.few_pieces, inside)

pub loop-piece-preserved : goal.loop-piece-preserved
loop-piece-preserved c =
    let i = c.loop-piece.piece-index in
    let window = c.args.window.now in
    let stage = stage_data c.args.stage.now in
    let pieces = c.args.stage.now.pieces.items in
    let out = c.loop-piece.out.items in
    let end = c.loop-piece.end in
    let same = c.as_slice-piece-items.ensures.value in
    let inside : i < length pieces = omega (arith, c.loop-piece-test.true, ap length same) in
    let few : i < 32 = omega (arith, inside, c.requires.stage.few_pieces) in
    let piece = get_or pieces i (pos 0) in
    let one : IsPiece piece = c.requires.stage.pieces i (pos 0) inside in
    let near : unsigned_abs end ≤ 2 ^ 40 + i * 2 ^ 24 = subst (λ (z : ℤ). unsigned_abs z ≤ 2 ^ 40 + i * 2 ^ 24) c.loop-piece.end-is c.loop-piece.invariant.near in
    let next : unsigned_abs (end +ℤ piece) ≤ 2 ^ 40 + (i + 1) * 2 ^ 24 = sum_near end piece i few near one in
    let fits_piece : FitsSigned w64 piece = fits_64 _ (2 ^ 24) (omega (arith, ints, one.bottom, one.top)) (omega arith) in
    let fits : FitsSigned w64 (end +ℤ piece) = fits_64 _ (2 ^ 40 + (i + 1) * 2 ^ 24) next (omega (arith, few)) in
    let put : c.put_piece_end.new.out.items ≡ out ++ piece_end window stage (end +ℤ piece) = simp (same, c.loop-piece.end-is, to_z-of_z fits_piece, to_z-of_z fits) at c.in_ok-put_piece_end.ensures in
    let so_far : out ++ joint_lines window stage end (drop i pieces) ≡ c.args.out.now.items ++ joint_lines window stage c.args.stage.now.x0 pieces = simp c.loop-piece.end-is at c.loop-piece.invariant.so_far in
    record {
      so_far = simp (put, same, c.loop-piece.end-is, to_z-of_z fits_piece, to_z-of_z fits) (joint_step window stage end pieces i out inside ∙ so_far);
      near = simp (same, c.loop-piece.end-is, to_z-of_z fits_piece, to_z-of_z fits) next;
    }
