use Rattle.std.proofs.Common.{◌≡◌, ◌∙◌, sym, subst, ◌+◌, ◌-◌, ◌*◌, ◌≤◌, ◌<◌, ◌^◌, ◌++◌, take, drop, length, get_or, unsigned_abs, ℕ, ℤ, pos, ◌-ℤ◌, FitsSigned, to_z-of_z, w64, arith}
use Rattle.std.specs.Int.{int_min}
use Rattle.std.proofs.Math.ListN.{set}
use Rattle.std.proofs.lemmas.List.{get_or_default, length-set, get_or-set_other}
use Rattle.algebra.proofs.Widths.{abs-sub, fits_64}
use Rattle.sheet_paper.specs.Spreading.{pushed_down}
use Rattle.sheet_paper.proofs.Spreads.{down_step, least_near}
use Rattle.sheet_paper.proofs.spreading.push_down.Goals as goal

pub loop-done-preserved : goal.loop-done-preserved
loop-done-preserved c =
    let done = c.loop-done.done in
    let places = c.loop-done.places in
    let i = length places - 1 - done in
    let gap = c.args.gap in
    let most = c.loop-done.most in
    let some : done < length places = omega (arith, c.loop-done-test.true, c.loop-done.auto.places) in
    let within : i < length places = omega (arith, some) in
    let place = get_or places i (pos 0) in
    let moved = int_min place most in
    let place_near : unsigned_abs place ≤ 2 ^ 57 = c.loop-done.invariant.near i (pos 0) (omega (arith, some)) in
    let most_near : unsigned_abs most ≤ 2 ^ 57 + done * 2 ^ 52 = subst (λ (z : ℤ). unsigned_abs z ≤ 2 ^ 57 + done * 2 ^ 52) c.loop-done.most-is c.loop-done.invariant.most in
    let moved_near : unsigned_abs moved ≤ 2 ^ 57 + done * 2 ^ 52 = least_near place most (2 ^ 57 + done * 2 ^ 52) (omega (arith, place_near)) most_near in
    let next_near : unsigned_abs (moved -ℤ gap) ≤ (2 ^ 57 + done * 2 ^ 52) + 2 ^ 52 = abs-sub moved gap (2 ^ 57 + done * 2 ^ 52) (2 ^ 52) moved_near c.requires.gap in
    let few : done < 16 = omega (arith, c.loop-done-test.true, c.requires.few) in
    let fits_place : FitsSigned w64 place = fits_64 _ (2 ^ 57) place_near (omega arith) in
    let fits_moved : FitsSigned w64 moved = fits_64 _ (2 ^ 57 + done * 2 ^ 52) moved_near (omega (arith, few)) in
    let fits_next : FitsSigned w64 (moved -ℤ gap) = fits_64 _ ((2 ^ 57 + done * 2 ^ 52) + 2 ^ 52) next_near (omega (arith, few)) in
    let is : c.min-moved.result ≡ moved = simp (to_z-of_z fits_place, c.loop-done.most-is) at c.min-moved.ensures.value in
    let so_far : pushed_down most gap (take (length places - done) places) ++ drop (length places - done) places ≡ pushed_down c.args.high gap c.args.places.now = simp (c.loop-done.most-is, to_z-of_z c.ranges.gap, to_z-of_z c.ranges.high) at c.loop-done.invariant.so_far in
    let same : length (set places i moved) ≡ length places = length-set places i moved in
    let before : length (set places i moved) - (done + 1) ≡ i = omega (arith, same, some) in
    let more : length places - done ≡ i + 1 = omega (arith, some) in
    record {
      so_far = simp (is, to_z-of_z fits_moved, to_z-of_z c.ranges.gap, to_z-of_z fits_next, to_z-of_z c.ranges.high) (down_step gap most place places i (length (set places i moved) - (done + 1)) (length places - done) before more within (get_or_default places i (pos 0) place within) ∙ so_far);
      most = simp (is, to_z-of_z fits_moved, to_z-of_z c.ranges.gap, to_z-of_z fits_next) (omega (arith, next_near));
      near = simp (is, to_z-of_z fits_moved) (λ (k : ℕ) (d : ℤ) (h : k < length (set places i moved) - (done + 1)).
          subst (λ (z : ℤ). unsigned_abs z ≤ 2 ^ 57) (sym (get_or-set_other places i k moved d (λ e. omega (arith, e, h, before)))) (c.loop-done.invariant.near k d (omega (arith, h, before, more))));
    }
