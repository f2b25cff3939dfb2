use Rattle.std.proofs.Common.{◌≡◌, ◌∙◌, sym, subst, ◌+◌, ◌*◌, ◌≤◌, ◌^◌, ◌++◌, ◌∷◌, [], drop, get_or, unsigned_abs, List, ℤ, pos, ◌+ℤ◌, FitsSigned, to_z-of_z, w64, arith}
use Rattle.std.specs.Prelude.{All}
use Rattle.std.specs.Int.{int_max}
use Rattle.std.proofs.lemmas.List.{get_or_default}
use Rattle.std.proofs.lemmas.List.Elements.{All-push}
use Rattle.algebra.proofs.Widths.{abs-add, fits_64}
use Rattle.sheet_paper.specs.Spreading.{pushed_up}
use Rattle.sheet_paper.proofs.Spreads.{up_step, greatest_near}
use Rattle.sheet_paper.proofs.spreading.push_up.Goals as goal

pub loop-place-preserved : goal.loop-place-preserved
loop-place-preserved c =
    let i = c.loop-place.place-index in
    let places = c.args.places.now in
    let pushed = c.loop-place.pushed.items in
    let gap = c.args.gap in
    let least = c.loop-place.least in
    let within = c.loop-place-test.true in
    let place = get_or places i (pos 0) in
    let moved = int_max place least in
    let place_near : unsigned_abs place ≤ 2 ^ 52 = c.requires.near i (pos 0) within in
    let least_near : unsigned_abs least ≤ (i + 1) * 2 ^ 52 = subst (λ (z : ℤ). unsigned_abs z ≤ (i + 1) * 2 ^ 52) c.loop-place.least-is c.loop-place.invariant.least in
    let moved_near : unsigned_abs moved ≤ (i + 1) * 2 ^ 52 = greatest_near place least ((i + 1) * 2 ^ 52) (omega (arith, place_near)) least_near in
    let next_near : unsigned_abs (moved +ℤ gap) ≤ (i + 1) * 2 ^ 52 + 2 ^ 52 = abs-add moved gap ((i + 1) * 2 ^ 52) (2 ^ 52) moved_near c.requires.gap in
    let few : i + 1 ≤ 16 = omega (arith, within, c.requires.few) in
    let fits_place : FitsSigned w64 place = fits_64 _ (2 ^ 52) place_near (omega arith) in
    let fits_moved : FitsSigned w64 moved = fits_64 _ ((i + 1) * 2 ^ 52) moved_near (omega (arith, few)) in
    let fits_next : FitsSigned w64 (moved +ℤ gap) = fits_64 _ ((i + 1) * 2 ^ 52 + 2 ^ 52) next_near (omega (arith, few)) in
    let is : c.max-moved.result ≡ moved = simp (to_z-of_z fits_place, c.loop-place.least-is) at c.max-moved.ensures.value in
    let so_far : pushed ++ pushed_up least gap (drop i places) ≡ pushed_up c.args.low gap places = simp (c.loop-place.least-is, to_z-of_z c.ranges.gap, to_z-of_z c.ranges.low) at c.loop-place.invariant.so_far in
    let now : c.push.new.self.items ≡ pushed ++ moved ∷ [] = simp (is, to_z-of_z fits_moved) at c.push.ensures.items in
    record {
      so_far = simp (now, is, to_z-of_z fits_moved, to_z-of_z c.ranges.gap, to_z-of_z fits_next, to_z-of_z c.ranges.low) (up_step gap least place places pushed i within (get_or_default places i (pos 0) place within) ∙ so_far);
      least = simp (is, to_z-of_z fits_moved, to_z-of_z c.ranges.gap, to_z-of_z fits_next) (omega (arith, next_near));
      few = omega (arith, c.push.ensures.len, c.loop-place.invariant.few);
      near = subst (λ (all : List ℤ). All (λ (z : ℤ). unsigned_abs z ≤ 2 ^ 57) all) (sym now) (All-push (λ (z : ℤ). unsigned_abs z ≤ 2 ^ 57) pushed moved c.loop-place.invariant.near (omega (arith, moved_near, few)));
    }
