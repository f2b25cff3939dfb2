use Rattle.std.proofs.Common.{◌≡◌, ◌∙◌, ap, sym, subst, ◌≤◌, ◌^◌, length, unsigned_abs, List, ℤ, ◌≤ℤ◌, to_z-of_z, arith}
use Rattle.std.specs.Prelude.{All}
use Rattle.sheet_paper.specs.Spreading.{pushed_up, pushed_down, AreApart}
use Rattle.sheet_paper.proofs.Spreads.{same_length, are_apart, all_below, all_above, all_near, up_length, is_spread}
use Rattle.sheet_paper.proofs.spreading.spread.Goals as goal

pub returns-clause-same : goal.returns-clause-same
returns-clause-same c =
    let raised : c.push_up-spread.result.items ≡ pushed_up c.args.low c.args.gap c.args.places.now = simp (to_z-of_z c.ranges.low, to_z-of_z c.ranges.gap) at c.push_up-spread.ensures.value in
    let lowered : c.push_down.new.places ≡ pushed_down c.args.high c.args.gap c.push_up-spread.result.items = simp (to_z-of_z c.ranges.high, to_z-of_z c.ranges.gap, c.as_mut_slice.ensures.value) at c.push_down.ensures in
    let whole = is_spread c.args.low c.args.high c.args.gap c.args.places.now c.push_up-spread.result.items c.push_down.new.places raised lowered in
    ap length whole ∙ same_length c.args.low c.args.high c.args.gap c.args.places.now

pub returns-clause-apart : goal.returns-clause-apart
returns-clause-apart c =
    let raised : c.push_up-spread.result.items ≡ pushed_up c.args.low c.args.gap c.args.places.now = simp (to_z-of_z c.ranges.low, to_z-of_z c.ranges.gap) at c.push_up-spread.ensures.value in
    let lowered : c.push_down.new.places ≡ pushed_down c.args.high c.args.gap c.push_up-spread.result.items = simp (to_z-of_z c.ranges.high, to_z-of_z c.ranges.gap, c.as_mut_slice.ensures.value) at c.push_down.ensures in
    let whole = is_spread c.args.low c.args.high c.args.gap c.args.places.now c.push_up-spread.result.items c.push_down.new.places raised lowered in
    subst (λ (all : List ℤ). AreApart c.args.gap all) (sym whole) (are_apart c.args.high c.args.gap (pushed_up c.args.low c.args.gap c.args.places.now))

pub returns-clause-high : goal.returns-clause-high
returns-clause-high c = λ some.
    let raised : c.push_up-spread.result.items ≡ pushed_up c.args.low c.args.gap c.args.places.now = simp (to_z-of_z c.ranges.low, to_z-of_z c.ranges.gap) at c.push_up-spread.ensures.value in
    let lowered : c.push_down.new.places ≡ pushed_down c.args.high c.args.gap c.push_up-spread.result.items = simp (to_z-of_z c.ranges.high, to_z-of_z c.ranges.gap, c.as_mut_slice.ensures.value) at c.push_down.ensures in
    let whole = is_spread c.args.low c.args.high c.args.gap c.args.places.now c.push_up-spread.result.items c.push_down.new.places raised lowered in
    subst (λ (all : List ℤ). All (λ (place : ℤ). place ≤ℤ c.args.high) all) (sym whole) (all_below c.args.high c.args.gap (pushed_up c.args.low c.args.gap c.args.places.now) some)

pub returns-clause-low : goal.returns-clause-low
returns-clause-low c = λ some room.
    let raised : c.push_up-spread.result.items ≡ pushed_up c.args.low c.args.gap c.args.places.now = simp (to_z-of_z c.ranges.low, to_z-of_z c.ranges.gap) at c.push_up-spread.ensures.value in
    let lowered : c.push_down.new.places ≡ pushed_down c.args.high c.args.gap c.push_up-spread.result.items = simp (to_z-of_z c.ranges.high, to_z-of_z c.ranges.gap, c.as_mut_slice.ensures.value) at c.push_down.ensures in
    let whole = is_spread c.args.low c.args.high c.args.gap c.args.places.now c.push_up-spread.result.items c.push_down.new.places raised lowered in
    subst (λ (all : List ℤ). All (λ (place : ℤ). c.args.low ≤ℤ place) all) (sym whole) (all_above c.args.low c.args.high c.args.gap c.args.places.now some room)

pub returns-clause-near : goal.returns-clause-near
returns-clause-near c =
    let raised : c.push_up-spread.result.items ≡ pushed_up c.args.low c.args.gap c.args.places.now = simp (to_z-of_z c.ranges.low, to_z-of_z c.ranges.gap) at c.push_up-spread.ensures.value in
    let lowered : c.push_down.new.places ≡ pushed_down c.args.high c.args.gap c.push_up-spread.result.items = simp (to_z-of_z c.ranges.high, to_z-of_z c.ranges.gap, c.as_mut_slice.ensures.value) at c.push_down.ensures in
    let whole = is_spread c.args.low c.args.high c.args.gap c.args.places.now c.push_up-spread.result.items c.push_down.new.places raised lowered in
    let few : length (pushed_up c.args.low c.args.gap c.args.places.now) ≤ 16 = omega (arith, up_length c.args.low c.args.gap c.args.places.now, c.requires.few) in
    let near = subst (λ (all : List ℤ). All (λ (place : ℤ). unsigned_abs place ≤ 2 ^ 57) all) raised c.push_up-spread.ensures.near in
    subst (λ (all : List ℤ). All (λ (place : ℤ). unsigned_abs place ≤ 2 ^ 58) all) (sym whole) (all_near c.args.high c.args.gap (pushed_up c.args.low c.args.gap c.args.places.now) few c.requires.high c.requires.gap near)
