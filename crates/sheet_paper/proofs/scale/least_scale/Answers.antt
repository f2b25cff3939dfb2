use Rattle.std.proofs.Common.{◌≡◌, ℕ, ◌<◌, ◌≤◌, ◌^◌, ℤ, pos, inl, inr, get_or, unsigned_abs, FitsSigned, IsTrue, false, to_z, of_z, to_z-of_z, w64, sym, subst, ap, ◌∙◌, arith}
use Rattle.std.proofs.lemmas.Bool.{cases_lt}
use Rattle.algebra.proofs.Widths.{fits_64}
use Rattle.sheet_paper.specs.declared.scale.TheConstants.{SCALES}
use Rattle.sheet_paper.specs.Scales.{HasRoom}
use Rattle.sheet_paper.specs.Windows.{IsScale}
use Rattle.sheet_paper.proofs.Scales.{is_scale, is_small, first_is_least, none_is_last}
use Rattle.sheet_paper.proofs.scale.least_scale.Goals as goal

-- a scale of the series fits its type
scale_fits : (i : ℕ) → i < 62 → FitsSigned w64 (get_or SCALES i (pos 0))
scale_fits i within = fits_64 _ (2 ^ 23) (is_small _ (is_scale i within)) (omega arith)

pub has_room-requires-clause-scale : goal.has_room-requires-clause-scale
has_room-requires-clause-scale c =
    let i = c.loop-scale.scale-index in
    let within : i < 62 = omega (arith, c.loop-scale-test.true) in
    subst (λ (s : ℤ). unsigned_abs s ≤ 2 ^ 23) (sym (to_z-of_z (scale_fits i within))) (is_small _ (is_scale i within))

pub returns-then-has_room-clause-least : goal.returns-then-has_room-clause-least
returns-then-has_room-clause-least c =
    let i = c.loop-scale.scale-index in
    let within : i < 62 = omega (arith, c.loop-scale-test.true) in
    let s = to_z w64 (of_z w64 (get_or SCALES i (pos 0))) in
    let none : (k : ℕ) → k < i → HasRoom c.args.width c.args.height c.args.across c.args.upright (get_or SCALES k (pos 0)) → ⊥ = λ k before there. c.loop-scale.invariant k before (simp (to_z-of_z c.ranges.width, to_z-of_z c.ranges.height, to_z-of_z c.ranges.across, to_z-of_z c.ranges.upright) there) in
    let room : HasRoom c.args.width c.args.height c.args.across c.args.upright s = simp (to_z-of_z c.ranges.width, to_z-of_z c.ranges.height, to_z-of_z c.ranges.across, to_z-of_z c.ranges.upright) at (c.has_room.ensures.0 c.if-has_room.true) in
    first_is_least c.args.width c.args.height c.args.across c.args.upright s i within (to_z-of_z (scale_fits i within)) none room

pub returns-then-has_room-clause-valid : goal.returns-then-has_room-clause-valid
returns-then-has_room-clause-valid c =
    let i = c.loop-scale.scale-index in
    let within : i < 62 = omega (arith, c.loop-scale-test.true) in
    subst (λ (s : ℤ). IsScale s) (sym (to_z-of_z (scale_fits i within))) (is_scale i within)

pub loop-scale-preserved : goal.loop-scale-preserved
loop-scale-preserved c = λ k before there.
    let i = c.loop-scale.scale-index in
    let within : i < 62 = omega (arith, c.loop-scale-test.true) in
    elim (cases_lt k i) [
      | inl earlier ↦ c.loop-scale.invariant k earlier there
      | inr late ↦
          let here : k ≡ i = omega (arith, before, late) in
          let same : get_or SCALES k (pos 0) ≡ to_z w64 (of_z w64 (get_or SCALES i (pos 0))) = ap (λ (n : ℕ). get_or SCALES n (pos 0)) here ∙ sym (to_z-of_z (scale_fits i within)) in
          let holds : IsTrue c.has_room.result = c.has_room.ensures.1 (subst (λ (s : ℤ). HasRoom (to_z w64 (of_z w64 c.args.width)) (to_z w64 (of_z w64 c.args.height)) (to_z w64 (of_z w64 c.args.across)) (to_z w64 (of_z w64 c.args.upright)) s) same there) in
          let fails : c.has_room.result ≡ false = c.if-has_room.false in
          absurd (cc)
    ]

pub returns-clause-least : goal.returns-clause-least
returns-clause-least c =
    let done : 62 ≤ c.loop-scale.scale-index = omega (arith, c.loop-scale-test.false) in
    none_is_last c.args.width c.args.height c.args.across c.args.upright (λ k within there. c.loop-scale.invariant k (omega (arith, done, within)) (simp (to_z-of_z c.ranges.width, to_z-of_z c.ranges.height, to_z-of_z c.ranges.across, to_z-of_z c.ranges.upright) there))
