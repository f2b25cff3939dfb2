use Rattle.std.proofs.Common.{◌≡◌, ◌<◌, ℕ, arith, sym, ◌∙◌, ap, subst}
use Rattle.std.specs.Prelude.{All}
use Rattle.brake_base.specs.declared.stroke.Key.{Key}
use Rattle.row_pool.specs.Index.{HasPlace}
use Rattle.row_pool.specs.Rows.{Pool, keys}
use Rattle.certificate_tests.proofs.row_pool_tests.three_rows.Goals as goal

-- a key of 12 bends at the first or the second stage has a place
has_place : (actions mask stage : ℕ) (key : Key) → actions ≡ 48 → mask < 4096 → stage < 2 → key ≡ record { mask = record { 0 = mask }; attitude = 0; stage = stage } → HasPlace actions key
has_place actions mask stage key is low early same = subst (HasPlace actions) (sym same) (record { mask = low; attitude = omega arith; stage = omega (arith, is, early) })

pub returns : goal.returns
returns c =
    let opened = c.in_ok-pool.ensures.empty in
    let actions = ap (λ (p : Pool). p.actions) opened in
    let second = c.row_of.ensures.actions ∙ actions in
    let third = c.row_of-2.ensures.actions ∙ second in
    let none = subst (λ (p : Pool). All (HasPlace p.actions) (keys p)) (sym opened) (λ k d within. absurd (omega (arith, within))) in
    c.row_of-3.ensures.placed (has_place _ 0 0 c.key-3.result third (omega arith) (omega arith) c.key-3.ensures)
    (c.row_of-2.ensures.placed (has_place _ 4095 0 c.key-2.result second (omega arith) (omega arith) c.key-2.ensures)
    (c.row_of.ensures.placed (has_place _ 4095 1 c.key.result actions (omega arith) (omega arith) c.key.ensures) none))
