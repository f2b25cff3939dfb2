use Rattle.std.proofs.Common.{◌≡◌, ℕ}
use Rattle.std.specs.Prelude.{nat_lt, not, ◌&&◌}
use Rattle.brake_base.specs.declared.stroke.Back.{Back}
use Rattle.sheet_page.specs.Left.{is_noted}
use Rattle.sheet_page.specs.Ways.{has_mark}
use Rattle.sheet_page.proofs.left.ways_left.Given as goal

-- the ways so far
abbrev pub invariant-loop-stage : goal.invariant-loop-stage
invariant-loop-stage l =
    (back : Back) (station : ℕ) → has_mark l.ways back station
    ≡ (nat_lt station l.stage && not (is_noted l.job l.notes (record { bend = l.bend; back = back; stage = station })))
