-- The order of worths, and a cost paid before one.
use Rattle.std.specs.Prelude.{ℕ, ◌+◌, ◌≤◌, max}
use Rattle.brake_base.specs.declared.stroke.Worth.{Worth}
use Rattle.brake_base.specs.declared.stroke.Worth.TheVariants.{Cost, Blocked}

-- the first worth is at most the second: costs are in their order, and Blocked is above every cost
abbrev pub IsAtMost : Worth → Worth → Type 0
IsAtMost worth Blocked = Unit {0}
IsAtMost Blocked (Cost n) = ⊥
IsAtMost (Cost m) (Cost n) = m ≤ n

-- a cost, in tenths of a second, and then a worth: Blocked plus a cost is Blocked
abbrev pub plus : ℕ → Worth → Worth
plus cost (Cost n) = Cost (cost + n)
plus cost Blocked = Blocked

-- the greater of two worths
abbrev pub greater : Worth → Worth → Worth
greater Blocked second = Blocked
greater (Cost first) Blocked = Blocked
greater (Cost first) (Cost second) = Cost (max first second)
