use Rattle.std.proofs.Common.{◌+ℤ◌, to_z-of_z, FitsSigned, w64, rules}
use mir.Syntax.{w128}
use Rattle.part_file.proofs.rules.is_along.Goals as goal

pub returns-then-at-ge0 : goal.returns-then-at-ge0
returns-then-at-ge0 c =
    let at64 : FitsSigned w64 c.args.at = c.ranges.at in
    let width64 : FitsSigned w64 c.args.width = c.ranges.width in
    let most64 : FitsSigned w64 c.args.most = c.ranges.most in
    let at128 : FitsSigned w128 c.args.at = search rules in
    let width128 : FitsSigned w128 c.args.width = search rules in
    let most128 : FitsSigned w128 c.args.most = search rules in
    let sum128 : FitsSigned w128 (c.args.at +ℤ c.args.width) = search rules in
    let from_start = simp to_z-of_z at c.if-at-ge0.true in
    simp to_z-of_z (rw from_start)
