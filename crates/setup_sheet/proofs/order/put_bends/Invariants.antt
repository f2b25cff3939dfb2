use Rattle.std.proofs.Common.{◌≡◌, ◌++◌, pos, take}
use Rattle.std.specs.List.{flat_map}
use Rattle.setup_sheet.specs.Sheets.{field}
use Rattle.setup_sheet.proofs.order.put_bends.Given as goal

abbrev pub invariant-loop-bend : goal.invariant-loop-bend
invariant-loop-bend l = l.out.items ≡ l.initial.out.items ++ flat_map (λ b. field (pos b)) (take l.bend-index l.bends)
