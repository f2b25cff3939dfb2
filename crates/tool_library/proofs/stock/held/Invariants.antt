use Rattle.std.proofs.Common.{◌≡◌, ◌≤◌, ◌*◌, take}
use Rattle.tool_library.specs.Stock.{held}
use Rattle.tool_library.proofs.stock.held.Given as goal

abbrev pub invariant-loop-section : goal.invariant-loop-section
invariant-loop-section l = (l.held ≡ held (take l.section-index l.sections) l.piece) × (l.held ≤ 65535 * l.section-index)
