use Rattle.std.proofs.Common.{◌≡◌, ◌++◌, flat_map, take}
use Rattle.sheet_page.specs.Counts.{count_cell}
use Rattle.sheet_page.specs.Kept.{count_in}
use Rattle.sheet_page.proofs.counts.put_row_counts.Given as goal

-- the cells so far
abbrev pub invariant-loop-kind : goal.invariant-loop-kind
invariant-loop-kind l = l.out.items ≡ l.initial.out.items ++ flat_map (count_cell (count_in l.counts) l.bend) (take l.kind-index l.kinds)
