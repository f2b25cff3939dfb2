use Rattle.std.proofs.Common.{◌≡◌, ◌++◌, flat_map, take}
use Rattle.sheet_page.specs.Counts.{kind_head}
use Rattle.sheet_page.specs.Kept.{count_in}
use Rattle.sheet_page.proofs.counts.put_kinds.Given as goal

-- the cells so far
abbrev pub invariant-loop-kind : goal.invariant-loop-kind
invariant-loop-kind l = l.out.items ≡ l.initial.out.items ++ flat_map (kind_head (count_in l.counts)) (take l.kind-index l.kinds)
