use Rattle.std.proofs.Common.{◌≡◌, ◌-◌, length}
use Rattle.cert_merge.specs.MergedRows.{PartsGoOn}
use Rattle.cert_merge.proofs.merged_text.put_parts.Given as goal

-- the text has gone on up to the next part
abbrev pub invariant-loop-from : goal.invariant-loop-from
invariant-loop-from l = record {
  begun : l.start ≡ length l.fn.out.items;
  parts : PartsGoOn l.joined l.parts l.from l.next l.fn.out.items l.out.items;
}

abbrev pub decreases-loop-from : goal.decreases-loop-from
decreases-loop-from l = length l.parts - l.next
