use Rattle.std.proofs.Common.{◌≡◌, ◌-◌, length}
use Rattle.cert_merge.specs.SettledPieces.{CanGoOn, GoesOnTo}
use Rattle.cert_merge.proofs.settled_pieces.put_rows.Given as goal

-- the text has gone on up to the next key
abbrev pub invariant-loop-stages : goal.invariant-loop-stages
invariant-loop-stages l = record {
  begun : l.start ≡ length l.fn.out.items;
  goes_on : CanGoOn l.settled l.stages l.writer l.next l.end;
  rows : GoesOnTo l.settled l.stages l.end l.fn.from l.next l.fn.out.items l.out.items;
}

abbrev pub decreases-loop-stages : goal.decreases-loop-stages
decreases-loop-stages l = l.end - l.next
