use Rattle.cert_merge.proofs.NoteBytes.{FoundTo}
use Rattle.cert_merge.proofs.row_texts.note_length.Given as goal

-- so many bytes are found
abbrev pub invariant-loop-i : goal.invariant-loop-i
invariant-loop-i l = FoundTo l.text l.i l.at_start
