use Rattle.std.proofs.lemmas.List.Sums.{prefix_len-le-length}
use Rattle.plan_cert.proofs.NoteOrder.{is_of}
use Rattle.plan_cert.proofs.rows.split_notes.Goals as goal

pub split_at-requires : goal.split_at-requires
split_at-requires c = rw c.front_count.ensures (prefix_len-le-length (is_of c.args.row) c.args.notes.now)
