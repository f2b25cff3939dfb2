use Rattle.std.proofs.Common.{◌<◌, rules}
use Rattle.row_text.proofs.WordLengths.{note_fits}
use Rattle.row_text.proofs.row_words.note_line.Goals as goal

pub of-requires : goal.of-requires
of-requires c =
    let bend : c.args.action.bend < 256 = search rules in
    let stage : c.args.action.stage < 256 = search rules in
    rw c.as_slice.ensures.value (note_fits c.args.action c.args.reason c.clear.new.self.items c.put_note.new.out.items bend stage c.requires c.clear.ensures.items c.in_ok-put_note.ensures)
