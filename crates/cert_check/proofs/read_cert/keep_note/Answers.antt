use Rattle.std.proofs.Common.{◌∷◌, ◌++◌, [], sym, subst, ◌∙◌}
use Rattle.cert_check.specs.RowNotes.{AreNoted, IsFirstUnsound, last_note}
use Rattle.cert_check.proofs.ReadLemmas.{underway_note}
use Rattle.cert_check.proofs.KnownLemmas.{learned_note}
use Rattle.cert_check.proofs.read_cert.keep_note.Goals as goal

pub recall_stroke-requires-clause-lines : goal.recall_stroke-requires-clause-lines
recall_stroke-requires-clause-lines c =
    let read = c.args.read.now in
    learned_note read.job read.notes c.add_note.new.self c.args.lines.now c.args.action c.args.reason c.requires.lines c.add_note.ensures.mask c.add_note.ensures.holds

pub returns-else-is_first-clause-lines : goal.returns-else-is_first-clause-lines
returns-else-is_first-clause-lines c =
    let read = c.args.read.now in
    learned_note read.job read.notes c.add_note.new.self c.args.lines.now c.args.action c.args.reason c.requires.lines c.add_note.ensures.mask c.add_note.ensures.holds

pub returns-else-is_first-clause-notes : goal.returns-else-is_first-clause-notes
returns-else-is_first-clause-notes c = λ cert before left under.
    let read = c.args.read.now in
    underway_note read.job cert before left c.args.action c.args.reason read.notes c.add_note.new.self under c.add_note.ensures.mask
    (c.add_note.ensures.sets before.rows before.notes) (c.add_note.ensures.unsound cert.rows before.notes)

pub returns-then-is_first-clause-notes : goal.returns-then-is_first-clause-notes
returns-then-is_first-clause-notes c = λ cert before left under.
    let read = c.args.read.now in
    let added = c.add_note.ensures in
    let recalled = c.recall_stroke.ensures in
    let note = last_note read.notes c.args.action c.args.reason in
    underway_note read.job cert before left c.args.action c.args.reason read.notes c.recall_stroke.new.self under (recalled.mask ∙ added.mask)
    (λ some low are. subst (AreNoted read.job before.rows (before.notes ++ note ∷ [])) (sym recalled.sets) (added.sets before.rows before.notes some low are))
    (λ some at first. subst (IsFirstUnsound read.job cert.rows (before.notes ++ note ∷ [])) (sym recalled.unsound) (added.unsound cert.rows before.notes some at first))
