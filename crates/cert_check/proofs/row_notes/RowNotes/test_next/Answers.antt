use Rattle.std.proofs.Common.{sym, subst}
use Rattle.cert_check.specs.RowNotes.{note_at, IsFirstUnsound}
use Rattle.cert_check.proofs.NoteLemmas.{mask_within, lead_at, sound_more, unsound_more}
use Rattle.cert_check.proofs.row_notes.RowNotes.test_next.Goals as goal

pub returns-then-not-holds-clause-unsound : goal.returns-then-not-holds-clause-unsound
returns-then-not-holds-clause-unsound c = λ rows notes at sound.
    let job = c.args.job.now in
    let mask = c.args.self.now.folded.mask in
    let note = note_at c.args.row c.args.action c.args.reason in
    unsound_more job rows notes mask c.args.row c.args.action c.args.reason at sound (λ holds.
    let yes = (c.holds.ensures.holds (mask_within job rows mask note at) (lead_at job rows mask note at)).1 holds in
    let fails = c.if-not-holds.true in
    cc)

pub returns-else-not-holds-clause-unsound : goal.returns-else-not-holds-clause-unsound
returns-else-not-holds-clause-unsound c = λ rows notes at sound.
    let job = c.args.job.now in
    let mask = c.args.self.now.folded.mask in
    let note = note_at c.args.row c.args.action c.args.reason in
    let holds = (c.holds.ensures.holds (mask_within job rows mask note at) (lead_at job rows mask note at)).0 c.if-not-holds.false in
    subst (IsFirstUnsound job rows _) (sym c.requires.none) (sound_more job rows notes mask c.args.row c.args.action c.args.reason at sound holds)
