use Rattle.std.proofs.Common.{List, ◌∷◌, Result, Ok, ap, sym, subst}
use Rattle.plan_lines.specs.declared.item.Item.{Item}
use Rattle.plan_lines.specs.declared.item.PlanItem.{PlanItem}
use Rattle.plan_lines.specs.declared.item.CertFault.{CertFault}
use Rattle.plan_lines.specs.PlanItem.{item_of}
use Rattle.job_setup.specs.Setup.{JobData}
use Rattle.plan_cert.specs.Cert.{CertData}
use Rattle.plan_cert.specs.CertReading.{with_item}
use Rattle.cert_check.specs.declared.row_notes.RowNotes.{RowNotes}
use Rattle.cert_check.specs.KnownNotes.{KnowsSoundBut}
use Rattle.cert_check.specs.ReadCert.{HasParts, IsUnderway, IsKept}
use Rattle.cert_check.proofs.ReadLemmas.{underway_claim, underway_step}
use Rattle.cert_check.proofs.KnownLemmas.{is_note, learned_none}
use Rattle.cert_check.proofs.read_cert.keep.Goals as goal

-- what an item keeps underway
abbrev Goes : JobData → CertData → CertData → List (Result Item CertFault) → RowNotes → RowNotes → PlanItem → Type 0
Goes job cert before left old new item = IsUnderway job cert before (Ok (item_of item) ∷ left) old → IsKept job cert before (item_of item) left new

pub returns-in-Claim-clause-notes : goal.returns-in-Claim-clause-notes
returns-in-Claim-clause-notes c = λ cert before left.
    let read = c.args.read.now in
    subst (Goes read.job cert before left read.notes read.notes) (sym c.in-Claim.is) (underway_claim read.job cert before left c.in-Claim.claim read.notes)

pub returns-in-Step-clause-notes : goal.returns-in-Step-clause-notes
returns-in-Step-clause-notes c = λ cert before left.
    let read = c.args.read.now in
    subst (Goes read.job cert before left read.notes read.notes) (sym c.in-Step.is) (underway_step read.job cert before left c.in-Step.step read.notes)

pub returns-in-Note-clause-notes : goal.returns-in-Note-clause-notes
returns-in-Note-clause-notes c = λ cert before left.
    let read = c.args.read.now in
    subst (Goes read.job cert before left read.notes c.keep_note.new.read.notes) (sym c.in-Note.is) (c.keep_note.ensures.notes cert before left)

pub returns-in-End-clause-notes : goal.returns-in-End-clause-notes
returns-in-End-clause-notes c = λ cert before left.
    let read = c.args.read.now in
    subst (Goes read.job cert before left read.notes read.notes) (sym c.in-End.is) (λ under. under.kept)

pub keep_note-requires-clause-lines : goal.keep_note-requires-clause-lines
keep_note-requires-clause-lines c =
    let read = c.args.read.now in
    subst (λ (item : PlanItem). KnowsSoundBut read.job read.notes (item_of item) c.args.lines.now) c.in-Note.is c.requires.lines

pub returns-in-Claim-clause-lines : goal.returns-in-Claim-clause-lines
returns-in-Claim-clause-lines c = let read = c.args.read.now in learned_none read.job read.notes (item_of c.args.item) c.args.lines.now (ap (λ (item : PlanItem). is_note (item_of item)) c.in-Claim.is) c.requires.lines

pub returns-in-Step-clause-lines : goal.returns-in-Step-clause-lines
returns-in-Step-clause-lines c = let read = c.args.read.now in learned_none read.job read.notes (item_of c.args.item) c.args.lines.now (ap (λ (item : PlanItem). is_note (item_of item)) c.in-Step.is) c.requires.lines

pub returns-in-End-clause-lines : goal.returns-in-End-clause-lines
returns-in-End-clause-lines c = let read = c.args.read.now in learned_none read.job read.notes (item_of c.args.item) c.args.lines.now (ap (λ (item : PlanItem). is_note (item_of item)) c.in-End.is) c.requires.lines

pub keep_row-requires-clause-lines : goal.keep_row-requires-clause-lines
keep_row-requires-clause-lines c = let read = c.args.read.now in learned_none read.job read.notes (item_of c.args.item) c.args.lines.now (ap (λ (item : PlanItem). is_note (item_of item)) c.in-Row.is) c.requires.lines

pub returns-in-Note-clause-kept : goal.returns-in-Note-clause-kept
returns-in-Note-clause-kept c = λ before has. subst (λ (item : PlanItem). HasParts c.keep_note.new.read (with_item before (item_of item))) (sym c.in-Note.is) (c.keep_note.ensures.kept before has)
