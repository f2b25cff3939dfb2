-- The answers of a reader one after the other, and what a certificate is made of them.
use Rattle.std.proofs.Common.{◌≡◌, ℕ, suc, ◌+◌, ◌<◌, Bool, true, false, not, List, [], ◌∷◌, length, drop, drop-cons, add-one, Some, Result, Ok, Err, refl, sym, ◌∙◌, ap, arith}
use Rattle.std.specs.Prelude.{slice_get, IfOk, if◌then◌else◌}
use Rattle.std.proofs.lemmas.List.{length-drop}
use Rattle.std.proofs.lemmas.Option.{slice_get_within, get_or_from_slice_get}
use Rattle.job_setup.specs.Setup.{JobData}
use Rattle.plan_lines.specs.declared.item.Item.{Item}
use Rattle.plan_lines.specs.declared.item.Item.TheVariants as given
use Rattle.plan_lines.specs.declared.item.CertFault.{CertFault}
use Rattle.plan_lines.specs.declared.item.CertFault.TheVariants.{Unended}
use Rattle.plan_lines.specs.Reading.{Reading}
use Rattle.plan_cert.specs.Cert.{CertData}
use Rattle.plan_lines.specs.Items.{items}
use Rattle.plan_lines.specs.PlanItem.{job_answer}
use Rattle.plan_cert.specs.CertReading.{with_item, is_last, cert_of, answers_left}
use Rattle.plan_cert.proofs.Collecting.{goes_on}
use Rattle.cert_check.specs.declared.read_cert.ReadCert.{ReadCert}
use Rattle.cert_check.specs.declared.row_notes.RowNotes.{RowNotes}
use Rattle.cert_check.specs.ReadCert.{HasParts, KeepsAll, IsUnderway, IsKept, ItemAnswer, behind}

answers : Reading → List (Result Item CertFault)
answers r = items r.kind r.text

-- the next answer stands before those that are left behind it
pub left_on : (r : Reading) (answer : Result Item CertFault) → slice_get (items r.kind r.text) r.answered ≡ Some answer → answers_left r ≡ answer ∷ answers_left (behind r)
left_on r answer given =
    let within = slice_get_within (items r.kind r.text) r.answered answer given in
    drop-cons (items r.kind r.text) r.answered answer within
    ∙ (ap (λ (a : Result Item CertFault). a ∷ drop (suc r.answered) (items r.kind r.text)) (get_or_from_slice_get (items r.kind r.text) r.answered answer answer given)
    ∙ ap (λ (n : ℕ). answer ∷ drop n (items r.kind r.text)) (sym (add-one r.answered)))

-- some are left
pub some_left : (r : Reading) → r.answered < length (items r.kind r.text) → 0 < length (answers_left r)
some_left r within = let rest = length-drop r.answered (items r.kind r.text) in omega (arith, rest, within)

pub left_some : (r : Reading) → 0 < length (answers_left r) → r.answered < length (items r.kind r.text)
left_some r some = let rest = length-drop r.answered (items r.kind r.text) in omega (arith, rest, some)

-- ---- what a certificate is made of
module _ (before : CertData) (more : List (Result Item CertFault)) where
  pub of_fault : (fault : CertFault) → cert_of before (Err fault ∷ more) ≡ Err fault
  unfolding cert_of
  of_fault fault = refl

  pub of_end : cert_of before (Ok given.End ∷ more) ≡ Ok before
  unfolding cert_of
  of_end = refl

  pub of_item : (item : Item) → is_last item ≡ false → cert_of before (Ok item ∷ more) ≡ cert_of (with_item before item) more
  unfolding cert_of
  of_item item goes = ap (λ (b : Bool). if b then Ok before else cert_of (with_item before item) more) goes

  pub of_none : cert_of before [] ≡ Err Unended
  unfolding cert_of
  of_none = refl

-- where answers make a certificate there are some
pub some_answer : (before cert : CertData) (left : List (Result Item CertFault)) → cert_of before left ≡ Ok cert → 0 < length left
some_answer before cert [] is = absurd (refused cert (sym (of_none before []) ∙ is))
  where
    refused : (cert : CertData) → Err Unended ≡ Ok cert → ⊥
    refused cert same = cc
some_answer before cert (answer ∷ left) is = omega arith

pub last_item : (before : CertData) (left : List (Result Item CertFault)) (item : Item) → is_last item ≡ true → cert_of before (Ok item ∷ left) ≡ Ok before
last_item before left given.End is = of_end before left
last_item before left (given.Job job) is = absurd cc
last_item before left (given.Claim claim) is = absurd cc
last_item before left (given.Step step) is = absurd cc
last_item before left (given.Row head) is = absurd cc
last_item before left (given.Note action reason) is = absurd cc

at_end : (read : ReadCert) (before : CertData) (item : Item) → is_last item ≡ true → HasParts read (with_item before item) → HasParts read before
at_end read before given.End is has = has
at_end read before (given.Job job) is has = absurd cc
at_end read before (given.Claim claim) is has = absurd cc
at_end read before (given.Step step) is has = absurd cc
at_end read before (given.Row head) is has = absurd cc
at_end read before (given.Note action reason) is has = absurd cc

module _ (job : JobData) (cert before : CertData) (left : List (Result Item CertFault)) (notes : RowNotes) where
  goes_underway : (item : Item) → is_last item ≡ false → IsKept job cert before item left notes → IsUnderway job cert (with_item before item) left notes
  goes_underway given.End goes kept = absurd cc
  goes_underway (given.Job own) goes kept = kept
  goes_underway (given.Claim claim) goes kept = kept
  goes_underway (given.Step step) goes kept = kept
  goes_underway (given.Row head) goes kept = kept
  goes_underway (given.Note action reason) goes kept = kept

keeps_all : (job : JobData) (cert : CertData) (left : List (Result Item CertFault)) (notes : RowNotes) (item : Item) → is_last item ≡ true → IsKept job cert cert item left notes → KeepsAll job cert notes
keeps_all job cert left notes given.End is kept = kept
keeps_all job cert left notes (given.Job own) is kept = absurd cc
keeps_all job cert left notes (given.Claim claim) is kept = absurd cc
keeps_all job cert left notes (given.Step step) is kept = absurd cc
keeps_all job cert left notes (given.Row head) is kept = absurd cc
keeps_all job cert left notes (given.Note action reason) is kept = absurd cc

-- what was read of an item, where the parts are those of what was read before it
pub item_read : (old read : ReadCert) (before : CertData) (item : Item) (left : List (Result Item CertFault)) → HasParts read (with_item before item) → (is_last item ≡ false → 0 < length left)
    → ((cert : CertData) → IsUnderway old.job cert before (Ok item ∷ left) old.notes → IsKept old.job cert before item left read.notes)
    → ItemAnswer (Ok (not (is_last item))) before old (Ok item ∷ left) read left
item_read old read before item left has more kept = by_last (is_last item) refl
  where
    by_last : (last : Bool) → is_last item ≡ last → ItemAnswer (Ok (not last)) before old (Ok item ∷ left) read left
    by_last false is = (with_item before item, has, of_item before left item is, more is, λ cert under. goes_underway old.job cert before left read.notes item is (kept cert under))
    by_last true is = (before, at_end read before item is has, last_item before left item is, λ under. keeps_all old.job before left read.notes item is (kept before under))

-- ---- a reader and the one behind it
-- behind an item but the end an answer is left
pub answer_behind : (r : Reading) (item : Item) → slice_get (items r.kind r.text) r.answered ≡ Some (Ok item) → is_last item ≡ false → 0 < length (answers_left (behind r))
answer_behind r item given goes = some_left (behind r) (goes_on r.kind r.text r.answered item given goes)

-- so is one behind the job
pub job_behind : (r : Reading) (answer : Result JobData CertFault) → slice_get (items r.kind r.text) r.answered ≡ Some (job_answer answer) → IfOk answer (λ _. r.answered + 1 < length (items r.kind r.text))
job_behind r (Ok job) is = goes_on r.kind r.text r.answered (given.Job job) is refl
job_behind r (Err fault) is = tt
