-- What was read of a certificate, as its items come one after the other.
use Rattle.std.proofs.Common.{◌≡◌, ℕ, nat_lt, Bool, true, false, List, [], ◌∷◌, ◌++◌, length, Some, Result, Ok, Err, refl, sym, ◌∙◌, ap, subst, arith}
use Rattle.std.specs.Result.{result_ok}
use Rattle.std.specs.Prelude.{Contains, slice_get, if◌then◌else◌}
use Rattle.std.proofs.lemmas.List.{length_push, get_or_append_left}
use Rattle.std.proofs.lemmas.List.Elements.{Contains-append_left}
use Rattle.std.proofs.lemmas.Option.{same_Some, slice_get_within, slice_get-get_or, get_or_from_slice_get}
use Rattle.brake_base.specs.declared.stroke.Step.{Step}
use Rattle.cert_lines.specs.declared.row_head.RowHead.{RowHead}
use Rattle.plan_lines.specs.declared.note.Note.{Note}
use Rattle.plan_lines.specs.declared.item.Item.{Item}
use Rattle.plan_lines.specs.declared.item.Item.TheVariants as given
use Rattle.plan_lines.specs.declared.item.CertFault.{CertFault}
use Rattle.plan_cert.specs.Cert.{CertData}
use Rattle.plan_cert.specs.CertReading.{with_item, with_step, is_last, cert_of}
use Rattle.cert_check.proofs.ItemLemmas.{of_fault, of_item, of_none, last_item}

ok_is_no_fault : {cert : CertData} {fault : CertFault} → Err fault ≡ Ok cert → ⊥
ok_is_no_fault same = cc

abbrev result_is : CertData → Result CertData CertFault
result_is cert = Ok cert

ok_same : {a b : CertData} → result_is a ≡ Ok b → a ≡ b
ok_same {a} {b} same = same_Some a b (ap result_ok same)

-- a step adds no row and no note
pub step_rows : (read : CertData) (step : Step) → ((with_step read step).rows ≡ read.rows) × ((with_step read step).notes ≡ read.notes)
step_rows read step = by_room (nat_lt (length read.steps) 12)
  where
    by_room : (b : Bool) → ((if b then record read { steps = read.steps ++ step ∷ [] } else read).rows ≡ read.rows) × ((if b then record read { steps = read.steps ++ step ∷ [] } else read).notes ≡ read.notes)
    by_room true = (refl, refl)
    by_room false = (refl, refl)

-- ---- what was read stays
-- the notes and rows that were read are the certificate's, each row at its place
pub record Grows (before cert : CertData) : Type 0 where
  pub kept : (note : Note) → Contains before.notes note → Contains cert.notes note
  pub rows : (row : ℕ) (head : RowHead) → slice_get before.rows row ≡ Some head → slice_get cert.rows row ≡ Some head

grows_self : (cert : CertData) → Grows cert cert
grows_self cert = record { kept = λ note member. member; rows = λ row head at. at }

grows_trans : (before between cert : CertData) → Grows before between → Grows between cert → Grows before cert
grows_trans before between cert first second = record {
  kept = λ note member. second.kept note (first.kept note member);
  rows = λ row head at. second.rows row head (first.rows row head at);
}

-- a row stays at its place where another is added
pub get_more : (rows : List RowHead) (more head : RowHead) (row : ℕ) → slice_get rows row ≡ Some head → slice_get (rows ++ more ∷ []) row ≡ Some head
get_more rows more head row at =
    let within = slice_get_within rows row head at in
    let one = length_push rows more in
    slice_get-get_or (rows ++ more ∷ []) row head (omega (arith, within, one))
    ∙ ap Some (get_or_append_left rows (more ∷ []) head row within ∙ get_or_from_slice_get rows row head head at)

grows_same : (before next : CertData) → next.notes ≡ before.notes → next.rows ≡ before.rows → Grows before next
grows_same before next notes rows = record {
  kept = λ note member. subst (λ (ns : List Note). Contains ns note) (sym notes) member;
  rows = λ row head at. ap (λ (rs : List RowHead). slice_get rs row) rows ∙ at;
}

grows_item : (before : CertData) (item : Item) → Grows before (with_item before item)
grows_item before (given.Job job) = grows_self before
grows_item before (given.Claim claim) = grows_same before (with_item before (given.Claim claim)) refl refl
grows_item before (given.Step step) = let same = step_rows before step in grows_same before (with_step before step) same.1 same.0
grows_item before (given.Row head) = record { kept = λ note member. member; rows = λ row own at. get_more before.rows head own row at }
grows_item before (given.Note action reason) = record { kept = λ note member. Contains-append_left before.notes _ note member; rows = λ row head at. at }
grows_item before given.End = grows_self before

grows_by : (item : Item) (left : List (Result Item CertFault)) (before cert : CertData) (last : Bool) → is_last item ≡ last → cert_of before (Ok item ∷ left) ≡ Ok cert
    → (cert_of (with_item before item) left ≡ Ok cert → Grows (with_item before item) cert) → Grows before cert
grows_by item left before cert false goes is rest = grows_trans before (with_item before item) cert (grows_item before item) (rest (sym (of_item before left item goes) ∙ is))
grows_by item left before cert true end is rest =
    let same : before ≡ cert = ok_same (sym (last_item before left item end) ∙ is) in
    subst (Grows before) same (grows_self before)

-- what is made of answers behind what was read has grown out of it
pub grows : (left : List (Result Item CertFault)) (before cert : CertData) → cert_of before left ≡ Ok cert → Grows before cert
grows [] before cert is = absurd (no_cert_of before cert (of_none before []) is)
  where
    no_cert_of : (before cert : CertData) {fault : CertFault} → cert_of before [] ≡ Err fault → cert_of before [] ≡ Ok cert → ⊥
    no_cert_of before cert refused is = ok_is_no_fault (sym refused ∙ is)
grows (Err fault ∷ left) before cert is = absurd (ok_is_no_fault (sym (of_fault before left fault) ∙ is))
grows (Ok item ∷ left) before cert is = grows_by item left before cert (is_last item) refl is (grows left (with_item before item) cert)
