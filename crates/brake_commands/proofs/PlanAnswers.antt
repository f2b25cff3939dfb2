-- From a certificate and a blank sheet to an answer of `plan`.
use Rattle.std.proofs.Common.{◌≡◌, ◌⊎◌, inl, inr, ℕ, ◌≤◌, List, [], ◌∷◌, length, Option, Some, None, Result, Ok, Err, refl, sym, ap, ◌∙◌, subst}
use Rattle.std.specs.Prelude.{IfOk, OnOk, OnErr}
use Rattle.std.proofs.lemmas.Option.{same_Some}
use Rattle.job_setup.specs.Setup.{JobData}
use Rattle.job_setup.specs.ValidJob.{IsJob}
use Rattle.handling_cost.specs.Reach.{ReachIsAbove}
use Rattle.plan_cert.specs.Cert.{CertData}
use Rattle.plan_cert.specs.GoodCert.{IsWithinBudget}
use Rattle.setup_sheet.specs.Sheets.{setup_text}
use Rattle.bb_search.specs.declared.written.WrittenCert.{WrittenCert}
use Rattle.command_runner.specs.declared.status.Status.TheVariants as status
use Rattle.brake_io.specs.declared.shelf.StoreFault.{StoreFault}
use Rattle.brake_io.specs.Meanings.{ShelfState}
use Rattle.command_runner.specs.declared.answer.Answer.{Answer}
use Rattle.command_runner.specs.Answers.{AnswerData, answer_data, one_text, one_stored, after_storing}
use Rattle.command_runner.specs.Delivery.{AreStored, AreStoredUpTo}
use Rattle.command_runner.specs.Ends.{StoresFirst, StoresBeginning}
use Rattle.brake_commands.specs.PlanAnswer.{spent_line, claim_status, last_text, cert_answer, written_answer, written_rest, IsStoredOf, HasFewRows, IsWrittenPlan, IsBlankSheet, IsPlanned, by_cert, spent}

-- rows within a budget that was given, and without one
pub few_within : (job : JobData) (most : ℕ) (cert : CertData) → IsWithinBudget job most cert → HasFewRows (Some most) job cert
few_within job most cert is = record { within = λ n same. subst (λ (m : ℕ). length cert.rows ≤ m) (same_Some most n same) is.rows; reach = is.reach }

pub few_reached : (job : JobData) (most : ℕ) (cert : CertData) → HasFewRows (Some most) job cert → HasFewRows None job cert
few_reached job most cert is = record { within = λ n same. absurd (cc); reach = is.reach }

-- the answer by what is written of a certificate and the job's blank sheet is one of `plan`
pub cert_planned : (name : List ℕ) (budget : Option ℕ) (job : JobData) (sheet : List ℕ) (written : WrittenCert) (answer : AnswerData) → IsJob job → IsBlankSheet job sheet → IsWrittenPlan budget job written
    → answer ≡ written_answer name job sheet written → IsPlanned name budget job answer
cert_planned name budget job sheet written answer valid is_sheet (cert, proves, few, same) is = by_cert (record {
  valid = valid;
  blank = is_sheet.0;
  cert = cert;
  unfolds = is_sheet.1;
  proves = proves;
  few_rows = few;
  is_answer = is ∙ (λ i. record { stored = record { name = name; text = same.text i } ∷ []; status = claim_status (same.claim i); texts = sheet ∷ setup_text job ∷ last_text job (same.claim i) (same.steps i) ∷ [] })
      ∙ ap (λ (text : List ℕ). cert_answer name job text cert) is_sheet.2;
})

-- so is the line of a budget below reach
pub spent_planned : (name : List ℕ) (budget : ℕ) (job : JobData) (line : List ℕ) (answer : AnswerData) → ReachIsAbove job budget → line ≡ spent_line budget
    → answer ≡ one_text status.Spent line → IsPlanned name (Some budget) job answer
spent_planned name budget job line answer above written is = spent budget refl above (is ∙ ap (one_text status.Spent) written)

-- ---- an answer of which the text is stored, and the sheets are left
module _ (name : List ℕ) (budget : Option ℕ) (job : JobData) (sheet : List ℕ) (written : WrittenCert) (valid : IsJob job) (is_sheet : IsBlankSheet job sheet) (found : IsWrittenPlan budget job written) where
  whole : IsPlanned name budget job (written_answer name job sheet written)
  whole = cert_planned name budget job sheet written (written_answer name job sheet written) valid is_sheet found refl

  pub planned_first : (r : Result Answer StoreFault) (a b : ShelfState) → IfOk r (λ answer. answer_data answer ≡ written_rest job sheet written) → OnOk r (AreStored (one_stored name written.text) a b) → OnOk r (b.faults ≡ a.faults)
      → IfOk r (λ answer. StoresFirst (IsPlanned name budget job) (answer_data answer) a b)
  planned_first (Ok answer) a b is stored same = record {
    first = one_stored name written.text;
    are_stored = stored;
    is_one = subst (λ (rest : AnswerData). IsPlanned name budget job (after_storing (one_stored name written.text) rest)) (sym is) whole;
    faults = same;
  }
  planned_first (Err fault) a b is stored same = tt

  begun_in_part : (a b : ShelfState) → (b ≡ a) ⊎ AreStoredUpTo (one_stored name written.text) a b → (b ≡ a) ⊎ StoresBeginning (IsStoredOf (IsPlanned name budget job)) a b
  begun_in_part a b (inl same) = inl same
  begun_in_part a b (inr part) = inr (record { stored = one_stored name written.text; is_beginning = (written_answer name job sheet written, whole, refl); are_stored = inr part })

  pub planned_begun : (r : Result Answer StoreFault) (a b : ShelfState) → OnErr r ((b ≡ a) ⊎ AreStoredUpTo (one_stored name written.text) a b) → OnErr r ((b ≡ a) ⊎ StoresBeginning (IsStoredOf (IsPlanned name budget job)) a b)
  planned_begun (Ok answer) a b on = tt
  planned_begun (Err fault) a b on = begun_in_part a b on

-- the texts of an answer of one kind are those of one of another
stored_weaker : (P Q : AnswerData → Type 0) (a b : ShelfState) → ((answer : AnswerData) → P answer → Q answer) → (b ≡ a) ⊎ StoresBeginning (IsStoredOf P) a b → (b ≡ a) ⊎ StoresBeginning (IsStoredOf Q) a b
stored_weaker P Q a b to (inl same) = inl same
stored_weaker P Q a b to (inr begun) =
    let is = begun.is_beginning in
    inr (record { stored = begun.stored; is_beginning = (is.0, to is.0 is.1, is.2); are_stored = begun.are_stored })

pub begun_weaker : (P Q : AnswerData → Type 0) (r : Result Answer StoreFault) (a b : ShelfState) → ((answer : AnswerData) → P answer → Q answer) → OnErr r ((b ≡ a) ⊎ StoresBeginning (IsStoredOf P) a b) → OnErr r ((b ≡ a) ⊎ StoresBeginning (IsStoredOf Q) a b)
begun_weaker P Q (Ok answer) a b to on = tt
begun_weaker P Q (Err fault) a b to on = stored_weaker P Q a b to on
