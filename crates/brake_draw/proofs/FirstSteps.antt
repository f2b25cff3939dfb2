-- The steps of a certificate are those that the first answers behind its job give.
use Rattle.std.proofs.Common.{◌≡◌, ℕ, ◌+◌, ◌<◌, ◌≤◌, Bool, true, false, List, [], ◌∷◌, ◌++◌, length, map, drop, Some, Result, Ok, Err, refl, sym, ap, subst, ◌∙◌, append_assoc, lt-ltb, arith}
use Rattle.std.specs.Prelude.{slice_get, if◌then◌else◌}
use Rattle.std.proofs.lemmas.List.{append-nil, length-append, map-append}
use Rattle.brake_base.specs.declared.stroke.Step.{Step}
use Rattle.job_setup.specs.Setup.{JobData}
use Rattle.cert_lines.specs.declared.row_head.RowHead.{RowHead}
use Rattle.plan_lines.specs.declared.note.Note.{Note}
use Rattle.cert_lines.specs.declared.format.TextKind.TheVariants.{Certificate}
use Rattle.plan_lines.specs.declared.item.Item.{Item}
use Rattle.plan_lines.specs.declared.item.Item.TheVariants as given
use Rattle.plan_lines.specs.declared.item.CertFault.{CertFault}
use Rattle.plan_cert.specs.Cert.{CertData}
use Rattle.plan_lines.specs.Items.{items}
use Rattle.plan_lines.specs.Reading.{Reading}
use Rattle.plan_cert.specs.CertItems.{rows_items, cert_items}
use Rattle.plan_cert.specs.CertReading.{AnswersLeft, answers_left, is_last}
use Rattle.plan_cert.specs.ExactItems.{ReadsCertTexts}
use Rattle.plan_cert.proofs.Collecting.{goes_on}
use Rattle.cert_check.specs.Texts.{IsTextOfCert}
use Rattle.cert_check.proofs.StepLemmas.{few_steps}
use Rattle.cert_check.proofs.ItemLemmas.{left_on}
use Rattle.brake_draw.specs.Steps.{is_before_rows, with_step_of, with_steps_of}

-- ---- the items of a certificate
-- a list of steps behind others
steps_behind : (before steps : List Step) (rest : List (Result Item CertFault)) → length before + length steps ≤ 12 → ((s : List Step) → with_steps_of s rest ≡ s) → with_steps_of before (map Ok (map given.Step steps) ++ rest) ≡ before ++ steps
unfolding with_steps_of
steps_behind before [] rest few stops = stops before ∙ sym (append-nil before)
steps_behind before (s ∷ steps) rest few stops =
    let longer : length (before ++ s ∷ []) ≡ length before + 1 = length-append before (s ∷ []) in
    ap (λ (b : Bool). with_steps_of (if b then before ++ s ∷ [] else before) (map Ok (map given.Step steps) ++ rest)) (lt-ltb (length before) 12 (omega (arith, few)))
    ∙ steps_behind (before ++ s ∷ []) steps rest (omega (arith, longer, few)) stops
    ∙ append_assoc before (s ∷ []) steps

-- rows, or the end
rows_stop : (rows : List RowHead) (notes : List Note) (s : List Step) → with_steps_of s (map Ok (rows_items rows notes ++ given.End ∷ [])) ≡ s
unfolding with_steps_of rows_items
rows_stop [] notes s = refl
rows_stop (row ∷ rows) notes s = refl

-- those of a certificate
cert_steps : (job : JobData) (cert : CertData) → length cert.steps ≤ 12 → with_steps_of [] (drop 1 (map Ok (cert_items job cert))) ≡ cert.steps
unfolding cert_items with_steps_of
cert_steps job cert few =
    let rows = rows_items cert.rows cert.notes in
    let rest = rows ++ given.End ∷ [] in
    ap (λ (is : List Item). with_steps_of [] (map Ok is)) (append_assoc (map given.Step cert.steps) rows (given.End ∷ []))
    ∙ ap (λ (a : List (Result Item CertFault)). with_steps_of [] a) (map-append Ok (map given.Step cert.steps) rest)
    ∙ steps_behind [] cert.steps (map Ok rest) (omega (arith, few)) (rows_stop cert.rows cert.notes)

no_refusal : (item : Item) (fault : CertFault) → Some (Ok item) ≡ Some (Err fault) → ⊥
no_refusal item fault same = cc

job_first : (job : JobData) (cert : CertData) (fault : CertFault) → slice_get (map Ok (cert_items job cert)) 0 ≡ Some (Err fault) → ⊥
unfolding cert_items
job_first job cert fault is = no_refusal (given.Job job) fault is

-- ---- a reader of a certificate's text
module _ (text : List ℕ) (job : JobData) (cert : CertData) (reads : ReadsCertTexts text) (written : IsTextOfCert text job cert) where
  cert_answers : items Certificate text ≡ map Ok (cert_items job cert)
  cert_answers = reads.each (record { job = job; cert = cert; version = written.version }) written.exact

  -- behind the job the answers give the certificate's steps
  pub steps_read : (reader behind : Reading) → reader ≡ record { kind = Certificate; text = text; answered = 0 } → behind ≡ record reader { answered = reader.answered + 1 } → with_steps_of [] (answers_left behind) ≡ cert.steps
  steps_read reader behind new after =
      ap (λ (r : Reading). with_steps_of [] (answers_left r)) (after ∙ ap (λ (r : Reading). record r { answered = r.answered + 1 }) new)
      ∙ (ap (λ (a : List (Result Item CertFault)). with_steps_of [] (drop 1 a)) cert_answers
      ∙ cert_steps job cert (few_steps job cert.claim cert.steps written.exact.job written.exact.form.has_steps))

  -- the first answer is no refusal
  pub begins_with_job : (reader : Reading) (fault : CertFault) → reader ≡ record { kind = Certificate; text = text; answered = 0 } → slice_get (items reader.kind reader.text) reader.answered ≡ Some (Err fault) → ⊥
  begins_with_job reader fault new is =
      job_first job cert fault (subst (λ (a : List (Result Item CertFault)). slice_get a 0 ≡ Some (Err fault)) cert_answers
      (subst (λ (r : Reading). slice_get (items r.kind r.text) r.answered ≡ Some (Err fault)) new is))

-- ---- one answer more
kept : (steps : List Step) (item : Item) → is_before_rows item ≡ false → with_step_of steps item ≡ steps
kept steps (given.Job job) is = refl
kept steps (given.Claim claim) is = absurd cc
kept steps (given.Step step) is = absurd cc
kept steps (given.Row head) is = refl
kept steps (given.Note action reason) is = refl
kept steps given.End is = refl

not_last : (item : Item) → is_before_rows item ≡ true → is_last item ≡ false
not_last (given.Job job) is = refl
not_last (given.Claim claim) is = refl
not_last (given.Step step) is = refl
not_last (given.Row head) is = refl
not_last (given.Note action reason) is = refl
not_last given.End is = absurd cc

of_item : (steps : List Step) (item : Item) (more : List (Result Item CertFault)) (b : Bool) → is_before_rows item ≡ b → with_steps_of steps (Ok item ∷ more) ≡ (if b then with_steps_of (with_step_of steps item) more else steps)
unfolding with_steps_of
of_item steps item more b is = ap (λ (before : Bool). if before then with_steps_of (with_step_of steps item) more else steps) is

of_fault : (steps : List Step) (fault : CertFault) (more : List (Result Item CertFault)) → with_steps_of steps (Err fault ∷ more) ≡ steps
unfolding with_steps_of
of_fault steps fault more = refl

-- a refusal ends the steps
pub steps_refused : (r : Reading) (steps : List Step) (fault : CertFault) → slice_get (items r.kind r.text) r.answered ≡ Some (Err fault) → steps ≡ with_steps_of steps (answers_left r)
steps_refused r steps fault is =
    sym (ap (λ (a : List (Result Item CertFault)). with_steps_of steps a) (left_on r (Err fault) is) ∙ of_fault steps fault (answers_left (record r { answered = r.answered + 1 })))

module _ (r behind : Reading) (item : Item) (is : slice_get (items r.kind r.text) r.answered ≡ Some (Ok item)) (after : behind ≡ record r { answered = r.answered + 1 }) where
  next_left : answers_left r ≡ Ok item ∷ answers_left behind
  next_left = left_on r (Ok item) is ∙ ap (λ (q : Reading). Ok item ∷ answers_left q) (sym after)

  -- behind a claim or a step another answer is left
  pub left_behind : is_before_rows item ≡ true → AnswersLeft behind
  left_behind before = subst (λ (q : Reading). AnswersLeft q) (sym after) (goes_on r.kind r.text r.answered item is (not_last item before))

  -- and fewer are left
  pub fewer_left : length (answers_left behind) < length (answers_left r)
  fewer_left = let count = ap length next_left in omega (arith, count)

  -- a claim or a step, behind which there are the others
  pub steps_on : (steps taken now : List Step) → is_before_rows item ≡ true → taken ≡ with_step_of steps item → now ≡ with_steps_of taken (answers_left behind) → now ≡ with_steps_of steps (answers_left r)
  steps_on steps taken now before took rest =
      rest ∙ (ap (λ (s : List Step). with_steps_of s (answers_left behind)) took
      ∙ sym (ap (λ (a : List (Result Item CertFault)). with_steps_of steps a) next_left ∙ of_item steps item (answers_left behind) true before))

  -- another item ends them
  pub steps_end : (steps now : List Step) → is_before_rows item ≡ false → now ≡ with_step_of steps item → now ≡ with_steps_of steps (answers_left r)
  steps_end steps now before took =
      took ∙ (kept steps item before
      ∙ sym (ap (λ (a : List (Result Item CertFault)). with_steps_of steps a) next_left ∙ of_item steps item (answers_left behind) false before))
