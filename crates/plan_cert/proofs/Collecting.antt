-- A certificate is put together from its items, one by one.
use Rattle.std.proofs.Common.{◌≡◌, ℕ, zero, suc, ◌+◌, ◌<◌, Bool, true, false, List, [], ◌∷◌, length, drop, drop-cons, Some, Result, Ok, Err, refl, sym, ap, subst, ◌∙◌, inl, inr, arith}
use Rattle.std.specs.Prelude.{◌⊎◌, if◌then◌else◌, slice_get}
use Rattle.std.proofs.lemmas.Bool.{false≢true}
use Rattle.std.proofs.lemmas.List.{length-drop}
use Rattle.std.proofs.lemmas.Option.{slice_get_within, get_or_from_slice_get}
use Rattle.job_setup.specs.Setup.{JobData}
use Rattle.cert_lines.specs.declared.format.TextKind.{TextKind}
use Rattle.plan_lines.specs.declared.item.Item.{Item}
use Rattle.plan_lines.specs.declared.item.Item.TheVariants as given
use Rattle.plan_lines.specs.declared.item.CertFault.{CertFault}
use Rattle.plan_lines.specs.declared.item.CertFault.TheVariants as faults
use Rattle.plan_cert.specs.Cert.{CertData}
use Rattle.plan_lines.specs.Reading.{Reading}
use Rattle.plan_lines.specs.PlanItem.{job_answer}
use Rattle.plan_lines.specs.Items.{items}
use Rattle.cert_lines.specs.LineReading.{lines_in}
use Rattle.plan_cert.specs.CertReading.{answers_left, Collects, BeginsWith, cert_of, file_of, with_job, with_item, is_last, no_cert, version_in}
use Rattle.cert_lines.proofs.WholeLines.{some_line}
use Rattle.plan_cert.proofs.Runs.{Ends, ends_lines}

-- the answers of a text
pub ends_items : (kind : TextKind) (text : List ℕ) → Ends (items kind text)
unfolding items
ends_items kind text = ends_lines kind (lines_in text) (some_line text)

pub some_by : (answers : List (Result Item CertFault)) → Ends answers → 0 < length answers
some_by [] ends = absurd ends
some_by (answer ∷ more) ends = omega arith

pub some_answer : (kind : TextKind) (text : List ℕ) → 0 < length (items kind text)
some_answer kind text = some_by (items kind text) (ends_items kind text)

-- the answer at a number stands before those behind it
pub left_is : (answers : List (Result Item CertFault)) (i : ℕ) (a : Result Item CertFault) → slice_get answers i ≡ Some a → drop i answers ≡ a ∷ drop (i + 1) answers
left_is answers i a e =
    let one : suc i ≡ i + 1 = omega arith in
    drop-cons answers i a (slice_get_within answers i a e) ∙ ap (λ x. x ∷ drop (suc i) answers) (get_or_from_slice_get answers i a a e) ∙ ap (λ n. a ∷ drop n answers) one

-- behind an item that isn't the end others stand
pub ends_at : (answers : List (Result Item CertFault)) (i : ℕ) → Ends answers → i < length answers → Ends (drop i answers)
ends_at answers zero ends within = ends
ends_at [] (suc i) ends within = absurd ends
ends_at (Err fault ∷ more) (suc i) ends within = absurd (omega (arith, ap length ends))
ends_at (Ok item ∷ more) (suc i) (inl last) within = absurd (omega (arith, ap length last.1))
ends_at (Ok item ∷ more) (suc i) (inr rest) within = ends_at more i rest.1 (omega arith)

pub goes_on : (kind : TextKind) (text : List ℕ) (i : ℕ) (item : Item) → slice_get (items kind text) i ≡ Some (Ok item) → is_last item ≡ false → i + 1 < length (items kind text)
goes_on kind text i item e on = by_ends (subst (λ a. Ends a) (left_is all i (Ok item) e) (ends_at all i (ends_items kind text) (slice_get_within all i (Ok item) e)))
  where
    all : List (Result Item CertFault)
    all = items kind text

    by_ends : Ends (Ok item ∷ drop (i + 1) all) → i + 1 < length all
    by_ends (inl last) = absurd (false≢true (sym on ∙ last.0))
    by_ends (inr rest) = omega (arith, some_by (drop (i + 1) all) rest.1, length-drop (i + 1) all)

-- a refusal, the end, another item
pub refused : (r behind : Reading) (cert added : CertData) (fault : CertFault) → slice_get (items r.kind r.text) r.answered ≡ Some (Err fault) → Collects (Err fault) cert r added behind
unfolding cert_of
refused r behind cert added fault e = inr (ap (λ (a : List (Result Item CertFault)). cert_of cert a) (left_is (items r.kind r.text) r.answered (Err fault) e))

pub end_is : (item : Item) → is_last item ≡ true → item ≡ given.End
end_is given.End last = refl
end_is _ last = absurd (false≢true last)

pub passed : (cert : CertData) (item : Item) (answers : List (Result Item CertFault)) → is_last item ≡ false → cert_of cert (Ok item ∷ answers) ≡ cert_of (with_item cert item) answers
unfolding cert_of
passed cert item answers on = ap (λ (b : Bool). if b then Ok cert else cert_of (with_item cert item) answers) on

-- a job, and what stands behind it
file_by : (kind : TextKind) (text : List ℕ) (job : JobData) (more : List (Result Item CertFault)) (read : Result CertData CertFault) → items kind text ≡ Ok (given.Job job) ∷ more → cert_of no_cert more ≡ read
    → file_of kind text ≡ elim read [ Ok c ↦ Ok (record { job = job; cert = c; version = version_in text }) | Err fault ↦ Err fault ]
unfolding file_of with_job
file_by kind text job more read first behind =
    ap (λ (a : List (Result Item CertFault)). with_job text a) first
    ∙ ap (λ (r : Result CertData CertFault). elim r [ Ok c ↦ Ok (record { job = job; cert = c; version = version_in text }) | Err fault ↦ Err fault ]) behind

pub file_is : (kind : TextKind) (text : List ℕ) (job : JobData) (more : List (Result Item CertFault)) (cert : CertData) → items kind text ≡ Ok (given.Job job) ∷ more → cert_of no_cert more ≡ Ok cert
    → file_of kind text ≡ Ok (record { job = job; cert = cert; version = version_in text })
file_is kind text job more cert first behind = file_by kind text job more (Ok cert) first behind

-- what a reader's first answer tells: a job, or a refusal
pub begins : (r behind : Reading) (answer : Result JobData CertFault) → r.answered ≡ 0 → slice_get (items r.kind r.text) r.answered ≡ Some (job_answer answer) → behind ≡ record r { answered = r.answered + 1 } → BeginsWith r answer behind
unfolding file_of with_job
begins r behind (Ok job) start e after =
    subst (λ b. BeginsWith r (Ok job) b) (sym after) (left_is (items r.kind r.text) r.answered (Ok (given.Job job)) e, goes_on r.kind r.text r.answered (given.Job job) e refl, omega arith)
begins r behind (Err fault) start e after =
    ap (λ (a : List (Result Item CertFault)). with_job r.text a) (left_is (items r.kind r.text) 0 (Err fault) (subst (λ n. slice_get (items r.kind r.text) n ≡ Some (Err fault)) start e))

-- what an item adds
pub collects : (r behind : Reading) (cert more : CertData) (item : Item) (last : Bool) → slice_get (items r.kind r.text) r.answered ≡ Some (Ok item) → last ≡ is_last item → more ≡ with_item cert item → behind ≡ record r { answered = r.answered + 1 }
    → Collects (Ok last) cert r more behind
unfolding cert_of
collects r behind cert more item last e is adds after = by_last last (sym is)
  where
    rest : List (Result Item CertFault)
    rest = drop (r.answered + 1) (items r.kind r.text)

    left : cert_of cert (answers_left r) ≡ cert_of cert (Ok item ∷ rest)
    left = ap (λ (a : List (Result Item CertFault)). cert_of cert a) (left_is (items r.kind r.text) r.answered (Ok item) e)

    by_last : (b : Bool) → is_last item ≡ b → Collects (Ok b) cert r more behind
    by_last true is = left ∙ ap (λ (i : Item). cert_of cert (Ok i ∷ rest)) (end_is item is) ∙ ap (λ (i : Item). Ok (with_item cert i)) (sym (end_is item is)) ∙ ap (λ (c : CertData). Ok c) (sym adds)
    by_last false is =
        subst (λ b. Collects (Ok false) cert r more b) (sym after) (left ∙ passed cert item rest is ∙ ap (λ (c : CertData). cert_of c rest) (sym adds), goes_on r.kind r.text r.answered item e is)

-- a text that is read, and one that is refused behind its job
pub read_ok : (kind : TextKind) (text : List ℕ) (job : JobData) (behind : Reading) (start cert : CertData) (version : ℕ) → BeginsWith (record { kind = kind; text = text; answered = 0 }) (Ok job) behind → start ≡ no_cert
    → cert_of start (answers_left behind) ≡ Ok cert → version ≡ version_in text → file_of kind text ≡ Ok (record { job = job; cert = cert; version = version })
read_ok kind text job behind start cert version begins empty rest is =
    file_is kind text job (answers_left behind) cert begins.0 (ap (λ (c : CertData). cert_of c (answers_left behind)) (sym empty) ∙ rest)
    ∙ ap (λ (v : ℕ). Ok (record { job = job; cert = cert; version = v })) (sym is)

pub read_err : (kind : TextKind) (text : List ℕ) (job : JobData) (behind : Reading) (start : CertData) (fault : CertFault) → BeginsWith (record { kind = kind; text = text; answered = 0 }) (Ok job) behind → start ≡ no_cert
    → (fault ≡ faults.NoMemory) ⊎ (cert_of start (answers_left behind) ≡ Err fault) → (fault ≡ faults.NoMemory) ⊎ (file_of kind text ≡ Err fault)
read_err kind text job behind start fault begins empty (inl memory) = inl memory
read_err kind text job behind start fault begins empty (inr rest) = inr (file_by kind text job (answers_left behind) (Err fault) begins.0 (ap (λ (c : CertData). cert_of c (answers_left behind)) (sym empty) ∙ rest))
