-- The loop over the items of a text.
use Rattle.std.proofs.Common.{◌≡◌, inl, inr, ℕ, ◌+◌, ◌-◌, ◌*◌, ◌^◌, ◌<◌, IsTrue, Bool, true, false, List, [], ◌∷◌, ◌++◌, append-nil, length, drop, map, get_or, Some, Result, Ok, Err, refl, sym, ◌∙◌, ap, subst, arith}
use Rattle.std.specs.Prelude.{min, slice_get, IfOk}
use Rattle.std.proofs.Math.Seq.{drop-append_seam}
use Rattle.std.proofs.lemmas.List.{length_push, get_or_push, drop-drop}
use Rattle.std.proofs.lemmas.List.Elements.{All-nil, Contains-push}
use Rattle.std.proofs.lemmas.Option.{same_Some, none-some, slice_get_within, slice_get-get_or, get_or_from_slice_get}
use Rattle.brake_base.specs.declared.reason.Reason.{Reason}
use Rattle.brake_base.specs.declared.stroke.Step.{Step}
use Rattle.brake_base.specs.declared.stroke.Worth.{Worth}
use Rattle.job_setup.specs.Setup.{JobData, bend_count, stage_count}
use Rattle.job_setup.specs.StrokeGroup.{is_lead}
use Rattle.job_setup.specs.ValidJob.{IsJob}
use Rattle.cert_lines.specs.declared.row_head.RowHead.{RowHead}
use Rattle.plan_lines.specs.declared.note.Note.{Note}
use Rattle.plan_lines.specs.declared.item.Item.{Item}
use Rattle.plan_lines.specs.declared.item.Item.TheVariants as given
use Rattle.plan_lines.specs.declared.item.CertFault.{CertFault}
use Rattle.plan_lines.specs.declared.item.CertFault.TheVariants as faults
use Rattle.cert_lines.specs.declared.format.TextKind.{TextKind}
use Rattle.plan_lines.specs.declared.line_place.LinePlace.{LinePlace}
use Rattle.plan_lines.specs.Reading.{Reading, LeavesAt, GivesNext, HoldsBefore}
use Rattle.plan_cert.specs.Cert.{CertData}
use Rattle.plan_lines.specs.Items.{items}
use Rattle.plan_cert.specs.CertItems.{rows_items, cert_items}
use Rattle.plan_cert.specs.CertReading.{no_cert, with_item, with_step, cert_of, answers_left}
use Rattle.cert_lines.specs.Lines.{action_at}
use Rattle.plan_lines.specs.NoteLines.{KnownReasons, GivesAll, note_told, notes_told}
use Rattle.plan_lines.proofs.NoteSets.{no_places}
use Rattle.stage_lanes.specs.declared.actions.ActionSet.{ActionSet}
use Rattle.stage_lanes.specs.ActionSets.{IsNone}
use Rattle.plan_cert.specs.WellFormed.{IsNote}
use Rattle.plan_lines.specs.LinesFit.{IsRow}
use Rattle.plan_lines.proofs.ItemCounts.{answer_at, answers_behind}
use Rattle.plan_cert.proofs.Conditions.{rows_of}
use Rattle.plan_lines.proofs.NumberedActions.{tried_at}
use Rattle.plan_cert.proofs.RowOrder.{no_row, few_rows}
use Rattle.cert_check.specs.declared.fault.CheckFault.{CheckFault}
use Rattle.cert_check.specs.declared.fault.CheckFault.TheVariants.{Cert}
use Rattle.cert_check.specs.declared.read_cert.ReadCert.{ReadCert}
use Rattle.cert_check.specs.declared.row_notes.RowNotes.{RowNotes}
use Rattle.cert_check.specs.RowNotes.{AreNoted, HasNoNotes, IsAtRow, IsFirstUnsound, IsSound, IsTesting, last_note, note_at}
use Rattle.cert_check.specs.ReadCert.{AreRefused, HasParts, IsGivenBy, IsReadBefore, IsReadUpTo, IsRowFirst, IsUnderway, ItemAnswer, KeepsAll, KeepsNotes, PieceAnswer, ReadAnswer, behind}
use Rattle.cert_check.proofs.ItemLemmas.{of_item, left_on, left_some, job_behind}
use Rattle.cert_check.proofs.GrowLemmas.{grows, step_rows}
use Rattle.cert_check.proofs.NoteLemmas.{noted_none}

-- ---- the items of a certificate
-- a row stands before the first note
steps_first : (steps : List Step) (rows more : List Item) → IsRowFirst (map Ok (rows ++ more)) → IsRowFirst (map Ok (map given.Step steps ++ rows ++ more))
steps_first [] rows more is = is
steps_first (step ∷ steps) rows more is = steps_first steps rows more is

pub rows_first : (rows : List RowHead) (notes : List Note) → IsRowFirst (map Ok (rows_items rows notes ++ given.End ∷ []))
unfolding rows_items
rows_first [] notes = tt
rows_first (row ∷ rows) notes = tt

pub cert_first : (job : JobData) (cert : CertData) → IsRowFirst (map Ok (cert_items job cert))
unfolding cert_items
cert_first job cert = steps_first cert.steps (rows_items cert.rows cert.notes) (given.End ∷ []) (rows_first cert.rows cert.notes)

-- ---- what is kept, item by item
-- of no row and no note
pub keeps_none : (job : JobData) → IsJob job → (all : List RowHead) (notes : RowNotes) → HasNoNotes notes → KeepsNotes job all [] [] notes
keeps_none job is_job all notes none = record {
  noted = noted_none job is_job notes.sets.items none.sets;
  first = subst (IsFirstUnsound job all []) (sym none.unsound) (All-nil (IsSound job all));
  mask = λ head at. absurd (none-some head at);
}

-- behind the job nothing is kept
pub underway_first : (job : JobData) (cert : CertData) (left : List (Result Item CertFault)) (notes : RowNotes) → HasNoNotes notes → IsGivenBy job cert left → IsUnderway job cert no_cert left notes
underway_first job cert left notes none made = record {
  valid = made.valid;
  form = made.form;
  completes = made.completes;
  row_first = inr made.row_first;
  kept = keeps_none job made.valid cert.rows notes none;
}

module _ (job : JobData) (cert before : CertData) (left : List (Result Item CertFault)) where
  -- a claim and a step change nothing
  pub underway_claim : (claim : Worth) (notes : RowNotes) → IsUnderway job cert before (Ok (given.Claim claim) ∷ left) notes → IsUnderway job cert (with_item before (given.Claim claim)) left notes
  underway_claim claim notes under = record {
    valid = under.valid;
    form = under.form;
    completes = sym (of_item before left (given.Claim claim) refl) ∙ under.completes;
    row_first = under.row_first;
    kept = under.kept;
  }

  pub underway_step : (step : Step) (notes : RowNotes) → IsUnderway job cert before (Ok (given.Step step) ∷ left) notes → IsUnderway job cert (with_item before (given.Step step)) left notes
  underway_step step notes under =
      let same = step_rows before step in
      record {
        valid = under.valid;
        form = under.form;
        completes = sym (of_item before left (given.Step step) refl) ∙ under.completes;
        row_first = elim under.row_first [
          | inl some ↦ inl (subst (λ (rs : List RowHead). 0 < length rs) (sym same.0) some)
          | inr first ↦ inr first
        ];
        kept = subst (λ (rs : List RowHead). KeepsNotes job cert.rows rs (with_step before step).notes notes) (sym same.0)
            (subst (λ (ns : List Note). KeepsNotes job cert.rows before.rows ns notes) (sym same.1) under.kept);
      }

  -- a row more
  module _ (head : RowHead) (old new : RowNotes) (under : IsUnderway job cert before (Ok (given.Row head) ∷ left) old) where
    last_head : (own : RowHead) → slice_get (before.rows ++ head ∷ []) (length (before.rows ++ head ∷ []) - 1) ≡ Some own → head ≡ own
    last_head own at =
        let one = length_push before.rows head in
        let last : length (before.rows ++ head ∷ []) - 1 ≡ length before.rows = omega (arith, one) in
        same_Some head own
        (sym (ap (slice_get (before.rows ++ head ∷ [])) last
        ∙ (slice_get-get_or (before.rows ++ head ∷ []) (length before.rows) head (omega (arith, one)) ∙ ap Some (get_or_push before.rows head head (length before.rows) refl)))
        ∙ at)

    pub underway_row : head.key.mask ≡ new.folded.mask → (AreNoted job before.rows before.notes old.sets.items → AreNoted job (before.rows ++ head ∷ []) before.notes new.sets.items) → new.unsound ≡ old.unsound
        → IsUnderway job cert (with_item before (given.Row head)) left new
    underway_row mask sets unsound = record {
      valid = under.valid;
      form = under.form;
      completes = sym (of_item before left (given.Row head) refl) ∙ under.completes;
      row_first = inl (let one = length_push before.rows head in omega (arith, one));
      kept = record {
        noted = sets under.kept.noted;
        first = subst (IsFirstUnsound job cert.rows before.notes) (sym unsound) under.kept.first;
        mask = λ own at. sym (ap (λ (h : RowHead). h.key.mask) (last_head own at)) ∙ mask;
      };
    }

  -- a note more
  module _ (action : ℕ) (reason : Reason) (old new : RowNotes) (under : IsUnderway job cert before (Ok (given.Note action reason) ∷ left) old) where
    abbrev own : ℕ
    own = length old.sets.items - 1

    has_row : 0 < length before.rows
    has_row = elim under.row_first [
      | inl there ↦ there
      | inr none ↦ absurd none
    ]

    completes : cert_of (with_item before (given.Note action reason)) left ≡ Ok cert
    completes = sym (of_item before left (given.Note action reason) refl) ∙ under.completes

    last_within : own < length before.rows
    last_within = let some = has_row in let count = under.kept.noted.count in omega (arith, some, count)

    -- the row is the certificate's
    cert_row : (head : RowHead) → slice_get before.rows own ≡ Some head → slice_get cert.rows own ≡ Some head
    cert_row head at = (grows left (with_item before (given.Note action reason)) cert completes).rows own head at

    row_within : own < length cert.rows
    row_within = let head = get_or before.rows own no_row in slice_get_within cert.rows own head (cert_row head (slice_get-get_or before.rows own no_row last_within))

    min_is : min (length before.rows - 1) (2 ^ 32 - 1) ≡ own
    min_is =
        let few = few_rows job under.valid cert.rows (rows_of job under.valid cert.rows cert.notes under.form.rows) in
        let within = row_within in
        let some = has_row in
        let count = under.kept.noted.count in
        omega (arith, few, within, some, count)

    its_note : IsNote job cert.rows (note_at own action reason)
    its_note =
        let noted : Note = note_at (min (length before.rows - 1) (2 ^ 32 - 1)) action reason in
        let is = (grows left (with_item before (given.Note action reason)) cert completes).kept noted (Contains-push before.notes noted) in
        subst (λ (n : ℕ). IsNote job cert.rows (note_at n action reason)) min_is
        (subst (IsNote job cert.rows) is.2 (under.form.rows.each_note is.0 noted is.1))

    at_row : IsAtRow job cert.rows old.folded.mask (note_at own action reason)
    at_row =
        let head = get_or before.rows own no_row in
        let at = slice_get-get_or before.rows own no_row last_within in
        let count = under.kept.noted.count in
        let same : length before.rows - 1 ≡ own = omega (arith, count) in
        let here = get_or_from_slice_get cert.rows own head no_row (cert_row head at) in
        let is = its_note in
        record {
          head = head;
          at = cert_row head at;
          mask_is = under.kept.mask head (ap (slice_get before.rows) same ∙ at);
          valid = subst (IsRow job) here (under.form.rows.each_row own no_row row_within);
          tried = (is.action, tried_at job head.key action is.action (subst (λ (h : RowHead). IsTrue (is_lead job h.key.mask (action_at (stage_count job) action).bend)) here (is.lead no_row)));
        }

    pub underway_note : new.folded.mask ≡ old.folded.mask
        → (0 < length before.rows → action < 2 * bend_count job * stage_count job → AreNoted job before.rows before.notes old.sets.items → AreNoted job before.rows (before.notes ++ last_note old action reason ∷ []) new.sets.items)
        → (0 < length old.sets.items → IsAtRow job cert.rows old.folded.mask (last_note old action reason) → IsFirstUnsound job cert.rows before.notes old.unsound → IsFirstUnsound job cert.rows (before.notes ++ last_note old action reason ∷ []) new.unsound)
        → IsUnderway job cert (with_item before (given.Note action reason)) left new
    underway_note mask sets unsound = record {
      valid = under.valid;
      form = under.form;
      completes = completes;
      row_first = inl has_row;
      kept = subst (λ (n : ℕ). KeepsNotes job cert.rows before.rows (before.notes ++ note_at n action reason ∷ []) new) (sym min_is) (record {
        noted = sets has_row its_note.action under.kept.noted;
        first = unsound (let some = has_row in let count = under.kept.noted.count in omega (arith, some, count)) at_row under.kept.first;
        mask = λ head at. under.kept.mask head at ∙ sym mask;
      });
    }

-- ---- what is read of the text
-- what is given is the next of a reader's answers
pub next_given : (r : Reading) (given : Result Item CertFault) (place : LinePlace) (rest : List ℕ) → GivesNext (answers_left r) given place rest
    → (slice_get (items r.kind r.text) r.answered ≡ Some given) × LeavesAt place rest (answers_left (behind r))
next_given r given place rest gives =
    let (more, first, left) = gives in (
      answer_at (items r.kind r.text) more r.answered given first,
      subst (LeavesAt place rest) (sym (answers_behind (items r.kind r.text) more r.answered given first)) left,
    )

-- so are those that are told at once
pub all_given : (r : Reading) (told : List (Result Item CertFault)) (count : ℕ) (place : LinePlace) (rest : List ℕ) → length told ≡ count → GivesAll (answers_left r) told place rest
    → (answers_left r ≡ told ++ answers_left (record r { answered = r.answered + count })) × LeavesAt place rest (answers_left (record r { answered = r.answered + count }))
all_given r told count place rest long gives =
    let (more, first, left) = gives in
    let all = items r.kind r.text in
    let behind : drop (r.answered + count) all ≡ more =
    sym (drop-drop count r.answered all) ∙ ap (λ (xs : List (Result Item CertFault)). drop count xs) first ∙ ap (λ (n : ℕ). drop n (told ++ more)) (sym long) ∙ drop-append_seam told more in (
      first ∙ ap (λ (xs : List (Result Item CertFault)). told ++ xs) (sym behind),
      subst (LeavesAt place rest) (sym behind) left,
    )

-- where no note is told the same answers are left
pub none_told : (known : KnownReasons) (set : ActionSet) (answers : List (Result Item CertFault)) (place : LinePlace) (rest : List ℕ) → IsNone set → GivesAll answers (notes_told known set) place rest → LeavesAt place rest answers
none_told known set answers place rest none gives =
    let (more, first, left) = gives in
    subst (LeavesAt place rest) (sym (first ∙ ap (λ (places : List ℕ). map (note_told known) places ++ more) (no_places set none))) left

abbrev whole : TextKind → List ℕ → Reading
whole kind text = record { kind = kind; text = text; answered = 0 }

-- the job, or the refusal of the text
pub job_read : (kind : TextKind) (text : List ℕ) (read : ReadCert) (place : LinePlace) (rest : List ℕ) → HasParts read no_cert → HasNoNotes read.notes → GivesNext (items kind text) (Ok (given.Job read.job)) place rest
    → IsReadBefore kind text read place rest
job_read kind text read place rest has none gives =
    let r = whole kind text in
    let next = next_given r (Ok (given.Job read.job)) place rest gives in
    record {
      reader = behind r;
      reads = record {
        behind_job = answers_left (behind r);
        starts = left_on r (Ok (given.Job read.job)) next.0;
        before = no_cert;
        has = has;
        same = refl;
        more = job_behind r (Ok read.job) next.0;
        underway = λ cert made. underway_first read.job cert (answers_left (behind r)) read.notes none made;
      };
      leaves = next.1;
    }

-- answers that begin with a refusal are refused, and so are others that come to one
are_refused : (answers more : List (Result Item CertFault)) (fault : CertFault) → answers ≡ Err fault ∷ more → AreRefused answers fault
are_refused answers more fault is = subst (λ (all : List (Result Item CertFault)). AreRefused all fault) (sym is) refl

pub job_refused : (kind : TextKind) (text : List ℕ) (fault : CertFault) (place : LinePlace) (rest : List ℕ) → GivesNext (items kind text) (Err fault) place rest → ReadAnswer kind text (Err (Cert fault))
job_refused kind text fault place rest (more, first, left) = are_refused (items kind text) more fault first

-- what the text may go on with
pub holds_edge : (fault : CertFault) (behind : List ℕ) → (Cert fault ≡ Cert faults.Unended → behind ≡ []) → HoldsBefore (Err fault) behind
holds_edge (faults.BadLine line) behind edge = tt
holds_edge faults.Unended behind edge = edge refl
holds_edge faults.Trailing behind edge = tt
holds_edge faults.BadJob behind edge = tt
holds_edge faults.NoMemory behind edge = tt

abbrev refusal : CheckFault → Result ReadCert CheckFault
refusal fault = Err fault

err_same : (a b : CheckFault) → refusal a ≡ refusal b → a ≡ b
err_same a b same = ap (λ (r : Result ReadCert CheckFault). elim r [ Ok read ↦ a | Err fault ↦ fault ]) same

pub edge_refused : (kind : TextKind) (text behind : List ℕ) (own : CertFault) (fault : CheckFault) (place : LinePlace) (rest : List ℕ) → refusal (Cert own) ≡ refusal fault → (fault ≡ Cert faults.Unended → behind ≡ [])
    → (HoldsBefore (Err own) behind → GivesNext (items kind text) (Err own) place rest) → ReadAnswer kind text (Err fault)
edge_refused kind text behind own fault place rest same edge gives =
    let is = err_same (Cert own) fault same in
    subst (λ (f : CheckFault). ReadAnswer kind text (Err f)) is (job_refused kind text own place rest (gives (holds_edge own behind (λ unended. edge (sym is ∙ unended)))))

module _ (kind : TextKind) (text : List ℕ) (read : ReadCert) (reader : Reading) (reads : IsReadUpTo kind text read reader) where
  -- the text begins with the job, which stays
  starts_on : (after : ReadCert) → after.job ≡ read.job → items kind text ≡ Ok (given.Job after.job) ∷ reads.behind_job
  starts_on after job = reads.starts ∙ ap (λ (j : JobData). Ok (given.Job j) ∷ reads.behind_job) (sym job)

  -- an item more
  pub reads_on : (after : ReadCert) (next : Reading) (place : LinePlace) (rest : List ℕ) (goes : Bool) → after.job ≡ read.job → LeavesAt place rest (answers_left next) → IsTesting after.job after.notes
      → ItemAnswer (Ok goes) reads.before read (answers_left reader) after (answers_left next) → PieceAnswer (Ok goes) kind text after place rest
  reads_on after next place rest true job leaves testing answer = record {
    reader = next;
    reads = record {
      behind_job = reads.behind_job;
      starts = starts_on after job;
      before = answer.0;
      has = answer.1;
      same = reads.same ∙ answer.2;
      more = left_some next answer.3;
      underway = λ cert made.
          subst (λ (j : JobData). IsUnderway j cert answer.0 (answers_left next) after.notes) (sym job) (answer.4 cert (reads.underway cert (subst (λ (j : JobData). IsGivenBy j cert reads.behind_job) job made)));
    };
    leaves = leaves;
  }
  reads_on after next place rest false job leaves testing answer = record {
    behind_job = reads.behind_job;
    starts = starts_on after job;
    cert = answer.0;
    completes = reads.same ∙ answer.2;
    has = answer.1;
    kept = λ made. subst (λ (j : JobData). KeepsAll j answer.0 after.notes) (sym job) (answer.3 (reads.underway answer.0 (subst (λ (j : JobData). IsGivenBy j answer.0 reads.behind_job) job made)));
    testing = testing;
  }

  -- a refusal
  pub refused_on : (fault : CertFault) → cert_of reads.before (answers_left reader) ≡ Err fault → ReadAnswer kind text (Err (Cert fault))
  refused_on fault answer = subst (λ (all : List (Result Item CertFault)). AreRefused all fault) (sym reads.starts) (reads.same ∙ answer)

-- where nothing more was read
pub moved : (kind : TextKind) (text : List ℕ) (read other : ReadCert) (place elsewhere : LinePlace) (rest after behind : List ℕ) → other ≡ read → elsewhere ≡ place → after ≡ rest → IsReadBefore kind text read place (rest ++ behind) → IsReadBefore kind text other elsewhere (after ++ behind)
moved kind text read other place elsewhere rest after behind same there left is =
    subst (λ (r : ReadCert). IsReadBefore kind text r elsewhere (after ++ behind)) (sym same)
    (subst (λ (p : LinePlace). IsReadBefore kind text read p (after ++ behind)) (sym there) (subst (λ (t : List ℕ). IsReadBefore kind text read place (t ++ behind)) (sym left) is))

-- what a piece came to, by whether more is left
pub piece_goes : (answer : Result Bool CheckFault) (goes other : Bool) (kind : TextKind) (text : List ℕ) (read : ReadCert) (place : LinePlace) (rest : List ℕ) → answer ≡ Ok goes → goes ≡ other → PieceAnswer answer kind text read place rest → PieceAnswer (Ok other) kind text read place rest
piece_goes answer goes other kind text read place rest is same piece = subst (λ (a : Result Bool CheckFault). PieceAnswer a kind text read place rest) (is ∙ ap Ok same) piece

pub of_ok : (answer : Result Bool CheckFault) (goes : Bool) (P : Type 0) → answer ≡ Ok goes → IfOk answer (λ _. P) → P
of_ok answer goes P is holds = subst (λ (a : Result Bool CheckFault). IfOk a (λ _. P)) is holds

-- where nothing is behind the text
pub whole_answer : (kind : TextKind) (text rest : List ℕ) (answer : Result ReadCert CheckFault) → rest ≡ text → ReadAnswer kind (rest ++ []) answer → ReadAnswer kind text answer
whole_answer kind text rest answer same is = subst (λ (t : List ℕ). ReadAnswer kind t answer) (append-nil rest ∙ same) is
