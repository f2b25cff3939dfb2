-- The merge of closed tables is closed.
use Rattle.std.proofs.Common.{◌≡◌, inl, inr, ℕ, zero, suc, ◌+◌, ◌*◌, ◌<◌, Bool, true, false, List, [], ◌∷◌, length, get_or, Option, Some, None, refl, sym, ◌∙◌, ap, subst, arith}
use Rattle.std.specs.Prelude.{◌⊎◌, if◌then◌else◌, slice_get}
use Rattle.std.proofs.lemmas.Bool.{false≢true}
use Rattle.std.proofs.lemmas.Option.{same_Some, slice_get_within, get_or_from_slice_get, slice_get-get_or, slice_get-map}
use Rattle.brake_base.specs.declared.stroke.Key.{Key}
use Rattle.brake_base.specs.declared.stroke.Worth.{Worth}
use Rattle.brake_base.specs.declared.reason.Reason.{Reason}
use Rattle.brake_base.specs.Keys.{is_key, KeyIsBefore}
use Rattle.brake_base.specs.Reasons.{reason_place}
use Rattle.brake_base.specs.Worths.{IsAtMost}
use Rattle.brake_base.proofs.Keys.{key_is}
use Rattle.brake_base.proofs.Worths.{at_most_self, at_most_both, at_most_either}
use Rattle.job_setup.specs.Setup.{JobData, bend_count, stage_count}
use Rattle.handling_cost.specs.StepCost.{IsActionAt}
use Rattle.handling_cost.specs.Plan.{IsReasonFor}
use Rattle.handling_cost.specs.Good.{IsClosed}
use Rattle.handling_cost.specs.Proved.{Grows}
use Rattle.handling_cost.proofs.Tables.{closed_grown}
use Rattle.cert_lines.specs.declared.row_head.RowHead.{RowHead}
use Rattle.plan_lines.specs.declared.note.Note.{Note}
use Rattle.cert_lines.specs.Lines.{action_at}
use Rattle.plan_cert.specs.GoodCert.{HaveRow}
use Rattle.plan_cert.specs.RowFaults.{IsAccounted, RowsAreAccounted}
use Rattle.plan_cert.proofs.Conditions.{accounted, condition_met}
use Rattle.plan_cert.proofs.RowOrder.{no_row, row_of}
use Rattle.cert_merge.specs.Table.{TableData, IsTable, IsClosedTable}
use Rattle.cert_merge.specs.Entries.{Settled, said_of, stands_before, first_reason, is_at_most, joined, merged_at}
use Rattle.cert_merge.specs.Merged.{reason_noted, rows_said, settled_at, IsMerged}
use Rattle.cert_merge.specs.MergeSteps.{Rows, table_said}
use Rattle.cert_merge.proofs.Joining.{Compared, lower, equal, higher, compared, joined_lower, joined_higher, joined_equal, most_told, most_tested}
use Rattle.cert_merge.proofs.Merging.{Ascending, said_first, said_later, key_never, After}
use Rattle.cert_merge.proofs.FlatForm.{said_ascends, said_at, length_said}
use Rattle.cert_merge.proofs.OneTable.{noted_is, is_noted}

-- what is said of a key is said by a row
record IsFound (notes : List Note) (from : ℕ) (rows : List RowHead) (key : Key) (said : Settled) : Type 0 where
  row : ℕ
  at : slice_get rows row ≡ Some (record { key = key; worth = said.worth })
  reasons : said.reasons ≡ reason_noted notes (from + row)

found : (notes : List Note) (from : ℕ) (rows : List RowHead) (key : Key) (said : Settled) → said_of key (rows_said notes from rows) ≡ Some said → IsFound notes from rows key said
found notes from [] key said e = absurd (cc)
found notes from (head ∷ rows) key said e = by_test (is_key head.key key) refl e (found notes (suc from) rows key said)
  where
    by_test : (b : Bool) → is_key head.key key ≡ b → (if b then Some (record { worth = head.worth; reasons = reason_noted notes from }) else said_of key (rows_said notes (suc from) rows)) ≡ Some said
        → (said_of key (rows_said notes (suc from) rows) ≡ Some said → IsFound notes (suc from) rows key said) → IsFound notes from (head ∷ rows) key said
    by_test true is e later =
        let same = key_is head.key key is in
        let says = same_Some (record { worth = head.worth; reasons = reason_noted notes from }) said e in
        let none : from ≡ from + 0 = omega arith in
        record {
          row = 0;
          at = λ i. Some (record { key = same i; worth = (says i).worth });
          reasons = sym (ap (λ (s : Settled). s.reasons) says) ∙ ap (λ (n : ℕ). reason_noted notes n) none;
        }
    by_test false is e later =
        let there = later e in
        let one : suc from + there.row ≡ from + suc there.row = omega arith in
        record { row = suc there.row; at = there.at; reasons = there.reasons ∙ ap (λ (n : ℕ). reason_noted notes n) one }

after_at : (key : Key) (rows : Rows) (i : ℕ) (d : Key × Settled) → After key rows → i < length rows → KeyIsBefore key (get_or rows i d).0
after_at key [] i d after within = absurd (omega (arith, within))
after_at key (row ∷ rows) zero d after within = after.0
after_at key (row ∷ rows) (suc i) d after within = after_at key rows i d after.1 (omega (arith, within))

-- what each of ascending rows says is said of its key
said_here : (rows : Rows) (i : ℕ) (d : Key × Settled) → Ascending rows → i < length rows → said_of (get_or rows i d).0 rows ≡ Some (get_or rows i d).1
said_here [] i d up within = absurd (omega (arith, within))
said_here (row ∷ rows) zero d up within = said_first row.0 row rows refl
said_here (row ∷ rows) (suc i) d up within =
    let inside : i < length rows = omega (arith, within) in
    said_later (get_or rows i d).0 row rows (λ same. key_never row.0 (get_or rows i d).0 same (after_at row.0 rows i d up.0 inside)) ∙ said_here rows i d up.1 inside

module _ (job : JobData) (t : TableData) (is : IsTable job t) where
  -- what the row of a number says is said of its key
  pub row_says : (row : ℕ) (head : RowHead) → slice_get t.rows row ≡ Some head → settled_at t head.key ≡ Some (record { worth = head.worth; reasons = reason_noted t.notes row })
  row_says row head at =
      let within = slice_get_within t.rows row head at in
      let inside : row < length (table_said t) = subst (λ (n : ℕ). row < n) (sym (length_said t.notes 0 t.rows)) within in
      let said : Settled = record { worth = head.worth; reasons = reason_noted t.notes row } in
      let here = get_or_from_slice_get t.rows row head head at in
      let none : 0 + row ≡ row = omega arith in
      let told : get_or (table_said t) row (head.key, said) ≡ (head.key, said) =
      said_at t.notes 0 row t.rows (head.key, said) head within ∙ (λ i. ((here i).key, record { worth = (here i).worth; reasons = reason_noted t.notes (none i) })) in
      let says = said_here (table_said t) row (head.key, said) (said_ascends t.notes 0 t.rows is.rows.row_order) inside in
      subst (λ (s : Key × Settled). said_of s.0 (table_said t) ≡ Some s.1) told says

  -- a key with a row is said to have its worth
  pub have_said : (key : Key) (worth : Worth) → HaveRow t.rows key worth → (said : Settled) × (settled_at t key ≡ Some said) × (said.worth ≡ worth)
  have_said key worth row =
      let of = row_of job is.valid t.rows (record { each = is.rows.each_row; order = is.rows.row_order }) key worth row in
      let at = slice_get-get_or t.rows of.0 no_row of.1 ∙ ap Some (of.2 no_row) in
      (record { worth = worth; reasons = reason_noted t.notes of.0 }, row_says of.0 (record { key = key; worth = worth }) at, refl)

  pub said_have : (key : Key) (said : Settled) → settled_at t key ≡ Some said → HaveRow t.rows key said.worth
  said_have key said e =
      let there = found t.notes 0 t.rows key said e in
      (there.row, slice_get-map (λ (row : RowHead). (row.key, row.worth)) t.rows there.row ∙ rw there.at refl)

-- of what is noted of an action: the reason holds, or it is closed
abbrev pub IsMet : JobData → (Key → Worth → Type 0) → Key → Worth → ℕ → Option Reason → Type 0
IsMet job HasRow key worth action (Some reason) = IsReasonFor job key.mask (action_at (stage_count job) action) reason
IsMet job HasRow key worth action None = IsClosed job HasRow key (action_at (stage_count job) action) worth

-- each action at the key is met
abbrev pub AreMet : JobData → (Key → Worth → Type 0) → Key → Settled → Type 0
AreMet job HasRow key said = (action : ℕ) → action < 2 * bend_count job * stage_count job → IsActionAt job key (action_at (stage_count job) action) → IsMet job HasRow key said.worth action (said.reasons action)

pub met_grown : (job : JobData) (R S : Key → Worth → Type 0) → Grows R S → (key : Key) (worth : Worth) (action : ℕ) (noted : Option Reason) → IsMet job R key worth action noted → IsMet job S key worth action noted
met_grown job R S grows key worth action (Some reason) met = met
met_grown job R S grows key worth action None met = closed_grown job R S grows key (action_at (stage_count job) action) worth met

met_first : (job : JobData) (R : Key → Worth → Type 0) (key : Key) (worth : Worth) (action : ℕ) (a b : Option Reason) → IsMet job R key worth action a → IsMet job R key worth action b → IsMet job R key worth action (first_reason a b)
met_first job R key worth action None b first second = second
met_first job R key worth action (Some a) None first second = first
met_first job R key worth action (Some a) (Some b) first second = by_test (stands_before (reason_place b) (reason_place a))
  where
    by_test : (t : Bool) → IsMet job R key worth action (if t then Some b else Some a)
    by_test true = second
    by_test false = first

met_joined : (job : JobData) (R : Key → Worth → Type 0) (key : Key) (a b : Settled) → AreMet job R key a → AreMet job R key b → AreMet job R key (joined a b)
met_joined job R key a b first second = by_worth (compared a b)
  where
    by_worth : Compared a b → AreMet job R key (joined a b)
    by_worth (lower e) = subst (AreMet job R key) (sym (joined_lower a b e)) second
    by_worth (higher e) = subst (AreMet job R key) (sym (joined_higher a b e)) first
    by_worth (equal e f) =
        let same : b.worth ≡ a.worth = at_most_both b.worth a.worth (most_told b.worth a.worth e) (most_told a.worth b.worth f) in
        subst (AreMet job R key) (sym (joined_equal a b e f))
        (λ action less at. met_first job R key a.worth action (a.reasons action) (b.reasons action) (first action less at)
        (subst (λ (w : Worth). IsMet job R key w action (b.reasons action)) same (second action less at)))

-- the greater of two worths is at least each
joined_most : (a b : Settled) → IsAtMost a.worth (joined a b).worth × IsAtMost b.worth (joined a b).worth
joined_most a b = by_worth (compared a b)
  where
    not_more : (x y : Worth) → is_at_most x y ≡ false → IsAtMost y x
    not_more x y e = elim (at_most_either x y) [
      | inl most ↦ absurd (false≢true (sym e ∙ most_tested x y most))
      | inr most ↦ most
    ]

    by_worth : Compared a b → IsAtMost a.worth (joined a b).worth × IsAtMost b.worth (joined a b).worth
    by_worth (lower e) = subst (λ (s : Settled). IsAtMost a.worth s.worth × IsAtMost b.worth s.worth) (sym (joined_lower a b e)) (not_more b.worth a.worth e, at_most_self b.worth)
    by_worth (higher e) = subst (λ (s : Settled). IsAtMost a.worth s.worth × IsAtMost b.worth s.worth) (sym (joined_higher a b e)) (at_most_self a.worth, not_more a.worth b.worth e)
    by_worth (equal e f) = subst (λ (s : Settled). IsAtMost a.worth s.worth × IsAtMost b.worth s.worth) (sym (joined_equal a b e f)) (at_most_self a.worth, most_told b.worth a.worth e)

-- each action at the rows of a closed table is met
pub all_met : (job : JobData) (t : TableData) (is : IsTable job t) → IsClosedTable job t → (key : Key) (said : Settled) → settled_at t key ≡ Some said → AreMet job (HaveRow t.rows) key said
all_met job t is closed key said e action less at =
    let there = found t.notes 0 t.rows key said e in
    let none : 0 + there.row ≡ there.row = omega arith in
    let head : RowHead = record { key = key; worth = said.worth } in
    let noted : said.reasons action ≡ reason_noted t.notes there.row action = ap (λ (f : ℕ → Option Reason). f action) there.reasons ∙ ap (λ (n : ℕ). reason_noted t.notes n action) none in
    subst (IsMet job (HaveRow t.rows) key said.worth action) (sym noted)
    (by_account there.row head (accounted job is.valid t.rows t.notes is.rows closed there.row action head there.at (less, at)) (reason_noted t.notes there.row action) refl)
  where
    by_account : (row : ℕ) (head : RowHead) → IsAccounted job t.rows t.notes row head action → (o : Option Reason) → reason_noted t.notes row action ≡ o → IsMet job (HaveRow t.rows) head.key head.worth action o
    by_account row head (inl note) o e =
        let told = is_noted t.notes (record { row = row; action = action; reason = note.0 }) is.rows.note_order note.1 in
        subst (IsMet job (HaveRow t.rows) head.key head.worth action) (sym told ∙ e) note.2
    by_account row head (inr free) None e = free.1
    by_account row head (inr free) (Some reason) e = absurd (free.0 reason (noted_is t.notes row action reason e))

-- and the other way round
all_accounted : (job : JobData) (t : TableData) (is : IsTable job t) → ((key : Key) (said : Settled) → settled_at t key ≡ Some said → AreMet job (HaveRow t.rows) key said) → IsClosedTable job t
all_accounted job t is met = condition_met job is.valid t.rows t.notes is.rows account
  where
    by_note : (row action : ℕ) (head : RowHead) (o : Option Reason) → reason_noted t.notes row action ≡ o → IsMet job (HaveRow t.rows) head.key head.worth action o → IsAccounted job t.rows t.notes row head action
    by_note row action head (Some reason) e met = inl (reason, noted_is t.notes row action reason e, met)
    by_note row action head None e met =
        inr ((λ reason at. let told = is_noted t.notes (record { row = row; action = action; reason = reason }) is.rows.note_order at in absurd (some_none reason (reason_noted t.notes row action) told e)), met)
      where
        some_none : (reason : Reason) (o : Option Reason) → o ≡ Some reason → o ≡ None → ⊥
        some_none reason o e f = absurd (cc)

    account : RowsAreAccounted job t.rows t.notes (length t.rows)
    account row head less at action few tried =
        by_note row action head (reason_noted t.notes row action) refl
        (met head.key (record { worth = head.worth; reasons = reason_noted t.notes row }) (row_says job t is row head at) action tried.0 tried.1)

module _ (job : JobData) (a b merged : TableData) (is_a : IsTable job a) (is_b : IsTable job b) (is_m : IsTable job merged) (is : IsMerged a b merged) where
  grows_by : (key : Key) (worth : Worth) (o p : Option Settled) → settled_at a key ≡ o → settled_at b key ≡ p → (x : Settled) → ((o ≡ Some x) ⊎ (p ≡ Some x)) → x.worth ≡ worth
      → (more : Worth) × HaveRow merged.rows key more × IsAtMost worth more
  grows_by key worth None None e f x (inl one) same = absurd (cc)
  grows_by key worth None None e f x (inr two) same = absurd (cc)
  grows_by key worth None (Some y) e f x (inl one) same = absurd (cc)
  grows_by key worth None (Some y) e f x (inr two) same =
      let says : settled_at merged key ≡ Some y = is key ∙ (λ i. merged_at (e i) (f i)) in
      let worths : y.worth ≡ worth = ap (λ (s : Settled). s.worth) (same_Some y x two) ∙ same in
      (y.worth, said_have job merged is_m key y says, subst (λ (w : Worth). IsAtMost w y.worth) worths (at_most_self y.worth))
  grows_by key worth (Some y) None e f x (inr two) same = absurd (cc)
  grows_by key worth (Some y) None e f x (inl one) same =
      let says : settled_at merged key ≡ Some y = is key ∙ (λ i. merged_at (e i) (f i)) in
      let worths : y.worth ≡ worth = ap (λ (s : Settled). s.worth) (same_Some y x one) ∙ same in
      (y.worth, said_have job merged is_m key y says, subst (λ (w : Worth). IsAtMost w y.worth) worths (at_most_self y.worth))
  grows_by key worth (Some y) (Some z) e f x which same =
      let says : settled_at merged key ≡ Some (joined y z) = is key ∙ (λ i. merged_at (e i) (f i)) in
      let most = joined_most y z in (
        (joined y z).worth,
        said_have job merged is_m key (joined y z) says,
        elim which [
          | inl one ↦ subst (λ (w : Worth). IsAtMost w (joined y z).worth) (ap (λ (s : Settled). s.worth) (same_Some y x one) ∙ same) most.0
          | inr two ↦ subst (λ (w : Worth). IsAtMost w (joined y z).worth) (ap (λ (s : Settled). s.worth) (same_Some z x two) ∙ same) most.1
        ],
      )

  pub grows_first : Grows (HaveRow a.rows) (HaveRow merged.rows)
  grows_first key worth row = let said = have_said job a is_a key worth row in grows_by key worth (settled_at a key) (settled_at b key) refl refl said.0 (inl said.1) said.2

  pub grows_second : Grows (HaveRow b.rows) (HaveRow merged.rows)
  grows_second key worth row = let said = have_said job b is_b key worth row in grows_by key worth (settled_at a key) (settled_at b key) refl refl said.0 (inr said.1) said.2

  grown : (t : TableData) → Grows (HaveRow t.rows) (HaveRow merged.rows) → (key : Key) (said : Settled) → AreMet job (HaveRow t.rows) key said → AreMet job (HaveRow merged.rows) key said
  grown t grows key said met action less at = met_grown job (HaveRow t.rows) (HaveRow merged.rows) grows key said.worth action (said.reasons action) (met action less at)

  -- where the first is closed, and the actions at the rows of the second are met over the merge's rows
  pub merged_closed_over : IsClosedTable job a → ((key : Key) (said : Settled) → settled_at b key ≡ Some said → AreMet job (HaveRow merged.rows) key said) → IsClosedTable job merged
  merged_closed_over closed_a met_b = all_accounted job merged is_m (λ key said e. by_both key said (settled_at a key) (settled_at b key) refl refl (sym (is key) ∙ e))
    where
      by_both : (key : Key) (said : Settled) (o p : Option Settled) → settled_at a key ≡ o → settled_at b key ≡ p → merged_at o p ≡ Some said → AreMet job (HaveRow merged.rows) key said
      by_both key said None None e f g = absurd (cc)
      by_both key said None (Some y) e f g = subst (AreMet job (HaveRow merged.rows) key) (same_Some y said g) (met_b key y f)
      by_both key said (Some x) None e f g =
          subst (AreMet job (HaveRow merged.rows) key) (same_Some x said g) (grown a grows_first key x (all_met job a is_a closed_a key x e))
      by_both key said (Some x) (Some y) e f g =
          subst (AreMet job (HaveRow merged.rows) key) (same_Some (joined x y) said g)
          (met_joined job (HaveRow merged.rows) key x y (grown a grows_first key x (all_met job a is_a closed_a key x e)) (met_b key y f))

  pub merged_closed : IsClosedTable job a → IsClosedTable job b → IsClosedTable job merged
  merged_closed closed_a closed_b = merged_closed_over closed_a (λ key said e. grown b grows_second key said (all_met job b is_b closed_b key said e))
