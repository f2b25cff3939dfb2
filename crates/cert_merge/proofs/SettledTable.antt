-- What a settled table proves is what the base and the settled keys prove, so that its new rows are settled's.
use Rattle.std.proofs.Common.{◌≡◌, inl, inr, ℕ, ◌-◌, false, List, Option, Some, None, refl, sym, ◌∙◌, ap, subst, arith}
use Rattle.std.specs.Prelude.{max, option_map}
use Rattle.std.proofs.lemmas.Bool.{false≢true}
use Rattle.std.proofs.lemmas.Int.{clamps}
use Rattle.std.proofs.lemmas.Option.{none-some, slice_get_cases}
use Rattle.brake_base.specs.declared.stroke.Key.{Key}
use Rattle.brake_base.specs.declared.stroke.Worth.{Worth}
use Rattle.brake_base.specs.declared.stroke.Worth.TheVariants.{Cost, Blocked}
use Rattle.brake_base.specs.Worths.{IsAtMost, greater}
use Rattle.brake_base.proofs.Worths.{at_most_self, at_most_both, at_most_either, greater_either, greater_first, greater_second}
use Rattle.job_setup.specs.Setup.{JobData}
use Rattle.handling_cost.specs.StepCost.{IsKeyOf}
use Rattle.handling_cost.specs.Bound.{bound_of}
use Rattle.cert_lines.specs.declared.row_head.RowHead.{RowHead}
use Rattle.plan_cert.specs.GoodCert.{HaveRow}
use Rattle.cert_merge.specs.declared.settled_sets.SettledSet.{SettledSet}
use Rattle.cert_merge.specs.declared.settled_sets.SettledSets.{SettledSets}
use Rattle.cert_merge.specs.Entries.{Settled, is_at_most, joined, merged_at}
use Rattle.cert_merge.specs.Merged.{settled_at, IsMerged, KeepsForm}
use Rattle.cert_merge.specs.Table.{TableData, IsTable}
use Rattle.cert_merge.specs.TableChecks.{proved_by}
use Rattle.cert_merge.specs.Settled.{IsSettledBy, IsInRange, IsSettled}
use Rattle.cert_merge.specs.Settling.{said_by, said_in, with_said, proved_over, AreSettled, HasSets, IsAmong, SaysSettled}
use Rattle.cert_merge.proofs.Joining.{Compared, lower, equal, higher, compared, joined_lower, joined_higher, joined_equal, most_told, most_tested}
use Rattle.cert_merge.proofs.MergedClosed.{have_said, said_have}
use Rattle.cert_merge.proofs.ProvedWorths.{bound_proved, row_proved}
use Rattle.cert_merge.proofs.TableChecking.{table_rows}
use Rattle.cert_merge.proofs.SettledSets.{below_high, settled_moved}
use Rattle.cert_merge.proofs.SettledRows.{range_among}

-- ---- the greater of worths
greater_low : (a b : Worth) → IsAtMost a b → greater a b ≡ b
greater_low a b low = at_most_both (greater a b) b (elim (greater_either a b) [
  | inl same ↦ subst (λ (w : Worth). IsAtMost w b) (sym same) low
  | inr same ↦ subst (λ (w : Worth). IsAtMost w b) (sym same) (at_most_self b)
]) (greater_second a b)

greater_high : (a b : Worth) → IsAtMost b a → greater a b ≡ a
greater_high a b low = at_most_both (greater a b) a (elim (greater_either a b) [
  | inl same ↦ subst (λ (w : Worth). IsAtMost w a) (sym same) (at_most_self a)
  | inr same ↦ subst (λ (w : Worth). IsAtMost w a) (sym same) low
]) (greater_first a b)

greater_through : (a b c : Worth) → greater a (greater b c) ≡ greater (greater a b) c
greater_through Blocked b c = refl
greater_through (Cost l) Blocked c = refl
greater_through (Cost l) (Cost m) Blocked = refl
greater_through (Cost l) (Cost m) (Cost n) = let same : max l (max m n) ≡ max (max l m) n = omega (arith, clamps) in ap Cost same

not_more : (x y : Worth) → is_at_most x y ≡ false → IsAtMost y x
not_more x y e = elim (at_most_either x y) [
  | inl most ↦ absurd (false≢true (sym e ∙ most_tested x y most))
  | inr most ↦ most
]

-- what is joined has the greater worth
joined_worth : (a b : Settled) → (joined a b).worth ≡ greater a.worth b.worth
joined_worth a b = by_worth (compared a b)
  where
    by_worth : Compared a b → (joined a b).worth ≡ greater a.worth b.worth
    by_worth (lower e) = ap (λ (s : Settled). s.worth) (joined_lower a b e) ∙ sym (greater_low a.worth b.worth (not_more b.worth a.worth e))
    by_worth (higher e) = ap (λ (s : Settled). s.worth) (joined_higher a b e) ∙ sym (greater_high a.worth b.worth (not_more a.worth b.worth e))
    by_worth (equal e f) = ap (λ (s : Settled). s.worth) (joined_equal a b e f) ∙ sym (greater_high a.worth b.worth (most_told b.worth a.worth e))

with_merged : (worth : Worth) (a b : Option Settled) → with_said worth (merged_at a b) ≡ with_said (with_said worth a) b
with_merged worth None b = refl
with_merged worth (Some a) None = refl
with_merged worth (Some a) (Some b) = ap (greater worth) (joined_worth a b) ∙ greater_through worth a.worth b.worth

-- ---- what a table proves by what it says
module _ (job : JobData) (u : TableData) (is_u : IsTable job u) (key : Key) where
  by_said : (said : Option Settled) → settled_at u key ≡ said → proved_by job u.rows key ≡ with_said (Cost (bound_of job key)) said
  by_said None e = sym (bound_proved job is_u.valid u.rows (table_rows job u is_u) key none)
    where
      none : (worth : Worth) → HaveRow u.rows key worth → ⊥
      none worth row = let said = have_said job u is_u key worth row in none-some said.0 (sym e ∙ said.1)
  by_said (Some said) e = sym (row_proved job is_u.valid u.rows (table_rows job u is_u) key said.worth (said_have job u is_u key said e))

  pub said_proves : proved_by job u.rows key ≡ with_said (Cost (bound_of job key)) (settled_at u key)
  said_proves = by_said (settled_at u key) refl

-- a merge proves what the first table and what the second says prove
module _ (job : JobData) (a b t : TableData) (is_a : IsTable job a) (is_t : IsTable job t) (is : IsMerged a b t) where
  pub merged_proves : (key : Key) → proved_by job t.rows key ≡ with_said (proved_by job a.rows key) (settled_at b key)
  merged_proves key =
      let bound = Cost (bound_of job key) in
      said_proves job t is_t key
      ∙ (ap (with_said bound) (is key)
      ∙ (with_merged bound (settled_at a key) (settled_at b key)
      ∙ ap (λ (w : Worth). with_said w (settled_at b key)) (sym (said_proves job a is_a key))))

-- a key that is among the settled ones has something said of it
among_said : (settled : SettledSets) (key : Key) → IsAmong settled key.mask → (said : Settled) × (said_in settled key ≡ Some said)
among_said settled key among = elim (slice_get_cases settled.sets.items (settled.high - key.mask.0)).1 [
  | inl found ↦ (said_by found.0 key, below_high settled key among.high ∙ ap (λ (o : Option SettledSet). option_map (λ (set : SettledSet). said_by set key) o) found.2)
  | inr past ↦ let within = among.within in let from = past.0 in absurd (omega (arith, within, from))
]

-- ---- the new rows of a settled table are settled's
module _ (job : JobData) (base new t : TableData) (low high : ℕ) (settled : SettledSets) (is_base : IsTable job base) (is_t : IsTable job t) (has : HasSets low high settled) (says : SaysSettled job low high settled new) (are : AreSettled job base.rows settled) (is : IsMerged base new t) where
  pub agree : (key : Key) → IsKeyOf job key → proved_over job base.rows settled key ≡ proved_by job t.rows key
  agree key ranged =
      ap (with_said (proved_by job base.rows key)) (sym (says.same key ranged)) ∙ sym (merged_proves job base new t is_base is_t is key)

  pub new_row : (key : Key) → IsInRange job low high key → (said : Settled) × (settled_at new key ≡ Some said) × IsSettledBy job (proved_by job t.rows) key said
  new_row key range =
      let found = among_said settled key (range_among job low high settled has key range) in (
        found.0,
        says.same key range.of_job ∙ found.1,
        settled_moved job is_t.valid (proved_over job base.rows settled) (proved_by job t.rows) key found.0 range.of_job (λ k in_range more. agree k in_range) (are key found.0 range.of_job found.1),
      )

  pub is_settled : IsSettled job base low high t
  is_settled = record {
    new = new;
    new_rows = record { form = says.form; each = new_row; only = says.only };
    merged = is;
  }

-- a merge of the base and the new rows is settled, and is a table
pub settled_merge : (job : JobData) (base new t : TableData) (low high : ℕ) (settled : SettledSets) (rows : List RowHead) → rows ≡ base.rows → IsTable job base → HasSets low high settled → SaysSettled job low high settled new → AreSettled job rows settled
    → IsMerged base new t → KeepsForm base new t → IsSettled job base low high t × IsTable job t
settled_merge job base new t low high settled rows same is_base has says are is keeps =
    let is_t = keeps job is_base says.form in
    (is_settled job base new t low high settled is_base is_t has says (subst (λ (r : List RowHead). AreSettled job r settled) same are) is, is_t)
