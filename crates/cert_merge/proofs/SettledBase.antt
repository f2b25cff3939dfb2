-- A closed base says nothing of a key of the range that the key's new row doesn't say.
use Rattle.std.proofs.Common.{◌≡◌, inl, inr, ℕ, Bool, true, false, Option, Some, None, refl, sym, ◌∙◌, ap, subst, arith}
use Rattle.std.specs.Prelude.{if◌then◌else◌}
use Rattle.std.proofs.lemmas.Bool.{false≢true}
use Rattle.std.proofs.lemmas.Int.{clamps}
use Rattle.brake_base.specs.declared.stroke.Key.{Key}
use Rattle.brake_base.specs.declared.stroke.Worth.{Worth}
use Rattle.brake_base.specs.declared.stroke.Worth.TheVariants.{Cost, Blocked}
use Rattle.brake_base.specs.declared.reason.Reason.{Reason}
use Rattle.brake_base.specs.Reasons.{reason_place, ReasonIsBefore}
use Rattle.brake_base.specs.Worths.{IsAtMost}
use Rattle.job_setup.specs.Setup.{JobData, stage_count}
use Rattle.handling_cost.specs.StepCost.{key_after}
use Rattle.handling_cost.specs.Plan.{IsReasonFor}
use Rattle.handling_cost.proofs.Proved.{proved_is}
use Rattle.handling_cost.proofs.Tables.{closed_by_greatest}
use Rattle.cert_lines.specs.Lines.{action_at}
use Rattle.cert_lines.specs.Lines.{IsWorth}
use Rattle.plan_cert.specs.GoodCert.{worths_in, HaveRow}
use Rattle.plan_lines.proofs.NumberedActions.{tried_at}
use Rattle.cert_merge.specs.Entries.{Settled, stands_before, first_reason, joined}
use Rattle.cert_merge.specs.Merged.{settled_at}
use Rattle.cert_merge.specs.MergeSteps.{table_said}
use Rattle.cert_merge.specs.Table.{TableData, IsTable, IsClosedTable}
use Rattle.cert_merge.specs.TableChecks.{proved_by}
use Rattle.cert_merge.specs.Settled.{IsNumberAt, IsFirstFor, worth_by, capped, IsSettledBy, IsSettled}
use Rattle.cert_merge.proofs.Joining.{lower, equal, higher, compared, joined_lower, joined_equal, most_tested, same_worth}
use Rattle.cert_merge.proofs.MergedClosed.{IsMet, AreMet, all_met, grows_first, met_grown}
use Rattle.cert_merge.proofs.MergedForm.{IsSaidOf, table_says}
use Rattle.cert_merge.proofs.Orders.{reason_either, tested}
use Rattle.cert_merge.proofs.SettledRows.{said_among}

-- a worth that a row may have is at most the capped one, where it is at most the other
capped_least : (worth most : Worth) → IsWorth worth → IsAtMost worth most → IsAtMost worth (capped most)
capped_least worth Blocked small low = tt
capped_least (Cost m) (Cost n) small low = omega (arith, clamps, small, low)
capped_least Blocked (Cost n) small low = absurd low

-- the first reason against an action is the one of two that hold which stays
first_stays : (a b : Reason) → (ReasonIsBefore a b → ⊥) → first_reason (Some a) (Some b) ≡ Some b
first_stays a b never = elim (reason_either a b) [
  | inl before ↦ absurd (never before)
  | inr (inl same) ↦ by_test (stands_before (reason_place b) (reason_place a)) same
  | inr (inr after) ↦ ap (λ (t : Bool). if t then Some b else Some a) (tested (reason_place b) (reason_place a) after)
]
  where
    by_test : (t : Bool) → a ≡ b → (if t then Some b else Some a) ≡ Some b
    by_test true same = refl
    by_test false same = ap Some same

module _ (job : JobData) (base t : TableData) (low high : ℕ) (is_base : IsTable job base) (is_t : IsTable job t) (is : IsSettled job base low high t) (closed : IsClosedTable job base) (key : Key) (x y : Settled)
    (of_base : settled_at base key ≡ Some x) (of_new : IsSettledBy job (proved_by job t.rows) key y) where
  its_said : IsSaidOf job key x
  its_said = said_among (IsSaidOf job) key x (table_said base) (table_says job base is_base) of_base

  -- the actions at the base's row are met over the rows of both
  met : AreMet job (HaveRow t.rows) key x
  met action less at =
      met_grown job (HaveRow base.rows) (HaveRow t.rows) (grows_first job base is.new t is_base is.new_rows.form is_t is.merged) key x.worth action (x.reasons action) (all_met job base is_base closed key x of_base action less at)

  -- so an action without a note at the new row comes to at least what the base says
  at_least : (number : ℕ) (at : IsNumberAt job key number) (o : Option Reason) → y.reasons number ≡ None → IsMet job (HaveRow t.rows) key x.worth number o → IsAtMost x.worth (worth_by job (proved_by job t.rows) key (action_at (stage_count job) number))
  unfolding IsReasonFor
  at_least number at (Some reason) none holds = absurd (subst (IsFirstFor job key.mask (action_at (stage_count job) number)) none ((of_new.noted number).here at) reason holds)
  at_least number at None none closes =
      let action = action_at (stage_count job) number in
      (closed_by_greatest job (HaveRow t.rows) key action x.worth (proved_by job t.rows (key_after job key action)) (proved_is job (worths_in t.rows) (key_after job key action))).0 closes

  low_enough : IsAtMost x.worth of_new.least
  low_enough = elim of_new.is_least.one [
    | inl blocked ↦ subst (IsAtMost x.worth) (sym blocked) tt
    | inr one ↦ subst (IsAtMost x.worth) (sym one.3) (at_least one.0 one.1 (x.reasons one.0) one.2 (met one.0 one.1.0 one.1.1))
  ]

  no_more : IsAtMost x.worth y.worth
  no_more = subst (IsAtMost x.worth) (sym of_new.worth) (capped_least x.worth of_new.least its_said.row.worth low_enough)

  -- and each reason that the base notes holds
  noted_first : (number : ℕ) (reason : Reason) (o : Option Reason) → IsFirstFor job key.mask (action_at (stage_count job) number) o → IsReasonFor job key.mask (action_at (stage_count job) number) reason → first_reason (Some reason) o ≡ o
  unfolding IsReasonFor
  noted_first number reason None first holds = absurd (first reason holds)
  noted_first number reason (Some other) first holds = first_stays reason other (first.first reason holds)

  same_reason : (number : ℕ) (o : Option Reason) → x.reasons number ≡ o → first_reason o (y.reasons number) ≡ y.reasons number
  same_reason number None e = refl
  same_reason number (Some reason) e =
      let note = its_said.notes number reason e in
      let at = tried_at job key number note.action note.lead in
      noted_first number reason (y.reasons number) ((of_new.noted number).here (note.action, at)) (subst (IsMet job (HaveRow t.rows) key x.worth number) e (met number note.action at))

  pub new_row_stays : joined x y ≡ y
  new_row_stays = elim (compared x y) [
    | lower e ↦ joined_lower x y e
    | equal e f ↦ joined_equal x y e f ∙ (λ i. record { worth = same_worth x y e f i; reasons = λ number. same_reason number (x.reasons number) refl i })
    | higher f ↦ absurd (false≢true (sym f ∙ most_tested x.worth y.worth no_more))
  ]
