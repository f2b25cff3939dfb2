-- A key is done: no tested action is unknown, so that what is known of its actions tells its worth.
use Rattle.std.proofs.Common.{◌≡◌, inl, inr, ℕ, ◌+◌, ◌*◌, ◌/◌, ◌<◌, ◌≤◌, Bool}
use Rattle.std.proofs.Common.{true, false, cond, ◌&&◌, Option, Some, None, arith, refl, sym}
use Rattle.std.proofs.Common.{◌∙◌, ap, subst}
use Rattle.std.proofs.lemmas.Option.{none-some}
use Rattle.std.proofs.lemmas.Bool.{cases_lt}
use Rattle.brake_base.specs.declared.stroke.Key.{Key}
use Rattle.brake_base.specs.declared.stroke.Action.{Action}
use Rattle.brake_base.specs.declared.stroke.Step.{Step}
use Rattle.brake_base.specs.declared.stroke.Worth.{Worth}
use Rattle.brake_base.specs.declared.stroke.Worth.TheVariants.{Cost, Blocked}
use Rattle.brake_base.specs.declared.reason.Reason.{Reason}
use Rattle.brake_base.specs.Actions.{number_of_action, IsActionAmong}
use Rattle.brake_base.proofs.Actions.{same_number}
use Rattle.stage_lanes.specs.declared.actions.ActionSet.{ActionSet}
use Rattle.stage_lanes.specs.ActionSets.{place_of, has, has_place, ArePlaces}
use Rattle.job_setup.specs.Setup.{JobData, stage_count}
use Rattle.job_setup.specs.ValidJob.{IsJob}
use Rattle.handling_cost.specs.StepCost.{IsKeyOf, IsActionAt, key_after, cost_of}
use Rattle.handling_cost.specs.Plan.{IsLegal}
use Rattle.handling_cost.specs.Bound.{bound_of, sum_of}
use Rattle.handling_cost.specs.Good.{IsClosed}
use Rattle.row_pool.specs.Rows.{Pool, PoolRow, common_at, place_at, noted_reasons}
use Rattle.row_pool.proofs.NumberLemmas.{action_at, action_among, number_is, place_is, place_of_number}
use Rattle.bb_search.specs.declared.known.KnownActions.{KnownActions}
use Rattle.bb_search.specs.declared.settle.Choice.{Choice}
use Rattle.bb_search.specs.Table.{HasRow, reason_for, noted_for, IsNoted}
use Rattle.bb_search.specs.Settling.{IsAttained, IsKnown, LeadsOn, IsSettled, IsSound, IsSource}
use Rattle.bb_search.specs.KnownActions.{next_of, slack_of, IsFreeWith, IsSlack, AreKnownAt, CommonHold, IsChoice, IsWorthOf}
use Rattle.bb_search.specs.OpenRows.{IsPending}
use Rattle.bb_search.proofs.TableLemmas.{known_attained, known_proves}
use Rattle.bb_search.proofs.OrderLemmas.{number_in}
use Rattle.bb_search.proofs.KnownLemmas.{place_small, at_set, among_lanes, place_in, next_is_of_set}
use Rattle.bb_search.proofs.SettledParts.{noted_within, noted_past, both_true, true_both, one_false, by_bool, attained_by, leads_by, sum_small, rest_small}

module _ (job : JobData) (is_job : IsJob job) (now : Pool) (at : KnownActions)
    (choice : Choice) (notes : ActionSet) (row : PoolRow) (worth : Worth)
    (in_range : IsKeyOf job row.key) (sound : IsSound job now.rows)
    (known : AreKnownAt job now row.key.mask at) (hold : CommonHold job now)
    (actions : now.actions ≡ 24 * stage_count job) (is : IsChoice job row.key at choice)
    (all : (action : Action) → IsActionAt job row.key action → has choice.tested action ≡ true
    → has at.known action ≡ true)
    (notes_are : ArePlaces notes
    (λ place. has_place choice.tested place && has_place at.refused place))
    (worth_is : IsWorthOf choice.best worth) where
  abbrev done_row : PoolRow
  done_row = record row {
    reasons = noted_reasons now.actions (common_at now row.key.mask) notes;
    worth = Some worth;
  }

  whole : now.actions / 24 ≡ stage_count job
  whole = omega (arith, actions)

  among_stages : (action : Action) → IsActionAt job row.key action → IsActionAmong 12 (stage_count job) action
  among_stages action here = record {
    first = here.first;
    last = (among_lanes job is_job row.key action here).last;
    stage = here.stage;
  }

  abbrev note_at : ℕ → Option Reason
  note_at number = cond (has_place notes (place_at (now.actions / 24) number)) (common_at now row.key.mask number) None

  -- the notes of the row, number by number
  note_within : (number : ℕ) → number < now.actions → reason_for number done_row ≡ note_at number
  unfolding reason_for
  note_within number below =
      let same : 0 + number ≡ number = omega arith in
      noted_within note_at 0 now.actions number below ∙ ap note_at same

  note_past : (number : ℕ) → now.actions ≤ number → reason_for number done_row ≡ None
  unfolding reason_for
  note_past number past = noted_past note_at 0 now.actions number past

  -- the note of an action at the row.key
  note_of :
      (action : Action) → IsActionAt job row.key action
      → noted_for job action done_row
      ≡ cond (has notes action) (common_at now row.key.mask (number_of_action (stage_count job) action)) None
  note_of action here =
      let number = number_of_action (stage_count job) action in
      let among = among_stages action here in
      let below : number < now.actions = subst (λ (n : ℕ). number < n) (sym actions) (number_in job is_job row.key action here) in
      let place : place_at (now.actions / 24) number ≡ place_of action =
      ap (λ (n : ℕ). place_at n number) whole ∙ place_is (stage_count job) action among in
      note_within number below
      ∙ ap (λ (p : ℕ). cond (has_place notes p) (common_at now row.key.mask number) None) place

  -- an action at the row.key is noted where it was tested and is refused
  noted_is : (action : Action) → IsActionAt job row.key action → has notes action ≡ (has choice.tested action && has at.refused action)
  noted_is action here = notes_are (place_of action) (place_in job is_job row.key action here)

  -- a tested action without a note isn't refused
  not_refused : (action : Action) → IsActionAt job row.key action → noted_for job action done_row ≡ None → has choice.tested action ≡ true → has at.refused action ≡ false
  not_refused action here free tested = by_bool (has at.refused action)
      (λ refused.
      let member : has notes action ≡ true = noted_is action here ∙ true_both (has choice.tested action) (has at.refused action) tested refused in
      let common = (known.refused action (at_set job is_job row.key action here) (all action here tested) refused).0 in
      let number = number_of_action (stage_count job) action in
      let none : common_at now row.key.mask number ≡ None =
      sym (ap (λ (b : Bool). cond b (common_at now row.key.mask number) None) member) ∙ (sym (note_of action here) ∙ free) in
      absurd (common none))
      (λ free_of. free_of)

  -- what is known of a tested action without a note
  free_with : (action : Action) → IsActionAt job row.key action → noted_for job action done_row ≡ None → has choice.tested action ≡ true → IsFreeWith job now.rows row.key.mask action (slack_of at action)
  free_with action here free tested =
      known.free action (at_set job is_job row.key action here) (all action here tested) (not_refused action here free tested)

  legal_at : (action : Action) (slack : ℕ) (free : IsFreeWith job now.rows row.key.mask action slack) → IsLegal job row.key (record { action = action; gauge = free.legal.0 })
  legal_at action slack free =
      let legal = free.legal.1 in record {
        action = record { first = legal.action.first; last = legal.action.last; stage = legal.action.stage; lead = legal.action.lead };
        free = legal.free;
        gauge = legal.gauge;
      }

  -- the sum and the slack of a free action is its cost and the next row.key's worth
  paid : (action : Action) (n slack : ℕ) → slack + bound_of job (next_of job row.key.mask action) ≡ n → sum_of job row.key action + slack ≡ cost_of job row.key action + n
  paid action n slack is_slack =
      let same = ap (bound_of job) (next_is_of_set job row.key action) in
      omega (arith, is_slack, same)

  next_known : (action : Action) (found : Worth) → IsKnown job now.rows (next_of job row.key.mask action) found → IsKnown job now.rows (key_after job row.key action) found
  next_known action found is_known = subst (λ (k : Key). IsKnown job now.rows k found) (sym (next_is_of_set job row.key action)) is_known

  -- a tested action without a note is closed by the worth of its next row.key
  closed_by : (action : Action) → IsActionAt job row.key action → (found : Worth) → IsKnown job now.rows (key_after job row.key action) found → IsSlack job (next_of job row.key.mask action) found (slack_of at action) → IsClosed job (HasRow now.rows) row.key action worth
  closed_by action here (Cost n) is_known is_slack =
      let least = is.least action here in
      let total = paid action n (slack_of at action) is_slack in
      let few = rest_small job is_job row.key in_range action n here (known_attained job now.rows (key_after job row.key action) (Cost n) sound is_known) in
      let sum = sum_small job is_job row.key in_range action here in (
        Cost n,
        known_proves job is_job now.rows (key_after job row.key action) (Cost n) is_known,
        elim worth_is [
          | inl cost ↦ rw cost.0 (omega (arith, least, total))
          | inr none ↦ absurd (omega (arith, least, total, few, sum, none.1))
        ],
      )
  closed_by action here Blocked is_known is_slack = (Blocked, known_proves job is_job now.rows (key_after job row.key action) Blocked is_known, tt)

  closed_is : (action : Action) → IsActionAt job row.key action → noted_for job action done_row ≡ None → IsClosed job (HasRow now.rows) row.key action worth
  closed_is action here free = by_bool (has choice.tested action)
      (λ tested.
      let free = free_with action here free tested in
      closed_by action here free.worth.0 (next_known action free.worth.0 free.worth.1) free.worth.2)
      (λ untested.
      let least = is.rest action here untested in
      let sum = sum_small job is_job row.key in_range action here in (
        Cost (bound_of job (key_after job row.key action)),
        inl refl,
        elim worth_is [
          | inl cost ↦ rw cost.0 least
          | inr none ↦ absurd (omega (arith, least, sum, none.1))
        ],
      ))

  -- the worth is attained by an action that gives it
  abbrev Gives : Type 0
  Gives = (action : Action) × IsActionAt job row.key action × (sum_of job row.key action + slack_of at action ≡ choice.best) × (choice.best < 536870912)

  given_free : (gives : Gives) → IsFreeWith job now.rows row.key.mask gives.0 (slack_of at gives.0)
  given_free gives =
      let action = gives.0 in
      let here = at_set job is_job row.key action gives.1 in
      let low : slack_of at action < 536870912 = let sum = gives.2 in let most = gives.3 in omega (arith, sum, most) in
      by_bool (has at.known action)
      (λ is_known. by_bool (has at.refused action)
      (λ refused. absurd (let slack = (known.refused action here is_known refused).1 in omega (arith, slack, low)))
      (λ free. known.free action here is_known free))
      (λ unknown. absurd (let slack = (known.unknown action here unknown).1 in omega (arith, slack, low)))

  given_cost : (gives : Gives) (found : Worth) → IsSlack job (next_of job row.key.mask gives.0) found (slack_of at gives.0) → (n : ℕ) × (found ≡ Cost n) × (cost_of job row.key gives.0 + n ≡ choice.best)
  given_cost gives (Cost n) is_slack = (n, refl, sym (paid gives.0 n (slack_of at gives.0) is_slack) ∙ gives.2)
  given_cost gives Blocked is_slack = absurd (let sum = gives.2 in let most = gives.3 in omega (arith, is_slack, sum, most))

  attained_is : (gives : Gives) → IsAttained job row.key (Cost choice.best)
  attained_is gives =
      let action = gives.0 in
      let free = given_free gives in
      let step : Step = record { action = action; gauge = free.legal.0 } in
      let legal = legal_at action (slack_of at action) free in
      let cost = given_cost gives free.worth.0 free.worth.2 in
      let next : IsKnown job now.rows (key_after job row.key action) (Cost cost.0) = subst (λ (w : Worth). IsKnown job now.rows (key_after job row.key action) w) cost.1 (next_known action free.worth.0 free.worth.1) in
      subst (λ (n : ℕ). IsAttained job row.key (Cost n)) cost.2
      (attained_by job row.key step (Cost cost.0) legal (known_attained job now.rows (key_after job row.key action) (Cost cost.0) sound next))

  leads_is : (gives : Gives) → LeadsOn job now.rows row.key (Cost choice.best)
  leads_is gives =
      let action = gives.0 in
      let free = given_free gives in
      let step : Step = record { action = action; gauge = free.legal.0 } in
      let legal = legal_at action (slack_of at action) free in
      let cost = given_cost gives free.worth.0 free.worth.2 in
      let next : IsKnown job now.rows (key_after job row.key action) (Cost cost.0) = subst (λ (w : Worth). IsKnown job now.rows (key_after job row.key action) w) cost.1 (next_known action free.worth.0 free.worth.1) in
      subst (λ (n : ℕ). LeadsOn job now.rows row.key (Cost n)) cost.2
      (leads_by job now.rows row.key step (Cost cost.0) legal next)

  gives_of : choice.best < 536870912 → Gives
  gives_of low = elim is.attained [
    | inl none ↦ absurd (omega (arith, low, none))
    | inr some ↦ (some.0, some.1, some.2, low)
  ]

  noted_holds : (number : ℕ) (reason : Reason) → number < now.actions → has_place notes (place_at (now.actions / 24) number) ≡ true → common_at now row.key.mask number ≡ Some reason → IsNoted job row.key number reason
  noted_holds number reason below member common =
      let few : stage_count job ≤ 8 = omega (arith, is_job.setup.stages.few_stages) in
      let low : number < 24 * stage_count job = subst (λ (n : ℕ). number < n) actions below in
      let own = action_at (stage_count job) number in
      let among = action_among (stage_count job) number low in
      let place : place_at (now.actions / 24) number ≡ place_of own =
      ap (λ (n : ℕ). place_at n number) whole ∙ sym (place_of_number (stage_count job) number low) in
      let wide : IsActionAmong 12 8 own = record { first = among.first; last = among.last; stage = omega (arith, among.stage, few) } in
      let small = place_small own wide in
      let both = both_true (has choice.tested own) (has at.refused own) (sym (notes_are (place_of own) small) ∙ subst (λ (p : ℕ). has_place notes p ≡ true) place member) in
      let found = is.only (place_of own) small both.0 in
      let one : found.0 ≡ own = same_number 8 found.0 own (among_lanes job is_job row.key found.0 found.1) wide found.2 in
      let numbered : number_of_action (stage_count job) found.0 ≡ number = ap (number_of_action (stage_count job)) one ∙ number_is (stage_count job) number in (
        found.0,
        found.1,
        numbered,
        hold row.key.mask found.0 reason (record { first = found.1.first; last = found.1.last; stage = found.1.stage })
            (ap (common_at now row.key.mask) numbered ∙ common),
      )

  noted_are : (number : ℕ) (reason : Reason) → reason_for number done_row ≡ Some reason → IsNoted job row.key number reason
  noted_are number reason noted = elim (cases_lt number now.actions) [
    | inl below ↦ by_bool (has_place notes (place_at (now.actions / 24) number))
        (λ member.
        let same : common_at now row.key.mask number ≡ note_at number =
        sym (ap (λ (b : Bool). cond b (common_at now row.key.mask number) None) member) in
        noted_holds number reason below member (same ∙ (sym (note_within number below) ∙ noted)))
        (λ absent.
        let none : note_at number ≡ None = ap (λ (b : Bool). cond b (common_at now row.key.mask number) None) absent in
        absurd (none-some reason (sym none ∙ (sym (note_within number below) ∙ noted))))
    | inr past ↦ absurd (none-some reason (sym (note_past number past) ∙ noted))
  ]

  -- the row is done with the worth
  pub settled_is : IsSettled job now.rows done_row worth
  settled_is = record {
    noted = noted_are;
    closed = closed_is;
    attained = elim worth_is [
      | inl cost ↦ rw cost.0 (attained_is (gives_of cost.1))
      | inr none ↦ rw none.0 tt
    ];
    leads_on = elim worth_is [
      | inl cost ↦ rw cost.0 (leads_is (gives_of cost.1))
      | inr none ↦ rw none.0 tt
    ];
  }

  -- what the open row leads to has the row as its source
  pub source_is : (next : Key) → IsPending job row.key at next → (action : Action) × IsSource job done_row action worth next
  source_is next pending =
      let action = pending.0 in
      let here = pending.1 in
      let free : noted_for job action done_row ≡ None =
      note_of action here ∙ ap (λ (b : Bool). cond b (common_at now row.key.mask (number_of_action (stage_count job) action)) None)
      (noted_is action here ∙ one_false (has choice.tested action) (has at.refused action) pending.3) in (
        action,
        record {
          is_action = here;
          free = free;
          next = pending.4;
          sum = elim worth_is [
            | inl cost ↦
                let gives = gives_of cost.1 in
                let low = pending.5.worths gives.0 gives.1 in
                let sum = gives.2 in
                rw cost.0 (omega (arith, low, sum))
            | inr none ↦ rw none.0 tt
          ];
        },
      )
