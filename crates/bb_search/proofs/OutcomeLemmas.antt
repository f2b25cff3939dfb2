-- From the start key's worth to the answer.
use Rattle.std.proofs.Common.{◌≡◌, ◌≢◌, ◌⊎◌, inl, inr, ℕ, ◌-◌, ◌*◌, ◌^◌, ◌<◌, ◌≤◌, List, [], ◌∷◌, ◌++◌, length, min, get_or, Option, Some, None, arith, refl, sym, ◌∙◌, ap, subst, length-append}
use Rattle.std.specs.Prelude.{slice_get, option_map, IsSome, Contains, All}
use Rattle.std.proofs.lemmas.List.{length-map}
use Rattle.std.proofs.lemmas.List.Elements.{All-push, Contains-get_or}
use Rattle.std.proofs.lemmas.List.Quantifiers.{all_pairs_push}
use Rattle.std.proofs.lemmas.Option.{slice_get_within, slice_get-map, slice_get_cases, get_or_from_slice_get, same_Some, none-some}
use Rattle.std.proofs.lemmas.Bool.{cases_lt}
use Rattle.brake_base.specs.declared.stroke.Key.{Key}
use Rattle.brake_base.specs.declared.stroke.Action.{Action}
use Rattle.brake_base.specs.declared.stroke.Step.{Step}
use Rattle.brake_base.specs.declared.stroke.Worth.{Worth}
use Rattle.brake_base.specs.declared.stroke.Worth.TheVariants.{Cost, Blocked}
use Rattle.brake_base.specs.declared.reason.Reason.{Reason}
use Rattle.brake_base.specs.Worths.{IsAtMost}
use Rattle.brake_base.specs.Actions.{number_of_action}
use Rattle.brake_base.proofs.Worths.{at_most_self}
use Rattle.brake_base.proofs.Actions.{same_number}
use Rattle.job_setup.specs.Setup.{JobData, bend_count, stage_count}
use Rattle.job_setup.specs.ValidJob.{IsJob}
use Rattle.std.proofs.Math.Nat.{pow-le-pow_right}
use Rattle.handling_cost.specs.StepCost.{IsActionAt, IsFull}
use Rattle.handling_cost.specs.Plan.{IsReasonFor, IsPlan, total, start}
use Rattle.handling_cost.specs.Good.{MeetsCondition, Proves, AreClaimed}
use Rattle.handling_cost.specs.Reach.{IsReached, IsNode, ReachIsAbove, nodes}
use Rattle.handling_cost.proofs.Least.{good_implies_least}
use Rattle.handling_cost.proofs.Keys.{start_in_range, full_from_number, number_of_full}
use Rattle.handling_cost.proofs.Nodes.{reach_within_nodes, reached_in_range}
use Rattle.row_pool.specs.Rows.{Pool, PoolRow, keys, empty_pool, IsPool}
use Rattle.bb_search.specs.Table.{HasRow, HasNote, noted_for, AreNoted}
use Rattle.bb_search.specs.Settling.{IsSound, OpenAbove, IsKnownAfter, IsSpent, IsFound}
use Rattle.handling_cost.specs.Claim.{NoPlanCostsLess}
use Rattle.bb_search.specs.Outcomes.{AreSteps, outcome_with, AreGoodRows, AreWithinBudget, IsUsedUp, IsAnswer}
use Rattle.bb_search.proofs.OrderLemmas.{is_action}
use Rattle.bb_search.proofs.TableLemmas.{known_proves}
use Rattle.bb_search.proofs.CallLemmas.{small_worth, cost_most}

module _ (pool : Pool) where
  -- the key that stands where the row does
  pub key_here : (i : ℕ) (row : PoolRow) (d : Key) → slice_get pool.rows i ≡ Some row → get_or (keys pool) i d ≡ row.key
  key_here i row d at = get_or_from_slice_get (keys pool) i row.key d (slice_get-map (λ (r : PoolRow). r.key) pool.rows i ∙ ap (option_map (λ (r : PoolRow). r.key)) at)

  pub keys_length : length (keys pool) ≡ length pool.rows
  keys_length = simp length-map

  -- an earlier row has another key
  pub apart : IsPool pool → (i j : ℕ) (row other : PoolRow) → slice_get pool.rows i ≡ Some row → slice_get pool.rows j ≡ Some other → i < j → row.key ≢ other.key
  apart is_pool i j row other at_i at_j before same =
      let within : j < length (keys pool) = rw keys_length (slice_get_within pool.rows j other at_j) in
      is_pool.distinct i j row.key before within (key_here i row row.key at_i ∙ (same ∙ sym (key_here j other row.key at_j)))

  -- rows of one key are one
  pub one_row : IsPool pool → (i j : ℕ) (row other : PoolRow) → slice_get pool.rows i ≡ Some row → slice_get pool.rows j ≡ Some other → row.key ≡ other.key → row ≡ other
  one_row is_pool i j row other at_i at_j same = elim (cases_lt i j) [
    | inl before ↦ absurd (apart is_pool i j row other at_i at_j before same)
    | inr late ↦ elim (cases_lt j i) [
      | inl after ↦ absurd (apart is_pool j i other row at_j at_i after (sym same))
      | inr equal ↦
          let e : i ≡ j = omega (arith, late, equal) in
          same_Some row other (sym at_i ∙ subst (λ (k : ℕ). slice_get pool.rows k ≡ Some other) (sym e) at_j)
    ]
  ]

  -- what holds of each row's key holds of each key
  pub all_keys : (P : Key → Type 0) → ((i : ℕ) (row : PoolRow) → slice_get pool.rows i ≡ Some row → P row.key) → All P (keys pool)
  all_keys P each = λ k d within. elim (slice_get_cases pool.rows k).1 [
    | inl here ↦ subst P (sym (key_here k here.0 d here.2)) (each k here.0 here.2)
    | inr past ↦ absurd (let same = keys_length in let beyond = past.0 in omega (arith, same, within, beyond))
  ]

-- ---- before the run
module _ (job : JobData) (is_job : IsJob job) where
  -- the start is full exactly where there is no bend
  pub start_full : bend_count job ≡ 0 → IsFull job start
  start_full none = full_from_number job is_job start (sym (ap (λ (n : ℕ). 2 ^ n - 1) none))

  start_not_full : 0 < bend_count job → IsFull job start → ⊥
  start_not_full some full =
      let all = number_of_full job is_job start (start_in_range job is_job) full in
      let low : 2 ^ 1 ≤ 2 ^ bend_count job = pow-le-pow_right {n = 2} (omega arith) some in
      omega (arith, all, low)

  pub start_node : 0 < bend_count job → IsNode job start
  start_node some = record { reached = ([], refl); not_full = start_not_full some }

module _ (job : JobData) (pool : Pool) (empty : pool ≡ empty_pool pool.limit (24 * stage_count job)) where
  no_rows : pool.rows ≡ []
  no_rows = ap (λ (p : Pool). p.rows) empty

  no_row : (i : ℕ) (row : PoolRow) → slice_get pool.rows i ≡ Some row → ⊥
  no_row i row at = none-some row (rw no_rows at at)

  pub empty_sound : IsSound job pool.rows
  empty_sound = record { settled = λ i row worth at is. absurd (no_row i row at); nodes = λ i row at. absurd (no_row i row at) }

  pub empty_open : (n : ℕ) → OpenAbove job pool.rows n
  empty_open n i row at none = absurd (no_row i row at)

  pub empty_new : (key : Key) → Contains (keys pool) key → ⊥
  empty_new key member = let count = ap length no_rows in let within = member.1 in let same = keys_length pool in omega (arith, count, within, same)

-- ---- after it
some_or_none : (reason : Option Reason) → ((r : Reason) × (reason ≡ Some r)) ⊎ (reason ≡ None)
some_or_none (Some reason) = inl (reason, refl)
some_or_none None = inr refl

-- the worth of a row that has one
pub some_worth : (row : PoolRow) → IsSome row.worth → (worth : Worth) × (row.worth ≡ Some worth)
some_worth row some = worth_in row.worth some
  where
    worth_in : (found : Option Worth) → IsSome found → (worth : Worth) × (found ≡ Some worth)
    worth_in (Some worth) is = (worth, refl)
    worth_in None is = absurd cc

module _ (job : JobData) (is_job : IsJob job) (pool : Pool) (is_pool : IsPool pool) (sound : IsSound job pool.rows) where
  -- a row that has no reason for an action is the only one that could have a note of it
  no_note : (i : ℕ) (row : PoolRow) (action : Action) → slice_get pool.rows i ≡ Some row → noted_for job action row ≡ None → (reason : Reason) → HasNote job pool.rows row.key action reason → ⊥
  no_note i row action at free reason note =
      let same : note.1 ≡ row = one_row pool is_pool note.0 i note.1 row note.2 at note.3 in
      none-some reason (sym free ∙ (sym (ap (noted_for job action) same) ∙ note.5))

  -- a reason that a row has for an action at its key holds against the action
  noted_holds : (row : PoolRow) → AreNoted job row → (action : Action) (reason : Reason) → IsActionAt job row.key action → noted_for job action row ≡ Some reason → IsReasonFor job row.key.mask action reason
  noted_holds row noted action reason at is =
      let found = noted (number_of_action (stage_count job) action) reason is in
      let same : found.0 ≡ action = same_number (stage_count job) found.0 action (is_action job is_job row.key found.0 found.1) (is_action job is_job row.key action at) found.2 in
      subst (λ (a : Action). IsReasonFor job row.key.mask a reason) same found.3

  condition_met : MeetsCondition job (HasRow pool.rows) (HasNote job pool.rows)
  condition_met key worth row action at =
      let settled = sound.settled row.0 row.1 worth row.2 row.4 in
      let its : IsActionAt job row.1.key action = rw row.3 at in
      elim (some_or_none (noted_for job action row.1)) [
        | inl noted ↦ inl (noted.0, (row.0, row.1, row.2, row.3, rw row.4 refl, noted.1), rw row.3 at (noted_holds row.1 settled.noted action noted.0 its noted.1))
        | inr free ↦ inr (
          rw row.3 at (no_note row.0 row.1 action row.2 free),
          rw row.3 at (settled.closed action its free),
        )
      ]

  never_full : (key : Key) (worth : Worth) → HasRow pool.rows key worth → IsFull job key → ⊥
  never_full key worth row full = (sound.nodes row.0 row.1 row.2).not_full (rw row.3 full)

  pub worth_is_least : (worth : Worth) → Proves job (HasRow pool.rows) start worth → (steps : List Step) → IsPlan job steps → IsAtMost worth (Cost (total job start steps))
  worth_is_least worth proved steps plan = good_implies_least job is_job (HasRow pool.rows) (HasNote job pool.rows) never_full condition_met steps start worth proved plan

module _ (job : JobData) (is_job : IsJob job) (limit actions : ℕ) (pool : Pool) (is_pool : IsPool pool) where
  -- with the steps of a plan, or none, the rows are a good certificate
  pub good_rows : (worth : Worth) (steps : List Step) → IsKnownAfter job (empty_pool limit actions) pool start worth → AreClaimed job worth steps → AreGoodRows job pool worth steps
  good_rows worth steps found claimed =
      record {
        good = record {
          claimed = claimed;
          rows = condition_met job is_job pool is_pool found.sound;
          proved = (worth, known_proves job is_job pool.rows start worth found.known, at_most_self worth);
        };
        thrifty = λ key its row. elim (found.sources row.0 row.1 row.2 (omega arith)) [
          | inl first ↦ inl (sym row.3 ∙ first)
          | inr source ↦ inr (
            source.1.key,
            source.2,
            source.3,
            (source.0, source.1, source.4, refl, source.5),
            source.6.is_action,
            no_note job is_job pool is_pool found.sound source.0 source.1 source.3 source.4 source.6.free,
            source.6.next ∙ row.3,
            source.6.sum,
          )
        ];
        done = λ i row at. elim (found.grows.news i row at) [
          | inl old ↦ absurd (none-some row old)
          | inr new ↦ new.1
        ];
        most = λ i row cost at is.
            let in_range = reached_in_range job is_job row.key (found.sound.nodes i row at).reached in
            cost_most cost (small_worth job is_job row.key in_range (Cost cost) (found.sound.settled i row (Cost cost) at is).attained);
        nodes = found.sound.nodes;
        noted = λ i row at. elim (found.grows.news i row at) [
          | inl old ↦ absurd (none-some row old)
          | inr new ↦ let worth = some_worth row new.1 in (found.sound.settled i row worth.0 at worth.1).noted
        ];
      }

  pub best_is_least : (cost : ℕ) → IsKnownAfter job (empty_pool limit actions) pool start (Cost cost) → NoPlanCostsLess job cost
  best_is_least cost found = worth_is_least job is_job pool is_pool found.sound (Cost cost) (known_proves job is_job pool.rows start (Cost cost) found.known)

  pub blocked_has_none : IsKnownAfter job (empty_pool limit actions) pool start Blocked → (steps : List Step) → IsPlan job steps → ⊥
  blocked_has_none found = worth_is_least job is_job pool is_pool found.sound Blocked (known_proves job is_job pool.rows start Blocked found.known)

either_least : (a b : ℕ) → (min a b ≡ a) ⊎ (min a b ≡ b)
either_least a b = elim (cases_lt a b) [ inl less ↦ inl (omega (arith, less)) | inr more ↦ inr (omega (arith, more)) ]

module _ (job : JobData) (is_job : IsJob job) (pool before : Pool) (is_pool : IsPool pool) (spent : IsSpent job before pool) where
  above_limit : ReachIsAbove job pool.limit
  above_limit = (
    keys pool ++ spent.more.0 ∷ [],
    simp length-append (let same = keys_length pool in let full = spent.full in omega (arith, same, full)),
    all_pairs_push (λ (a b : Key). a ≢ b) (keys pool) spent.more.0 is_pool.distinct
        (λ k d within same. spent.more.2 (subst (λ (x : Key). Contains (keys pool) x) same (Contains-get_or (keys pool) k d within))),
    All-push (IsNode job) (keys pool) spent.more.0 (all_keys pool (IsNode job) spent.nodes) spent.more.1,
  )

  pub used_up : (budget : ℕ) → before.limit ≡ min budget (nodes job) → IsUsedUp job pool budget
  used_up budget limit = elim (either_least budget (nodes job)) [
    | inl less ↦
        let all : pool.limit ≡ budget = spent.limit ∙ (limit ∙ less) in
        record {
          above = subst (λ (n : ℕ). ReachIsAbove job n) all above_limit;
          full = spent.full ∙ all;
          distinct = is_pool.distinct;
          reached = all_keys pool (IsReached job) (λ i row at. (spent.nodes i row at).reached);
        }
    | inr more ↦ absurd (reach_within_nodes job is_job (subst (λ (n : ℕ). ReachIsAbove job n) (spent.limit ∙ (limit ∙ more)) above_limit))
  ]

-- the rows have different keys, which are reached and not full
pub reach_of_rows : (job : JobData) (pool : Pool) → IsPool pool → ((i : ℕ) (row : PoolRow) → slice_get pool.rows i ≡ Some row → IsNode job row.key) → (count : ℕ) → count < length pool.rows → ReachIsAbove job count
reach_of_rows job pool is_pool each count less = (keys pool, let same = keys_length pool in omega (arith, less, same), is_pool.distinct, all_keys pool (IsNode job) each)

module _ (job : JobData) (actions budget : ℕ) (pool : Pool) where
  found_nodes : (worth : Option Worth) → IsFound job (empty_pool (min budget (nodes job)) actions) pool start worth → (i : ℕ) (row : PoolRow) → slice_get pool.rows i ≡ Some row → IsNode job row.key
  found_nodes (Some worth) found = found.sound.nodes
  found_nodes None spent = spent.nodes

  pub found_limit : (worth : Option Worth) → IsFound job (empty_pool (min budget (nodes job)) actions) pool start worth → pool.limit ≡ min budget (nodes job)
  found_limit (Some worth) found = found.limit
  found_limit None spent = spent.limit

  pub within_budget : IsPool pool → (worth : Option Worth) → IsFound job (empty_pool (min budget (nodes job)) actions) pool start worth → AreWithinBudget job pool budget
  within_budget is_pool worth found = record {
    distinct = is_pool.distinct;
    rows = omega (arith, is_pool.within, found_limit worth found);
    reach = reach_of_rows job pool is_pool (found_nodes worth found);
  }

-- from the start key's worth and the kept steps to what the outcome says
pub answer_is : (job : JobData) → IsJob job → (actions budget : ℕ) (pool : Pool) (steps : List Step) → IsPool pool → (worth : Option Worth) →
    IsFound job (empty_pool (min budget (nodes job)) actions) pool start worth →
    AreSteps job worth steps → IsAnswer job pool budget steps (outcome_with worth)
answer_is job is_job actions budget pool steps is_pool (Some (Cost cost)) found are = (
  record {
    least = record { plan = are.0; sum = are.1; least = best_is_least job is_job (min budget (nodes job)) actions pool is_pool cost found };
    gauges = are.2;
  },
  good_rows job is_job (min budget (nodes job)) actions pool is_pool (Cost cost) steps found (are.0, are.1),
)
answer_is job is_job actions budget pool steps is_pool (Some Blocked) found are = (
  blocked_has_none job is_job (min budget (nodes job)) actions pool is_pool found,
  are,
  good_rows job is_job (min budget (nodes job)) actions pool is_pool Blocked steps found tt,
)
answer_is job is_job actions budget pool steps is_pool None spent are = used_up job is_job pool (empty_pool (min budget (nodes job)) actions) is_pool spent budget refl
