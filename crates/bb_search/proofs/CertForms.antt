-- What is taken from a pool after a run is a well formed, good and thrifty certificate.
use Rattle.std.proofs.Common.{◌≡◌, ◌≢◌, inl, inr, ℕ, ◌+◌, ◌-◌, ◌*◌, ◌<◌, ◌≤◌, List, length, min, get_or, Some, None, IsTrue, arith, refl, sym, ◌∙◌, ap, subst}
use Rattle.std.specs.Prelude.{slice_get, option_and_then, All}
use Rattle.std.proofs.Math.Nat.{mul_comm}
use Rattle.std.proofs.lemmas.Bool.{cases_lt}
use Rattle.std.proofs.lemmas.Nat.{mul-add-lt}
use Rattle.std.proofs.lemmas.Option.{slice_get-get_or, slice_get_cases, get_or_from_slice_get, slice_get_within, same_Some, none-some}
use Rattle.brake_base.specs.declared.stroke.Key.{Key}
use Rattle.brake_base.specs.declared.stroke.Back.{Back}
use Rattle.brake_base.specs.declared.stroke.Back.TheVariants.{Parent, Child}
use Rattle.brake_base.specs.declared.stroke.Action.{Action}
use Rattle.brake_base.specs.declared.stroke.Step.{Step}
use Rattle.brake_base.specs.declared.stroke.Worth.{Worth}
use Rattle.brake_base.specs.declared.stroke.Worth.TheVariants.{Cost, Blocked}
use Rattle.brake_base.specs.Actions.{number_of_action, back_number}
use Rattle.brake_base.specs.Keys.{KeyIsBefore}
use Rattle.job_setup.specs.Setup.{JobData, bend_count, stage_count}
use Rattle.job_setup.specs.StrokeGroup.{is_lead}
use Rattle.job_setup.specs.ValidJob.{IsJob}
use Rattle.handling_cost.specs.StepCost.{IsKeyOf, IsActionAt, IsFull}
use Rattle.handling_cost.specs.Plan.{start}
use Rattle.handling_cost.specs.Reach.{IsReached, nodes}
use Rattle.handling_cost.proofs.Actions.{few_left}
use Rattle.handling_cost.proofs.Keys.{start_in_range, below_full}
use Rattle.handling_cost.proofs.Nodes.{reached_in_range}
use Rattle.handling_cost.proofs.Small.{total_small}
use Rattle.handling_cost.proofs.Tables.{proves_moved}
use Rattle.row_pool.specs.Rows.{Pool, PoolRow, IsPool, worth_at}
use Rattle.row_pool.specs.Store.{key_number}
use Rattle.cert_lines.specs.declared.row_head.RowHead.{RowHead}
use Rattle.plan_lines.specs.declared.note.Note.{Note}
use Rattle.plan_cert.specs.Cert.{CertData}
use Rattle.cert_lines.specs.Lines.{action_at}
use Rattle.cert_lines.specs.Lines.{IsWorth}
use Rattle.plan_lines.specs.LinesFit.{IsStep, IsRow}
use Rattle.plan_cert.specs.WellFormed.{HasSteps, IsNote, NoteIsBefore, AreRows}
use Rattle.plan_cert.specs.GoodCert.{IsThriftyCert, IsWithinBudget, HasRow as HasCertRow, HasNote as HasCertNote}
use Rattle.plan_cert.proofs.ReasonRanges.{reason_ranged}
use Rattle.bb_search.specs.Table.{HasRow, HasNote}
use Rattle.bb_search.specs.Outcomes.{HaveFirstGauges, outcome_of, AreGoodRows, IsAnswer}
use Rattle.bb_search.specs.Searches.{SearchData}
use Rattle.bb_search.specs.Certificates.{HasAnswer, HasRowsOf, IsCertificateOf}
use Rattle.bb_search.specs.CertRows.{row_order, row_of_order, IsRowOrder, AreSortedRows, AreHeads, note_order, AreNotes}
use Rattle.bb_search.proofs.OutcomeLemmas.{apart, some_worth, reach_of_rows}
use Rattle.bb_search.proofs.RowOrders.{key_before, order_of_row}
use Rattle.bb_search.proofs.Ranges.{steps_ranged, steps_most}
use Rattle.bb_search.proofs.CertLemmas.{condition_carried, thrifty_carried, map_pairs, row_of_head, row_there, row_back, note_there, note_back, note_at}

-- ---- the claim and the steps
pub worth_ranged : (worth : Worth) → ((cost : ℕ) → worth ≡ Cost cost → cost ≤ 1000000000) → IsWorth worth
worth_ranged (Cost cost) most = most cost refl
worth_ranged Blocked most = tt

module _ (job : JobData) (is_job : IsJob job) where
  pub claim_ranged : (pool : Pool) (budget : ℕ) (steps : List Step) (claim : Worth) → IsAnswer job pool budget steps (outcome_of claim) → IsWorth claim
  claim_ranged pool budget steps (Cost cost) answer =
      let most = total_small job is_job start steps (start_in_range job is_job) answer.0.least.plan in
      let few = few_left job is_job start in
      let sum = answer.0.least.sum in
      omega (arith, most, few, sum)
  claim_ranged pool budget steps Blocked answer = tt

  pub steps_fit : (pool : Pool) (budget : ℕ) (steps : List Step) (claim : Worth) → IsAnswer job pool budget steps (outcome_of claim) → HasSteps job claim steps
  steps_fit pool budget steps (Cost cost) answer = steps_most job is_job start steps answer.0.least.plan
  steps_fit pool budget steps Blocked answer = answer.1

  pub each_step : (pool : Pool) (budget : ℕ) (steps : List Step) (claim : Worth) → IsAnswer job pool budget steps (outcome_of claim) → All (IsStep job) steps
  each_step pool budget steps (Cost cost) answer = steps_ranged job start steps answer.0.least.plan
  each_step pool budget steps Blocked answer = λ k d within. let none = ap length answer.1 in absurd (omega (arith, within, none))

  pub first_gauges : (pool : Pool) (budget : ℕ) (steps : List Step) (claim : Worth) → IsAnswer job pool budget steps (outcome_of claim) → HaveFirstGauges job start steps
  first_gauges pool budget steps (Cost cost) answer = answer.0.gauges
  first_gauges pool budget steps Blocked answer = subst (HaveFirstGauges job start) (sym answer.1) tt

-- the rows that a run with a claim leaves
pub rows_of_answer : (job : JobData) (pool : Pool) (budget : ℕ) (steps : List Step) (claim : Worth) → IsAnswer job pool budget steps (outcome_of claim) → AreGoodRows job pool claim steps
rows_of_answer job pool budget steps (Cost cost) answer = answer.1
rows_of_answer job pool budget steps Blocked answer = answer.2

-- an action's number, of so many bends
back_below : (back : Back) → back_number back < 2
back_below Parent = omega arith
back_below Child = omega arith

number_fits : (job : JobData) (key : Key) (action : Action) → IsActionAt job key action → number_of_action (stage_count job) action < 2 * bend_count job * stage_count job
unfolding number_of_action
number_fits job key action at =
    let side : (action.bend - 1) * 2 + back_number action.back < 2 * bend_count job = omega (arith, back_below action.back, at.first, at.last) in
    let below = mul-add-lt ((action.bend - 1) * 2 + back_number action.back) (stage_count job) action.stage (2 * bend_count job) side at.stage in
    let same = mul_comm (stage_count job) (2 * bend_count job) in
    omega (arith, below, same)

notes_before : (a b : Note) → a.action < 256 → b.action < 256 → note_order a.row a.action < note_order b.row b.action → NoteIsBefore a b
notes_before a b few_a few_b less = elim (cases_lt a.row b.row) [
  | inl before ↦ inl before
  | inr late ↦ inr (omega (arith, few_a, few_b, less, late), omega (arith, few_a, few_b, less, late))
]

module _ (job : JobData) (is_job : IsJob job) (pool : Pool) (is_pool : IsPool pool) (claim : Worth) (steps : List Step) (good : AreGoodRows job pool claim steps)
    (orders : List ℕ) (are : AreSortedRows pool.rows orders) (heads : List RowHead) (taken : AreHeads pool.rows orders (length orders) heads) (notes : List Note) (listed : AreNotes pool orders (note_order (length orders) 0) notes) where
  row_in_range : (k : ℕ) (row : PoolRow) → slice_get pool.rows k ≡ Some row → IsKeyOf job row.key
  row_in_range k row at = reached_in_range job is_job row.key (good.nodes k row at).reached

  -- a row and its place
  row_fits : (i : ℕ) (head : RowHead) → slice_get heads i ≡ Some head → IsRow job head
  row_fits i head at =
      let row = row_of_head pool orders are heads taken i head at in
      let its = row.2 in
      let in_range = subst (IsKeyOf job) its.2 (row_in_range (row_of_order row.0) its.0 its.1) in
      let not_full = subst (λ (k : Key). IsFull job k → ⊥) its.2 (good.nodes (row_of_order row.0) its.0 its.1).not_full in
      let low = below_full job is_job head.key in_range not_full in
      record {
        mask = omega (arith, low);
        attitude = in_range.attitude;
        stage = in_range.stage;
        worth = worth_ranged head.worth (λ cost is. good.most (row_of_order row.0) its.0 cost its.1 (its.3 ∙ ap Some is));
      }

  rows_before : (i j : ℕ) (a b : RowHead) → i < j → slice_get heads i ≡ Some a → slice_get heads j ≡ Some b → KeyIsBefore a.key b.key
  rows_before i j a b before at_a at_b =
      let first = row_of_head pool orders are heads taken i a at_a in
      let second = row_of_head pool orders are heads taken j b at_b in
      let m = row_of_order first.0 in
      let n = row_of_order second.0 in
      let ka = first.2.0.key in
      let kb = second.2.0.key in
      let within = slice_get_within orders j second.0 second.1 in
      let less : first.0 < second.0 =
      subst (λ (x : ℕ). x < second.0) (get_or_from_slice_get orders i first.0 0 first.1)
      (subst (λ (y : ℕ). get_or orders i 0 < y) (get_or_from_slice_get orders j second.0 0 second.1) (are.ascending i j 0 before within)) in
      let place_a : first.0 ≡ row_order ka m = order_of_row pool.rows first.0 first.2.0 (is_order i first.0 first.1) first.2.1 in
      let place_b : second.0 ≡ row_order kb n = order_of_row pool.rows second.0 second.2.0 (is_order j second.0 second.1) second.2.1 in
      let few_a : m < 4294967296 = let low = slice_get_within pool.rows m first.2.0 first.2.1 in omega (arith, low, are.few) in
      let few_b : n < 4294967296 = let low = slice_get_within pool.rows n second.2.0 second.2.1 in omega (arith, low, are.few) in
      let numbers : key_number ka ≤ key_number kb = omega (arith, less, place_a, place_b, few_a, few_b) in
      let range_a = row_in_range m first.2.0 first.2.1 in
      let range_b = row_in_range n second.2.0 second.2.1 in
      let differ : ka ≢ kb = λ same. keys_differ m n first.2.0 second.2.0 first.2.1 second.2.1 same (less_rows first.0 second.0 ka kb m n less place_a place_b same) in
      let stages = is_job.setup.stages.few_stages in
      subst (λ (k : Key). KeyIsBefore k b.key) first.2.2 (subst (KeyIsBefore ka) second.2.2
      (key_before ka kb (omega (arith, range_a.attitude)) (omega (arith, range_a.stage, stages)) (omega (arith, range_b.attitude)) (omega (arith, range_b.stage, stages)) numbers differ))
    where
      is_order : (k order : ℕ) → slice_get orders k ≡ Some order → IsRowOrder pool.rows order
      is_order k order at = subst (IsRowOrder pool.rows) (get_or_from_slice_get orders k order 0 at) (are.only k 0 (slice_get_within orders k order at))

      -- of one key the row of the lesser place has the lesser number
      less_rows : (x y : ℕ) (k l : Key) (m n : ℕ) → x < y → x ≡ row_order k m → y ≡ row_order l n → k ≡ l → m < n
      less_rows x y k l m n less at_x at_y same = let numbers = ap key_number same in omega (arith, less, at_x, at_y, numbers)

      keys_differ : (m n : ℕ) (row other : PoolRow) → slice_get pool.rows m ≡ Some row → slice_get pool.rows n ≡ Some other → row.key ≡ other.key → m < n → ⊥
      keys_differ m n row other at_m at_n same less = apart pool is_pool m n row other at_m at_n less same

  note_fits : (j : ℕ) (d : Note) → j < length notes → IsNote job heads (get_or notes j d)
  note_fits j d within =
      let note = get_or notes j d in
      let is = listed.only j d within in
      let found = note_at pool orders are heads taken job is_job good.noted notes listed note is in
      let head = found.0 in
      let action = found.2 in
      let at = found.4 in
      let count = taken.all in
      let early = is.early in
      let holds = at.holds in
      record {
        row = slice_get_within heads note.row head at.at;
        action = let fits = number_fits job found.1.key action at.is_action in omega (arith, fits, at.number);
        reason = reason_ranged job is_job found.1.key.mask holds.0 note.reason holds.3;
        lead = λ e.
            subst (λ (h : RowHead). IsTrue (is_lead job h.key.mask (action_at (stage_count job) note.action).bend)) (sym (get_or_from_slice_get heads note.row head e at.at))
            (subst (λ (k : Key). IsTrue (is_lead job k.mask (action_at (stage_count job) note.action).bend)) at.key
            (subst (λ (a : Action). IsTrue (is_lead job found.1.key.mask a.bend)) at.numbered at.is_action.lead));
      }

  rows_fit : AreRows job heads notes
  rows_fit = record {
    each_row = λ i d within. row_fits i (get_or heads i d) (slice_get-get_or heads i d within);
    row_order = map_pairs KeyIsBefore (λ (h : RowHead). h.key) heads rows_before;
    each_note = note_fits;
    note_order = λ i j d before within. notes_before (get_or notes i d) (get_or notes j d) (listed.only i d (omega (arith, before, within))).action (listed.only j d within).action (listed.ascending i j d before within);
  }

  all_reached : All (λ (row : RowHead). IsReached job row.key) heads
  all_reached i d within =
      let row = row_of_head pool orders are heads taken i (get_or heads i d) (slice_get-get_or heads i d within) in
      subst (IsReached job) row.2.2 (good.nodes (row_of_order row.0) row.2.0 row.2.1).reached

  pub thrifty_cert : IsWorth claim → HasSteps job claim steps → All (IsStep job) steps → IsThriftyCert job (record { claim = claim; steps = steps; rows = heads; notes = notes })
  thrifty_cert small fits each =
      let cert : CertData = record { claim = claim; steps = steps; rows = heads; notes = notes } in
      let R = HasRow pool.rows in
      let S = HasCertRow cert in
      let N = HasNote job pool.rows in
      let M = HasCertNote job cert in
      let rows = row_there pool orders are heads taken in
      let back = row_back pool orders are heads taken in
      let there = note_there pool orders are heads taken job is_job good.noted notes listed claim steps in
      let back_notes = note_back pool orders are heads taken job is_job good.noted notes listed claim steps in
      let proved = good.good.proved in
      record {
        proves = record {
          form = record { claim = small; has_steps = fits; steps = each; rows = rows_fit };
          good = record {
            claimed = good.good.claimed;
            rows = condition_carried job R S N M rows back back_notes there good.good.rows;
            proved = (proved.0, proves_moved job R S rows start proved.0 proved.1, proved.2);
          };
        };
        thrifty = thrifty_carried job R S N M rows back back_notes good.thrifty;
        reached = all_reached;
      }

-- from what a run promises, and from what is taken of its pool
pub cert_of_answer : (job : JobData) → IsJob job → (pool : Pool) → IsPool pool → (budget : ℕ) (claim : Worth) (steps : List Step) → IsAnswer job pool budget steps (outcome_of claim) →
    (orders : List ℕ) → AreSortedRows pool.rows orders → (heads : List RowHead) → AreHeads pool.rows orders (length orders) heads → (notes : List Note) → AreNotes pool orders (note_order (length orders) 0) notes →
    IsThriftyCert job (record { claim = claim; steps = steps; rows = heads; notes = notes })
cert_of_answer job is_job pool is_pool budget claim steps answer orders are heads taken notes listed =
    thrifty_cert job is_job pool is_pool claim steps (rows_of_answer job pool budget steps claim answer) orders are heads taken notes listed
    (claim_ranged job is_job pool budget steps claim answer) (steps_fit job is_job pool budget steps claim answer) (each_step job is_job pool budget steps claim answer)

-- each row of a pool after a run with a claim has a worth
pub all_done : (job : JobData) (pool : Pool) (budget : ℕ) (steps : List Step) (claim : Worth) → IsAnswer job pool budget steps (outcome_of claim) → (k : ℕ) → k < length pool.rows → worth_at pool k ≡ None → ⊥
all_done job pool budget steps claim answer k within none = elim (slice_get_cases pool.rows k).1 [
  | inl here ↦
      let some = some_worth here.0 ((rows_of_answer job pool budget steps claim answer).done k here.0 here.2) in
      none-some some.0 (sym none ∙ (ap (option_and_then (λ (r : PoolRow). r.worth)) here.2 ∙ some.1))
  | inr past ↦ absurd (omega (arith, within, past.0))
]

module _ (job : JobData) (is_job : IsJob job) (pool : Pool) (is_pool : IsPool pool) (claim : Worth) (steps : List Step) (good : AreGoodRows job pool claim steps)
    (orders : List ℕ) (are : AreSortedRows pool.rows orders) (heads : List RowHead) (taken : AreHeads pool.rows orders (length orders) heads) (notes : List Note) (listed : AreNotes pool orders (note_order (length orders) 0) notes) where
  abbrev taken_cert : CertData
  taken_cert = record { claim = claim; steps = steps; rows = heads; notes = notes }

  -- the heads and notes are the rows of the pool and their reasons
  pub rows_of_pool : HasRowsOf job pool taken_cert
  rows_of_pool = record {
    count = taken.all ∙ are.all;
    rows = λ key worth. (row_back pool orders are heads taken key worth, row_there pool orders are heads taken key worth);
    notes = λ key action reason at. (
      note_back pool orders are heads taken job is_job good.noted notes listed claim steps key action reason,
      note_there pool orders are heads taken job is_job good.noted notes listed claim steps key action reason at,
    );
  }

  pub few_rows : (budget : ℕ) → pool.limit ≡ min budget (nodes job) → IsWithinBudget job budget taken_cert
  few_rows budget limit = record {
    rows = omega (arith, taken.all, are.all, is_pool.within, limit);
    reach = λ count less. reach_of_rows job pool is_pool good.nodes count (omega (arith, less, taken.all, are.all));
  }

-- what a search with a claim gives is its certificate
pub certificate_is : (search : SearchData) (job : JobData) → job ≡ search.job → IsJob job → IsPool search.pool → search.pool.limit ≡ min search.budget (nodes search.job) → HasAnswer search → (claim : Worth) → search.outcome ≡ Some (outcome_of claim) → (steps : List Step) → steps ≡ search.steps →
    (orders : List ℕ) → AreSortedRows search.pool.rows orders → (heads : List RowHead) → AreHeads search.pool.rows orders (length orders) heads → (notes : List Note) → AreNotes search.pool orders (note_order (length orders) 0) notes →
    IsCertificateOf search (record { claim = claim; steps = steps; rows = heads; notes = notes })
certificate_is search job of_job is_job is_pool limit answered claim is steps same orders are heads taken notes listed =
    let valid : IsJob search.job = subst IsJob of_job is_job in
    let answer : IsAnswer search.job search.pool search.budget search.steps (outcome_of claim) =
    subst (IsAnswer search.job search.pool search.budget search.steps) (same_Some (outcome_of answered.0) (outcome_of claim) (sym answered.1 ∙ is)) answered.2 in
    let good : AreGoodRows search.job search.pool claim search.steps = rows_of_answer search.job search.pool search.budget search.steps claim answer in
    let good_kept : AreGoodRows search.job search.pool claim steps = subst (AreGoodRows search.job search.pool claim) (sym same) good in
    record {
      claim = is;
      steps = same;
      gauges = subst (HaveFirstGauges search.job start) (sym same) (first_gauges search.job valid search.pool search.budget search.steps claim answer);
      rows = rows_of_pool search.job valid search.pool is_pool claim steps good_kept orders are heads taken notes listed;
      few = few_rows search.job valid search.pool is_pool claim steps good_kept orders are heads taken notes listed search.budget limit;
      proves = subst (λ (xs : List Step). IsThriftyCert search.job (record { claim = claim; steps = xs; rows = heads; notes = notes })) (sym same)
          (cert_of_answer search.job valid search.pool is_pool search.budget claim search.steps answer orders are heads taken notes listed);
    }
