-- A key's settling from the new row to the row that is done, in terms of what its table knows.
use Rattle.std.proofs.Common.{◌≡◌, inl, inr, ℕ, ◌*◌, ◌/◌, ◌<◌, ◌≤◌, ◌&&◌, not, Bool, true, false, List}
use Rattle.std.proofs.Common.{length, Option, Some, arith, refl, sym, ◌∙◌, ap, subst}
use Rattle.std.specs.Prelude.{slice_get, option_map}
use Rattle.std.proofs.lemmas.Option.{slice_get-map, same_Some}
use Rattle.brake_base.specs.declared.stroke.Key.{Key}
use Rattle.brake_base.specs.declared.stroke.Action.{Action}
use Rattle.brake_base.specs.declared.stroke.Worth.{Worth}
use Rattle.brake_base.specs.Actions.{number_of_action, IsActionAmong}
use Rattle.brake_base.proofs.Actions.{same_number}
use Rattle.stage_lanes.specs.declared.actions.ActionSet.{ActionSet}
use Rattle.stage_lanes.specs.ActionSets.{place_of, has, has_place, ArePlaces, IsNone}
use Rattle.job_setup.specs.Setup.{JobData, stage_count}
use Rattle.job_setup.specs.ValidJob.{IsJob}
use Rattle.handling_cost.specs.StepCost.{IsKeyOf, IsActionAt}
use Rattle.handling_cost.specs.Reach.{IsNode}
use Rattle.row_pool.specs.Rows.{Pool, PoolRow, keys, changed_at, with_row, with_worth, with_notes, new_row, noted_reasons, common_at, place_at, AreCommon}
use Rattle.row_pool.proofs.PoolLemmas.{length-changed_at}
use Rattle.row_pool.proofs.NumberLemmas.{action_at, action_among, number_is, place_of_number}
use Rattle.bb_search.specs.declared.known.KnownActions.{KnownActions}
use Rattle.bb_search.specs.declared.settle.Choice.{Choice}
use Rattle.bb_search.specs.Table.{Extends}
use Rattle.bb_search.specs.Settling.{IsSound, IsKnownAfter}
use Rattle.bb_search.specs.KnownActions.{TableData, AreKnownAt, AreKnown, IsChoice, AreOpen, IsWorthOf}
use Rattle.bb_search.specs.OpenRows.{IsSettlingAt, IsKnownSo}
use Rattle.bb_search.proofs.RowLemmas.{push_kept}
use Rattle.bb_search.proofs.TableLemmas.{settled_kept}
use Rattle.bb_search.proofs.KnownLemmas.{place_small, at_set, among_lanes, place_in}
use Rattle.bb_search.proofs.KnownTables.{known_moved}
use Rattle.bb_search.proofs.OpenRowLemmas.{changed_twice, settling_starts, settling_done, extends_by}
use Rattle.bb_search.proofs.SettledLemmas.{settled_is, source_is}
use Rattle.bb_search.proofs.ExploreLemmas.{first_holds, second_holds, both_hold}

by_test : {P : Type 0} (b : Bool) → (b ≡ true → P) → (b ≡ false → P) → P
by_test true holds fails = holds refl
by_test false holds fails = fails refl

not_holds : (b : Bool) → not b ≡ true → b ≡ false
not_holds true is = absurd cc
not_holds false is = refl

-- a new row leaves what is known
pub known_started :
    (job : JobData) (before : Pool) (key : Key) (table : TableData) → AreKnown job before table
    → AreKnown job (with_row before key) table
known_started job before key table known =
    known_moved job before (with_row before key) table
    (λ i row worth at is. push_kept before.rows (new_row before.actions key) i row at) refl refl
    known

module _ (job : JobData) (is_job : IsJob job) (key : Key) (at : KnownActions) (choice : Choice)
    (is : IsChoice job key at choice) where
  module _ (untested : ActionSet)
      (are : ArePlaces untested (λ place. has_place choice.tested place && not (has_place at.known place))) where
    -- what is tested but not known is open
    pub open_of_choice : AreOpen job key at choice.best untested
    open_of_choice = record {
      only = λ place within member.
          is.only place within
          (first_holds (has_place choice.tested place) (not (has_place at.known place))
          (sym (are place within) ∙ member));
      unknown = λ action here member.
          not_holds (has at.known action)
          (second_holds (has choice.tested action) (not (has at.known action))
          (sym (are (place_of action) (place_in job is_job key action here)) ∙ member));
      most = λ action here member.
          is.most action here
          (first_holds (has choice.tested action) (not (has at.known action))
          (sym (are (place_of action) (place_in job is_job key action here)) ∙ member));
      rest = λ action here unknown. by_test (has choice.tested action)
          (λ tested. inl
          (are (place_of action) (place_in job is_job key action here)
          ∙ both_hold (has choice.tested action) (not (has at.known action)) tested (ap not unknown)))
          (λ absent. inr (is.rest action here absent));
    }

    -- where there is none, each tested action is known
    pub all_known :
        IsNone untested → (action : Action) → IsActionAt job key action
        → has choice.tested action ≡ true → has at.known action ≡ true
    all_known none action here tested = by_test (has at.known action) (λ known. known) (λ unknown.
        let within = place_in job is_job key action here in
        let member : has untested action ≡ true =
        are (place_of action) within
        ∙ both_hold (has choice.tested action) (not (has at.known action)) tested (ap not unknown) in
        let gone : has untested action ≡ false = none (place_of action) within in
        absurd cc)

  -- the notes of the row have reasons in common
  pub notes_common :
      (pool : Pool) → AreKnownAt job pool key.mask at → pool.actions ≡ 24 * stage_count job
      → ((action : Action) → IsActionAt job key action → has choice.tested action ≡ true
      → has at.known action ≡ true)
      → (notes : ActionSet)
      → ArePlaces notes (λ place. has_place choice.tested place && has_place at.refused place)
      → AreCommon pool.actions (common_at pool key.mask) notes
  notes_common pool known actions all notes notes_are number below member none =
      let few : stage_count job ≤ 8 = omega (arith, is_job.setup.stages.few_stages) in
      let low : number < 24 * stage_count job = subst (λ (n : ℕ). number < n) actions below in
      let own = action_at (stage_count job) number in
      let among = action_among (stage_count job) number low in
      let whole : pool.actions / 24 ≡ stage_count job = omega (arith, actions) in
      let place : place_at (pool.actions / 24) number ≡ place_of own =
      ap (λ (n : ℕ). place_at n number) whole
      ∙ sym (place_of_number (stage_count job) number low) in
      let wide : IsActionAmong 12 8 own =
      record { first = among.first; last = among.last; stage = omega (arith, among.stage, few) } in
      let small = place_small own wide in
      let both = sym (notes_are (place_of own) small) ∙ subst (λ (p : ℕ). has_place notes p ≡ true) place member in
      let own_tested = first_holds (has choice.tested own) (has at.refused own) both in
      let own_refused = second_holds (has choice.tested own) (has at.refused own) both in
      let found = is.only (place_of own) small own_tested in
      let one : found.0 ≡ own =
      same_number 8 found.0 own (among_lanes job is_job key found.0 found.1) wide found.2 in
      let numbered : number_of_action (stage_count job) found.0 ≡ number =
      ap (number_of_action (stage_count job)) one ∙ number_is (stage_count job) number in
      let tested : has choice.tested found.0 ≡ true = ap (has choice.tested) one ∙ own_tested in
      let refused : has at.refused found.0 ≡ true = ap (has at.refused) one ∙ own_refused in
      let common = known.refused found.0 (at_set job is_job key found.0 found.1)
      (all found.0 found.1 tested) refused in
      common.0 (ap (λ (n : ℕ). common_at pool key.mask n) numbered ∙ none)

module _ (job : JobData) (before now : Pool) (key : Key) (at : KnownActions) (row : PoolRow)
    (state : IsSettlingAt job before now key at row) where
  -- the key of the open row
  pub open_key : (other : Key) → slice_get (keys now) (length before.rows) ≡ Some other → other ≡ key
  open_key other here =
      let own : slice_get (keys now) (length before.rows) ≡ Some row.key =
      slice_get-map (λ (r : PoolRow). r.key) now.rows (length before.rows)
      ∙ ap (λ (r : Option PoolRow). option_map (λ (r : PoolRow). r.key) r) state.here in
      same_Some other row.key (sym here ∙ own) ∙ state.its

module _ (job : JobData) (is_job : IsJob job) (before now : Pool) (at : KnownActions) (row : PoolRow)
    (choice : Choice) (notes : ActionSet) (worth : Worth) where
  abbrev done : PoolRow → PoolRow
  done r = record r { reasons = noted_reasons now.actions (common_at now r.key.mask) notes; worth = Some worth }

  abbrev pub done_pool : Pool
  done_pool = with_worth (with_notes now (length before.rows) notes) (length before.rows) worth

  done_rows : done_pool.rows ≡ changed_at (length before.rows) done now.rows
  done_rows = changed_twice (length before.rows)
      (λ (r : PoolRow). record r { reasons = noted_reasons now.actions (common_at now r.key.mask) notes })
      (λ (r : PoolRow). record r { worth = Some worth }) now.rows

  -- the notes and the worth of the open row leave what is known
  pub known_done :
      (table : TableData) → IsSettlingAt job before now row.key at row → AreKnown job now table
      → AreKnown job done_pool table
  known_done table state known =
      known_moved job now done_pool table
      (subst (λ (rows : List PoolRow). Extends now.rows rows) (sym done_rows)
      (extends_by job before now row.key at row state done)) refl refl known

  -- and the key's worth is known with them
  pub settling_ends :
      IsSettlingAt job before now row.key at row → IsKeyOf job row.key
      → (table : TableData) → AreKnown job now table → AreKnownAt job now row.key.mask at
      → IsChoice job row.key at choice
      → ((action : Action) → IsActionAt job row.key action → has choice.tested action ≡ true
      → has at.known action ≡ true)
      → ArePlaces notes (λ place. has_place choice.tested place && has_place at.refused place)
      → IsWorthOf choice.best worth → IsKnownAfter job before done_pool row.key worth
  settling_ends state in_range table known known_at is all notes_are worth_is =
      let extends = extends_by job before now row.key at row state done in
      settling_done job before now row.key at row state done done_pool worth (λ r. refl) refl
      done_rows refl refl
      (settled_kept job now.rows (changed_at (length before.rows) done now.rows) extends (done row) worth
      (settled_is job is_job now at choice notes row worth in_range state.sound known_at known.hold known.actions is all notes_are worth_is))
      (λ next pending. source_is job is_job now at choice notes row worth in_range state.sound known_at known.hold known.actions is all notes_are worth_is next pending)

  -- by what the table knows at the key's set, where the row's number is that of the open row
  pub settling_ends_at :
      (key : Key) → IsSettlingAt job before now key at row → IsKeyOf job key
      → (table : TableData) → AreKnown job now table
      → slice_get table.known key.mask.0 ≡ Some at → IsChoice job key at choice
      → ((action : Action) → IsActionAt job key action → has choice.tested action ≡ true
      → has at.known action ≡ true)
      → ArePlaces notes (λ place. has_place choice.tested place && has_place at.refused place)
      → IsWorthOf choice.best worth → (number : ℕ) → number ≡ length before.rows
      → (mid after : Pool) → mid ≡ with_notes now number notes → after ≡ with_worth mid number worth
      → IsKnownAfter job before after key worth × AreKnown job after table
  settling_ends_at key state in_range table known here is all notes_are worth_is number its mid after first second =
      let back : key ≡ row.key = sym state.its in
      let own_state = subst (λ (k : Key). IsSettlingAt job before now k at row) back state in
      let own_range = subst (λ (k : Key). IsKeyOf job k) back in_range in
      let own_here = subst (λ (k : Key). slice_get table.known k.mask.0 ≡ Some at) back here in
      let own_choice = subst (λ (k : Key). IsChoice job k at choice) back is in
      let own_all = subst (λ (k : Key). (action : Action) → IsActionAt job k action → has choice.tested action ≡ true → has at.known action ≡ true) back all in
      let ends = settling_ends own_state own_range table known (known.each row.key.mask at own_here) own_choice own_all notes_are worth_is in
      let last : done_pool ≡ after =
      sym (second
      ∙ (ap (λ (p : Pool). with_worth p number worth) first
      ∙ ap (λ (n : ℕ). with_worth (with_notes now n notes) n worth) its)) in (
        subst (λ (p : Pool). IsKnownAfter job before p key worth) last
            (subst (λ (k : Key). IsKnownAfter job before done_pool k worth) state.its ends),
        subst (λ (p : Pool). AreKnown job p table) last (known_done table own_state known),
      )

-- what is tested but not known, by what the table knows at the set
pub untested_by :
    (known : List KnownActions) (mask : ℕ) (found : KnownActions) (tested untested : ActionSet)
    → slice_get known mask ≡ Some found
    → ArePlaces untested (λ place. has_place tested place && not (has_place found.known place))
    → (at : KnownActions) → slice_get known mask ≡ Some at
    → ArePlaces untested (λ place. has_place tested place && not (has_place at.known place))
untested_by known mask found tested untested here are at stands =
    subst (λ (k : KnownActions). ArePlaces untested (λ place. has_place tested place && not (has_place k.known place)))
    (same_Some found at (sym here ∙ stands)) are

-- what is tested and refused, likewise
pub refused_by :
    (known : List KnownActions) (mask : ℕ) (found : KnownActions) (tested notes : ActionSet)
    → slice_get known mask ≡ Some found
    → ArePlaces notes (λ place. has_place tested place && has_place found.refused place)
    → (at : KnownActions) → slice_get known mask ≡ Some at
    → ArePlaces notes (λ place. has_place tested place && has_place at.refused place)
refused_by known mask found tested notes here are at stands =
    subst (λ (k : KnownActions). ArePlaces notes (λ place. has_place tested place && has_place k.refused place))
    (same_Some found at (sym here ∙ stands)) are

-- the open row stays among the rows when it gets its notes
pub noted_within :
    (before now after : Pool) (number : ℕ) (notes : ActionSet) → number ≡ length before.rows
    → length before.rows < length now.rows → after ≡ with_notes now number notes
    → number < length after.rows
noted_within before now after number notes its longer is =
    let same = ap (λ (p : Pool). length p.rows) is in
    let counted : length (with_notes now number notes).rows ≡ length now.rows = length-changed_at number _ now.rows in
    omega (arith, same, counted, its, longer)

-- a key whose tested actions are all known is settled at once
module _ (job : JobData) (is_job : IsJob job) (before now : Pool) (key : Key) (table : TableData)
    (found : KnownActions) (choice : Choice) (untested notes : ActionSet) (number : ℕ)
    (added : now ≡ with_row before key) (its : number ≡ length before.rows)
    (sound : IsSound job before.rows) (node : IsNode job key) (known : AreKnown job before table)
    (here : slice_get table.known key.mask.0 ≡ Some found)
    (chosen : IsKnownSo table key.mask (λ at. IsChoice table.job key at choice))
    (untested_are : ArePlaces untested (λ place. has_place choice.tested place && not (has_place found.known place)))
    (none : IsNone untested)
    (notes_are : ArePlaces notes (λ place. has_place choice.tested place && has_place found.refused place)) where
  chosen_here : IsChoice job key found choice
  chosen_here = subst (λ (j : JobData). IsChoice j key found choice) known.its_job (chosen found here)

  starts : IsSettlingAt job before now key found (new_row before.actions key)
  starts = subst (λ (p : Pool). IsSettlingAt job before p key found (new_row before.actions key)) (sym added)
      (settling_starts job before key found sound node)

  known_now : AreKnown job now table
  known_now = subst (λ (p : Pool). AreKnown job p table) (sym added) (known_started job before key table known)

  all_here : (action : Action) → IsActionAt job key action → has choice.tested action ≡ true → has found.known action ≡ true
  all_here = all_known job is_job key found choice chosen_here untested untested_are none

  pub once_common :
      (other : Key) → slice_get (keys now) number ≡ Some other
      → AreCommon now.actions (common_at now other.mask) notes
  once_common other stands =
      let same = open_key job before now key found (new_row before.actions key) starts other
      (subst (λ (n : ℕ). slice_get (keys now) n ≡ Some other) its stands) in
      subst (λ (k : Key). AreCommon now.actions (common_at now k.mask) notes) (sym same)
      (notes_common job is_job key found choice chosen_here now (known_now.each key.mask found here)
      known_now.actions all_here notes notes_are)

  pub once_within : (after : Pool) → after ≡ with_notes now number notes → number < length after.rows
  once_within after is = noted_within before now after number notes its starts.longer is

  pub once_ends :
      IsKeyOf job key → (worth : Worth) → IsWorthOf choice.best worth → (mid after : Pool)
      → mid ≡ with_notes now number notes → after ≡ with_worth mid number worth
      → IsKnownAfter job before after key worth × AreKnown job after table
  once_ends in_range worth worth_is mid after first second =
      settling_ends_at job is_job before now found (new_row before.actions key) choice notes worth
      key starts in_range table known_now here chosen_here all_here notes_are worth_is
      number its mid after first second
