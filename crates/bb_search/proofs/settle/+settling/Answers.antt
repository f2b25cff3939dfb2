use Rattle.std.proofs.Common.{◌≡◌, inl, inr, ◌<◌, ◌*◌, ◌≤◌, ◌==◌, true, not, ℕ, length, Some, arith, refl, sym, ◌∙◌, ap, subst}
use Rattle.std.specs.Prelude.{slice_get, Contains}
use Rattle.brake_base.specs.declared.space.Place.{Place}
use Rattle.brake_base.specs.declared.stroke.Key.{Key}
use Rattle.undo_region.specs.Room.{ListWithRoom}
use Rattle.bend_state.specs.State.{StateData}
use Rattle.job_setup.specs.Setup.{JobData}
use Rattle.handling_cost.specs.StepCost.{left, IsKeyOf, IsFull}
use Rattle.row_pool.specs.Rows.{Pool, new_row, keys, common_at, AreCommon}
use Rattle.bb_search.specs.KnownActions.{IsChoice, TableData, AreKnown, IsRefusal, IsChangedAt}
use Rattle.bb_search.proofs.OpenRowLemmas.{settling_starts}
use Rattle.bb_search.proofs.CallLemmas.{spent_here, next_is, node_after}
use Rattle.bb_search.proofs.KnownCalls.{known_here, known_refused, changed_above, settling_refused, settling_sound, settling_open}
use Rattle.bb_search.proofs.DoneLemmas.{known_started, open_of_choice, all_known, notes_common, open_key, settling_ends_at, untested_by, refused_by, noted_within}
use Rattle.brake_base.specs.declared.mask.Mask.{Mask}
use Rattle.brake_base.specs.Masks.{union}
use Rattle.fold_boxes.specs.Shapes.{ShapeData}
use Rattle.handling_cost.proofs.ActionGroups.{action_groups}
use Rattle.handling_cost.specs.Reach.{IsNode}
use Rattle.handling_cost.proofs.Actions.{few_bends, fewer_left}
use Rattle.handling_cost.proofs.Keys.{next_in_range}
use Rattle.bb_search.specs.Settling.{IsSound, OpenAbove}
use Rattle.bb_search.specs.OpenRows.{IsSameAbove}
use Rattle.set_facts.specs.Facts.{AreLeads}
use Rattle.bb_search.proofs.OpenSums.{untested_cost, cheapest_by_sums, cheapest_by_others, only_later, of_leads, open_sums}
use Rattle.bb_search.proofs.ExploreLemmas.{first_holds, cheapest_later, cheapest_at, cheapest_unknown, cheapest_floor, later_gone, later_kept, open_later, least_later, slack_small, spent_since, fewer_since}
use Rattle.bb_search.proofs.Measures.{fewer_places}
use Rattle.stage_lanes.specs.ActionSets.{place_of, has_place}
use Rattle.action_lanes.specs.Costs.{cost_at}
use Rattle.bb_search.proofs.FoldLemmas.{room_left}
use Rattle.bb_search.proofs.KnownLemmas.{at_set, place_small}
use Rattle.bb_search.proofs.TryLemmas.{same_above_more, refused_told, refused_slack, next_range, next_small, next_bound, learnt_told, learnt_slack, learnt_above, learnt_settling, learnt_known}
use Rattle.bb_search.proofs.settle.+settling.Goals as goal

pub settle-returns-in_err-row-clause-found : goal.settle-returns-in_err-row-clause-found
settle-returns-in_err-row-clause-found t c =
    let full = c.in_err-row.ensures.full in
    let same = c.in_err-row.ensures.unchanged in
    rw (c.from_residual.ensures, same)
    (spent_here c.args.job.now c.args.pool.now c.requires.sound c.args.key.now c.requires.node c.requires.new_key (full.0 refl))

pub settle-choose-choice-requires-clause-small : goal.settle-choose-choice-requires-clause-small
settle-choose-choice-requires-clause-small t c =
    λ at here. (c.requires.known.each c.args.key.now.mask at here).small

pub settle-loop-leads-init : goal.settle-loop-leads-init
settle-loop-leads-init t c =
    let job = c.args.job.now in
    let key = c.args.key.now in
    let before = c.args.pool.now in
    let table = c.args.table.now in
    let added = c.in_ok-row.ensures.added in
    let here = known_here job before table c.requires.known key.mask c.requires.range.mask in
    record {
      settling = rw added (
        here.0,
        here.1,
        (new_row before.actions key, settling_starts job before key here.0 c.requires.sound c.requires.node),
      );
      known = rw added (known_started job before key table c.requires.known);
      choice = λ at stands.
          subst (λ (j : JobData). IsChoice j key at c.choose-choice.result) c.requires.known.its_job
          (c.choose-choice.ensures at stands);
      untested = untested_by table.known key.mask.0 c.known.result.now c.choose-choice.result.tested
          c.without-untested.result c.known.ensures c.without-untested.ensures.places;
      above = λ mask more. refl;
      state = refl;
      trail = refl;
    }

pub settle-explore-requires : goal.settle-explore-requires
settle-explore-requires t c =
    let job = c.args.job.now in
    let key = c.args.key.now in
    let invariant = c.loop-leads.invariant in
    let choice = c.loop-leads.choice in
    let at = invariant.settling.0 in
    let here = invariant.settling.1 in (
      omega (arith, c.decreases),
      (
        c.requires.job,
        (
          invariant.known,
          (
            c.requires.range,
            (
              c.requires.node,
              (
                (c.args.pool.now, invariant.settling, c.requires.open),
                (
                  ap (λ (s : StateData). s.shape) invariant.state ∙ c.requires.shape,
                  (
                    ap (λ (s : StateData). s.mask) invariant.state ∙ c.requires.mask,
                    (
                      subst (λ (r : ListWithRoom Place). 13 * left job key ≤ r.room) (sym invariant.trail) c.requires.room,
                      (
                        subst (λ (j : JobData). AreLeads j key.mask c.leads-leads.result) c.requires.known.its_job c.leads-leads.ensures.leads,
                        (
                          c.put_all_sums.ensures,
                          (
                            (invariant.choice at here).capped,
                            (
                              λ known stands. (invariant.choice known stands).least,
                              (
                                λ known stands.
                                    open_of_choice job c.requires.job key known choice (invariant.choice known stands)
                                    c.loop-leads.untested (invariant.untested known stands),
                                λ none. (let yes = c.is_empty.ensures.1 none in let no = c.loop-leads-test.true in cc),
                              ),
                            ),
                          ),
                        ),
                      ),
                    ),
                  ),
                ),
              ),
            ),
          ),
        ),
      ),
    )

pub settle-choose-choice-requires-in-loop-leads-clause-small :
    goal.settle-choose-choice-requires-in-loop-leads-clause-small
settle-choose-choice-requires-in-loop-leads-clause-small t c =
    λ at here. (c.in_ok-explore.ensures.known.each c.args.key.now.mask at here).small

pub settle-loop-leads-preserved : goal.settle-loop-leads-preserved
settle-loop-leads-preserved t c =
    let key = c.args.key.now in
    let invariant = c.loop-leads.invariant in
    let known = c.in_ok-explore.ensures.known in
    record {
      settling = c.in_ok-explore.ensures.found c.args.pool.now invariant.settling;
      known = known;
      choice = λ at stands.
          subst (λ (j : JobData). IsChoice j key at c.choose-choice-in-loop-leads.result) known.its_job
          (c.choose-choice-in-loop-leads.ensures at stands);
      untested = untested_by c.explore.new.table.known key.mask.0 c.known-in-loop-leads.result.now
          c.choose-choice-in-loop-leads.result.tested c.without-untested-in-loop-leads.result
          c.known-in-loop-leads.ensures c.without-untested-in-loop-leads.ensures.places;
      above = λ mask more. c.explore.ensures.above mask more ∙ invariant.above mask more;
      state = c.explore.ensures.state ∙ invariant.state;
      trail = c.explore.ensures.trail ∙ invariant.trail;
    }

pub settle-set_notes-requires-clause-common : goal.settle-set_notes-requires-clause-common
settle-set_notes-requires-clause-common t c =
    λ other stands.
    let job = c.args.job.now in
    let key = c.args.key.now in
    let now = c.loop-leads.pool in
    let known = c.loop-leads.table.known in
    let choice = c.loop-leads.choice in
    let notes = c.intersection.result in
    let invariant = c.loop-leads.invariant in
    let at = invariant.settling.0 in
    let here = invariant.settling.1 in
    let none = c.is_empty.ensures.0 c.loop-leads-test.false in
    let same = open_key job c.args.pool.now now key at invariant.settling.2.0 invariant.settling.2.1 other
    (subst (λ (n : ℕ). slice_get (keys now) n ≡ Some other) c.in_ok-row.ensures.row stands) in
    let is = invariant.choice at here in
    let all = all_known job c.requires.job key at choice is c.loop-leads.untested (invariant.untested at here) none in
    let notes_are = refused_by known key.mask.0 c.known-2.result.now choice.tested notes c.known-2.ensures c.intersection.ensures.places at here in
    subst (λ (k : Key). AreCommon now.actions (common_at now k.mask) notes) (sym same)
    (notes_common job c.requires.job key at choice is now (invariant.known.each key.mask at here) invariant.known.actions all notes notes_are)

pub settle-set_worth-requires : goal.settle-set_worth-requires
settle-set_worth-requires t c =
    record {
      row = noted_within c.args.pool.now c.loop-leads.pool c.set_notes.new.self c.in_ok-row.row
          c.intersection.result c.in_ok-row.ensures.row
          c.loop-leads.invariant.settling.2.1.longer c.set_notes.ensures.set;
    }

pub settle-returns-clause-found : goal.settle-returns-clause-found
settle-returns-clause-found t c =
    let job = c.args.job.now in
    let key = c.args.key.now in
    let choice = c.loop-leads.choice in
    let notes = c.intersection.result in
    let invariant = c.loop-leads.invariant in
    let at = invariant.settling.0 in
    let here = invariant.settling.1 in
    let none = c.is_empty.ensures.0 c.loop-leads-test.false in
    let is = invariant.choice at here in
    (settling_ends_at job c.requires.job c.args.pool.now c.loop-leads.pool at invariant.settling.2.0 choice notes c.worth_from-worth.result
    key invariant.settling.2.1 c.requires.range c.loop-leads.table invariant.known here is
    (all_known job c.requires.job key at choice is c.loop-leads.untested (invariant.untested at here) none)
    (refused_by c.loop-leads.table.known key.mask.0 c.known-2.result.now choice.tested notes c.known-2.ensures c.intersection.ensures.places at here)
    c.worth_from-worth.ensures c.in_ok-row.row c.in_ok-row.ensures.row c.set_notes.new.self c.set_worth.new.self
    c.set_notes.ensures.set c.set_worth.ensures.set).0

pub settle-returns-clause-known : goal.settle-returns-clause-known
settle-returns-clause-known t c =
    let job = c.args.job.now in
    let key = c.args.key.now in
    let choice = c.loop-leads.choice in
    let notes = c.intersection.result in
    let invariant = c.loop-leads.invariant in
    let at = invariant.settling.0 in
    let here = invariant.settling.1 in
    let none = c.is_empty.ensures.0 c.loop-leads-test.false in
    let is = invariant.choice at here in
    (settling_ends_at job c.requires.job c.args.pool.now c.loop-leads.pool at invariant.settling.2.0 choice notes c.worth_from-worth.result
    key invariant.settling.2.1 c.requires.range c.loop-leads.table invariant.known here is
    (all_known job c.requires.job key at choice is c.loop-leads.untested (invariant.untested at here) none)
    (refused_by c.loop-leads.table.known key.mask.0 c.known-2.result.now choice.tested notes c.known-2.ensures c.intersection.ensures.places at here)
    c.worth_from-worth.ensures c.in_ok-row.row c.in_ok-row.ensures.row c.set_notes.new.self c.set_worth.new.self
    c.set_notes.ensures.set c.set_worth.ensures.set).1

pub explore-next_open-requires-clause-leads : goal.explore-next_open-requires-clause-leads
explore-next_open-requires-clause-leads t c =
    let job = c.args.job.now in
    let key = c.args.key.now in
    let here = known_here job c.loop-action.pool c.loop-action.table c.loop-action.invariant.known key.mask c.requires.range.mask in
    of_leads job c.requires.job key c.args.leads c.args.best here.0 c.loop-action.untested (c.loop-action.invariant.waiting here.0 here.1) c.requires.leads

pub explore-next_open-requires-clause-sums : goal.explore-next_open-requires-clause-sums
explore-next_open-requires-clause-sums t c =
    let job = c.args.job.now in
    let key = c.args.key.now in
    let here = known_here job c.loop-action.pool c.loop-action.table c.loop-action.invariant.known key.mask c.requires.range.mask in
    open_sums job c.requires.job key c.args.leads c.args.best here.0 c.loop-action.untested (c.loop-action.invariant.waiting here.0 here.1) c.args.sums.now
    c.loop-action.untested_sums c.requires.sums c.loop-action.invariant.sums c.requires.capped

pub explore-try_action-requires : goal.explore-try_action-requires
explore-try_action-requires t c =
    let job = c.args.job.now in
    let is_job = c.requires.job in
    let key = c.args.key.now in
    let best = c.args.best in
    let sums = c.args.sums.now in
    let pool = c.loop-action.pool in
    let table = c.loop-action.table in
    let untested = c.loop-action.untested in
    let invariant = c.loop-action.invariant in
    let action = c.in-Some.action in
    let cheapest = cheapest_by_sums sums c.loop-action.untested_sums untested invariant.sums action c.in-Some.ensures.some in
    let here = known_here job pool table invariant.known key.mask c.requires.range.mask in
    let at = cheapest_at job is_job key best here.0 untested (invariant.waiting here.0 here.1) c.args.leads sums c.requires.sums action cheapest in
    let same = untested_cost sums c.loop-action.untested_sums untested invariant.sums (place_of action) (place_small action cheapest.among) cheapest.member in
    let less = c.in-Some.ensures.below in
    let below : cost_at sums (place_of action) < c.loop-action.limit = omega (arith, same, less) in
    let start = c.requires.settling in (
      omega (arith, c.decreases),
      (
        is_job,
        (
          invariant.known,
          (
            c.requires.range,
            (
              c.requires.node,
              (
                (start.0, invariant.settling start.0 start.1, start.2),
                (
                  at,
                  (
                    λ k is. cheapest_unknown job is_job key best k untested (invariant.waiting k is) c.args.leads sums c.requires.sums action cheapest,
                    (
                      λ k is. cheapest_floor job is_job key best k untested (invariant.waiting k is) c.args.leads sums c.requires.sums action cheapest c.loop-action.limit below (invariant.least k is),
                      (
                        ap (λ (s : StateData). s.shape) invariant.state ∙ c.requires.shape,
                        (
                          ap (λ (s : StateData). s.mask) invariant.state ∙ c.requires.mask,
                          subst (λ (r : ListWithRoom Place). 13 * left job key ≤ r.room) (sym invariant.trail) c.requires.room,
                        ),
                      ),
                    ),
                  ),
                ),
              ),
            ),
          ),
        ),
      ),
    )

pub explore-returns-in_err-slack-clause-spent : goal.explore-returns-in_err-slack-clause-spent
explore-returns-in_err-slack-clause-spent t c =
    let start = c.requires.settling in
    rw c.from_residual.ensures
    (spent_since c.args.job.now start.0 c.args.pool.now c.loop-action.pool c.try_action.new.pool c.args.key.now c.args.table.now c.loop-action.table start.1 (c.loop-action.invariant.settling start.0 start.1) c.in_err-slack.ensures.spent)

pub explore-overflow_add-cost : goal.explore-overflow_add-cost
explore-overflow_add-cost t c =
    let action = c.in-Some.action in
    let among = c.in-Some.ensures.some.among in
    let cost = c.cost.ensures in
    let small = c.requires.sums.small (place_of action) (place_small action among) in
    let few = slack_small c.args.job.now c.requires.job c.try_action.new.pool c.try_action.new.table c.args.key.now c.requires.range.mask c.in_ok-slack.ensures.known action among c.in_ok-slack.slack c.in_ok-slack.ensures.slack in
    omega (arith, cost, small, few)

pub explore-loop-action-smaller : goal.explore-loop-action-smaller
explore-loop-action-smaller t c =
    let job = c.args.job.now in
    let is_job = c.requires.job in
    let key = c.args.key.now in
    let best = c.args.best in
    let sums = c.args.sums.now in
    let pool = c.loop-action.pool in
    let table = c.loop-action.table in
    let untested = c.loop-action.untested in
    let invariant = c.loop-action.invariant in
    let action = c.in-Some.action in
    let cheapest = cheapest_by_sums sums c.loop-action.untested_sums untested invariant.sums action c.in-Some.ensures.some in
    let here = known_here job pool table invariant.known key.mask c.requires.range.mask in
    let at = cheapest_at job is_job key best here.0 untested (invariant.waiting here.0 here.1) c.args.leads sums c.requires.sums action cheapest in
    let later = c.except-untested.result in
    let later_are = c.except-untested.ensures.places in
    let there = known_here job c.try_action.new.pool c.try_action.new.table c.in_ok-slack.ensures.known key.mask c.requires.range.mask in
    let told = c.in_ok-slack.ensures.told here.0 there.0 here.1 there.1 in
    let within = place_small action cheapest.among in
    fewer_places untested later (place_of action) within cheapest.member
    (later_gone job is_job key action at here.0 there.0 told best untested later later_are within)
    (later_kept job is_job key action at here.0 there.0 told best untested later later_are)

pub explore-loop-action-preserved : goal.explore-loop-action-preserved
explore-loop-action-preserved t c =
    let job = c.args.job.now in
    let is_job = c.requires.job in
    let key = c.args.key.now in
    let best = c.args.best in
    let sums = c.args.sums.now in
    let pool = c.loop-action.pool in
    let table = c.loop-action.table in
    let untested = c.loop-action.untested in
    let invariant = c.loop-action.invariant in
    let action = c.in-Some.action in
    let cheapest = cheapest_by_sums sums c.loop-action.untested_sums untested invariant.sums action c.in-Some.ensures.some in
    let here = known_here job pool table invariant.known key.mask c.requires.range.mask in
    let at = cheapest_at job is_job key best here.0 untested (invariant.waiting here.0 here.1) c.args.leads sums c.requires.sums action cheapest in
    let later = c.except-untested.result in
    let later_are = c.except-untested.ensures.places in
    let lower = c.min-limit.ensures in
    let slack = c.in_ok-slack.slack in
    let cost = c.cost.ensures ∙ c.requires.sums.each action at in
    let sums_later = only_later sums c.loop-action.untested_sums c.set_cost.new.self action untested later later_are c.set_cost.ensures.costs invariant.sums in
    let was : (place : ℕ) → place < 192 → has_place later place ≡ true → cost_at c.loop-action.untested_sums place ≡ cost_at sums place =
    λ place within its. untested_cost sums c.loop-action.untested_sums untested invariant.sums place within
    (first_holds (has_place untested place) (not (place == place_of action)) (sym (later_are place within) ∙ its)) in
    record {
      low = let low = invariant.low in omega (arith, lower, low);
      least = λ k is.
          least_later job is_job key action at here.0 k (c.in_ok-slack.ensures.told here.0 k here.1 is) best c.loop-action.limit slack c.min-limit.result (c.in_ok-slack.ensures.slack k is)
          (omega (arith, lower)) (omega (arith, lower, cost)) (invariant.least here.0 here.1);
      waiting = λ k is.
          open_later job is_job key action at here.0 k (c.in_ok-slack.ensures.told here.0 k here.1 is) best untested later later_are (invariant.waiting here.0 here.1);
      sums = sums_later;
      cheapest = cheapest_by_others c.loop-action.untested_sums c.set_cost.new.self later c.except-cheapest.result
          (λ place within its. was place within its ∙ sym (untested_cost sums c.set_cost.new.self later sums_later place within its))
          (cheapest_later c.loop-action.untested_sums action untested c.next_open.new.cheapest later c.except-cheapest.result later_are c.except-cheapest.ensures.places c.next_open.ensures.cheapest);
      settling = λ before start. c.in_ok-slack.ensures.found before (invariant.settling before start);
      known = c.in_ok-slack.ensures.known;
      fewer = inr (fewer_since job is_job pool c.args.table.now table c.try_action.new.table key c.requires.range.mask invariant.known action cheapest.among
          (λ k is. cheapest_unknown job is_job key best k untested (invariant.waiting k is) c.args.leads sums c.requires.sums action cheapest)
          c.in_ok-slack.ensures.told
          (elim invariant.fewer [ inl same ↦ inl same.2 | inr fewer ↦ inr fewer ]));
      above = λ mask more. c.try_action.ensures.above mask more ∙ invariant.above mask more;
      state = c.try_action.ensures.state ∙ invariant.state;
      trail = c.try_action.ensures.trail ∙ invariant.trail;
    }

pub try_action-worth_of-requires : goal.try_action-worth_of-requires
try_action-worth_of-requires t c =
    let job = c.args.job.now in
    let key = c.args.key.now in
    let action = c.args.action in
    let table = c.args.table.now in
    let by = c.requires.settling.1 in
    let tested = c.in-Free.ensures.tested in
    let at = c.requires.action in
    let next = next_is job key action c.key_with-next.result c.group-group.result c.in-Free.attitude c.key_with-next.ensures.mask c.group-group.ensures.value c.key_with-next.ensures.attitude tested.0 c.key_with-next.ensures.stage in
    let less = fewer_left job (few_bends job c.requires.job) key action at in
    let fewer : left job c.key_with-next.result < left job key = subst (λ (k : Key). left job k < left job key) (sym next) less in (
      omega (arith, c.decreases, fewer),
      (
        c.requires.job,
        (
          subst (λ (t : TableData). AreKnown job c.args.pool.now t) (sym c.test.ensures.table) c.requires.known,
          (
            settling_sound job c.requires.settling.0 c.args.pool.now key table by,
            (
              subst (λ (k : Key). IsKeyOf job k) (sym next) (next_in_range job c.requires.job key action c.requires.range at),
              (
                λ more. subst (λ (k : Key). IsNode job k) (sym next) (node_after job key action c.in-Free.gauge c.requires.node tested.1 (λ full. more (subst (λ (k : Key). IsFull job k) (sym next) full))),
                (
                  subst (λ (k : Key). OpenAbove job c.args.pool.now.rows (left job k)) (sym next) (settling_open job c.requires.settling.0 c.args.pool.now key table by c.requires.job c.requires.settling.2 action at),
                  (
                    c.requires.shape,
                    (
                      rw (c.requires.shape, c.requires.mask, c.group-group.ensures.value) (action_groups job (few_bends job c.requires.job) key action at),
                      (
                        c.key_with-next.ensures.mask ∙ ap (λ (m : Mask). union m c.group-group.result) (sym c.requires.mask),
                        omega (arith, fewer, c.requires.room),
                      ),
                    ),
                  ),
                ),
              ),
            ),
          ),
        ),
      ),
    )

pub try_action-returns-in_err-worth-in-Free-clause-above : goal.try_action-returns-in_err-worth-in-Free-clause-above
try_action-returns-in_err-worth-in-Free-clause-above t c =
    let job = c.args.job.now in
    let key = c.args.key.now in
    let action = c.args.action in
    let tested = c.in-Free.ensures.tested in
    let at = c.requires.action in
    let next = next_is job key action c.key_with-next.result c.group-group.result c.in-Free.attitude c.key_with-next.ensures.mask c.group-group.ensures.value c.key_with-next.ensures.attitude tested.0 c.key_with-next.ensures.stage in
    let less : left job c.key_with-next.result < left job key = subst (λ (k : Key). left job k < left job key) (sym next) (fewer_left job (few_bends job c.requires.job) key action at) in
    same_above_more job c.args.table.now c.worth_of.new.table (left job c.key_with-next.result) (left job key) less
    (subst (λ (t : TableData). IsSameAbove job t c.worth_of.new.table (left job c.key_with-next.result)) c.test.ensures.table c.worth_of.ensures.above)

pub try_action-slack_above-slack-requires-clause-key : goal.try_action-slack_above-slack-requires-clause-key
try_action-slack_above-slack-requires-clause-key t c =
    let job = c.args.job.now in
    let key = c.args.key.now in
    let action = c.args.action in
    let after = c.in_ok-worth-in-Free in
    let next = c.key_with-next.result in
    let next_same = next_is job key action next c.group-group.result c.in-Free.attitude c.key_with-next.ensures.mask c.group-group.ensures.value c.key_with-next.ensures.attitude c.in-Free.ensures.tested.0 c.key_with-next.ensures.stage in
    let same = subst (λ (t : TableData). IsSameAbove job t c.worth_of.new.table (left job next)) c.test.ensures.table c.worth_of.ensures.above in
    next_range job c.requires.job c.args.pool.now key c.args.table.now c.requires.known action c.requires.action c.requires.unknown
    c.requires.range next next_same c.worth_of.new.pool c.worth_of.new.table after.worth after.ensures.found after.ensures.known same

pub try_action-slack_above-slack-requires-clause-small : goal.try_action-slack_above-slack-requires-clause-small
try_action-slack_above-slack-requires-clause-small t c =
    let job = c.args.job.now in
    let key = c.args.key.now in
    let action = c.args.action in
    let after = c.in_ok-worth-in-Free in
    let next = c.key_with-next.result in
    let next_same = next_is job key action next c.group-group.result c.in-Free.attitude c.key_with-next.ensures.mask c.group-group.ensures.value c.key_with-next.ensures.attitude c.in-Free.ensures.tested.0 c.key_with-next.ensures.stage in
    let same = subst (λ (t : TableData). IsSameAbove job t c.worth_of.new.table (left job next)) c.test.ensures.table c.worth_of.ensures.above in
    next_small job c.requires.job c.args.pool.now key c.args.table.now c.requires.known action c.requires.action c.requires.unknown
    c.requires.range next next_same c.worth_of.new.pool c.worth_of.new.table after.worth after.ensures.found after.ensures.known same

pub try_action-slack_above-slack-requires-clause-bound : goal.try_action-slack_above-slack-requires-clause-bound
try_action-slack_above-slack-requires-clause-bound t c =
    let job = c.args.job.now in
    let key = c.args.key.now in
    let action = c.args.action in
    let after = c.in_ok-worth-in-Free in
    let next = c.key_with-next.result in
    let next_same = next_is job key action next c.group-group.result c.in-Free.attitude c.key_with-next.ensures.mask c.group-group.ensures.value c.key_with-next.ensures.attitude c.in-Free.ensures.tested.0 c.key_with-next.ensures.stage in
    let same = subst (λ (t : TableData). IsSameAbove job t c.worth_of.new.table (left job next)) c.test.ensures.table c.worth_of.ensures.above in
    next_bound job c.requires.job c.args.pool.now key c.args.table.now c.requires.known action c.requires.action c.requires.unknown
    c.requires.range next next_same c.worth_of.new.pool c.worth_of.new.table after.worth after.ensures.found after.ensures.known same

pub try_action-returns-in-Refused-clause-found : goal.try_action-returns-in-Refused-clause-found
try_action-returns-in-Refused-clause-found t c =
    let job = c.args.job.now in
    let key = c.args.key.now in
    let action = c.args.action in
    let table = c.args.table.now in
    let after = c.refuse.new.self in
    let changed = subst (λ (t : TableData). IsChangedAt (IsRefusal action) key.mask.0 t.known after.known) c.test.ensures.table c.refuse.ensures.known in
    λ before by.
    rw (c.set_common.ensures.set, c.action_number.ensures.value, c.stages.ensures.value)
    (settling_refused job c.requires.job before c.args.pool.now key table by action c.requires.action (c.requires.unknown by.0 by.1) after c.in-Refused.reason changed)

pub try_action-returns-in-Refused-clause-known : goal.try_action-returns-in-Refused-clause-known
try_action-returns-in-Refused-clause-known t c =
    let job = c.args.job.now in
    let key = c.args.key.now in
    let action = c.args.action in
    let table = c.args.table.now in
    let after = c.refuse.new.self in
    let changed = subst (λ (t : TableData). IsChangedAt (IsRefusal action) key.mask.0 t.known after.known) c.test.ensures.table c.refuse.ensures.known in
    rw (c.set_common.ensures.set, c.action_number.ensures.value, c.stages.ensures.value)
    (known_refused job c.requires.job c.args.pool.now table after key.mask action c.in-Refused.reason c.requires.range.mask (at_set job c.requires.job key action c.requires.action) c.in-Refused.ensures.tested c.requires.known changed
    (c.refuse.ensures.job ∙ ap (λ (t : TableData). t.job) c.test.ensures.table) c.requires.unknown)

pub try_action-returns-in-Refused-clause-told : goal.try_action-returns-in-Refused-clause-told
try_action-returns-in-Refused-clause-told t c =
    let job = c.args.job.now in
    let key = c.args.key.now in
    let action = c.args.action in
    let table = c.args.table.now in
    let after = c.refuse.new.self in
    let changed = subst (λ (t : TableData). IsChangedAt (IsRefusal action) key.mask.0 t.known after.known) c.test.ensures.table c.refuse.ensures.known in
    refused_told job c.requires.job c.args.pool.now key table c.requires.known action c.requires.action c.requires.unknown after changed

pub try_action-returns-in-Refused-clause-slack : goal.try_action-returns-in-Refused-clause-slack
try_action-returns-in-Refused-clause-slack t c =
    let job = c.args.job.now in
    let key = c.args.key.now in
    let action = c.args.action in
    let table = c.args.table.now in
    let after = c.refuse.new.self in
    let changed = subst (λ (t : TableData). IsChangedAt (IsRefusal action) key.mask.0 t.known after.known) c.test.ensures.table c.refuse.ensures.known in
    refused_slack job c.requires.job c.args.pool.now key table c.requires.known action c.requires.action c.requires.unknown after changed

pub try_action-returns-in-Refused-clause-above : goal.try_action-returns-in-Refused-clause-above
try_action-returns-in-Refused-clause-above t c =
    let job = c.args.job.now in
    let key = c.args.key.now in
    let action = c.args.action in
    let table = c.args.table.now in
    let after = c.refuse.new.self in
    let changed = subst (λ (t : TableData). IsChangedAt (IsRefusal action) key.mask.0 t.known after.known) c.test.ensures.table c.refuse.ensures.known in
    changed_above job key table after changed

pub try_action-returns-in_ok-worth-in-Free-clause-found : goal.try_action-returns-in_ok-worth-in-Free-clause-found
try_action-returns-in_ok-worth-in-Free-clause-found t c =
    let job = c.args.job.now in
    let key = c.args.key.now in
    let action = c.args.action in
    let after = c.in_ok-worth-in-Free in
    let next = c.key_with-next.result in
    let next_same = next_is job key action next c.group-group.result c.in-Free.attitude c.key_with-next.ensures.mask c.group-group.ensures.value c.key_with-next.ensures.attitude c.in-Free.ensures.tested.0 c.key_with-next.ensures.stage in
    let same = subst (λ (t : TableData). IsSameAbove job t c.worth_of.new.table (left job next)) c.test.ensures.table c.worth_of.ensures.above in
    learnt_settling job c.requires.job c.args.pool.now key c.args.table.now c.requires.known action c.requires.action c.requires.unknown
    c.requires.range next next_same c.worth_of.new.pool c.worth_of.new.table after.worth after.ensures.found after.ensures.known same
    c.learn.new.self c.slack_above-slack.result c.learn.ensures.known c.requires.floor

pub try_action-returns-in_ok-worth-in-Free-clause-known : goal.try_action-returns-in_ok-worth-in-Free-clause-known
try_action-returns-in_ok-worth-in-Free-clause-known t c =
    let job = c.args.job.now in
    let key = c.args.key.now in
    let action = c.args.action in
    let after = c.in_ok-worth-in-Free in
    let next = c.key_with-next.result in
    let next_same = next_is job key action next c.group-group.result c.in-Free.attitude c.key_with-next.ensures.mask c.group-group.ensures.value c.key_with-next.ensures.attitude c.in-Free.ensures.tested.0 c.key_with-next.ensures.stage in
    let same = subst (λ (t : TableData). IsSameAbove job t c.worth_of.new.table (left job next)) c.test.ensures.table c.worth_of.ensures.above in
    learnt_known job c.requires.job c.args.pool.now key c.args.table.now c.requires.known action c.requires.action c.requires.unknown
    c.requires.range next next_same c.worth_of.new.pool c.worth_of.new.table after.worth after.ensures.found after.ensures.known same
    c.learn.new.self c.slack_above-slack.result c.learn.ensures.known c.in-Free.gauge c.in-Free.ensures.tested.1 c.slack_above-slack.ensures.slack c.slack_above-slack.ensures.small c.learn.ensures.job

pub try_action-returns-in_ok-worth-in-Free-clause-told : goal.try_action-returns-in_ok-worth-in-Free-clause-told
try_action-returns-in_ok-worth-in-Free-clause-told t c =
    let job = c.args.job.now in
    let key = c.args.key.now in
    let action = c.args.action in
    let after = c.in_ok-worth-in-Free in
    let next = c.key_with-next.result in
    let next_same = next_is job key action next c.group-group.result c.in-Free.attitude c.key_with-next.ensures.mask c.group-group.ensures.value c.key_with-next.ensures.attitude c.in-Free.ensures.tested.0 c.key_with-next.ensures.stage in
    let same = subst (λ (t : TableData). IsSameAbove job t c.worth_of.new.table (left job next)) c.test.ensures.table c.worth_of.ensures.above in
    learnt_told job c.requires.job c.args.pool.now key c.args.table.now c.requires.known action c.requires.action c.requires.unknown
    c.requires.range next next_same c.worth_of.new.pool c.worth_of.new.table after.worth after.ensures.found after.ensures.known same
    c.learn.new.self c.slack_above-slack.result c.learn.ensures.known

pub try_action-returns-in_ok-worth-in-Free-clause-slack : goal.try_action-returns-in_ok-worth-in-Free-clause-slack
try_action-returns-in_ok-worth-in-Free-clause-slack t c =
    let job = c.args.job.now in
    let key = c.args.key.now in
    let action = c.args.action in
    let after = c.in_ok-worth-in-Free in
    let next = c.key_with-next.result in
    let next_same = next_is job key action next c.group-group.result c.in-Free.attitude c.key_with-next.ensures.mask c.group-group.ensures.value c.key_with-next.ensures.attitude c.in-Free.ensures.tested.0 c.key_with-next.ensures.stage in
    let same = subst (λ (t : TableData). IsSameAbove job t c.worth_of.new.table (left job next)) c.test.ensures.table c.worth_of.ensures.above in
    learnt_slack job c.requires.job c.args.pool.now key c.args.table.now c.requires.known action c.requires.action c.requires.unknown
    c.requires.range next next_same c.worth_of.new.pool c.worth_of.new.table after.worth after.ensures.found after.ensures.known same
    c.learn.new.self c.slack_above-slack.result c.learn.ensures.known

pub try_action-returns-in_ok-worth-in-Free-clause-above : goal.try_action-returns-in_ok-worth-in-Free-clause-above
try_action-returns-in_ok-worth-in-Free-clause-above t c =
    let job = c.args.job.now in
    let key = c.args.key.now in
    let action = c.args.action in
    let after = c.in_ok-worth-in-Free in
    let next = c.key_with-next.result in
    let next_same = next_is job key action next c.group-group.result c.in-Free.attitude c.key_with-next.ensures.mask c.group-group.ensures.value c.key_with-next.ensures.attitude c.in-Free.ensures.tested.0 c.key_with-next.ensures.stage in
    let same = subst (λ (t : TableData). IsSameAbove job t c.worth_of.new.table (left job next)) c.test.ensures.table c.worth_of.ensures.above in
    learnt_above job c.requires.job c.args.pool.now key c.args.table.now c.requires.known action c.requires.action c.requires.unknown
    c.requires.range next next_same c.worth_of.new.pool c.worth_of.new.table after.worth after.ensures.found after.ensures.known same
    c.learn.new.self c.slack_above-slack.result c.learn.ensures.known

pub worth_of-settle-worth-requires : goal.worth_of-settle-worth-requires
worth_of-settle-worth-requires t c =
    let job = c.args.job.now in
    let next = c.args.next.now in
    let state = c.args.state.now in
    let same : c.settle_known.new.pool ≡ c.args.pool.now = c.in_default-settle_known.ensures.same in
    let faces = ap (λ (s : ShapeData). length s.part.faces) c.requires.shape in
    let few : length state.shape.part.faces ≤ 13 = omega (arith, faces, c.requires.job.part.few_faces) in (
      omega (arith, c.decreases),
      (
        c.requires.job,
        (
          subst (λ (p : Pool). AreKnown job p c.args.table.now) (sym same) c.requires.known,
          (
            subst (λ (p : Pool). IsSound job p.rows) (sym same) c.requires.sound,
            (
              c.requires.range,
              (
                c.requires.node (λ full. let yes = c.if-is_full.ensures.1 full in let no = c.if-is_full.false in cc),
                (
                  subst (λ (p : Pool). OpenAbove job p.rows (left job next)) (sym same) c.requires.open,
                  (
                    subst (λ (p : Pool). Contains (keys p) next → ⊥) (sym same) c.in_default.ensures.row,
                    (
                      c.fold.ensures.shape ∙ c.requires.shape,
                      (
                        c.fold.ensures.mask ∙ sym c.requires.mask,
                        room_left state.shape state.mask c.args.group c.args.trail.now c.fold.new.trail (left job next) few c.fold.ensures.kept c.fold.ensures.left c.requires.room,
                      ),
                    ),
                  ),
                ),
              ),
            ),
          ),
        ),
      ),
    )
