-- What the calls of the search owe and give, in terms of its state.
use Rattle.std.proofs.Common.{◌≡◌, ◌⊎◌, inl, inr, ℕ, ◌≤◌, List, ◌∷◌, length, Some, arith, refl, sym, ◌∙◌, ap}
use Rattle.std.specs.Prelude.{slice_get, option_map, Contains}
use Rattle.std.proofs.lemmas.Option.{slice_get_within, slice_get-map, slice_get_cases, same_Some, none-some}
use Rattle.brake_base.specs.declared.mask.Mask.{Mask}
use Rattle.brake_base.specs.declared.stroke.Key.{Key}
use Rattle.brake_base.specs.declared.stroke.Action.{Action}
use Rattle.brake_base.specs.declared.stroke.Gauge.{Gauge}
use Rattle.brake_base.specs.declared.stroke.Worth.{Worth}
use Rattle.brake_base.specs.declared.stroke.Worth.TheVariants.{Cost, Blocked}
use Rattle.brake_base.specs.Masks.{union}
use Rattle.job_setup.specs.StrokeGroup.{group_of}
use Rattle.job_setup.specs.Setup.{JobData}
use Rattle.job_setup.specs.ValidJob.{IsJob}
use Rattle.handling_cost.specs.StepCost.{IsKeyOf, IsFull, attitude_at, key_after}
use Rattle.handling_cost.specs.Plan.{IsLegal}
use Rattle.brake_base.specs.Worths.{IsAtMost}
use Rattle.handling_cost.specs.Reach.{IsNode}
use Rattle.handling_cost.proofs.Actions.{few_left}
use Rattle.handling_cost.proofs.Small.{total_small}
use Rattle.row_pool.specs.Rows.{Pool, PoolRow, keys}
use Rattle.bb_search.specs.Table.{Grows}
use Rattle.bb_search.specs.Settling.{IsAttained, IsKnown, IsSound, IsKnownAfter, IsSpent}

-- the list stays as it is
same_grows : (rows : List PoolRow) → Grows rows rows
same_grows rows = record { longer = omega arith; keeps = λ i row at. at; news = λ i row at. inl at }

module _ (job : JobData) (pool : Pool) (sound : IsSound job pool.rows) (key : Key) where
  known_same : (worth : Worth) → IsKnown job pool.rows key worth → IsKnownAfter job pool pool key worth
  known_same worth known =
      record {
        sound = sound;
        grows = same_grows pool.rows;
        known = known;
        sources = λ i row at past. absurd (let within = slice_get_within pool.rows i row at in omega arith);
        limit = refl;
        actions = refl;
      }

  -- every bend is folded
  pub known_full : IsFull job key → IsKnownAfter job pool pool key (Cost 0)
  known_full full = known_same (Cost 0) (inl (full, refl))

  -- the row that stands at the key's place
  pub row_at : (i : ℕ) → slice_get (keys pool) i ≡ Some key → (row : PoolRow) × (slice_get pool.rows i ≡ Some row) × (row.key ≡ key)
  row_at i at = elim (slice_get_cases pool.rows i).1 [
    | inl here ↦ (here.0, here.2, same_Some here.0.key key (sym (slice_get-map (λ (row : PoolRow). row.key) pool.rows i ∙ ap (option_map (λ (row : PoolRow). row.key)) here.2) ∙ at))
    | inr past ↦ absurd (none-some key (sym (slice_get-map (λ (row : PoolRow). row.key) pool.rows i ∙ ap (option_map (λ (row : PoolRow). row.key)) past.1) ∙ at))
  ]

  pub spent_here : IsNode job key → (Contains (keys pool) key → ⊥) → length pool.rows ≡ pool.limit → IsSpent job pool pool
  spent_here node absent full = record { full = full; nodes = sound.nodes; more = (key, node, absent); limit = refl; actions = refl }

-- the key after a stroke, from its parts
pub next_is : (job : JobData) (key : Key) (action : Action) (next : Key) (group : Mask) (attitude : ℕ) → next.mask ≡ union key.mask group → group ≡ group_of job key.mask action.bend →
    next.attitude ≡ attitude → attitude ≡ attitude_at job key.mask action → next.stage ≡ action.stage → next ≡ key_after job key action
unfolding key_after
next_is job key action next group attitude mask_is group_is attitude_is held stage_is =
    let mask = mask_is ∙ ap (λ (g : Mask). union key.mask g) group_is in
    let turn = attitude_is ∙ held in
    λ i. record { mask = mask i; attitude = turn i; stage = stage_is i }

pub mask_after : (job : JobData) (key : Key) (action : Action) → (key_after job key action).mask ≡ union key.mask (group_of job key.mask action.bend)
unfolding key_after
mask_after job key action = refl

-- a legal step from a reached key
pub node_after : (job : JobData) (key : Key) (action : Action) (gauge : Gauge) → IsNode job key → IsLegal job key (record { action = action; gauge = gauge }) → (IsFull job (key_after job key action) → ⊥) → IsNode job (key_after job key action)
node_after job key action gauge node legal more =
    record {
      reached = (record { action = action; gauge = gauge } ∷ node.reached.0, (key, node.reached.1, legal, refl));
      not_full = more;
    }

-- a worth that is attained is no more than a plan can cost
pub small_worth : (job : JobData) → IsJob job → (key : Key) → IsKeyOf job key → (worth : Worth) → IsAttained job key worth → IsAtMost worth (Cost 1000000000) ⊎ (worth ≡ Blocked)
small_worth job is_job key is_key (Cost n) attained =
    let most = total_small job is_job key attained.0 is_key attained.1 in
    let few = few_left job is_job key in
    inl (omega (arith, attained.2, most, few))
small_worth job is_job key is_key Blocked attained = inr refl

pub cost_most : (cost : ℕ) → IsAtMost (Cost cost) (Cost 1000000000) ⊎ (Cost cost ≡ Blocked) → cost ≤ 1000000000
cost_most cost (inl small) = small
cost_most cost (inr blocked) = absurd cc
