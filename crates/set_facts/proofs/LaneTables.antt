-- What stands in the parts of the table of all sets.
use Rattle.std.proofs.Common.{◌≡◌, inl, inr, ℕ, ◌+◌, ◌*◌, ◌^◌, ◌==◌, ◌<◌, ◌≤◌, true, false, nat_lt, cond, List, length, set, get_or, arith, refl, sym, ◌∙◌, ap, subst, length-set}
use Rattle.std.proofs.lemmas.Bool.{cases_lt, lt-ltb, le-ltb, ne_eqb, eqb-true, eqb-false}
use Rattle.std.proofs.lemmas.Bool.Decides.{eqb_tells}
use Rattle.std.proofs.lemmas.List.{get_or-set_same, get_or-set_other}
use Rattle.std.proofs.lemmas.List.Edits.{fill_by_more}
use Rattle.stage_lanes.specs.declared.costs.StageCosts.{StageCosts}
use Rattle.stage_lanes.specs.Lanes.{AreLanes}
use Rattle.brake_base.specs.declared.mask.Mask.{Mask}
use Rattle.machine_file.specs.declared.machine.Costs.{Costs}
use Rattle.job_setup.specs.Setup.{JobData, bend_count, stage_count}
use Rattle.job_setup.specs.ValidJob.{IsJob}
use Rattle.handling_cost.specs.StepCost.{change, change_cost, distance, stage_cost}
use Rattle.handling_cost.specs.Bound.{bound_of}
use Rattle.handling_cost.proofs.Small.{no_way, some_way, stage_cost_small, bound_small}
use Rattle.set_facts.specs.declared.set_lanes.SetLanes.{SetLanes}
use Rattle.set_facts.specs.LaneFacts.{key_at, within_stages, HasBounds, HasWays, IsSetLanes, AreFilled, AreChanges, AreWays}

-- a list is filled place by place
pub set_more : {X : Type 0} (f : ℕ → X) (xs : List X) (at : ℕ) (v d : X) → at < length xs → v ≡ f at → ((k : ℕ) → k < at → get_or xs k d ≡ f k) → (k : ℕ) → k < at + 1 → get_or (set xs at v) k d ≡ f k
set_more f xs at v d inside is below k low = ap (λ x. get_or (set xs at x) k d) is ∙ fill_by_more f xs at d inside below k low

-- ---- the sets
same_mask : (a b : Mask) → a.0 ≡ b.0 → a ≡ b
same_mask a b same = λ i. record { 0 = same i }

-- nothing is asked of a table where no set is left
pub filled_none : (job : JobData) (from : ℕ) (sets : List SetLanes) → from ≡ 2 ^ bend_count job → length sets ≡ 2 ^ bend_count job → AreFilled job from sets
filled_none job from sets all places = record { places = places; each = λ mask d low high. absurd (omega (arith, all, low, high)) }

-- what is found for a set is put at its place, before those of the greater sets
pub filled_more : (job : JobData) (left : ℕ) (sets : List SetLanes) (found : SetLanes) → left < 2 ^ bend_count job → IsSetLanes job (record { 0 = left }) found → AreFilled job (left + 1) sets → AreFilled job left (set sets left found)
filled_more job left sets found within is filled =
    record {
      places = length-set sets left found ∙ filled.places;
      each = λ mask d low high. elim (eqb_tells mask.0 left) [
        | inl here ↦
            let inside : left < length sets = rw filled.places within in
            let read : found ≡ get_or (set sets left found) mask.0 d = sym (ap (λ (n : ℕ). get_or (set sets left found) n d) here.1 ∙ get_or-set_same sets left found d inside) in
            subst (λ (s : SetLanes). IsSetLanes job mask s) read (subst (λ (m : Mask). IsSetLanes job m found) (same_mask (record { 0 = left }) mask (sym here.1)) is)
        | inr there ↦
            subst (λ (s : SetLanes). IsSetLanes job mask s) (sym (get_or-set_other sets left mask.0 found d there.1))
            (filled.each mask d (let no = there.1 in omega (arith, low, no)) high)
      ];
    }

-- what stands at a set's place, of the job as callers see it
pub set_at : (job now : JobData) (sets : List SetLanes) (place : ℕ) (mask : Mask) (set : SetLanes) → job ≡ now → AreFilled job 0 sets → mask.0 < 2 ^ bend_count now → place ≡ mask.0 → set ≡ get_or sets place set
    → IsSetLanes now mask set
set_at job now sets place mask set same filled within at read =
    let inside : mask.0 < 2 ^ bend_count job = subst (λ (j : JobData). mask.0 < 2 ^ bend_count j) (sym same) within in
    let here : set ≡ get_or sets mask.0 set = read ∙ ap (λ (n : ℕ). get_or sets n set) at in
    subst (λ (j : JobData). IsSetLanes j mask set) same (subst (λ (s : SetLanes). IsSetLanes job mask s) (sym here) (filled.each mask set (omega arith) inside))

-- ---- the changes
abbrev pub HasChanges : Costs → ℕ → List ℕ → Type 0
HasChanges costs from row = (to d : ℕ) → to < 24 → get_or row to d ≡ change_cost costs (change from to)

pub record HasChangesBelow (costs : Costs) (from : ℕ) (changes : List (List ℕ)) : Type 0 where
  pub rows : length changes ≡ 24
  pub each : (row : ℕ) (ds : List ℕ) → row < from → HasChanges costs row (get_or changes row ds)

-- one row more
pub changes_more : (costs : Costs) (from : ℕ) (changes : List (List ℕ)) (row : List ℕ) → from < 24 → HasChanges costs from row → HasChangesBelow costs from changes → HasChangesBelow costs (from + 1) (set changes from row)
changes_more costs from changes row within is below =
    record {
      rows = length-set changes from row ∙ below.rows;
      each = λ other ds low. elim (eqb_tells other from) [
        | inl here ↦
            let inside : from < length changes = rw below.rows within in
            let read : row ≡ get_or (set changes from row) other ds = sym (ap (λ (n : ℕ). get_or (set changes from row) n ds) here.1 ∙ get_or-set_same changes from row ds inside) in
            subst (λ (xs : List ℕ). HasChanges costs other xs) read (subst (λ (n : ℕ). HasChanges costs n row) (sym here.1) is)
        | inr there ↦
            subst (λ (xs : List ℕ). HasChanges costs other xs) (sym (get_or-set_other changes from other row ds there.1))
            (below.each other ds (let no = there.1 in omega (arith, low, no)))
      ];
    }

pub changes_all : (costs : Costs) (from : ℕ) (changes : List (List ℕ)) → 24 ≤ from → HasChangesBelow costs from changes → AreChanges costs changes
changes_all costs from changes all below = record { rows = below.rows; each = λ row to d ds low high. below.each row ds (omega (arith, all, low)) to d high }

-- what stands at two attitudes, of the job as callers see it
pub change_at : (job now : JobData) (changes : List (List ℕ)) (row : List ℕ) (from to place other : ℕ) → job ≡ now → AreChanges job.setup.cost changes → from < 24 → to < 24 → place ≡ from → other ≡ to → row ≡ get_or changes place row
    → get_or row other 0 ≡ change_cost now.setup.cost (change from to)
change_at job now changes row from to place other same are low high here there read =
    ap (λ (n : ℕ). get_or row n 0) there ∙ ap (λ (xs : List ℕ). get_or xs to 0) (read ∙ ap (λ (n : ℕ). get_or changes n row) here)
    ∙ (are.each from to 0 row low high ∙ ap (λ (j : JobData). change_cost j.setup.cost (change from to)) same)

-- ---- the ways
-- the ways from a stage, at so much for each stage that lies between
abbrev pub HasWaysAt : JobData → ℕ → ℕ → List ℕ → Type 0
HasWaysAt job cost from lanes = AreLanes lanes (within_stages job (λ to. cost * distance from to))

pub record HasWaysBelow (job : JobData) (from : ℕ) (ways : List StageCosts) : Type 0 where
  pub rows : length ways ≡ 7
  pub each : (row : ℕ) (d : StageCosts) → row < from → HasWaysAt job job.setup.cost.stage row (get_or ways row d).0

pub ways_more : (job : JobData) (from : ℕ) (ways : List StageCosts) (row : StageCosts) → from < 7 → HasWaysAt job job.setup.cost.stage from row.0 → HasWaysBelow job from ways → HasWaysBelow job (from + 1) (set ways from row)
ways_more job from ways row within is below =
    record {
      rows = length-set ways from row ∙ below.rows;
      each = λ other d low. elim (eqb_tells other from) [
        | inl here ↦
            let inside : from < length ways = rw below.rows within in
            let read : row ≡ get_or (set ways from row) other d = sym (ap (λ (n : ℕ). get_or (set ways from row) n d) here.1 ∙ get_or-set_same ways from row d inside) in
            subst (λ (costs : StageCosts). HasWaysAt job job.setup.cost.stage other costs.0) read (subst (λ (n : ℕ). HasWaysAt job job.setup.cost.stage n row.0) (sym here.1) is)
        | inr there ↦
            subst (λ (costs : StageCosts). HasWaysAt job job.setup.cost.stage other costs.0) (sym (get_or-set_other ways from other row d there.1))
            (below.each other d (let no = there.1 in omega (arith, low, no)))
      ];
    }

-- what is found at each stage, and past the last of them the cost from which there is no way on
pub lanes_by_stage : (job : JobData) (cost : ℕ → ℕ) (lanes : List ℕ) (stages : ℕ) → stages ≡ stage_count job → ((stage d : ℕ) → stage < stages → get_or lanes stage d ≡ cost stage)
    → ((stage d : ℕ) → stages ≤ stage → stage < 8 → get_or lanes stage d ≡ 536870912) → AreLanes lanes (within_stages job cost)
lanes_by_stage job cost lanes stages all each past stage below = elim (cases_lt stage (stage_count job)) [
  | inl low ↦ each stage 0 (omega (arith, low, all)) ∙ rw (lt-ltb stage (stage_count job) low) refl
  | inr high ↦ past stage 0 (omega (arith, high, all)) below ∙ rw (le-ltb stage (stage_count job) high) refl
]

-- costs that are equal at each stage have the same lanes
lanes_alike : (job : JobData) (f g : ℕ → ℕ) (lanes : List ℕ) → ((stage : ℕ) → f stage ≡ g stage) → AreLanes lanes (within_stages job f) → AreLanes lanes (within_stages job g)
lanes_alike job f g lanes same are stage below = are stage below ∙ (λ i. cond (nat_lt stage (stage_count job)) (same stage i) 536870912)

-- the rows of the stages, and behind them that of the start
pub ways_all : (job : JobData) (from : ℕ) (ways : List StageCosts) (start : StageCosts) → from ≤ 6 → stage_count job ≤ from → HasWaysAt job 0 0 start.0 → HasWaysBelow job from ways → AreWays job (set ways 6 start)
ways_all job from ways start few all is below =
    record {
      rows = length-set ways 6 start ∙ below.rows;
      paid = λ mask stage d some low.
          let other : stage ≡ 6 → ⊥ = λ same. omega (arith, few, all, low, same) in
          let row : HasWaysAt job job.setup.cost.stage stage (get_or (set ways 6 start) stage d).0 =
          subst (λ (costs : StageCosts). HasWaysAt job job.setup.cost.stage stage costs.0) (sym (get_or-set_other ways 6 stage start d other)) (below.each stage d (omega (arith, all, low))) in
          let nonempty : (mask.0 == 0) ≡ false = ne_eqb mask.0 0 (λ none. omega (arith, some, none)) in
          lanes_alike job (λ to. job.setup.cost.stage * distance stage to) (λ to. stage_cost job mask stage to) (get_or (set ways 6 start) stage d).0
          (λ to. sym (some_way job mask stage to nonempty)) row;
      start = λ stage d.
          let inside : 6 < length ways = rw below.rows (omega arith) in
          let row : HasWaysAt job 0 0 (get_or (set ways 6 start) 6 d).0 = subst (λ (costs : StageCosts). HasWaysAt job 0 0 costs.0) (sym (get_or-set_same ways 6 start d inside)) is in
          lanes_alike job (λ to. 0 * distance 0 to) (λ to. stage_cost job (record { 0 = 0 }) stage to) (get_or (set ways 6 start) 6 d).0
          (λ to. let none : 0 * distance 0 to ≡ 0 = omega arith in none ∙ no_way job (record { 0 = 0 }) stage to refl) row;
    }

-- the ways where no bend is folded, and where one is, of the job as callers see it
pub ways_of_none : (job now : JobData) (mask : Mask) (from : ℕ) (lanes : List ℕ) → job ≡ now → (mask.0 == 0) ≡ true → HasWays job (record { 0 = 0 }) from lanes → HasWays now mask from lanes
ways_of_none job now mask from lanes same none are =
    subst (λ (j : JobData). HasWays j mask from lanes) same (subst (λ (m : Mask). HasWays job m from lanes) (same_mask (record { 0 = 0 }) mask (sym (eqb-true mask.0 0 none))) are)

pub ways_of_some : (job now : JobData) (mask : Mask) (from : ℕ) (ways : List StageCosts) (d : StageCosts) → job ≡ now → (mask.0 == 0) ≡ false → from < stage_count now → AreWays job ways → HasWays now mask from (get_or ways from d).0
ways_of_some job now mask from ways d same some within are =
    subst (λ (j : JobData). HasWays j mask from (get_or ways from d).0) same
    (are.paid mask from d (let no = eqb-false mask.0 0 some in omega (arith, no)) (subst (λ (j : JobData). from < stage_count j) (sym same) within))

-- ---- how large they are
small_within : (job : JobData) (cost : ℕ → ℕ) (stage : ℕ) → (stage < stage_count job → cost stage ≤ 536870912) → within_stages job cost stage ≤ 536870912
small_within job cost stage small = elim (cases_lt stage (stage_count job)) [
  | inl low ↦ rw (lt-ltb stage (stage_count job) low) (small low)
  | inr high ↦ rw (le-ltb stage (stage_count job) high) (omega arith)
]

pub bounds_small : (job : JobData) → IsJob job → (mask : Mask) (lanes : List ℕ) → mask.0 < 2 ^ bend_count job → HasBounds job mask lanes → (stage : ℕ) → stage < 8 → get_or lanes stage 0 ≤ 536870912
bounds_small job is_job mask lanes within are stage below =
    let bound = λ (s : ℕ). bound_of job (key_at mask s) in
    rw (are stage below)
    (small_within job bound stage (λ low. let small = bound_small job is_job (key_at mask stage) (record { mask = within; attitude = omega arith; stage = low }) in omega (arith, small)))

pub ways_small : (job : JobData) → IsJob job → (mask : Mask) (from : ℕ) (lanes : List ℕ) → from < stage_count job → HasWays job mask from lanes → (to : ℕ) → to < 8 → get_or lanes to 0 ≤ 536870912
ways_small job is_job mask from lanes within are to below =
    rw (are to below)
    (small_within job (λ (s : ℕ). stage_cost job mask from s) to
    (λ low. let small = stage_cost_small job is_job mask from to (omega (arith, within, is_job.setup.stages.few_stages)) (omega (arith, low, is_job.setup.stages.few_stages)) in omega (arith, small)))
