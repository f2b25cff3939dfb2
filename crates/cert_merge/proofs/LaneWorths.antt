-- The least over the next keys of a set, from lanes.
use Rattle.std.proofs.Common.{◌≡◌, inl, inr, ℕ, ◌+◌, ◌*◌, ◌<◌, ◌≤◌, ◌==◌, Bool, true, false, List, [], length, set, get_or, replicate, Option, Some, None, refl, sym, ◌∙◌, ap, subst, arith}
use Rattle.std.specs.Prelude.{◌⊎◌, min, slice_index, if◌then◌else◌}
use Rattle.std.proofs.lemmas.Bool.{cases_lt, lt-ltb, le-ltb}
use Rattle.std.proofs.lemmas.Bool.Decides.{eqb_tells}
use Rattle.std.proofs.lemmas.Int.{clamps}
use Rattle.std.proofs.lemmas.List.{get_or-set_same, get_or-set_other, get_or-replicate, length-replicate, length-set}
use Rattle.std.proofs.lemmas.Option.{same_Some, none-some}
use Rattle.brake_base.specs.declared.stroke.Key.{Key}
use Rattle.brake_base.specs.declared.stroke.Worth.{Worth}
use Rattle.brake_base.specs.declared.stroke.Worth.TheVariants.{Cost, Blocked}
use Rattle.brake_base.specs.Worths.{IsAtMost, plus}
use Rattle.stage_lanes.specs.declared.costs.StageCosts.{StageCosts}
use Rattle.stage_lanes.specs.Lanes.{AreLanes, IsLeastLane}
use Rattle.job_setup.specs.Setup.{JobData, bend_count, stage_count}
use Rattle.job_setup.specs.ValidJob.{IsJob}
use Rattle.handling_cost.specs.StepCost.{stage_cost, cost_to}
use Rattle.handling_cost.proofs.Small.{cost_to_small}
use Rattle.set_facts.specs.LaneFacts.{HasWays}
use Rattle.cert_lines.specs.Lines.{IsWorth}
use Rattle.cert_merge.specs.declared.settled_sets.NextKey.{NextKey}
use Rattle.cert_merge.specs.Settled.{IsLeastWorth}
use Rattle.cert_merge.specs.Settling.{AreReady, IsAfterOne, IsLeastAfter}
use Rattle.cert_merge.specs.SetWorths.{number_of, worth_of, IsFloor, IsLeastSum, lane_at, lanes_of, AreLaneRows, IsProvedAt, AreProved, cost_of_change, AreChangedFrom, AreChanged, IsSettledByLanes}
use Rattle.cert_merge.proofs.Floors.{floor_moved, floor_none, floor_lower, floor_over}

-- ---- what is proved, next key by next key
module _ (nexts : List (Option NextKey)) where
  -- the same of the first so many numbers of actions
  pub record IsProvedBelow (count attitude stage number : ℕ) : Type 0 where
    pub less : ℕ
    pub next : NextKey
    pub before : less < count
    pub at : get_or nexts less None ≡ Some next
    pub its_attitude : next.key.attitude ≡ attitude
    pub its_stage : next.key.stage ≡ stage
    pub is : number ≡ number_of next.proved

  abbrev pub AreProvedBelow : ℕ → List StageCosts → Type 0
  AreProvedBelow count proved = (attitude stage : ℕ) → attitude < 24 → stage < 8 → IsFloor (IsProvedBelow count attitude stage) (lane_at proved attitude stage)

  wider : (count attitude stage number : ℕ) → IsProvedBelow count attitude stage number → IsProvedBelow (count + 1) attitude stage number
  wider count attitude stage number one = let before = one.before in record { less = one.less; next = one.next; before = omega (arith, before); at = one.at; its_attitude = one.its_attitude; its_stage = one.its_stage; is = one.is }

  -- one of the first is one of those before the last, or it is the last
  before_last : (count attitude stage number : ℕ) (last : Option NextKey) → get_or nexts count None ≡ last → IsProvedBelow (count + 1) attitude stage number
      → IsProvedBelow count attitude stage number ⊎ ((next : NextKey) × (last ≡ Some next) × (next.key.attitude ≡ attitude) × (next.key.stage ≡ stage) × (number ≡ number_of next.proved))
  before_last count attitude stage number last here one = elim (eqb_tells one.less count) [
    | inl same ↦ inr (one.next, sym here ∙ (ap (λ (n : ℕ). get_or nexts n None) (sym same.1) ∙ one.at), one.its_attitude, one.its_stage, one.is)
    | inr other ↦
        let before = one.before in
        let no = other.1 in
        inl (record { less = one.less; next = one.next; before = omega (arith, before, no); at = one.at; its_attitude = one.its_attitude; its_stage = one.its_stage; is = one.is })
  ]

  -- no action leads anywhere at this number
  pub proved_same : (count : ℕ) (proved : List StageCosts) → get_or nexts count None ≡ None → AreProvedBelow count proved → AreProvedBelow (count + 1) proved
  proved_same count proved none so_far attitude stage turn low =
      floor_moved (IsProvedBelow count attitude stage) (IsProvedBelow (count + 1) attitude stage) (lane_at proved attitude stage) (wider count attitude stage)
      (λ n one. elim (before_last count attitude stage n None none one) [ inl old ↦ old | inr new ↦ absurd (none-some new.0 new.1) ])
      (so_far attitude stage turn low)

  -- the action of this number leads to a key
  pub proved_more : (count : ℕ) (next : NextKey) (proved after : List StageCosts) → get_or nexts count None ≡ Some next
      → lane_at after next.key.attitude next.key.stage ≡ min (lane_at proved next.key.attitude next.key.stage) (number_of next.proved)
      → ((attitude stage : ℕ) → stage < 8 → (attitude ≡ next.key.attitude → stage ≡ next.key.stage → ⊥) → lane_at after attitude stage ≡ lane_at proved attitude stage)
      → AreProvedBelow count proved → AreProvedBelow (count + 1) after
  proved_more count next proved after at here rest so_far attitude stage turn low = elim (eqb_tells attitude next.key.attitude) [
    | inl same ↦ elim (eqb_tells stage next.key.stage) [
      | inl too ↦
          subst (IsFloor (IsProvedBelow (count + 1) attitude stage)) (sym ((λ i. lane_at after (same.1 i) (too.1 i)) ∙ (here ∙ (λ i. min (lane_at proved (sym same.1 i) (sym too.1 i)) (number_of next.proved)))))
          (floor_lower (IsProvedBelow count attitude stage) (IsProvedBelow (count + 1) attitude stage) (lane_at proved attitude stage) (number_of next.proved) (wider count attitude stage)
          (record { less = count; next = next; before = omega arith; at = at; its_attitude = sym same.1; its_stage = sym too.1; is = refl })
          (λ n one. elim (before_last count attitude stage n (Some next) at one) [
            | inl old ↦ inl old
            | inr new ↦ inr (new.4 ∙ ap (λ (k : NextKey). number_of k.proved) (sym (same_Some next new.0 new.1)))
          ])
          (so_far attitude stage turn low))
      | inr apart ↦ other turn low (λ one two. apart.1 two)
    ]
    | inr apart ↦ other turn low (λ one two. apart.1 one)
  ]
    where
      other : attitude < 24 → stage < 8 → (attitude ≡ next.key.attitude → stage ≡ next.key.stage → ⊥) → IsFloor (IsProvedBelow (count + 1) attitude stage) (lane_at after attitude stage)
      other turn low differ =
          subst (IsFloor (IsProvedBelow (count + 1) attitude stage)) (sym (rest attitude stage low differ))
          (floor_moved (IsProvedBelow count attitude stage) (IsProvedBelow (count + 1) attitude stage) (lane_at proved attitude stage) (wider count attitude stage)
          (λ n one. elim (before_last count attitude stage n (Some next) at one) [
            | inl old ↦ old
            | inr new ↦
                let is : next ≡ new.0 = same_Some next new.0 new.1 in
                absurd (differ (sym (ap (λ (k : NextKey). k.key.attitude) is ∙ new.2)) (sym (ap (λ (k : NextKey). k.key.stage) is ∙ new.3)))
          ])
          (so_far attitude stage turn low))

  pub proved_none : (proved : List StageCosts) → ((attitude stage : ℕ) → attitude < 24 → stage < 8 → lane_at proved attitude stage ≡ 1500000000) → AreProvedBelow 0 proved
  proved_none proved all attitude stage turn low =
      let top = all attitude stage turn low in
      floor_none (IsProvedBelow 0 attitude stage) (lane_at proved attitude stage) (omega (arith, top)) (λ n one. let before = one.before in omega (arith, before))

  pub proved_all : (job : JobData) (count : ℕ) (proved : List StageCosts) → AreReady job nexts → 2 * bend_count job * stage_count job ≤ count → AreProvedBelow count proved → AreProved nexts proved
  proved_all job count proved ready all so_far attitude stage turn low =
      floor_moved (IsProvedBelow count attitude stage) (IsProvedAt nexts attitude stage) (lane_at proved attitude stage)
      (λ n one. record { action = one.less; next = one.next; at = one.at; its_attitude = one.its_attitude; its_stage = one.its_stage; is = one.is })
      (λ n one.
      let below = (ready one.action one.next one.at).0 in
      record { less = one.action; next = one.next; before = omega (arith, below, all); at = one.at; its_attitude = one.its_attitude; its_stage = one.its_stage; is = one.is })
      (so_far attitude stage turn low)

-- ---- with the change of attitude, and with the way
-- the change to one of the next keys at a stage, and then what is proved of it
record IsChangedAt (job : JobData) (nexts : List (Option NextKey)) (from stage number : ℕ) : Type 0 where
  action : ℕ
  next : NextKey
  at : get_or nexts action None ≡ Some next
  its_stage : next.key.stage ≡ stage
  is : number ≡ cost_of_change job from next.key.attitude + number_of next.proved

-- the step to one of the next keys, and then what is proved of it
record IsNumberAfter (job : JobData) (key : Key) (nexts : List (Option NextKey)) (number : ℕ) : Type 0 where
  action : ℕ
  next : NextKey
  at : get_or nexts action None ≡ Some next
  is : number ≡ cost_to job key next.key.attitude next.key.stage + number_of next.proved

module _ (job : JobData) (is_job : IsJob job) (key : Key) (nexts : List (Option NextKey)) (ready : AreReady job nexts) where
  changed_floor : (proved : List StageCosts) (lanes : List ℕ) → AreProved nexts proved → AreChangedFrom job proved key.attitude lanes → (stage : ℕ) → stage < 8 → IsFloor (IsChangedAt job nexts key.attitude stage) (slice_index lanes stage)
  changed_floor proved lanes are changed stage low =
      floor_over 24 (cost_of_change job key.attitude) (λ to. lane_at proved to stage) (λ to. IsProvedAt nexts to stage) (IsChangedAt job nexts key.attitude stage) (slice_index lanes stage) (changed stage low)
      (λ to turn. are to stage turn low)
      (λ to n turn one. record { action = one.action; next = one.next; at = one.at; its_stage = one.its_stage; is = λ i. cost_of_change job key.attitude (sym one.its_attitude i) + one.is i })
      (λ n one. (
        one.next.key.attitude,
        (ready one.action one.next one.at).1.attitude,
        number_of one.next.proved,
        record { action = one.action; next = one.next; at = one.at; its_attitude = refl; its_stage = one.its_stage; is = refl },
        one.is,
      ))

  way_is : (ways : List ℕ) → HasWays job key.mask key.stage ways → (stage : ℕ) → stage < 8 → stage < stage_count job → slice_index ways stage ≡ stage_cost job key.mask key.stage stage
  way_is ways are stage low below = are stage low ∙ ap (λ (b : Bool). if b then stage_cost job key.mask key.stage stage else 536870912) (lt-ltb stage (stage_count job) below)

  sums : (a b c d : ℕ) → a + b + (c + d) ≡ a + c + b + d
  sums a b c d = omega arith

  number_is : (next : NextKey) (stage way n : ℕ) → next.key.stage ≡ stage → way ≡ stage_cost job key.mask key.stage stage → n ≡ cost_of_change job key.attitude next.key.attitude + number_of next.proved
      → job.setup.cost.stroke + way + n ≡ cost_to job key next.key.attitude next.key.stage + number_of next.proved
  unfolding cost_to
  number_is next stage way n its_stage is_way is =
      (λ i. job.setup.cost.stroke + (is_way ∙ ap (stage_cost job key.mask key.stage) (sym its_stage)) i + is i)
      ∙ sums job.setup.cost.stroke (stage_cost job key.mask key.stage next.key.stage) (cost_of_change job key.attitude next.key.attitude) (number_of next.proved)

  number_floor : (ways lanes : List ℕ) (number : ℕ) → stage_count job ≤ 6 → HasWays job key.mask key.stage ways → ((stage : ℕ) → stage < 8 → IsFloor (IsChangedAt job nexts key.attitude stage) (slice_index lanes stage))
      → IsLeastSum 8 (λ to. job.setup.cost.stroke + slice_index ways to) (slice_index lanes) number → IsFloor (IsNumberAfter job key nexts) number
  number_floor ways lanes number few are each is =
      floor_over 8 (λ to. job.setup.cost.stroke + slice_index ways to) (slice_index lanes) (IsChangedAt job nexts key.attitude) (IsNumberAfter job key nexts) number is each
      (λ stage n low one.
      let its_stage = one.its_stage in
      let ranged = (ready one.action one.next one.at).1.stage in
      let below : stage < stage_count job = omega (arith, its_stage, ranged) in
      record { action = one.action; next = one.next; at = one.at; is = number_is one.next stage (slice_index ways stage) n one.its_stage (way_is ways are stage low below) one.is })
      (λ n one.
      let ranged = (ready one.action one.next one.at).1.stage in
      let stage = one.next.key.stage in
      let low : stage < 8 = omega (arith, ranged, few) in
      let own = cost_of_change job key.attitude one.next.key.attitude + number_of one.next.proved in (
        stage,
        low,
        own,
        record { action = one.action; next = one.next; at = one.at; its_stage = refl; is = refl },
        one.is ∙ sym (number_is one.next stage (slice_index ways stage) own refl (way_is ways are stage low ranged) refl),
      ))

  -- ---- from numbers to worths
  below_is : (number : ℕ) → number < 1200000000 → worth_of number ≡ Cost number
  below_is number less = ap (λ (b : Bool). if b then Cost number else Blocked) (lt-ltb number 1200000000 less)

  above_is : (number : ℕ) → 1200000000 ≤ number → worth_of number ≡ Blocked
  above_is number more = ap (λ (b : Bool). if b then Cost number else Blocked) (le-ltb number 1200000000 more)

  is_after : (number cost : ℕ) (proved : Worth) → number < 1200000000 → number ≡ cost + number_of proved → Cost number ≡ plus cost proved
  is_after number cost (Cost rest) less is = ap Cost is
  is_after number cost Blocked less is = absurd (omega (arith, less, is))

  most : (number cost : ℕ) (proved other : Worth) → cost ≤ 8000000 → IsWorth proved → number ≤ cost + number_of proved → other ≡ plus cost proved → IsAtMost (worth_of number) other
  most number cost Blocked other small worth low is = subst (IsAtMost (worth_of number)) (sym is) (at_top (worth_of number))
    where
      at_top : (w : Worth) → IsAtMost w Blocked
      at_top w = tt
  most number cost (Cost rest) other small worth low is =
      subst (IsAtMost (worth_of number)) (sym is) (subst (λ (w : Worth). IsAtMost w (Cost (cost + rest))) (sym (below_is number (omega (arith, small, worth, low)))) low)

  floor_worth : (number : ℕ) → stage_count job ≤ 6 → key.stage < stage_count job → IsFloor (IsNumberAfter job key nexts) number → IsLeastWorth (IsAfterOne job key nexts) (worth_of number)
  floor_worth number few ranged is = record {
    one = elim (cases_lt number 1200000000) [
      | inl less ↦ elim is.one [
        | inl never ↦ absurd (omega (arith, less, never))
        | inr one ↦ inr (one.action, one.next, one.at, below_is number less ∙ is_after number (cost_to job key one.next.key.attitude one.next.key.stage) one.next.proved less one.is)
      ]
      | inr more ↦ inl (above_is number more)
    ];
    least = λ other one.
        let next = one.1 in
        let good = (ready one.0 next one.2).1 in
        let its_stage = good.stage in
        most number (cost_to job key next.key.attitude next.key.stage) next.proved other
        (cost_to_small job is_job key next.key.attitude next.key.stage (omega (arith, ranged, few)) (omega (arith, its_stage, few))) good.proved
        (is.least (cost_to job key next.key.attitude next.key.stage + number_of next.proved) (record { action = one.0; next = next; at = one.2; is = refl })) one.3;
  }

  -- the worth that is found by lanes is the least
  pub settled_by_lanes : (proved changed : List StageCosts) (worth : Worth) → stage_count job ≤ 6 → key.stage < stage_count job → key.attitude < 24 → AreProved nexts proved → AreChanged job proved changed
      → IsSettledByLanes job key (lanes_of changed key.attitude) worth → IsLeastAfter job key nexts worth
  settled_by_lanes proved changed worth few ranged turn are are_changed found = record {
    least = worth_of found.number;
    is_least = floor_worth found.number few ranged (number_floor found.ways (lanes_of changed key.attitude) found.number few found.are_ways (changed_floor proved (lanes_of changed key.attitude) are (are_changed key.attitude turn)) found.is_least);
    is = found.is;
  }

-- ---- rows of lanes
pub lanes_here : (rows : List StageCosts) (at : ℕ) (lanes : StageCosts) → at < length rows → lanes_of (set rows at lanes) at ≡ lanes.0
lanes_here rows at lanes within = ap (λ (x : StageCosts). x.0) (get_or-set_same rows at lanes (record { 0 = [] }) within)

pub lanes_rest : (rows : List StageCosts) (at other : ℕ) (lanes : StageCosts) → (other ≡ at → ⊥) → lanes_of (set rows at lanes) other ≡ lanes_of rows other
lanes_rest rows at other lanes apart = ap (λ (x : StageCosts). x.0) (get_or-set_other rows at other lanes (record { 0 = [] }) apart)

pub all_never : (lanes : StageCosts) → AreLanes lanes.0 (λ stage. 1500000000) → (attitude stage : ℕ) → attitude < 24 → stage < 8 → lane_at (replicate 24 lanes) attitude stage ≡ 1500000000
all_never lanes are attitude stage turn low = ap (λ (x : StageCosts). slice_index x.0 stage) (get_or-replicate 24 attitude lanes (record { 0 = [] }) turn) ∙ are stage low

pub never_rows : (lanes : StageCosts) → AreLanes lanes.0 (λ stage. 1500000000) → AreLaneRows (replicate 24 lanes)
never_rows lanes are = record {
  count = length-replicate 24 lanes;
  small = λ attitude stage turn low. let top = all_never lanes are attitude stage turn low in omega (arith, top);
}

-- a lane is lowered
pub lowered_rows : (next : NextKey) (rows after : List StageCosts) → length after ≡ 24
    → lane_at after next.key.attitude next.key.stage ≡ min (lane_at rows next.key.attitude next.key.stage) (number_of next.proved)
    → ((attitude stage : ℕ) → stage < 8 → (attitude ≡ next.key.attitude → stage ≡ next.key.stage → ⊥) → lane_at after attitude stage ≡ lane_at rows attitude stage)
    → AreLaneRows rows → AreLaneRows after
lowered_rows next rows after count here rest are = record {
  count = count;
  small = λ attitude stage turn low. elim (eqb_tells attitude next.key.attitude) [
    | inl same ↦ elim (eqb_tells stage next.key.stage) [
      | inl too ↦
          let old = are.small attitude stage turn low in
          let moved : lane_at rows attitude stage ≡ lane_at rows next.key.attitude next.key.stage = λ i. lane_at rows (same.1 i) (too.1 i) in
          let new : lane_at after attitude stage ≡ lane_at after next.key.attitude next.key.stage = λ i. lane_at after (same.1 i) (too.1 i) in
          omega (arith, clamps, old, moved, new, here)
      | inr apart ↦ subst (λ (n : ℕ). n ≤ 1500000000) (sym (rest attitude stage low (λ one two. apart.1 two))) (are.small attitude stage turn low)
    ]
    | inr apart ↦ subst (λ (n : ℕ). n ≤ 1500000000) (sym (rest attitude stage low (λ one two. apart.1 one))) (are.small attitude stage turn low)
  ];
}

-- the row of an attitude is put
pub row_put : (rows : List StageCosts) (at : ℕ) (lanes : StageCosts) → at < 24 → ((stage : ℕ) → stage < 8 → slice_index lanes.0 stage ≤ 1500000000) → AreLaneRows rows → AreLaneRows (set rows at lanes)
row_put rows at lanes turn small are = record {
  count = length-set rows at lanes ∙ are.count;
  small = λ attitude stage in_turn low. elim (eqb_tells attitude at) [
    | inl same ↦
        let within : at < length rows = let count = are.count in omega (arith, turn, count) in
        subst (λ (n : ℕ). n ≤ 1500000000) (sym ((λ i. lane_at (set rows at lanes) (same.1 i) stage) ∙ ap (λ (xs : List ℕ). slice_index xs stage) (lanes_here rows at lanes within))) (small stage low)
    | inr apart ↦ subst (λ (n : ℕ). n ≤ 1500000000) (sym (ap (λ (xs : List ℕ). slice_index xs stage) (lanes_rest rows at attitude lanes apart.1))) (are.small attitude stage in_turn low)
  ];
}

pub changed_put : (job : JobData) (proved rows : List StageCosts) (at : ℕ) (lanes : StageCosts) → at < 24 → length rows ≡ 24 → AreChangedFrom job proved at lanes.0 → ((from : ℕ) → from < at → AreChangedFrom job proved from (lanes_of rows from))
    → (from : ℕ) → from < at + 1 → AreChangedFrom job proved from (lanes_of (set rows at lanes) from)
changed_put job proved rows at lanes turn count is so_far from less = elim (eqb_tells from at) [
  | inl same ↦
      subst (λ (n : ℕ). AreChangedFrom job proved n (lanes_of (set rows at lanes) n)) (sym same.1)
      (subst (AreChangedFrom job proved at) (sym (lanes_here rows at lanes (omega (arith, turn, count)))) is)
  | inr apart ↦ subst (AreChangedFrom job proved from) (sym (lanes_rest rows at from lanes apart.1)) (so_far from (let no = apart.1 in omega (arith, less, no)))
]

-- the least lane of sums, and the same cost before each
pub lane_sums : (cost : ℕ) (ways lanes sums : List ℕ) (least : ℕ) → AreLanes sums (λ stage. slice_index ways stage + slice_index lanes stage) → IsLeastLane sums least → IsLeastSum 8 (λ to. cost + slice_index ways to) (slice_index lanes) (cost + least)
lane_sums cost ways lanes sums least are is = record {
  one = inr (
    is.lane.0,
    is.lane.1,
    (let value = is.lane.2 in let sum = are is.lane.0 is.lane.1 in omega (arith, value, sum)),
  );
  least = λ k low. let value = is.least k low in let sum = are k low in omega (arith, value, sum);
}

-- ---- one lane of a row is set
module _ (rows : List StageCosts) (at attitude stage least : ℕ) (lanes : StageCosts) (count : length rows ≡ 24) (turn : attitude < 24) (here : at ≡ attitude) (with : AreLanes lanes.0 (λ s. if s == stage then least else slice_index (lanes_of rows at) s)) where
  own_lane : (s : ℕ) → s < 8 → lane_at (set rows at lanes) attitude s ≡ (if s == stage then least else lane_at rows attitude s)
  own_lane s low =
      (λ i. lane_at (set rows at lanes) (sym here i) s)
      ∙ (ap (λ (xs : List ℕ). slice_index xs s) (lanes_here rows at lanes (omega (arith, count, turn, here)))
      ∙ (with s low ∙ (λ i. if s == stage then least else lane_at rows (here i) s)))

  pub lane_lowered : (number : ℕ) → stage < 8 → least ≡ min (slice_index (lanes_of rows at) stage) number → lane_at (set rows at lanes) attitude stage ≡ min (lane_at rows attitude stage) number
  lane_lowered number low is =
      let test : (stage == stage) ≡ true = elim (eqb_tells stage stage) [ inl same ↦ same.0 | inr apart ↦ absurd (apart.1 refl) ] in
      own_lane stage low
      ∙ (ap (λ (b : Bool). if b then least else lane_at rows attitude stage) test
      ∙ (is ∙ (λ i. min (lane_at rows (here i) stage) number)))

  pub lane_left : (a s : ℕ) → s < 8 → (a ≡ attitude → s ≡ stage → ⊥) → lane_at (set rows at lanes) a s ≡ lane_at rows a s
  lane_left a s low apart = elim (eqb_tells a attitude) [
    | inl same ↦
        let test : (s == stage) ≡ false = elim (eqb_tells s stage) [ inl too ↦ absurd (apart same.1 too.1) | inr other ↦ other.0 ] in
        (λ i. lane_at (set rows at lanes) (same.1 i) s)
        ∙ (own_lane s low
        ∙ (ap (λ (b : Bool). if b then least else lane_at rows attitude s) test
        ∙ (λ i. lane_at rows (sym same.1 i) s)))
    | inr other ↦
        let same : lanes_of (set rows at lanes) a ≡ lanes_of rows a = lanes_rest rows at a lanes (λ e. other.1 (e ∙ here)) in
        ap (λ (xs : List ℕ). slice_index xs s) same
  ]
