-- The least code of the reasons that hold is that of the first reason.
use Rattle.std.proofs.Common.{◌≡◌, ◌⊎◌, inl, inr, ℕ, ◌+◌, ◌<◌, ◌≤◌, min, List, [], ◌∷◌, length, slice_index, Option, Some, None, refl, sym, ap, subst, arith}
use Rattle.std.specs.Prelude.{IfSome, slice_set}
use Rattle.std.proofs.lemmas.List.{get_or-set_same, get_or-set_other}
use Rattle.std.proofs.lemmas.Bool.{cases_lt}
use Rattle.brake_base.specs.declared.mask.Mask.{Mask}
use Rattle.brake_base.specs.declared.stroke.Back.{Back}
use Rattle.brake_base.specs.declared.stroke.Gauge.{Gauge}
use Rattle.brake_base.specs.declared.reason.Reason.{Reason}
use Rattle.brake_base.specs.declared.reason.Reason.TheVariants.{Cover, Rest, Frame, Upper, Nose, Lower, SelfHit, NoGauge, Load}
use Rattle.brake_base.specs.Order.{IsBefore}
use Rattle.brake_base.specs.Reasons.{reason_place, ReasonIsBefore}
use Rattle.fold_boxes.specs.Pose.{PoseData}
use Rattle.job_setup.specs.Setup.{JobData, stage_count}
use Rattle.job_setup.specs.StrokeGroup.{group_of}
use Rattle.job_setup.specs.ValidJob.{IsJob}
use Rattle.job_setup.specs.Reasons.{pose_at, IsReason}
use Rattle.gauge_rules.specs.Pairs.{IsFirstLegal}
use Rattle.sweep_check.specs.FirstReasons.{kind_place, IsFirstAmong}
use Rattle.sweep_check.proofs.Orders.{kinds_in_order}
use Rattle.box_support.proofs.ReasonNumbers.{few_numbers}
use Rattle.stage_lanes.specs.Codes.{code_of, IsCoded, IsCode}
use Rattle.stage_lanes.specs.Lanes.{AreLanes}
use Rattle.stage_lanes.proofs.CodeLemmas.{order_is, code_below, unique_is}
use Rattle.stroke_table.specs.declared.keys.GroupKey.{GroupKey}
use Rattle.stroke_table.specs.Strokes.{IsFirstAt, reason_at}
use Rattle.stroke_table.specs.Codes.{code_for, IsToldBy, IsFirstCode, AreCodesOf, IsLeastCode, AreLeastCodes, IsAmong, HoldsAmong, IsFreeSomewhere, gauge_reason}
use Rattle.stroke_table.proofs.LeastCodes.{either_codes, later_codes}

-- ---- reasons and their kinds
kinds_range : (reason : Reason) → (1 ≤ kind_place reason) × (kind_place reason ≤ 9)
kinds_range Cover = (omega arith, omega arith)
kinds_range (Rest half) = (omega arith, omega arith)
kinds_range (Frame box) = (omega arith, omega arith)
kinds_range (Upper box quarter index) = (omega arith, omega arith)
kinds_range (Nose box quarter stage) = (omega arith, omega arith)
kinds_range (Lower box quarter index) = (omega arith, omega arith)
kinds_range (SelfHit box quarter other) = (omega arith, omega arith)
kinds_range Load = (omega arith, omega arith)
kinds_range NoGauge = (omega arith, omega arith)

-- a reason of an earlier kind stands before one of a later kind
earlier_kind : (a b : Reason) → IsCoded a → IsCoded b → kind_place a < kind_place b → ReasonIsBefore a b
earlier_kind a b one other less = elim (cases_lt (code_of a) (code_of b)) [
  | inl before ↦ (order_is a b one other).1 before
  | inr rest ↦ elim (cases_lt (code_of b) (code_of a)) [
    | inl after ↦ let never = kinds_in_order b a ((order_is b a other one).1 after) in absurd (omega (arith, never, less))
    | inr same ↦ let kinds = ap kind_place (unique_is b a other one (omega (arith, rest, same))) in absurd (omega (arith, kinds, less))
  ]
]

-- ---- from the first reason to the least code
not_below : (a b : ℕ) → (b < a → ⊥) → a ≤ b
not_below a b never = elim (cases_lt b a) [ inl less ↦ absurd (never less) | inr rest ↦ rest ]

pub least_of_first : (job : JobData) (pose : PoseData) (back : Back) (stage from to : ℕ) (found : Option Reason) → ((reason : Reason) → IsAmong job pose back stage from to reason → IsCoded reason) → IsFirstAmong job pose back stage from to found
    → IsLeastCode (IsAmong job pose back stage from to) (code_for found)
least_of_first job pose back stage from to None coded none = record { least = λ reason holds. absurd (none reason holds.0 holds.1 holds.2); one = inl refl }
least_of_first job pose back stage from to (Some first) coded is =
    let own : IsAmong job pose back stage from to first = (is.low, is.high, is.holds) in
    record {
      least = λ reason holds. (coded reason holds, not_below (code_of first) (code_of reason) (λ less. is.first reason holds.0 holds.2 ((order_is reason first (coded reason holds) (coded first own)).1 less)));
      one = inr (first, own, refl);
    }

pub found_coded : (job : JobData) (pose : PoseData) (back : Back) (stage from to : ℕ) (found : Option Reason) → ((reason : Reason) → IsAmong job pose back stage from to reason → IsCoded reason) → IsFirstAmong job pose back stage from to found → IfSome found (λ one. IsCoded one)
found_coded job pose back stage from to None coded none = tt
found_coded job pose back stage from to (Some first) coded is = coded first (is.low, is.high, is.holds)

module _ (job : JobData) (fit : IsJob job) (mask : Mask) (key : GroupKey) where
  pub coded : (from to stage : ℕ) (reason : Reason) → HoldsAmong job mask key from to stage reason → IsCoded reason
  coded from to stage reason holds = let few = few_numbers job fit mask key.group key.back stage reason holds.2 in record { body = few.first; index = few.last }

  -- the codes of some kinds, and of those that follow
  pub joined_codes : (from middle to n : ℕ) (xs ys zs : List ℕ) → n ≤ 8 → from ≤ middle + 1 → middle ≤ to → AreLeastCodes n (HoldsAmong job mask key from middle) xs → AreLeastCodes n (HoldsAmong job mask key (middle + 1) to) ys
      → AreLanes zs (λ stage. min (slice_index xs stage) (slice_index ys stage)) → AreLeastCodes n (HoldsAmong job mask key from to) zs
  joined_codes from middle to n xs ys zs few low high first rest lanes =
      either_codes n (HoldsAmong job mask key from middle) (HoldsAmong job mask key (middle + 1) to) (HoldsAmong job mask key from to) xs ys zs few first rest
      (λ stage reason within holds. elim (cases_lt middle (kind_place reason)) [
        | inl after ↦ inr (omega (arith, after), holds.1, holds.2)
        | inr before ↦ inl (holds.0, before, holds.2)
      ])
      (λ stage reason within holds. let end = holds.1 in (holds.0, omega (arith, end, high), holds.2))
      (λ stage reason within holds. let start = holds.0 in (omega (arith, start, low), holds.1, holds.2)) lanes

  -- where a reason of these kinds stands at each stage, the kinds that follow change nothing
  pub codes_settled : (from middle to n : ℕ) (codes : List ℕ) → middle ≤ to → AreLeastCodes n (HoldsAmong job mask key from middle) codes → (IsFreeSomewhere codes n → ⊥) → AreLeastCodes n (HoldsAmong job mask key from to) codes
  codes_settled from middle to n codes high are busy =
      later_codes n (HoldsAmong job mask key from middle) (HoldsAmong job mask key from to) codes are busy
      (λ stage reason within holds. let end = holds.1 in (holds.0, omega (arith, end, high), holds.2))
      (λ stage reason within holds. coded from to stage reason holds)
      (λ stage reason first within holds here. elim (cases_lt middle (kind_place reason)) [
        | inl after ↦ let end = here.1 in inr (earlier_kind first reason (coded from middle stage first here) (coded from to stage reason holds) (omega (arith, end, after)))
        | inr before ↦ inl (holds.0, before, holds.2)
      ])

  -- the first reason, from the least code of all
  first_code : (stage code : ℕ) → IsLeastCode (HoldsAmong job mask key 1 9 stage) code → IsFirstCode job mask key.group key.back stage code
  first_code stage code is = by_one is.one
    where
      all : (reason : Reason) → IsReason job mask key.group key.back stage reason → HoldsAmong job mask key 1 9 stage reason
      all reason holds = let range = kinds_range reason in (range.0, range.1, holds)

      by_one : (code ≡ 65535) ⊎ ((reason : Reason) × HoldsAmong job mask key 1 9 stage reason × (code_of reason ≡ code)) → IsFirstCode job mask key.group key.back stage code
      by_one (inl free) = inl (free, λ reason holds. let own = is.least reason (all reason holds) in let low = own.1 in let below = code_below reason own.0 in omega (arith, free, low, below))
      by_one (inr some) = inr (
        some.0,
        (is.least some.0 some.1).0,
        some.2,
        record {
          holds = some.1.2;
          first = λ other there before.
              let own = is.least other (all other there) in
              let low = own.1 in
              let same = some.2 in
              let less = (order_is other some.0 own.0 (is.least some.0 some.1).0).0 before in
              omega (arith, less, low, same);
        },
      )

  pub all_codes : (lead : ℕ) (codes : List ℕ) → key.group ≡ group_of job mask lead → AreLeastCodes (stage_count job) (HoldsAmong job mask key 1 9) codes → AreCodesOf job mask lead key.back codes
  all_codes lead codes same are = record {
    each = λ stage within. subst (λ (g : Mask). IsFirstCode job mask g key.back stage (slice_index codes stage)) same (first_code stage (slice_index codes stage) (are.each stage within));
    past = are.past;
  }

-- ---- from codes to reasons
pub is_code : (job : JobData) (mask group : Mask) (back : Back) (stage code : ℕ) → IsFirstCode job mask group back stage code → IsCode code
is_code job mask group back stage code (inl free) = inl free.0
is_code job mask group back stage code (inr some) = inr (some.0, some.1, some.2)

pub first_told : (job : JobData) (mask group : Mask) (back : Back) (stage code : ℕ) (found : Option Reason) → IsFirstCode job mask group back stage code → IsToldBy code found → IsFirstAt job mask group back stage found
first_told job mask group back stage code found (inl free) told = subst (IsFirstAt job mask group back stage) (sym (told.none free.0)) free.1
first_told job mask group back stage code found (inr some) told = subst (IsFirstAt job mask group back stage) (sym (told.some some.0 some.1 some.2)) some.3

-- one stage more
pub told_more : (codes : List ℕ) (reasons : List (Option Reason)) (n : ℕ) (found : Option Reason) → n < length reasons → ((stage : ℕ) → stage < n → IsToldBy (slice_index codes stage) (reason_at reasons stage)) → IsToldBy (slice_index codes n) found
    → (stage : ℕ) → stage < n + 1 → IsToldBy (slice_index codes stage) (reason_at (slice_set reasons n found) stage)
told_more codes reasons n found within before one stage below = elim (cases_lt stage n) [
  | inl earlier ↦ subst (IsToldBy (slice_index codes stage)) (sym (get_or-set_other reasons n stage found None (λ e. omega (arith, e, earlier)))) (before stage earlier)
  | inr rest ↦
      let same : n ≡ stage = omega (arith, rest, below) in
      subst (λ (k : ℕ). IsToldBy (slice_index codes k) (reason_at (slice_set reasons n found) k)) same (subst (IsToldBy (slice_index codes n)) (sym (get_or-set_same reasons n found None within)) one)
]

-- ---- the gauge
only_gauge : (reason : Reason) → 9 ≤ kind_place reason → reason ≡ NoGauge
only_gauge Cover low = absurd (omega (arith, low))
only_gauge (Rest half) low = absurd (omega (arith, low))
only_gauge (Frame box) low = absurd (omega (arith, low))
only_gauge (Upper box quarter index) low = absurd (omega (arith, low))
only_gauge (Nose box quarter stage) low = absurd (omega (arith, low))
only_gauge (Lower box quarter index) low = absurd (omega (arith, low))
only_gauge (SelfHit box quarter other) low = absurd (omega (arith, low))
only_gauge NoGauge low = refl
only_gauge Load low = absurd (omega (arith, low))

never_itself : (xs : List ℕ) → IsBefore xs xs → ⊥
never_itself [] before = before
never_itself (x ∷ xs) before = elim before [ inl less ↦ omega (arith, less) | inr rest ↦ never_itself xs rest.1 ]

pub gauge_first : (job : JobData) (mask group : Mask) (back : Back) (stage : ℕ) (gauge : Option Gauge) → IsFirstLegal job (pose_at job mask group back stage) gauge → IsFirstAmong job (pose_at job mask group back stage) back stage 9 9 (gauge_reason gauge)
gauge_first job mask group back stage None lacks = record {
  low = omega arith;
  high = omega arith;
  holds = lacks;
  first = λ other low holds before. never_itself (reason_place NoGauge) (subst (λ (r : Reason). ReasonIsBefore r NoGauge) (only_gauge other low) before);
}
gauge_first job mask group back stage (Some gauge) legal = λ reason low high holds. (subst (λ (r : Reason). IsReason job mask group back stage r) (only_gauge reason low) holds) gauge legal.0
