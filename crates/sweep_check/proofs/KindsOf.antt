-- The kinds Upper, Nose, Lower and SelfHit, each as one of hits; and Frame.
use Rattle.std.proofs.Common.{◌≡◌, inl, inr, ℕ, ◌<◌, ◌≤◌, List, [], ◌∷◌, map, Some, None, refl, ap, subst, arith}
use Rattle.std.specs.Prelude.{Any}
use Rattle.std.specs.List.{enumerate_from}
use Rattle.brake_base.specs.declared.plane.Quarter.{Quarter}
use Rattle.brake_base.specs.declared.stroke.Back.{Back}
use Rattle.brake_base.specs.declared.reason.Reason.{Reason}
use Rattle.brake_base.specs.declared.reason.Reason.TheVariants.{Cover, Rest, Frame, Upper, Nose, Lower, SelfHit, NoGauge, Load}
use Rattle.brake_base.specs.Order.{IsBefore}
use Rattle.brake_base.specs.Reasons.{reason_place, ReasonIsBefore}
use Rattle.fold_boxes.specs.Pose.{PoseData}
use Rattle.sector_geom.specs.declared.sector.Sweep.TheVariants.{Eighth}
use Rattle.job_setup.specs.Setup.{JobData}
use Rattle.job_setup.specs.Obstacles.{upper_group, lower_group}
use Rattle.job_setup.specs.Reasons.{MeetsAlong, IsReasonOf}
use Rattle.sweep_check.specs.FirstReasons.{kind_place, IsFirstOf, IsFirstAmong}
use Rattle.sweep_check.specs.Pieces.{pieces_of, back_pieces, front_obstacles}
use Rattle.sweep_check.specs.Hits.{IsPieceMet, IsNoseMet, nose_of, SomeHit, IsLeastNumber}
use Rattle.sweep_check.proofs.Some.{all_any}
use Rattle.sweep_check.proofs.Orders.{IsHitKind, kinds_in_order, rests_in_order}
use Rattle.sweep_check.proofs.HitKinds.{hits_to, hits_from, noses_to, noses_from, self_to, self_from}

abbrev OfKind : (ℕ → Quarter → ℕ → Reason) → Reason → Type 0
OfKind make reason = (body : ℕ) × (quarter : Quarter) × (other : ℕ) × (reason ≡ make body quarter other)

only_upper : (reason : Reason) → kind_place reason ≡ 4 → OfKind Upper reason
only_upper (Upper body quarter index) e = (body, quarter, index, refl)
only_upper Cover e = absurd (omega (arith, e))
only_upper (Rest half) e = absurd (omega (arith, e))
only_upper (Frame box) e = absurd (omega (arith, e))
only_upper (Nose body quarter stage) e = absurd (omega (arith, e))
only_upper (Lower body quarter index) e = absurd (omega (arith, e))
only_upper (SelfHit body quarter other) e = absurd (omega (arith, e))
only_upper NoGauge e = absurd (omega (arith, e))
only_upper Load e = absurd (omega (arith, e))

only_nose : (reason : Reason) → kind_place reason ≡ 5 → OfKind Nose reason
only_nose (Nose body quarter stage) e = (body, quarter, stage, refl)
only_nose Cover e = absurd (omega (arith, e))
only_nose (Rest half) e = absurd (omega (arith, e))
only_nose (Frame box) e = absurd (omega (arith, e))
only_nose (Upper body quarter index) e = absurd (omega (arith, e))
only_nose (Lower body quarter index) e = absurd (omega (arith, e))
only_nose (SelfHit body quarter other) e = absurd (omega (arith, e))
only_nose NoGauge e = absurd (omega (arith, e))
only_nose Load e = absurd (omega (arith, e))

only_lower : (reason : Reason) → kind_place reason ≡ 6 → OfKind Lower reason
only_lower (Lower body quarter index) e = (body, quarter, index, refl)
only_lower Cover e = absurd (omega (arith, e))
only_lower (Rest half) e = absurd (omega (arith, e))
only_lower (Frame box) e = absurd (omega (arith, e))
only_lower (Upper body quarter index) e = absurd (omega (arith, e))
only_lower (Nose body quarter stage) e = absurd (omega (arith, e))
only_lower (SelfHit body quarter other) e = absurd (omega (arith, e))
only_lower NoGauge e = absurd (omega (arith, e))
only_lower Load e = absurd (omega (arith, e))

only_self : (reason : Reason) → kind_place reason ≡ 7 → OfKind SelfHit reason
only_self (SelfHit body quarter other) e = (body, quarter, other, refl)
only_self Cover e = absurd (omega (arith, e))
only_self (Rest half) e = absurd (omega (arith, e))
only_self (Frame box) e = absurd (omega (arith, e))
only_self (Upper body quarter index) e = absurd (omega (arith, e))
only_self (Nose body quarter stage) e = absurd (omega (arith, e))
only_self (Lower body quarter index) e = absurd (omega (arith, e))
only_self NoGauge e = absurd (omega (arith, e))
only_self Load e = absurd (omega (arith, e))

pub upper_kind : (job : JobData) (pose : PoseData) (back : Back) (stage : ℕ) → IsHitKind job pose back stage 4 Upper (SomeHit (λ o. o.index) IsPieceMet (pieces_of job Eighth pose.boxes) (upper_group job))
upper_kind job pose back stage = record {
  only = only_upper;
  kind = λ body quarter other. refl;
  place = λ body quarter other. refl;
  to = λ body quarter other holds. hits_to job pose (upper_group job) body quarter other holds;
  from = λ body quarter other some. hits_from job pose (upper_group job) body quarter other some;
}

pub nose_kind : (job : JobData) (pose : PoseData) (back : Back) (stage : ℕ) → IsHitKind job pose back stage 5 Nose (SomeHit (λ nose. nose.stage) IsNoseMet (pieces_of job Eighth pose.boxes) (map nose_of (enumerate_from 0 job.setup.stages)))
nose_kind job pose back stage = record {
  only = only_nose;
  kind = λ body quarter other. refl;
  place = λ body quarter other. refl;
  to = λ body quarter other holds. noses_to job pose body quarter other holds;
  from = λ body quarter other some. noses_from job pose body quarter other some;
}

pub lower_kind : (job : JobData) (pose : PoseData) (back : Back) (stage : ℕ) → IsHitKind job pose back stage 6 Lower (SomeHit (λ o. o.index) IsPieceMet (pieces_of job Eighth pose.boxes) (lower_group job stage))
lower_kind job pose back stage = record {
  only = only_lower;
  kind = λ body quarter other. refl;
  place = λ body quarter other. refl;
  to = λ body quarter other holds. hits_to job pose (lower_group job stage) body quarter other holds;
  from = λ body quarter other some. hits_from job pose (lower_group job stage) body quarter other some;
}

pub self_kind : (job : JobData) (pose : PoseData) (back : Back) (stage : ℕ) → IsHitKind job pose back stage 7 SelfHit (SomeHit (λ o. o.index) IsPieceMet (back_pieces job pose.boxes) (front_obstacles job pose.boxes))
self_kind job pose back stage = record {
  only = only_self;
  kind = λ body quarter other. refl;
  place = λ body quarter other. refl;
  to = λ body quarter other holds. self_to job pose body quarter other holds;
  from = λ body quarter other some. self_from job pose body quarter other some;
}

-- ---- Frame
only_frame : (reason : Reason) → kind_place reason ≡ 3 → (body : ℕ) × (reason ≡ Frame body)
only_frame (Frame body) e = (body, refl)
only_frame Cover e = absurd (omega (arith, e))
only_frame (Rest half) e = absurd (omega (arith, e))
only_frame (Upper body quarter index) e = absurd (omega (arith, e))
only_frame (Nose body quarter stage) e = absurd (omega (arith, e))
only_frame (Lower body quarter index) e = absurd (omega (arith, e))
only_frame (SelfHit body quarter other) e = absurd (omega (arith, e))
only_frame NoGauge e = absurd (omega (arith, e))
only_frame Load e = absurd (omega (arith, e))

pub no_frame : (job : JobData) (pose : PoseData) (back : Back) (stage : ℕ) → IsLeastNumber (λ body. body.id) (λ body. Any (MeetsAlong body) job.setup.frames) pose.boxes None → IsFirstAmong job pose back stage 3 3 None
no_frame job pose back stage none reason low high holds =
    let named = only_frame reason (omega (arith, low, high)) in
    all_any (λ body. Any (MeetsAlong body) job.setup.frames → ⊥) (λ body. (body.id ≡ named.0) × Any (MeetsAlong body) job.setup.frames) ⊥ pose.boxes none (λ body free met. free met.1)
    (subst (IsReasonOf job pose back stage) named.1 holds)

pub first_frame : (job : JobData) (pose : PoseData) (back : Back) (stage n : ℕ) → IsLeastNumber (λ body. body.id) (λ body. Any (MeetsAlong body) job.setup.frames) pose.boxes (Some n) → IsFirstOf job pose back stage 3 3 (Frame n)
first_frame job pose back stage n least = record {
  low = omega arith;
  high = omega arith;
  holds = least.0;
  first = by_kind;
}
  where
    less : (m : ℕ) → IsBefore (3 ∷ m ∷ 0 ∷ 0 ∷ []) (3 ∷ n ∷ 0 ∷ 0 ∷ []) → m < n
    less m before = by_rest (rests_in_order 3 (m ∷ 0 ∷ 0 ∷ []) (n ∷ 0 ∷ 0 ∷ []) before)
      where
        by_rest : IsBefore (m ∷ 0 ∷ 0 ∷ []) (n ∷ 0 ∷ 0 ∷ []) → m < n
        by_rest (inl low) = low
        by_rest (inr rest) = absurd (elim rest.1 [ inl low ↦ omega (arith, low) | inr more ↦ elim more.1 [ inl low ↦ omega (arith, low) | inr never ↦ never.1 ] ])

    by_name : (other : Reason) → (body : ℕ) × (other ≡ Frame body) → IsReasonOf job pose back stage other → ReasonIsBefore other (Frame n) → ⊥
    by_name other named holds before =
        all_any (λ body. Any (MeetsAlong body) job.setup.frames → body.id < n → ⊥) (λ body. (body.id ≡ named.0) × Any (MeetsAlong body) job.setup.frames) ⊥ pose.boxes least.1
        (λ body free met.
        let low = less named.0 (subst (λ (xs : List ℕ). IsBefore xs (3 ∷ n ∷ 0 ∷ 0 ∷ [])) (ap reason_place named.1) before) in
        let same = met.0 in
        free met.1 (omega (arith, low, same)))
        (subst (IsReasonOf job pose back stage) named.1 holds)

    by_kind : (other : Reason) → 3 ≤ kind_place other → IsReasonOf job pose back stage other → ReasonIsBefore other (Frame n) → ⊥
    by_kind other low holds before = let high = kinds_in_order other (Frame n) before in by_name other (only_frame other (omega (arith, low, high))) holds before
