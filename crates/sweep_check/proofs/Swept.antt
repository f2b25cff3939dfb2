-- The first reason of the kinds Upper, Nose and Lower, box by box.
use Rattle.std.proofs.Common.{◌≡◌, ◌⊎◌, inl, inr, ℕ, ◌<◌, ◌≤◌, List, [], ◌∷◌, ◌++◌, length, Option, Some, None, refl, sym, subst, ◌∙◌, arith}
use Rattle.std.proofs.Math.Nat.{eq-or-lt_of_le}
use Rattle.std.proofs.lemmas.Bool.{cases_lt}
use Rattle.brake_base.specs.declared.stroke.Back.{Back}
use Rattle.brake_base.specs.declared.reason.Reason.{Reason}
use Rattle.brake_base.specs.declared.reason.Reason.TheVariants.{Cover, Rest, Frame, Upper, Nose, Lower, SelfHit, NoGauge, Load}
use Rattle.brake_base.specs.Order.{IsBefore}
use Rattle.brake_base.specs.Reasons.{reason_place, ReasonIsBefore}
use Rattle.fold_boxes.specs.declared.posed_part.PoseBox.{PoseBox}
use Rattle.job_setup.specs.Setup.{JobData}
use Rattle.job_setup.specs.StageOf.{stage_of}
use Rattle.job_setup.specs.Obstacles.{upper_group, lower_group}
use Rattle.job_setup.specs.Reasons.{IsReasonOf, IsHit, IsNoseHit, SomeObstacle}
use Rattle.sweep_check.specs.FirstReasons.{kind_place, IsFirstOf, IsFirstAmong, IsEarlier, IsNotBefore, pose_of_boxes}
use Rattle.sweep_check.proofs.Orders.{kinds_in_order}
use Rattle.sweep_check.proofs.Some.{any_split, any_append_left, any_append_right}

-- ---- the order of reasons
pub one_way : (xs ys : List ℕ) → IsBefore xs ys → IsBefore ys xs → ⊥
one_way [] ys before after = before
one_way (x ∷ xs) [] before after = before
one_way (x ∷ xs) (y ∷ ys) (inl less) (inl more) = omega (arith, less, more)
one_way (x ∷ xs) (y ∷ ys) (inl less) (inr rest) = let same = rest.0 in omega (arith, less, same)
one_way (x ∷ xs) (y ∷ ys) (inr rest) (inl more) = let same = rest.0 in omega (arith, more, same)
one_way (x ∷ xs) (y ∷ ys) (inr rest) (inr other) = one_way xs ys rest.1 other.1

pub not_itself : (reason : Reason) → ReasonIsBefore reason reason → ⊥
not_itself reason before = one_way (reason_place reason) (reason_place reason) before before

-- what stands before one place stands before each that doesn't
between : (xs ys zs : List ℕ) → length ys ≡ length zs → IsBefore xs zs → (IsBefore ys zs → ⊥) → IsBefore xs ys
between [] ys zs same before late = absurd before
between (x ∷ xs) ys [] same before late = absurd before
between (x ∷ xs) [] (z ∷ zs) same before late = absurd (omega (arith, same))
between (x ∷ xs) (y ∷ ys) (z ∷ zs) same before late = by_first (between xs ys zs (omega (arith, same))) (cases_lt y z) before
  where
    OfRests : Type 0
    OfRests = IsBefore xs zs → (IsBefore ys zs → ⊥) → IsBefore xs ys

    by_rest : OfRests → x ≡ z → IsBefore xs zs → (z ≡ y) ⊎ (z < y) → IsBefore (x ∷ xs) (y ∷ ys)
    by_rest of_rests alike rest (inl one) = inr ((alike ∙ one), of_rests rest (λ less. late (inr (sym one, less))))
    by_rest of_rests alike rest (inr more) = inl (omega (arith, alike, more))

    by_first : OfRests → (y < z) ⊎ (z ≤ y) → IsBefore (x ∷ xs) (z ∷ zs) → IsBefore (x ∷ xs) (y ∷ ys)
    by_first of_rests (inl less) order = absurd (late (inl less))
    by_first of_rests (inr most) (inl less) = inl (omega (arith, most, less))
    by_first of_rests (inr most) (inr rest) = by_rest of_rests rest.0 rest.1 (eq-or-lt_of_le most)

four : (reason : Reason) → length (reason_place reason) ≡ 4
four Cover = refl
four (Rest half) = refl
four (Frame box) = refl
four (Upper box quarter index) = refl
four (Nose box quarter stage) = refl
four (Lower box quarter index) = refl
four (SelfHit box quarter other) = refl
four NoGauge = refl
four Load = refl

before_late : (a b c : Reason) → ReasonIsBefore a c → (ReasonIsBefore b c → ⊥) → ReasonIsBefore a b
before_late a b c = between (reason_place a) (reason_place b) (reason_place c) (four b ∙ sym (four c))

-- ---- a reason of these kinds, of lists of boxes that are joined
module _ (job : JobData) (back : Back) (stage : ℕ) where
  abbrev pub GivenBy : List PoseBox → Reason → Type 0
  GivenBy boxes reason = IsReasonOf job (pose_of_boxes boxes) back stage reason

  abbrev pub FirstBy : List PoseBox → Option Reason → Type 0
  FirstBy boxes found = IsFirstAmong job (pose_of_boxes boxes) back stage 4 6 found

  by_one : (xs ys : List PoseBox) (reason : Reason) → 4 ≤ kind_place reason → kind_place reason ≤ 6 → GivenBy (xs ++ ys) reason → GivenBy xs reason ⊎ GivenBy ys reason
  by_one xs ys Cover low high given = absurd (omega (arith, low))
  by_one xs ys (Rest half) low high given = absurd (omega (arith, low))
  by_one xs ys (Frame number) low high given = absurd (omega (arith, low))
  by_one xs ys (Upper number quarter index) low high given = any_split (λ box. (box.id ≡ number) × SomeObstacle (upper_group job) index (IsHit job box quarter)) xs ys given
  by_one xs ys (Nose number quarter other) low high given =
      elim (any_split (λ box. (box.id ≡ number) × IsNoseHit job box quarter (stage_of job other)) xs ys given.1) [ inl left ↦ inl (given.0, left) | inr right ↦ inr (given.0, right) ]
  by_one xs ys (Lower number quarter index) low high given = any_split (λ box. (box.id ≡ number) × SomeObstacle (lower_group job stage) index (IsHit job box quarter)) xs ys given
  by_one xs ys (SelfHit number quarter other) low high given = absurd (omega (arith, high))
  by_one xs ys NoGauge low high given = absurd (omega (arith, high))
  by_one xs ys Load low high given = absurd (omega (arith, high))

  by_left : (xs ys : List PoseBox) (reason : Reason) → 4 ≤ kind_place reason → kind_place reason ≤ 6 → GivenBy xs reason → GivenBy (xs ++ ys) reason
  by_left xs ys Cover low high given = absurd (omega (arith, low))
  by_left xs ys (Rest half) low high given = absurd (omega (arith, low))
  by_left xs ys (Frame number) low high given = absurd (omega (arith, low))
  by_left xs ys (Upper number quarter index) low high given = any_append_left (λ box. (box.id ≡ number) × SomeObstacle (upper_group job) index (IsHit job box quarter)) xs ys given
  by_left xs ys (Nose number quarter other) low high given = (given.0, any_append_left (λ box. (box.id ≡ number) × IsNoseHit job box quarter (stage_of job other)) xs ys given.1)
  by_left xs ys (Lower number quarter index) low high given = any_append_left (λ box. (box.id ≡ number) × SomeObstacle (lower_group job stage) index (IsHit job box quarter)) xs ys given
  by_left xs ys (SelfHit number quarter other) low high given = absurd (omega (arith, high))
  by_left xs ys NoGauge low high given = absurd (omega (arith, high))
  by_left xs ys Load low high given = absurd (omega (arith, high))

  by_right : (xs ys : List PoseBox) (reason : Reason) → 4 ≤ kind_place reason → kind_place reason ≤ 6 → GivenBy ys reason → GivenBy (xs ++ ys) reason
  by_right xs ys Cover low high given = absurd (omega (arith, low))
  by_right xs ys (Rest half) low high given = absurd (omega (arith, low))
  by_right xs ys (Frame number) low high given = absurd (omega (arith, low))
  by_right xs ys (Upper number quarter index) low high given = any_append_right (λ box. (box.id ≡ number) × SomeObstacle (upper_group job) index (IsHit job box quarter)) xs ys given
  by_right xs ys (Nose number quarter other) low high given = (given.0, any_append_right (λ box. (box.id ≡ number) × IsNoseHit job box quarter (stage_of job other)) xs ys given.1)
  by_right xs ys (Lower number quarter index) low high given = any_append_right (λ box. (box.id ≡ number) × SomeObstacle (lower_group job stage) index (IsHit job box quarter)) xs ys given
  by_right xs ys (SelfHit number quarter other) low high given = absurd (omega (arith, high))
  by_right xs ys NoGauge low high given = absurd (omega (arith, high))
  by_right xs ys Load low high given = absurd (omega (arith, high))

  -- no reason of theirs is before this one
  none_before : (boxes : List PoseBox) (found : Option Reason) (reason other : Reason) → FirstBy boxes found → IsNotBefore found reason → kind_place reason ≤ 6 → 4 ≤ kind_place other → GivenBy boxes other → ReasonIsBefore other reason → ⊥
  none_before boxes None reason other first late high low given before = let order = kinds_in_order other reason before in first other low (omega (arith, order, high)) given
  none_before boxes (Some one) reason other first late high low given before = first.first other low given (before_late other one reason before late)

  -- the first of two lists that are joined is the earlier of both first ones
  pub both : (xs ys : List PoseBox) (first second found : Option Reason) → IsEarlier first second found → FirstBy xs first → FirstBy ys second → FirstBy (xs ++ ys) found
  both xs ys first second None none of_first of_second = λ reason low high given.
      elim (by_one xs ys reason low high given) [
        | inl left ↦ subst (FirstBy xs) none.0 of_first reason low high left
        | inr right ↦ subst (FirstBy ys) none.1 of_second reason low high right
      ]
  both xs ys first second (Some reason) earlier of_first of_second = elim earlier.0 [
    | inl is ↦ let one : IsFirstOf job (pose_of_boxes xs) back stage 4 6 reason = subst (FirstBy xs) is of_first in
        found_by one.low one.high (by_left xs ys reason one.low one.high one.holds)
    | inr is ↦ let one : IsFirstOf job (pose_of_boxes ys) back stage 4 6 reason = subst (FirstBy ys) is of_second in
        found_by one.low one.high (by_right xs ys reason one.low one.high one.holds)
  ]
    where
      found_by : 4 ≤ kind_place reason → kind_place reason ≤ 6 → GivenBy (xs ++ ys) reason → IsFirstOf job (pose_of_boxes (xs ++ ys)) back stage 4 6 reason
      found_by least most given = record {
        low = least;
        high = most;
        holds = given;
        first = λ other low holds before.
            let order = kinds_in_order other reason before in
            elim (by_one xs ys other low (omega (arith, order, most)) holds) [
              | inl left ↦ none_before xs first reason other of_first earlier.1 most low left before
              | inr right ↦ none_before ys second reason other of_second earlier.2 most low right before
            ];
      }

  -- no box gives none
  pub none_yet : FirstBy [] None
  none_yet Cover low high given = omega (arith, low)
  none_yet (Rest half) low high given = omega (arith, low)
  none_yet (Frame number) low high given = omega (arith, low)
  none_yet (Upper number quarter index) low high given = let inside = given.2 in omega (arith, inside)
  none_yet (Nose number quarter other) low high given = let some = given.1 in let inside = some.2 in omega (arith, inside)
  none_yet (Lower number quarter index) low high given = let inside = given.2 in omega (arith, inside)
  none_yet (SelfHit number quarter other) low high given = omega (arith, high)
  none_yet NoGauge low high given = omega (arith, high)
  none_yet Load low high given = omega (arith, high)
