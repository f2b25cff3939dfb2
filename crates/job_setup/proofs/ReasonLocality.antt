-- A reason other than that no pair of faces is legal depends on a pose only through its group and the boxes of which it speaks.
use Rattle.std.proofs.Common.{◌≡◌, ◌≢◌, ◌⊎◌, inl, inr, ℕ, ◌<◌, List, [], ◌∷◌, length, get_or, refl, sym, ap, subst, ◌∙◌}
use Rattle.std.specs.Prelude.{Any}
use Rattle.brake_base.specs.declared.mask.Mask.{Mask}
use Rattle.brake_base.specs.declared.stroke.Back.{Back}
use Rattle.brake_base.specs.declared.reason.Reason.{Reason}
use Rattle.brake_base.specs.declared.reason.Reason.TheVariants.{Cover, Rest, Frame, Upper, Nose, Lower, SelfHit, NoGauge, Load}
use Rattle.brake_base.specs.Masks.{has}
use Rattle.fold_boxes.specs.declared.posed_part.PoseBox.{PoseBox}
use Rattle.fold_boxes.specs.Pose.{PoseData}
use Rattle.job_setup.specs.Setup.{JobData}
use Rattle.job_setup.specs.StageOf.{stage_of}
use Rattle.job_setup.specs.Obstacles.{upper_group, lower_group}
use Rattle.job_setup.specs.Reasons.{is_uncovered, lacks_rest, is_overloaded, side_in, MeetsAlong, IsHit, IsNoseHit, IsSelfHit, SomeBox, SomeObstacle, IsReasonOf}

-- the pose has the box
abbrev pub HasBox : PoseData → PoseBox → Type 0
HasBox pose box = Any (λ other. other ≡ box) pose.boxes

-- the reason speaks of the box of this number
abbrev pub SpeaksOf : Reason → ℕ → Type 0
SpeaksOf (Frame number) n = n ≡ number
SpeaksOf (Upper number quarter index) n = n ≡ number
SpeaksOf (Nose number quarter stage) n = n ≡ number
SpeaksOf (Lower number quarter index) n = n ≡ number
SpeaksOf (SelfHit number quarter other) n = (n ≡ number) ⊎ (n ≡ other)
SpeaksOf _ n = ⊥

-- the second pose has the boxes of these numbers that the first has
abbrev pub HasAllOf : (ℕ → Type 0) → PoseData → PoseData → Type 0
HasAllOf Named pose other = (box : PoseBox) → Named box.id → HasBox pose box → HasBox other box

moved : (pose other : PoseData) (n : ℕ) (P : PoseBox → Type 0) → ((box : PoseBox) → box.id ≡ n → HasBox pose box → HasBox other box) → SomeBox pose n P → SomeBox other n P
moved pose other n P has some =
    let box = some.1 in
    let found = has box some.4.0 (some.0, box, some.2, some.3, refl) in
    let same : found.1 ≡ box = found.4 in
    (found.0, found.1, found.2, found.3, (ap (λ (b : PoseBox). b.id) same ∙ some.4.0, subst P (sym same) some.4.1))

weaker : (pose : PoseData) (n : ℕ) (P Q : PoseBox → Type 0) → ((box : PoseBox) → P box → Q box) → SomeBox pose n P → SomeBox pose n Q
weaker pose n P Q step some = (some.0, some.1, some.2, some.3, (some.4.0, step some.1 some.4.1))

pub reason_alike : (job : JobData) (pose other : PoseData) (back : Back) (stage : ℕ) (reason : Reason) → reason ≢ NoGauge → pose.group ≡ other.group → HasAllOf (SpeaksOf reason) pose other → IsReasonOf job pose back stage reason → IsReasonOf job other back stage reason
reason_alike job pose other back stage Cover kind group boxes holds = sym (ap (λ (g : Mask). is_uncovered job (has g) (stage_of job stage)) group) ∙ holds
reason_alike job pose other back stage (Rest half) kind group boxes holds = sym (ap (λ (g : Mask). lacks_rest job (has g) (side_in half back) (stage_of job stage)) group) ∙ holds
reason_alike job pose other back stage (Frame number) kind group boxes holds = moved pose other number (λ box. Any (MeetsAlong box) job.setup.frames) (λ box named. boxes box named) holds
reason_alike job pose other back stage (Upper number quarter index) kind group boxes holds = moved pose other number (λ box. SomeObstacle (upper_group job) index (IsHit job box quarter)) (λ box named. boxes box named) holds
reason_alike job pose other back stage (Nose number quarter at) kind group boxes holds = (holds.0, moved pose other number (λ box. IsNoseHit job box quarter (stage_of job at)) (λ box named. boxes box named) holds.1)
reason_alike job pose other back stage (Lower number quarter index) kind group boxes holds = moved pose other number (λ box. SomeObstacle (lower_group job stage) index (IsHit job box quarter)) (λ box named. boxes box named) holds
reason_alike job pose other back stage (SelfHit number quarter met) kind group boxes holds =
    moved pose other number (λ box. SomeBox other met (IsSelfHit job box quarter)) (λ box named. boxes box (inl named))
    (weaker pose number (λ box. SomeBox pose met (IsSelfHit job box quarter)) (λ box. SomeBox other met (IsSelfHit job box quarter)) (λ box some. moved pose other met (IsSelfHit job box quarter) (λ b named. boxes b (inr named)) some) holds)
reason_alike job pose other back stage NoGauge kind group boxes holds = absurd (kind refl)
reason_alike job pose other back stage Load kind group boxes holds = sym (ap (λ (g : Mask). is_overloaded job (has g) (stage_of job stage)) group) ∙ holds
