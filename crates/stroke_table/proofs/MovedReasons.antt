-- The first reasons at a stage, from those in the pose at stage 0: the part lies farther along the bed, and its halves as before.
use Rattle.std.proofs.Common.{◌≡◌, ℕ, zero, suc, ◌<◌, IsTrue, ℤ, ◌+ℤ◌, ◌-ℤ◌, ◌<ℤ◌, List, [], ◌∷◌, map, length, get_or, Option, refl, sym, ap, subst, ◌∙◌, arith}
use Rattle.std.specs.Prelude.{Any}
use Rattle.std.specs.Int.{int_min, int_max}
use Rattle.std.proofs.lemmas.Int.{ints, clamps}
use Rattle.std.proofs.lemmas.List.{length-map, get_or-map}
use Rattle.brake_base.specs.declared.mask.Mask.{Mask}
use Rattle.brake_base.specs.declared.stroke.Back.{Back}
use Rattle.brake_base.specs.Masks.{has}
use Rattle.brake_base.specs.declared.plane.Quarter.{Quarter}
use Rattle.brake_base.specs.declared.reason.Reason.{Reason}
use Rattle.brake_base.specs.declared.reason.Reason.TheVariants.{Cover, Rest, Frame, Upper, Nose, Lower, SelfHit, NoGauge, Load}
use Rattle.brake_base.proofs.Whole.{lt_from_test, lt_test}
use Rattle.fold_boxes.specs.declared.posed_part.PoseBox.{PoseBox}
use Rattle.fold_boxes.specs.Pose.{PoseData}
use Rattle.job_setup.specs.Setup.{JobData, shape_of}
use Rattle.job_setup.specs.StageOf.{stage_of}
use Rattle.job_setup.specs.Reasons.{is_uncovered, lacks_rest, is_overloaded, side_in, x_range, MeetsAlong, IsSelfHit, pose_at}
use Rattle.sweep_check.specs.FirstReasons.{IsFirstAmong, pose_of_boxes}
use Rattle.sweep_check.proofs.Alike.{AreAlike, among_alike}
use Rattle.stroke_table.specs.Moved.{moved_box}
use Rattle.stroke_table.specs.BoxReasons.{start_at, shift_of, box_at}
use Rattle.stroke_table.proofs.Moved.{pose_moved}

-- ---- the halves
below_there : (a b c d by : ℤ) → int_max a b <ℤ int_min c d → int_max (a +ℤ by) (b +ℤ by) <ℤ int_min (c +ℤ by) (d +ℤ by)
below_there a b c d by h = omega (arith, ints, clamps)

below_here : (a b c d by : ℤ) → int_max (a +ℤ by) (b +ℤ by) <ℤ int_min (c +ℤ by) (d +ℤ by) → int_max a b <ℤ int_min c d
below_here a b c d by h = omega (arith, ints, clamps)

along_there : (by : ℤ) (box other : PoseBox) → MeetsAlong box (x_range other.body) → MeetsAlong (moved_box by box) (x_range (moved_box by other).body)
along_there by box other meets =
    lt_test _ _ (below_there box.body.lo.x other.body.lo.x box.body.hi.x other.body.hi.x by (lt_from_test (int_max box.body.lo.x other.body.lo.x) (int_min box.body.hi.x other.body.hi.x) meets))

along_here : (by : ℤ) (box other : PoseBox) → MeetsAlong (moved_box by box) (x_range (moved_box by other).body) → MeetsAlong box (x_range other.body)
along_here by box other meets =
    lt_test _ _ (below_here box.body.lo.x other.body.lo.x box.body.hi.x other.body.hi.x by (lt_from_test (int_max (box.body.lo.x +ℤ by) (other.body.lo.x +ℤ by)) (int_min (box.body.hi.x +ℤ by) (other.body.hi.x +ℤ by)) meets))

hit_there : (job : JobData) (by : ℤ) (box other : PoseBox) (quarter : Quarter) → IsSelfHit job box quarter other → IsSelfHit job (moved_box by box) quarter (moved_box by other)
hit_there job by box other quarter hit = record { back = hit.back; front = hit.front; along = along_there by box other hit.along; across = hit.across }

hit_here : (job : JobData) (by : ℤ) (box other : PoseBox) (quarter : Quarter) → IsSelfHit job (moved_box by box) quarter (moved_box by other) → IsSelfHit job box quarter other
hit_here job by box other quarter hit = record { back = hit.back; front = hit.front; along = along_here by box other hit.along; across = hit.across }

some_there : (by : ℤ) (P Q : PoseBox → Type 0) (xs : List PoseBox) → ((x : PoseBox) → P x → Q (moved_box by x)) → Any P xs → Any Q (map (moved_box by) xs)
some_there by P Q xs step some =
    let within : some.0 < length (map (moved_box by) xs) = omega (arith, some.2, length-map xs (moved_box by)) in
    (some.0, moved_box by some.1, within, get_or-map (moved_box by) xs some.0 some.1 (moved_box by some.1) some.2 ∙ ap (moved_box by) some.3, step some.1 some.4)

some_here : (by : ℤ) (P Q : PoseBox → Type 0) (xs : List PoseBox) → ((x : PoseBox) → Q (moved_box by x) → P x) → Any Q (map (moved_box by) xs) → Any P xs
some_here by P Q xs step some =
    let within : some.0 < length xs = omega (arith, some.2, length-map xs (moved_box by)) in
    let x = get_or xs some.0 some.1 in
    let is : moved_box by x ≡ some.1 = sym (get_or-map (moved_box by) xs some.0 some.1 some.1 within) ∙ some.3 in
    (some.0, x, within, same_at xs some.0 some.1 within, step x (subst Q (sym is) some.4))
  where
    same_at : (ys : List PoseBox) (k : ℕ) (d : PoseBox) → k < length ys → get_or ys k (get_or ys k d) ≡ get_or ys k d
    same_at [] k d within = absurd (omega (arith, within))
    same_at (y ∷ ys) zero d within = refl
    same_at (y ∷ ys) (suc k) d within = same_at ys k d (omega (arith, within))

halves_alike : (job : JobData) (by : ℤ) (boxes : List PoseBox) (back : Back) (stage : ℕ) → AreAlike job (pose_of_boxes boxes) (pose_of_boxes (map (moved_box by) boxes)) back stage 7 7
halves_alike job by boxes back stage Cover low high = absurd (omega (arith, low))
halves_alike job by boxes back stage (Rest half) low high = absurd (omega (arith, low))
halves_alike job by boxes back stage (Frame n) low high = absurd (omega (arith, low))
halves_alike job by boxes back stage (Upper n quarter index) low high = absurd (omega (arith, low))
halves_alike job by boxes back stage (Nose n quarter other) low high = absurd (omega (arith, low))
halves_alike job by boxes back stage (Lower n quarter index) low high = absurd (omega (arith, low))
halves_alike job by boxes back stage (SelfHit n quarter m) low high =
    let Here : PoseBox → PoseBox → Type 0 = λ box other. (other.id ≡ m) × IsSelfHit job box quarter other in (
      some_there by (λ box. (box.id ≡ n) × Any (Here box) boxes) (λ box. (box.id ≡ n) × Any (Here box) (map (moved_box by) boxes)) boxes
          (λ box named. (named.0, some_there by (Here box) (Here (moved_box by box)) boxes (λ other hit. (hit.0, hit_there job by box other quarter hit.1)) named.1)),
      some_here by (λ box. (box.id ≡ n) × Any (Here box) boxes) (λ box. (box.id ≡ n) × Any (Here box) (map (moved_box by) boxes)) boxes
          (λ box named. (named.0, some_here by (Here box) (Here (moved_box by box)) boxes (λ other hit. (hit.0, hit_here job by box other quarter hit.1)) named.1)),
    )
halves_alike job by boxes back stage NoGauge low high = absurd (omega (arith, high))
halves_alike job by boxes back stage Load low high = absurd (omega (arith, high))

pub halves_there : (job : JobData) (by : ℤ) (boxes : List PoseBox) (back : Back) (stage : ℕ) (found : Option Reason) → IsFirstAmong job (pose_of_boxes boxes) back stage 7 7 found → IsFirstAmong job (pose_of_boxes (map (moved_box by) boxes)) back stage 7 7 found
halves_there job by boxes back stage found first = among_alike job (pose_of_boxes boxes) (pose_of_boxes (map (moved_box by) boxes)) back stage 7 7 found (halves_alike job by boxes back stage) first

-- ---- the kinds for which only the group counts
pub lines_alike : (job : JobData) (pose other : PoseData) (back : Back) (stage : ℕ) → pose.group ≡ other.group → AreAlike job pose other back stage 1 2
lines_alike job pose other back stage same Cover low high = (subst (λ (g : Mask). IsTrue (is_uncovered job (has g) (stage_of job stage))) same, subst (λ (g : Mask). IsTrue (is_uncovered job (has g) (stage_of job stage))) (sym same))
lines_alike job pose other back stage same (Rest half) low high =
    (subst (λ (g : Mask). IsTrue (lacks_rest job (has g) (side_in half back) (stage_of job stage))) same, subst (λ (g : Mask). IsTrue (lacks_rest job (has g) (side_in half back) (stage_of job stage))) (sym same))
lines_alike job pose other back stage same (Frame n) low high = absurd (omega (arith, high))
lines_alike job pose other back stage same (Upper n quarter index) low high = absurd (omega (arith, high))
lines_alike job pose other back stage same (Nose n quarter at) low high = absurd (omega (arith, high))
lines_alike job pose other back stage same (Lower n quarter index) low high = absurd (omega (arith, high))
lines_alike job pose other back stage same (SelfHit n quarter at) low high = absurd (omega (arith, high))
lines_alike job pose other back stage same NoGauge low high = absurd (omega (arith, high))
lines_alike job pose other back stage same Load low high = absurd (omega (arith, high))

pub load_alike : (job : JobData) (pose other : PoseData) (back : Back) (stage : ℕ) → pose.group ≡ other.group → AreAlike job pose other back stage 8 8
load_alike job pose other back stage same Cover low high = absurd (omega (arith, low))
load_alike job pose other back stage same (Rest half) low high = absurd (omega (arith, low))
load_alike job pose other back stage same (Frame n) low high = absurd (omega (arith, low))
load_alike job pose other back stage same (Upper n quarter index) low high = absurd (omega (arith, low))
load_alike job pose other back stage same (Nose n quarter at) low high = absurd (omega (arith, low))
load_alike job pose other back stage same (Lower n quarter index) low high = absurd (omega (arith, low))
load_alike job pose other back stage same (SelfHit n quarter at) low high = absurd (omega (arith, low))
load_alike job pose other back stage same NoGauge low high = absurd (omega (arith, high))
load_alike job pose other back stage same Load low high = (subst (λ (g : Mask). IsTrue (is_overloaded job (has g) (stage_of job stage))) same, subst (λ (g : Mask). IsTrue (is_overloaded job (has g) (stage_of job stage))) (sym same))

-- ---- the boxes
pub from_to : (s t : ℤ) → t ≡ s +ℤ (t -ℤ s)
from_to s t = omega (arith, ints)

pub boxes_at : (job : JobData) (mask group : Mask) (back : Back) (stage : ℕ) → map (box_at job group stage) (pose_at job mask group back 0).boxes ≡ (pose_at job mask group back stage).boxes
boxes_at job mask group back stage =
    let first = stage_of job 0 in
    let at = stage_of job stage in
    sym (ap (λ (pose : PoseData). pose.boxes) (pose_moved (shape_of job) mask group back first.x0 first.x1 at.x0 at.x1 (shift_of job group stage) (from_to (start_at job group 0) (start_at job group stage))))
