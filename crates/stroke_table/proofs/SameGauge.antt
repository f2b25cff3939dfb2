-- The legal pairs of a stroke are the same at each stage.
use Rattle.std.proofs.Common.{◌≡◌, ◌∙◌, ap, sym, subst, refl, ℕ, ◌<◌, ℤ, ◌+ℤ◌, ◌-ℤ◌, ◌<ℤ◌, List, map, length, get_or, arith}
use Rattle.std.specs.Prelude.{Any, Option, Some, None}
use Rattle.std.specs.Int.{int_min, int_max}
use Rattle.std.proofs.lemmas.Int.{ints, clamps}
use Rattle.std.proofs.lemmas.List.{length-map, get_or-map}
use Rattle.std.proofs.lemmas.List.Elements.{All-map}
use Rattle.brake_base.specs.declared.space.Box3.{Box3}
use Rattle.brake_base.specs.declared.mask.Mask.{Mask}
use Rattle.brake_base.specs.declared.stroke.Back.{Back}
use Rattle.brake_base.specs.declared.stroke.Gauge.{Gauge}
use Rattle.brake_base.specs.Turns.{Map, stay}
use Rattle.brake_base.specs.Boxes.{Overlap, ShareInterior}
use Rattle.brake_base.proofs.Vectors.{same_point, same_box}
use Rattle.brake_base.proofs.Overlaps.{overlap_is}
use Rattle.machine_file.specs.declared.machine.GaugeRule.{GaugeRule}
use Rattle.fold_boxes.specs.declared.posed_part.PoseBox.{PoseBox}
use Rattle.fold_boxes.specs.Pose.{PoseData, span_start, pose_of}
use Rattle.job_setup.specs.Setup.{JobData, shape_of}
use Rattle.job_setup.specs.StageOf.{stage_of}
use Rattle.job_setup.specs.LegalGauge.{IsLevel, IsFlatFace, IsFingerFree, IsPair, IsRightOf, IsLeftOfPair, IsLegalPair, far_edge, left_finger, right_finger, finger_box}
use Rattle.job_setup.specs.Reasons.{pose_at}
use Rattle.gauge_rules.specs.Pairs.{IsFirstLegal}
use Rattle.stroke_table.specs.Moved.{moved_body, moved_box, moved_map, moved_pose}
use Rattle.stroke_table.proofs.Moved.{pose_moved}

below_moved : (a b c d by : ℤ) → int_max (a +ℤ by) (b +ℤ by) <ℤ int_min (c +ℤ by) (d +ℤ by) → int_max a b <ℤ int_min c d
below_moved a b c d by h = omega (arith, ints, clamps)

overlap_moved : (by : ℤ) (a b : Box3) → Overlap (moved_body by a) (moved_body by b) → Overlap a b
overlap_moved by a b h = record { x = below_moved a.lo.x b.lo.x a.hi.x b.hi.x by h.x; y = h.y; z = h.z }

apart_moved : (by : ℤ) (a b : Box3) → (ShareInterior a b → ⊥) → ShareInterior (moved_body by a) (moved_body by b) → ⊥
apart_moved by a b apart shared = apart ((overlap_is a b).0 (overlap_moved by a b ((overlap_is (moved_body by a) (moved_body by b)).1 shared)))

some_moved : (by : ℤ) (P : PoseBox → Type 0) (xs : List PoseBox) → Any (λ x. P (moved_box by x)) xs → Any P (map (moved_box by) xs)
some_moved by P xs some =
    let within : some.0 < length (map (moved_box by) xs) = omega (arith, some.2, length-map xs (moved_box by)) in
    (some.0, moved_box by some.1, within, get_or-map (moved_box by) xs some.0 some.1 (moved_box by some.1) some.2 ∙ ap (moved_box by) some.3, some.4)

module _ (by x0 x1 : ℤ) (pose : PoseData) where
  abbrev there : PoseData
  there = moved_pose by x0 x1 pose

  flat_moved : (thickness : ℤ) (face : ℕ) (box : PoseBox) → IsFlatFace thickness pose face box → IsFlatFace thickness there face (moved_box by box)
  flat_moved thickness face box flat =
      let turn = ap (λ (m : Map). m.turn) (get_or-map (moved_map by) pose.places face stay stay flat.level.within) in
      record {
        number = flat.number;
        half = flat.half;
        level = record {
          within = omega (arith, flat.level.within, length-map pose.places (moved_map by));
          level = subst IsLevel (sym turn) flat.level.level;
        };
        fills = record { low = flat.fills.low; high = flat.fills.high };
      }

  free_moved : (finger other : Box3) → other ≡ moved_body by finger → IsFingerFree pose finger → IsFingerFree there other
  free_moved finger other is free =
      subst (IsFingerFree there) (sym is)
      (All-map (λ box. ShareInterior (moved_body by finger) box.body → ⊥) (moved_box by) pose.boxes (λ k d within. apart_moved by finger (get_or pose.boxes k d).body (free k d within)))

  module _ (rule : GaugeRule) (thickness : ℤ) (left right : PoseBox) where
    left_finger_moved : finger_box rule thickness (far_edge (moved_box by left)) (left_finger rule (moved_box by left)) ≡ moved_body by (finger_box rule thickness (far_edge left) (left_finger rule left))
    left_finger_moved = same_box _ _ (same_point _ _ (omega (arith, ints)) refl refl) (same_point _ _ (omega (arith, ints)) refl refl)

    right_finger_moved : finger_box rule thickness (far_edge (moved_box by left)) (right_finger rule (moved_box by right)) ≡ moved_body by (finger_box rule thickness (far_edge left) (right_finger rule right))
    right_finger_moved = same_box _ _ (same_point _ _ (omega (arith, ints)) refl refl) (same_point _ _ (omega (arith, ints)) refl refl)

    pair_moved : IsPair rule thickness pose left right → IsPair rule thickness there (moved_box by left) (moved_box by right)
    pair_moved pair = record {
      reach = record {
        edge = record { edge = pair.reach.edge.edge; near = pair.reach.edge.near; far = pair.reach.edge.far };
        room = record {
          left_end = omega (arith, ints, pair.reach.room.left_end);
          right_end = omega (arith, ints, pair.reach.room.right_end);
          gap = omega (arith, ints, pair.reach.room.gap);
        };
      };
      free = record {
        left_free = free_moved _ _ left_finger_moved pair.free.left_free;
        right_free = free_moved _ _ right_finger_moved pair.free.right_free;
      };
    }

  pub legal_moved : (job : JobData) (gauge : Gauge) → IsLegalPair job pose gauge → IsLegalPair job there gauge
  legal_moved job gauge legal =
      some_moved by (IsLeftOfPair job there gauge) pose.boxes (
        legal.0,
        legal.1,
        legal.2,
        legal.3,
        (
          flat_moved job.part.thickness gauge.left_face legal.1 legal.4.0,
          some_moved by (IsRightOf job there gauge (moved_box by legal.1)) pose.boxes
              (let rest = legal.4.1 in (rest.0, rest.1, rest.2, rest.3, (flat_moved job.part.thickness gauge.right_face rest.1 rest.4.0, pair_moved job.setup.gauge job.part.thickness legal.1 rest.1 rest.4.1))),
        ),
      )

from_to : (s t : ℤ) → t ≡ s +ℤ (t -ℤ s)
from_to s t = omega (arith, ints)

legal_there : (job : JobData) (mask group : Mask) (back : Back) (x0 x1 y0 y1 : ℤ) (gauge : Gauge) → IsLegalPair job (pose_of (shape_of job) mask group back x0 x1) gauge → IsLegalPair job (pose_of (shape_of job) mask group back y0 y1) gauge
legal_there job mask group back x0 x1 y0 y1 gauge legal =
    let shape = shape_of job in
    let by = span_start shape group y0 y1 -ℤ span_start shape group x0 x1 in
    subst (λ (pose : PoseData). IsLegalPair job pose gauge)
    (sym (pose_moved shape mask group back x0 x1 y0 y1 by (from_to (span_start shape group x0 x1) (span_start shape group y0 y1))))
    (legal_moved by y0 y1 (pose_of shape mask group back x0 x1) job gauge legal)

-- the first legal pair is the same at each stage
pub same_first : (job : JobData) (mask group : Mask) (back : Back) (stage other : ℕ) (gauge : Option Gauge) → IsFirstLegal job (pose_at job mask group back stage) gauge → IsFirstLegal job (pose_at job mask group back other) gauge
same_first job mask group back stage other None none = λ gauge legal.
    none gauge (legal_there job mask group back (stage_of job other).x0 (stage_of job other).x1 (stage_of job stage).x0 (stage_of job stage).x1 gauge legal)
same_first job mask group back stage other (Some gauge) first = (
  legal_there job mask group back (stage_of job stage).x0 (stage_of job stage).x1 (stage_of job other).x0 (stage_of job other).x1 gauge first.0,
  λ before earlier legal. first.1 before earlier (legal_there job mask group back (stage_of job other).x0 (stage_of job other).x1 (stage_of job stage).x0 (stage_of job stage).x1 before legal),
)
