-- How the part is held in the strokes of a bend depends on the folded bends up to the bend's parent alone.
use Rattle.std.proofs.Common.{◌≡◌, ℕ, zero, suc, ◌<◌, ◌≤◌, Bool, true, false, not, ◌&&◌, nat_le, cond, length, get_or, arith, refl, sym, ◌∙◌, ap}
use Rattle.std.proofs.lemmas.Bool.{le-leb, and_from}
use Rattle.brake_base.specs.declared.mask.Mask.{Mask}
use Rattle.brake_base.specs.declared.stroke.Back.{Back}
use Rattle.brake_base.specs.Turns.{Map, multiply, transpose, after}
use Rattle.brake_base.specs.Masks.{has}
use Rattle.part_file.specs.Part.{half_thickness}
use Rattle.unfolder.specs.Cores.{joint_of}
use Rattle.unfolder.specs.Blank.{flat_step}
use Rattle.unfolder.specs.Design.{design_step}
use Rattle.unfolder.proofs.ChainLemmas.{joint_of_part}
use Rattle.unfolder.proofs.PlaceLaws.{place-root, place-bend}
use Rattle.fold_boxes.specs.Shapes.{ShapeData, IsShape, mould_distance}
use Rattle.fold_boxes.specs.Folded.{place_of}
use Rattle.fold_boxes.specs.Pose.{frame_turn, turn_number, attitude_turn, attitude_of}
use Rattle.fold_boxes.proofs.Folding.{cores_of_shape}
use Rattle.job_setup.specs.Setup.{JobData, shape_of}
use Rattle.job_setup.specs.ValidJob.{IsJob}
use Rattle.job_setup.proofs.Validity.{shape_of_job}
use Rattle.handling_cost.specs.StepCost.{attitude_at}
use Rattle.set_facts.specs.declared.set_lanes.SetLanes.{SetLanes}
use Rattle.set_facts.specs.Facts.{side_place}
use Rattle.set_facts.specs.FirstLeft.{AgreeTo}
use Rattle.set_facts.specs.LaneFacts.{IsSetLanes}

module _ (shape : ShapeData) (rules : IsShape shape) (s t : Mask) where
  places_alike : (n f : ℕ) → f < n → f < length shape.part.faces → AgreeTo f s t → place_of shape s f ≡ place_of shape t f
  places_alike zero f few inside agree = absurd (omega (arith, few))
  places_alike (suc n) zero few inside agree =
      place-root shape.part.faces shape.q (mould_distance shape) (has s) ∙ sym (place-root shape.part.faces shape.q (mould_distance shape) (has t))
  places_alike (suc n) (suc f) few inside agree =
      let on = (joint_of shape.part.faces (suc f)).on in
      let earlier : on < suc f = (joint_of_part shape.part rules.part).on (suc f) (omega arith) inside in
      let parent : place_of shape s on ≡ place_of shape t on =
      places_alike n on (omega (arith, earlier, few)) (omega (arith, earlier, inside)) (λ b first last. agree b first (omega (arith, last, earlier))) in
      let step : Bool → Map = λ folded. cond folded (design_step shape.part.faces (half_thickness shape.part) (suc f)) (flat_step shape.part.faces shape.q (suc f)) in
      let placed : (m : Mask) → place_of shape m (suc f) ≡ after (place_of shape m on) (step (has m (suc f))) =
      λ m. place-bend shape.part rules.part shape.q (half_thickness shape.part) (cores_of_shape shape rules) (has m) (suc f) (omega arith) inside in
      placed s ∙ (λ i. after (parent i) (step (agree (suc f) (omega arith) (omega arith) i))) ∙ sym (placed t)

  pub attitude_alike : (b : ℕ) → 0 < b → b < length shape.part.faces → AgreeTo (joint_of shape.part.faces b).on s t → (back : Back) → attitude_of shape s b back ≡ attitude_of shape t b back
  unfolding attitude_turn
  attitude_alike b some inside agree back =
      let joint = joint_of shape.part.faces b in
      let earlier : joint.on < b = (joint_of_part shape.part rules.part).on b some inside in
      let parent = places_alike b joint.on earlier (omega (arith, earlier, inside)) agree in
      ap (λ (m : Map). turn_number (multiply (frame_turn joint.side joint.dir back) (transpose m.turn))) parent

keeps_low : (f l m : Bool) → f ≡ true → l ≡ true → (f && not (l && not m)) ≡ m
keeps_low true true true one other = refl
keeps_low true true false one other = refl
keeps_low false l m one other = absurd cc
keeps_low true false m one other = absurd cc

-- the set in which only those bends up to a number are left flat that are so in the given set has its bends up to there
pub agree_to : (last bends : ℕ) (mask full low flat greater : Mask) → last ≤ bends → ((b : ℕ) → has full b ≡ (nat_le 1 b && nat_le b bends)) → ((b : ℕ) → has low b ≡ (nat_le 1 b && nat_le b last))
    → ((b : ℕ) → has flat b ≡ (has low b && not (has mask b))) → ((b : ℕ) → has greater b ≡ (has full b && not (has flat b))) → AgreeTo last greater mask
agree_to last bends mask full low flat greater few all lows flats rest b first below =
    rest b ∙ ap (λ (t : Bool). has full b && not t) (flats b)
    ∙ keeps_low (has full b) (has low b) (has mask b) (all b ∙ and_from (nat_le 1 b) (nat_le b bends) (le-leb 1 b first) (le-leb b bends (omega (arith, below, few))))
    (lows b ∙ and_from (nat_le 1 b) (nat_le b last) (le-leb 1 b first) (le-leb b last below))

-- what is kept of a set tells it of each set that has the same bends up to the parent
pub held_there : (job : JobData) → IsJob job → (mask greater : Mask) (bend : ℕ) (set : SetLanes) → IsSetLanes job greater set → 0 < bend → bend < length job.part.faces
    → AgreeTo (joint_of job.part.faces bend).on greater mask → (back : Back) (d : ℕ) → get_or set.attitudes (side_place bend back) d ≡ attitude_of (shape_of job) mask bend back
unfolding attitude_at
held_there job is_job mask greater bend set is some inside agree back d =
    is.held (record { bend = bend; back = back; stage = 0 }) d some (omega (arith, inside))
    ∙ attitude_alike (shape_of job) (shape_of_job job is_job) greater mask bend some inside agree back
