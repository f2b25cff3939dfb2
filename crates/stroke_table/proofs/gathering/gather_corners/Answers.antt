use Rattle.std.proofs.Common.{◌≡◌, ◌∙◌, inr, ◌+◌, ◌-◌, ◌<◌, ◌≤◌, ◌++◌, ℕ, [], ◌∷◌, length, map, filter, append-nil, Option, refl, sym, ap, subst, arith}
use Rattle.std.specs.Prelude.{All, IfSome}
use Rattle.std.specs.List.{range_with_len}
use Rattle.std.proofs.lemmas.List.{length-append}
use Rattle.brake_base.specs.Masks.{has}
use Rattle.brake_base.specs.Turns.{map_of}
use Rattle.unfolder.specs.Blank.{face_numbers}
use Rattle.unfolder.proofs.Listing.{all_pushed}
use Rattle.fold_boxes.specs.Posing.{IsNearPoseBox}
use Rattle.fold_boxes.specs.declared.posed_part.PoseBox.{PoseBox}
use Rattle.fold_boxes.proofs.Picked.{pick_next, put_at_end, put_nothing}
use Rattle.fold_boxes.specs.Pose.{IsNumberOfBox}
use Rattle.job_setup.specs.Setup.{shape_of, stage_count}
use Rattle.stroke_table.specs.declared.gathering.StrokeBoxes.{StrokeBoxes}
use Rattle.stroke_table.specs.Codes.{AreLeastCodes, HoldsAmong, stroke_box}
use Rattle.stroke_table.specs.declared.records.BoxRecord.{BoxRecord}
use Rattle.stroke_table.specs.Gathering.{IsOfBoxBelow, IsPoseOf}
use Rattle.stroke_table.specs.Records.{AreKept, IsFoundOf}
use Rattle.stroke_table.proofs.LeastCodes.{same_codes}
use Rattle.stroke_table.proofs.BoxCodes.{all_below, below_all, box_more, no_box_more, no_corner, boxes_gathered, pose_whole}
use Rattle.stroke_table.proofs.gathering.gather_corners.Goals.{then-contains, else-contains}
use Rattle.stroke_table.proofs.gathering.gather_corners.Goals as goal

pub loop-bend-init : goal.loop-bend-init
loop-bend-init c = record {
  kept = c.requires.kept;
  pose = c.requires.gathered.pose;
  codes = c.requires.gathered.codes;
  boxes = c.requires.gathered.boxes ∙ sym (append-nil _);
  room = c.requires.room;
  near = c.requires.gathered.near;
  places = refl;
}

pub index_of_number-index-requires-clause-number : goal.index_of_number-index-requires-clause-number
index_of_number-index-requires-clause-number c =
    inr (c.loop-bend.bend, omega (arith, c.loop-bend.auto.bend), omega (arith, c.loop-bend-test.true, c.bends-bend-end.ensures.value), sym c.contains.ensures ∙ c.if-contains.true, refl)

pub loop-bend-preserved : goal.loop-bend-preserved
loop-bend-preserved c =
    let job = c.args.job.now in
    let stroke = c.args.stroke.now in
    let mask = stroke.mask in
    let key = stroke.of in
    let bend = c.loop-bend.bend in
    let before = c.loop-bend.gathered in
    let some : 0 < bend = omega (arith, c.loop-bend.auto.bend) in
    let inside : bend < length job.part.faces = omega (arith, c.loop-bend-test.true, c.bends-bend-end.ensures.value) in
    let few : stage_count job ≤ 8 = omega (arith, c.requires.kept.around.few) in
    let start = map (λ k. stroke_box job mask key k 0) (face_numbers job.part.faces) in
    let made : ℕ → PoseBox = λ b. stroke_box job mask key (12 + b) 0 in
    let next : (12 + bend) + 1 ≡ 12 + (bend + 1) = omega arith in
    elim c.if-contains.branch [
      | then-contains w ↦
          let found = w.box_at.result.now.found in
          let of_number = subst (λ (one : Option BoxRecord). IfSome one (λ record_. IsFoundOf job mask key (12 + bend) record_.found)) w.box_at.ensures w.index_of_number-index.ensures.found in
          let folded = sym c.contains.ensures ∙ w.if-contains.true in
          let is : IsNumberOfBox (shape_of job) mask (12 + bend) = inr (bend, some, inside, folded, refl) in
          let long = length-append before.pose.boxes.items (found.body ∷ []) in
          let items : c.if-contains.gathered.pose.boxes.items ≡ before.pose.boxes.items ++ found.body ∷ [] = ap (λ (g : StrokeBoxes). g.pose.boxes.items) w.gathered-is ∙ w.take.ensures.boxes in
          let len = ap length items in
          record {
            kept = subst (AreKept job) (sym w.kept-is) w.index_of_number-index.ensures.kept;
            pose = subst (λ (g : StrokeBoxes). IsPoseOf job stroke g.pose) (sym w.gathered-is) (w.take.ensures.pose job stroke c.loop-bend.invariant.pose);
            codes = subst (λ (g : StrokeBoxes). AreLeastCodes (stage_count job) (λ stage. IsOfBoxBelow job mask key stage (12 + (bend + 1))) g.codes.0) (sym w.gathered-is)
                (subst (λ (n : ℕ). AreLeastCodes (stage_count job) (λ stage. IsOfBoxBelow job mask key stage n) w.take.new.self.codes.0) next
                (box_more job mask key (12 + bend) before.codes.0 found.codes.0 w.take.new.self.codes.0 few is c.loop-bend.invariant.codes of_number.codes w.take.ensures.codes));
            boxes = pick_next made (has mask) bend start before.pose.boxes.items c.if-contains.gathered.pose.boxes.items some c.loop-bend.invariant.boxes
                (put_at_end (has mask bend) before.pose.boxes.items c.if-contains.gathered.pose.boxes.items (made bend) folded (items ∙ ap (λ (b : PoseBox). before.pose.boxes.items ++ b ∷ []) of_number.body));
            room = omega (arith, len, long, c.loop-bend.invariant.room);
            near = all_pushed IsNearPoseBox _ _ _ items c.loop-bend.invariant.near of_number.near;
            places = ap (λ (g : StrokeBoxes). g.pose.places.items) w.gathered-is ∙ w.take.ensures.places ∙ c.loop-bend.invariant.places;
          }
      | else-contains w ↦
          let flat = sym c.contains.ensures ∙ w.if-contains.false in
          let same : c.if-contains.gathered.pose.boxes.items ≡ before.pose.boxes.items = ap (λ (g : StrokeBoxes). g.pose.boxes.items) w.gathered-is in
          let len = ap length same in
          record {
            kept = subst (AreKept job) (sym w.kept-is) c.loop-bend.invariant.kept;
            pose = subst (λ (g : StrokeBoxes). IsPoseOf job stroke g.pose) (sym w.gathered-is) c.loop-bend.invariant.pose;
            codes = subst (λ (g : StrokeBoxes). AreLeastCodes (stage_count job) (λ stage. IsOfBoxBelow job mask key stage (12 + (bend + 1))) g.codes.0) (sym w.gathered-is)
                (subst (λ (n : ℕ). AreLeastCodes (stage_count job) (λ stage. IsOfBoxBelow job mask key stage n) before.codes.0) next
                (no_box_more job mask key (12 + bend) before.codes.0 (no_corner job mask bend (omega (arith, c.bends-bend-end.ensures.value, c.bends-bend-end.ensures.few)) some flat) c.loop-bend.invariant.codes));
            boxes = pick_next made (has mask) bend start before.pose.boxes.items c.if-contains.gathered.pose.boxes.items some c.loop-bend.invariant.boxes (put_nothing (has mask bend) before.pose.boxes.items c.if-contains.gathered.pose.boxes.items (made bend) flat same);
            room = omega (arith, len, c.loop-bend.invariant.room);
            near = subst (All IsNearPoseBox) (sym same) c.loop-bend.invariant.near;
            places = ap (λ (g : StrokeBoxes). g.pose.places.items) w.gathered-is ∙ c.loop-bend.invariant.places;
          }
    ]

pub returns-clause-codes : goal.returns-clause-codes
returns-clause-codes c =
    let job = c.args.job.now in
    let mask = c.args.stroke.now.mask in
    let key = c.args.stroke.now.of in
    let n : ℕ = 12 + c.loop-bend.bend in
    same_codes (stage_count job) (λ stage. IsOfBoxBelow job mask key stage n) (HoldsAmong job mask key 3 6) c.loop-bend.gathered.codes.0
    (λ stage reason within holds. below_all job mask key stage n (omega (arith, c.loop-bend-test.false, c.bends-bend-end.ensures.value)) (omega (arith, c.bends-bend-end.ensures.value)) reason holds)
    (λ stage reason within some. all_below job mask key stage n reason some) c.loop-bend.invariant.codes

pub returns-clause-pose : goal.returns-clause-pose
returns-clause-pose c =
    let job = c.args.job.now in
    let stroke = c.args.stroke.now in
    let mask = stroke.mask in
    let key = stroke.of in
    let all : c.loop-bend.bend - 1 ≡ length job.part.faces - 1 = omega (arith, c.loop-bend-test.false, c.loop-bend.auto.bend-end, c.bends-bend-end.ensures.value) in
    let start = map (λ k. stroke_box job mask key k 0) (face_numbers job.part.faces) in
    let boxes = c.loop-bend.invariant.boxes ∙ ap (λ (n : ℕ). start ++ map (λ b. stroke_box job mask key (12 + b) 0) (filter (has mask) (range_with_len 1 n))) all ∙ boxes_gathered job mask key in
    let places = ap (map map_of) c.loop-bend.invariant.places ∙ c.requires.gathered.places in
    pose_whole job stroke c.loop-bend.gathered.pose c.loop-bend.invariant.pose boxes places
