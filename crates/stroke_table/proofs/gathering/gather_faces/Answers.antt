use Rattle.std.proofs.Common.{◌≡◌, ◌∙◌, inl, ◌<◌, ℕ, [], ◌∷◌, length, map, Option, sym, ap, subst, arith}
use Rattle.std.specs.List.{range_with_len}
use Rattle.std.specs.Prelude.{All, IfSome}
use Rattle.std.proofs.lemmas.List.{length-append, map-append}
use Rattle.std.proofs.lemmas.List.Elements.{All-nil}
use Rattle.brake_base.specs.Turns.{map_of}
use Rattle.fold_boxes.specs.Posing.{IsNearPoseBox}
use Rattle.unfolder.proofs.Listing.{push_next, all_pushed}
use Rattle.job_setup.specs.Setup.{stage_count}
use Rattle.stroke_table.specs.Codes.{stroke_box, stroke_place}
use Rattle.stroke_table.specs.declared.records.BoxRecord.{BoxRecord}
use Rattle.stroke_table.specs.Gathering.{IsOfBoxBelow}
use Rattle.stroke_table.specs.Records.{IsFoundOf}
use Rattle.stroke_table.proofs.LeastCodes.{none_hold}
use Rattle.stroke_table.proofs.BoxCodes.{box_more, faces_alone}
use Rattle.stroke_table.proofs.gathering.gather_faces.Goals as goal

pub loop-number-init : goal.loop-number-init
loop-number-init c =
    let job = c.args.job.now in
    let stroke = c.args.stroke.now in
    record {
      kept = c.requires.kept;
      pose = c.requires.begun.pose;
      codes = none_hold (stage_count job) (λ stage. IsOfBoxBelow job stroke.mask stroke.of stage 0) c.args.gathered.now.codes.0 (omega (arith, c.requires.kept.around.few)) c.requires.begun.codes (λ stage reason within some. let low = some.1 in absurd (omega (arith, low)));
      boxes = c.requires.begun.boxes;
      count = ap length c.requires.begun.boxes;
      near = subst (All IsNearPoseBox) (sym c.requires.begun.boxes) (All-nil IsNearPoseBox);
      places = ap (map map_of) c.requires.begun.places;
      placed = ap length c.requires.begun.places;
    }

pub index_of_number-index-requires-clause-number : goal.index_of_number-index-requires-clause-number
index_of_number-index-requires-clause-number c = inl (omega (arith, c.loop-number-test.true, c.bends-number-end.ensures.value))

pub loop-number-preserved : goal.loop-number-preserved
loop-number-preserved c =
    let job = c.args.job.now in
    let stroke = c.args.stroke.now in
    let n = c.loop-number.number in
    let before = c.loop-number.gathered in
    let found = c.box_at.result.now.found in
    let of_number = subst (λ (one : Option BoxRecord). IfSome one (λ record_. IsFoundOf job stroke.mask stroke.of n record_.found)) c.box_at.ensures c.index_of_number-index.ensures.found in
    let inside : n < length job.part.faces = omega (arith, c.loop-number-test.true, c.bends-number-end.ensures.value) in
    let long = length-append before.pose.boxes.items (found.body ∷ []) in
    let far = length-append before.pose.places.items (found.place ∷ []) in
    record {
      kept = c.index_of_number-index.ensures.kept;
      pose = c.take_face.ensures.pose job stroke c.loop-number.invariant.pose;
      codes = box_more job stroke.mask stroke.of n before.codes.0 found.codes.0 c.take_face.new.self.codes.0 (omega (arith, c.requires.kept.around.few)) (inl inside) c.loop-number.invariant.codes of_number.codes c.take_face.ensures.codes;
      boxes = push_next (λ k. stroke_box job stroke.mask stroke.of k 0) 0 n n _ _ _ c.take_face.ensures.boxes c.loop-number.invariant.boxes of_number.body (omega arith);
      count = ap length c.take_face.ensures.boxes ∙ omega (arith, long, c.loop-number.invariant.count);
      near = all_pushed IsNearPoseBox _ _ _ c.take_face.ensures.boxes c.loop-number.invariant.near of_number.near;
      places = push_next (stroke_place job stroke.mask stroke.of) 0 n n _ _ _ (ap (map map_of) c.take_face.ensures.places ∙ map-append map_of before.pose.places.items (found.place ∷ [])) c.loop-number.invariant.places (of_number.place inside) (omega arith);
      placed = ap length c.take_face.ensures.places ∙ omega (arith, far, c.loop-number.invariant.placed);
    }

pub returns-clause-gathered : goal.returns-clause-gathered
returns-clause-gathered c =
    let job = c.args.job.now in
    let stroke = c.args.stroke.now in
    let n = c.loop-number.number in
    let all : n ≡ length job.part.faces = omega (arith, c.loop-number-test.false, c.loop-number.auto.number-end, c.bends-number-end.ensures.value) in
    record {
      pose = c.loop-number.invariant.pose;
      codes = faces_alone job stroke.mask stroke.of n c.loop-number.gathered.codes.0 all (omega (arith, all, c.bends-number-end.ensures.value, c.bends-number-end.ensures.few)) c.loop-number.invariant.codes;
      boxes = c.loop-number.invariant.boxes ∙ ap (λ (k : ℕ). map (λ number. stroke_box job stroke.mask stroke.of number 0) (range_with_len 0 k)) all;
      near = c.loop-number.invariant.near;
      places = c.loop-number.invariant.places ∙ ap (λ (k : ℕ). map (stroke_place job stroke.mask stroke.of) (range_with_len 0 k)) all;
    }
