use Rattle.std.proofs.Common.{◌≡◌, ◌<◌, ◌^◌, List, length, get_or, refl, ap, sym, subst}
use Rattle.brake_base.specs.declared.space.Place.{Place}
use Rattle.brake_base.specs.Vectors.{IsWithin}
use Rattle.brake_base.specs.Turns.{map_of, stay}
use Rattle.fold_boxes.specs.Pose.{PoseData}
use Rattle.handling_cost.specs.Plan.{pose_before}
use Rattle.sheet_views.proofs.Kept.{read_at}
use Rattle.sheet_views.proofs.Poses.{face_0_is}
use Rattle.sheet_views.proofs.part_views.face_0.Goals as goal

pub bounds-as_slice-0 : goal.bounds-as_slice-0
bounds-as_slice-0 c =
    let places = c.args.pose.now.places.items in
    let there = face_0_is c.args.job.now c.recall_valid.ensures c.args.key.now c.args.action c.requires.action places (ap (λ (p : PoseData). p.places) c.requires.pose) in
    subst (λ (xs : List Place). 0 < length xs) (sym c.as_slice.ensures.value) there.0

pub returns-clause-value : goal.returns-clause-value
returns-clause-value c =
    let places = c.args.pose.now.places.items in
    let there = face_0_is c.args.job.now c.recall_valid.ensures c.args.key.now c.args.action c.requires.action places (ap (λ (p : PoseData). p.places) c.requires.pose) in
    let place = c.index-as_slice-0.result in
    let here = read_at places c.as_slice.result.now 0 0 place place c.as_slice.ensures.value refl c.index-as_slice-0.is there.0 in
    subst (λ (p : Place). map_of p ≡ get_or (pose_before c.args.job.now c.args.key.now.mask c.args.action).places 0 stay) (sym here) (there.1 place).value

pub returns-clause-near : goal.returns-clause-near
returns-clause-near c =
    let places = c.args.pose.now.places.items in
    let there = face_0_is c.args.job.now c.recall_valid.ensures c.args.key.now c.args.action c.requires.action places (ap (λ (p : PoseData). p.places) c.requires.pose) in
    let place = c.index-as_slice-0.result in
    let here = read_at places c.as_slice.result.now 0 0 place place c.as_slice.ensures.value refl c.index-as_slice-0.is there.0 in
    subst (λ (p : Place). IsWithin (2 ^ 39) p.at) (sym here) (there.1 place).near
