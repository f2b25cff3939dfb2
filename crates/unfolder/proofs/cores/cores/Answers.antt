use Rattle.std.proofs.Common.{◌≡◌, length, map, arith}
use Rattle.std.proofs.lemmas.List.{length-map}
use Rattle.std.proofs.lemmas.Int.{to_z-of_z}
use Rattle.part_file.specs.Part.{face_data}
use Rattle.unfolder.specs.Near.{IsRectWithin}
use Rattle.unfolder.specs.Cores.{core}
use Rattle.unfolder.proofs.Listing.{push_next, all_pushed, all_listed}
use Rattle.unfolder.proofs.cores.cores.Goals as goal

pub loop-face-preserved : goal.loop-face-preserved
loop-face-preserved c = record {
  count = omega (arith, c.push.ensures.len);
  value = push_next _ 0 c.loop-face.face c.loop-face.face _ _ _ c.push.ensures.items c.loop-face.invariant.value c.core.ensures.value (omega arith);
  within = all_pushed (IsRectWithin 21000000) _ _ _ c.push.ensures.items c.loop-face.invariant.within c.core.ensures.within;
}

pub returns-clause-value : goal.returns-clause-value
returns-clause-value c =
    let q_fits = c.ranges.q in
    let items = c.args.part.now.faces.items in
    let all : c.loop-face.face ≡ length (map face_data items) = omega (arith, length-map items face_data) in
    all_listed (core (map face_data items) c.args.q) 0 _ _ _ (simp to_z-of_z at c.loop-face.invariant.value) all
