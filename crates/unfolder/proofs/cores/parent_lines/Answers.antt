use Rattle.std.proofs.Common.{◌≡◌, ◌-◌, length, map, arith}
use Rattle.std.proofs.lemmas.List.{length-map}
use Rattle.std.proofs.lemmas.Int.{to_z-of_z}
use Rattle.part_file.specs.Part.{face_data}
use Rattle.unfolder.specs.Near.{IsLineWithin}
use Rattle.unfolder.specs.Cores.{parent_line}
use Rattle.unfolder.proofs.Listing.{push_next, all_pushed, all_listed}
use Rattle.unfolder.proofs.cores.parent_lines.Goals as goal

pub loop-bend-preserved : goal.loop-bend-preserved
loop-bend-preserved c = record {
  count = omega (arith, c.push.ensures.len);
  value = all_listed _ 1 _ _ _ (push_next _ 1 (c.loop-bend.bend - 1) c.loop-bend.bend _ _ _ c.push.ensures.items c.loop-bend.invariant.value c.parent_line.ensures.value (omega arith)) (omega arith);
  within = all_pushed (IsLineWithin 21000000) _ _ _ c.push.ensures.items c.loop-bend.invariant.within c.parent_line.ensures.within;
}

pub returns-clause-value : goal.returns-clause-value
returns-clause-value c =
    let q_fits = c.ranges.q in
    let items = c.args.part.now.faces.items in
    let all : c.loop-bend.bend - 1 ≡ length (map face_data items) - 1 = omega (arith, length-map items face_data) in
    all_listed (parent_line (map face_data items) c.args.q) 1 _ _ _ (simp to_z-of_z at c.loop-bend.invariant.value) all
