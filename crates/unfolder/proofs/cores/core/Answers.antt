use Rattle.std.proofs.Common.{◌≡◌, ◌-ℤ◌, List, map, ap, w64, to_z, of_z, arith, rules}
use Rattle.std.proofs.lemmas.Int.{ints, to_z-of_z}
use Rattle.part_file.specs.declared.part.Side.TheVariants.{N, E, S, W}
use Rattle.part_file.specs.Part.{FaceData, face_data, face_at, is_bent}
use Rattle.unfolder.specs.Cores.{if_bent}
use Rattle.unfolder.proofs.Signed.{stored}
use Rattle.unfolder.proofs.cores.core.Goals as goal

pub returns-clause-value : goal.returns-clause-value
returns-clause-value c =
    let q_fits = c.ranges.q in
    let faces : List FaceData = map face_data c.args.part.now.faces.items in
    let f = c.args.face in
    let west : c.lost.result ≡ if_bent (is_bent faces f W) c.args.q = simp to_z-of_z at c.lost.ensures.value in
    let east : c.lost-2.result ≡ if_bent (is_bent faces f E) c.args.q = simp to_z-of_z at c.lost-2.ensures.value in
    let south : c.lost-3.result ≡ if_bent (is_bent faces f S) c.args.q = simp to_z-of_z at c.lost-3.ensures.value in
    let north : c.lost-4.result ≡ if_bent (is_bent faces f N) c.args.q = simp to_z-of_z at c.lost-4.ensures.value in
    let wide : c.face_of-outside.result.now.width ≡ (face_at faces f).width = ap (λ (face : FaceData). face.width) c.face_of-outside.ensures.value in
    let long : c.face_of-outside.result.now.length ≡ (face_at faces f).length = ap (λ (face : FaceData). face.length) c.face_of-outside.ensures.value in
    let x0 = stored c.lost.result _ (search rules) west in
    let y0 = stored c.lost-3.result _ (search rules) south in
    let x1 : to_z w64 (of_z w64 (to_z w64 (of_z w64 c.face_of-outside.result.now.width) -ℤ to_z w64 (of_z w64 c.lost-2.result))) ≡ (face_at faces f).width -ℤ if_bent (is_bent faces f E) c.args.q = omega (arith, ints) in
    let y1 : to_z w64 (of_z w64 (to_z w64 (of_z w64 c.face_of-outside.result.now.length) -ℤ to_z w64 (of_z w64 c.lost-4.result))) ≡ (face_at faces f).length -ℤ if_bent (is_bent faces f N) c.args.q = omega (arith, ints) in
    λ i. record { x0 = x0 i; x1 = x1 i; y0 = y0 i; y1 = y1 i }

pub returns-clause-within : goal.returns-clause-within
returns-clause-within c =
    let west = c.lost.ensures.within in
    let east = c.lost-2.ensures.within in
    let south = c.lost-3.ensures.within in
    let north = c.lost-4.ensures.within in
    let wide = c.face_of-outside.ensures.wide in
    let long = c.face_of-outside.ensures.long in
    record {
      x0 = record { low = omega (arith, ints); high = omega (arith, ints) };
      x1 = record { low = omega (arith, ints); high = omega (arith, ints) };
      y0 = record { low = omega (arith, ints); high = omega (arith, ints) };
      y1 = record { low = omega (arith, ints); high = omega (arith, ints) };
    }
