use Rattle.std.proofs.Common.{ℕ, length, map, rules, arith}
use borrow.Author.Tests.{tests}
use Rattle.std.proofs.lemmas.Iterator.{cases_from_all, YieldsList-from_range}
use Rattle.part_file.specs.Part.{face_data, IsFaceOf}
use Rattle.part_file.proofs.PartRules.{each_below}
use Rattle.part_file.proofs.rules.are_faces.Goals as goal

pub returns : goal.returns
returns c =
    let faces = map face_data c.args.faces.now in
    let n : ℕ = length c.args.faces.now in
    each_below (λ b. IsFaceOf faces b) n c.all.result
    (cases_from_all _ _ c.all.result (λ b. IsFaceOf faces b) (λ b. IsFaceOf faces b → ⊥) c.all.ensures.ran (YieldsList-from_range 0 n n (search rules) (omega arith)) (λ x q k. search (rules, tests)) (λ x q k. search (rules, tests)))
