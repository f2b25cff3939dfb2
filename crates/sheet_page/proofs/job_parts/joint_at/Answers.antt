use Rattle.std.proofs.Common.{◌≡◌, ◌∙◌, length, map, ap, subst, sym, arith}
use Rattle.std.proofs.lemmas.List.{length-map}
use Rattle.part_file.specs.Part.{PartData, IsPart, face_data}
use Rattle.unfolder.specs.Cores.{joint_of}
use Rattle.sheet_page.proofs.job_parts.joint_at.Goals as goal

pub joint_of-requires-clause-part : goal.joint_of-requires-clause-part
joint_of-requires-clause-part c = subst IsPart (sym c.part.ensures.value) c.part.ensures.valid.part

pub joint_of-requires-clause-bend : goal.joint_of-requires-clause-bend
joint_of-requires-clause-bend c =
    let same : length (map face_data c.part.result.now.faces.items) ≡ length c.args.job.now.part.faces = ap (λ (p : PartData). length p.faces) c.part.ensures.value in
    let each = length-map c.part.result.now.faces.items face_data in
    let within = c.requires.bend in
    omega (arith, same, each, within)

pub returns-clause-value : goal.returns-clause-value
returns-clause-value c = c.joint_of.ensures.value ∙ ap (λ (p : PartData). joint_of p.faces c.args.bend) c.part.ensures.value

pub returns-clause-few : goal.returns-clause-few
returns-clause-few c =
    let earlier = c.joint_of.ensures.rules.earlier in
    let within = c.requires.bend in
    let few = c.part.ensures.valid.part.few_faces in
    omega (arith, earlier, within, few)
