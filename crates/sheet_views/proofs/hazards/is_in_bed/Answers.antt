use Rattle.std.proofs.Common.{◌≡◌, ◌∙◌, pos, neg_ℤ, ◌-ℤ◌, List, length, take, ap, sym, subst, to_z, of_z, w64, arith}
use Rattle.std.specs.Prelude.{All}
use Rattle.std.proofs.lemmas.Int.{ints}
use Rattle.std.proofs.lemmas.List.Elements.{All-take}
use Rattle.machine_file.specs.declared.machine.Fixed.{Fixed}
use Rattle.part_file.specs.Part.{PartData}
use Rattle.job_setup.specs.Setup.{SetupData}
use Rattle.job_setup.specs.Near.{IsNearBox}
use Rattle.handling_cost.proofs.Keys.{some_stage}
use Rattle.sheet_views.specs.Hazards.{is_some_met}
use Rattle.sheet_views.proofs.hazards.is_in_bed.Goals as goal

pub lower_boxes-boxes-requires : goal.lower_boxes-boxes-requires
lower_boxes-boxes-requires c = record { some = some_stage c.args.job.now c.setup.ensures.valid }

pub is_some_met-requires-clause-near : goal.is_some_met-requires-clause-near
is_some_met-requires-clause-near c =
    subst (λ (boxes : List Fixed). All IsNearBox (take c.len-count.result boxes)) (sym c.as_slice.ensures.value) (All-take IsNearBox c.len-count.result c.lower_boxes-boxes.result.items c.lower_boxes-boxes.ensures.near)

pub is_some_met-requires-clause-low : goal.is_some_met-requires-clause-low
is_some_met-requires-clause-low c =
    let thick = c.part.ensures.valid.part.sheet.thickness.range in
    let thickness = ap (λ (p : PartData). p.thickness) c.part.ensures.value in
    omega (arith, ints, thickness, thick.bottom, thick.top)

pub returns : goal.returns
returns c =
    let thick = c.part.ensures.valid.part.sheet.thickness.range in
    let thickness = ap (λ (p : PartData). p.thickness) c.part.ensures.value in
    let by : to_z w64 (of_z w64 (pos 0 -ℤ to_z w64 (of_z w64 c.part.result.now.thickness))) ≡ neg_ℤ c.args.job.now.part.thickness = omega (arith, ints, thickness, thick.bottom, thick.top) in
    let count = c.len-count.ensures.value ∙ ap (λ (s : SetupData). length s.lower) c.setup.ensures.value in
    let boxes = c.as_slice.ensures.value ∙ c.lower_boxes-boxes.ensures.value in
    c.is_some_met.ensures ∙ (λ i. is_some_met c.args.finger.now (by i) (take (count i) (boxes i)))
