use Rattle.std.proofs.Common.{◌≡◌, ◌∙◌, sym, ap, arith}
use Rattle.brake_base.specs.declared.mask.Mask.{Mask}
use Rattle.brake_base.specs.Masks.{has}
use Rattle.part_file.specs.Part.{PartData}
use Rattle.box_support.specs.Deciding.{is_deciding}
use Rattle.stroke_table.proofs.DecidingBends.{decided_more, none_past, undecided_more}
use Rattle.stroke_table.proofs.deciding.bends_between.Goals.{then-is_deciding, else-is_deciding}
use Rattle.stroke_table.proofs.deciding.bends_between.Goals as goal

pub loop-bend-init : goal.loop-bend-init
loop-bend-init c = record {
  deciding = λ f first low. absurd (omega (arith, first, low));
  none = λ f past. c.empty-bends.ensures.value f;
}

pub loop-bend-preserved : goal.loop-bend-preserved
loop-bend-preserved c =
    let job = c.args.job.now in
    let bends = c.loop-bend.bends in
    let bend = c.loop-bend.bend in
    let test = is_deciding job.part.faces c.args.from c.args.number in
    let so_far = c.loop-bend.invariant.deciding in
    let none = c.loop-bend.invariant.none in
    let told : c.is_deciding.result ≡ test bend = c.is_deciding.ensures ∙ ap (λ (p : PartData). is_deciding p.faces c.args.from c.args.number bend) c.part.ensures.value in
    elim c.if-is_deciding.branch [
      | then-is_deciding w ↦ record {
        deciding = λ f first low. ap (λ (m : Mask). has m f) w.bends-is ∙ decided_more test (has bends) (has w.with-bends.result) bend so_far none w.with-bends.ensures (sym told ∙ w.if-is_deciding.true) f first low;
        none = λ f past. ap (λ (m : Mask). has m f) w.bends-is ∙ none_past test (has bends) (has w.with-bends.result) bend so_far none w.with-bends.ensures f past;
      }
      | else-is_deciding w ↦ record {
        deciding = λ f first low. ap (λ (m : Mask). has m f) w.bends-is ∙ undecided_more test (has bends) bend so_far none (sym told ∙ w.if-is_deciding.false) f first low;
        none = λ f past. ap (λ (m : Mask). has m f) w.bends-is ∙ none f (omega (arith, past));
      }
    ]

pub returns : goal.returns
returns c = λ f first last. c.loop-bend.invariant.deciding f first (omega (arith, last, c.loop-bend-test.false, c.bends-bend-end.ensures.value))
