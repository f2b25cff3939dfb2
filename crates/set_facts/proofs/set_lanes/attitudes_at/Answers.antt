use Rattle.std.proofs.Common.{◌≡◌, ◌∙◌, ◌+◌, ◌<◌, ◌^◌, ℕ, List, ap, sym, subst, get_or, arith}
use Rattle.brake_base.specs.declared.mask.Mask.{Mask}
use Rattle.brake_base.specs.declared.stroke.Back.TheVariants.{Parent, Child}
use Rattle.unfolder.specs.Cores.{joint_of}
use Rattle.fold_boxes.specs.Shapes.{ShapeData}
use Rattle.job_setup.specs.Setup.{JobData, bend_count}
use Rattle.set_facts.specs.declared.set_lanes.SetLanes.{SetLanes}
use Rattle.set_facts.specs.Facts.{side_place}
use Rattle.set_facts.specs.FirstLeft.{AgreeTo}
use Rattle.set_facts.specs.LaneFacts.{AreFilled, IsSetLanes}
use Rattle.set_facts.proofs.SameAttitudes.{held_there}
use Rattle.set_facts.proofs.set_lanes.attitudes_at.Goals as goal

pub bounds-sets-from : goal.bounds-sets-from
bounds-sets-from c = omega (arith, c.from.ensures, c.folded_past-greater.ensures.within, c.requires.greater.places)

found : (job : JobData) (mask greater : Mask) (from : ℕ) (sets : List SetLanes) (set : SetLanes) → AreFilled job (mask.0 + 1) sets → from ≡ greater.0 → mask.0 < greater.0 → greater.0 < 2 ^ bend_count job
    → IsSetLanes job greater (get_or sets from set)
found job mask greater from sets set filled is more within =
    subst (λ (n : ℕ). IsSetLanes job greater (get_or sets n set)) (sym is) (filled.each greater set (omega (arith, more)) within)

pub returns-then-mask-greater-clause-parent : goal.returns-then-mask-greater-clause-parent
returns-then-mask-greater-clause-parent c =
    let job = c.args.job.now in
    let set = c.index-sets-from.result in
    let greater = c.folded_past-greater.result in
    let there = found job c.args.mask greater c.from.result c.args.sets.now set c.requires.greater c.from.ensures c.if-mask-greater.true c.folded_past-greater.ensures.within in
    let on = c.parent.ensures.value ∙ ap (λ (s : ShapeData). (joint_of s.part.faces c.args.bend).on) c.shape.ensures.value in
    ap (λ (n : ℕ). get_or (get_or c.args.sets.now c.from.result set).attitudes n c.index-attitudes-at.result) c.side_place-at.ensures.value
    ∙ held_there job c.shape.ensures.valid c.args.mask greater c.args.bend (get_or c.args.sets.now c.from.result set) there c.requires.some c.requires.bend
    (subst (λ (n : ℕ). AgreeTo n greater c.args.mask) on c.folded_past-greater.ensures.same) Parent c.index-attitudes-at.result

pub returns-then-mask-greater-clause-child : goal.returns-then-mask-greater-clause-child
returns-then-mask-greater-clause-child c =
    let job = c.args.job.now in
    let set = c.index-sets-from.result in
    let greater = c.folded_past-greater.result in
    let there = found job c.args.mask greater c.from.result c.args.sets.now set c.requires.greater c.from.ensures c.if-mask-greater.true c.folded_past-greater.ensures.within in
    let on = c.parent.ensures.value ∙ ap (λ (s : ShapeData). (joint_of s.part.faces c.args.bend).on) c.shape.ensures.value in
    let place : c.side_place-at.result + 1 ≡ side_place c.args.bend Child = omega (arith, c.side_place-at.ensures.value) in
    ap (λ (n : ℕ). get_or (get_or c.args.sets.now c.from.result set).attitudes n c.index-attitudes-at-then-mask-greater.result) place
    ∙ held_there job c.shape.ensures.valid c.args.mask greater c.args.bend (get_or c.args.sets.now c.from.result set) there c.requires.some c.requires.bend
    (subst (λ (n : ℕ). AgreeTo n greater c.args.mask) on c.folded_past-greater.ensures.same) Child c.index-attitudes-at-then-mask-greater.result
