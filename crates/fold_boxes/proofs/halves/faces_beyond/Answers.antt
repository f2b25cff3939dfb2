use Rattle.std.proofs.Common.{◌≡◌, ◌∙◌, ◌<◌, ◌||◌, ◌==◌, Bool, length, ap, sym, arith}
use Rattle.brake_base.specs.Masks.{has}
use Rattle.unfolder.specs.Cores.{joint_of}
use Rattle.unfolder.proofs.ChainLemmas.{joint_of_part}
use Rattle.fold_boxes.specs.Pose.{is_beyond_some}
use Rattle.fold_boxes.proofs.MatesSoFar.{one_more, none_more}
use Rattle.fold_boxes.proofs.Beyond.{beyond-root, beyond-bend, none_yet, found_earlier, none_later}
use Rattle.fold_boxes.proofs.halves.faces_beyond.Goals.{then-is_beyond, else-is_beyond}
use Rattle.fold_boxes.proofs.halves.faces_beyond.Goals as goal

pub loop-bend-init : goal.loop-bend-init
loop-bend-init c = λ f.
    let faces = c.args.shape.now.part.faces in
    let set = has c.args.group in
    c.empty-beyond.ensures.value f ∙ none_yet (is_beyond_some faces set) f (beyond-root faces set)

pub loop-bend-preserved : goal.loop-bend-preserved
loop-bend-preserved c =
    let faces = c.args.shape.now.part.faces in
    let set = has c.args.group in
    let test = is_beyond_some faces set in
    let bend = c.loop-bend.bend in
    let some : 0 < bend = omega (arith, c.loop-bend.auto.bend) in
    let inside : bend < length faces = omega (arith, c.loop-bend-test.true, c.faces-bend-end.ensures.value) in
    let earlier = joint_of_part c.args.shape.now.part c.faces-bend-end.ensures.rules.part in
    let on = (joint_of faces bend).on in
    let parent : has c.loop-bend.beyond on ≡ test on = c.loop-bend.invariant on ∙ found_earlier test on bend (earlier.on bend some inside) in
    let found : c.is_beyond.result ≡ test bend = c.is_beyond.ensures ∙ ap (λ (t : Bool). set bend || t) parent ∙ sym (beyond-bend faces set earlier bend some inside) in
    elim c.if-is_beyond.branch [
      | then-is_beyond w ↦ λ f. ap (λ m. has m f) w.beyond-is ∙ w.with-beyond.ensures f ∙ ap (λ (t : Bool). t || (f == bend)) (c.loop-bend.invariant f) ∙ one_more test f bend (sym found ∙ w.if-is_beyond.true)
      | else-is_beyond w ↦ λ f. ap (λ m. has m f) w.beyond-is ∙ c.loop-bend.invariant f ∙ none_more test f bend (sym found ∙ w.if-is_beyond.false)
    ]

pub returns-clause-faces : goal.returns-clause-faces
returns-clause-faces c = λ f inside.
    let faces = c.args.shape.now.part.faces in
    let low : f < c.loop-bend.bend = omega (arith, inside, c.loop-bend-test.false, c.faces-bend-end.ensures.value) in
    c.loop-bend.invariant f ∙ found_earlier (is_beyond_some faces (has c.args.group)) f c.loop-bend.bend low

pub returns-clause-past : goal.returns-clause-past
returns-clause-past c = λ f past.
    let faces = c.args.shape.now.part.faces in
    c.loop-bend.invariant f ∙ none_later (is_beyond_some faces (has c.args.group)) f c.loop-bend.bend (omega (arith, past, c.loop-bend.auto.bend, c.faces-bend-end.ensures.value))
