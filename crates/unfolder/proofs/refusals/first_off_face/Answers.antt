use Rattle.std.proofs.Common.{◌≡◌, ℕ, ◌+◌, ◌-◌, ◌<◌, ◌≤◌, true, false, length, map, get_or, sym, ◌∙◌, ap, arith}
use Rattle.std.proofs.lemmas.List.{length-map}
use Rattle.part_file.specs.declared.part.Joint.{Joint}
use Rattle.part_file.specs.Part.{face_data}
use Rattle.unfolder.specs.Cores.{is_off_edge, joint_of}
use Rattle.unfolder.specs.Tables.{no_rect, no_line, is_off_edge_in}
use Rattle.unfolder.proofs.Finding.{find_first, find_none, none_more}
use Rattle.unfolder.proofs.refusals.first_off_face.Goals as goal

pub returns-then-is_off_edge : goal.returns-then-is_off_edge
returns-then-is_off_edge c =
    let faces = map face_data c.args.part.now.faces.items in
    let on : c.from.result ≡ (joint_of faces c.loop-bend.bend).on = c.from.ensures ∙ ap (λ (j : Joint). j.on) c.joint_of.ensures.value in
    let test : is_off_edge_in faces c.args.cores.now c.args.lines.now c.loop-bend.bend ≡ true = (λ i. is_off_edge (get_or c.args.cores.now (sym on i) no_rect) (get_or c.args.lines.now (sym c.from-in-loop-bend.ensures i - 1) no_line)) ∙ sym c.is_off_edge.ensures ∙ c.if-is_off_edge.true in
    let inside : c.loop-bend.bend < 1 + (length faces - 1) = omega (arith, length-map c.args.part.now.faces.items face_data) in
    sym (find_first (is_off_edge_in faces c.args.cores.now c.args.lines.now) 1 _ c.loop-bend.bend c.loop-bend.invariant test (omega arith) inside)

pub loop-bend-preserved : goal.loop-bend-preserved
loop-bend-preserved c =
    let faces = map face_data c.args.part.now.faces.items in
    let on : c.from.result ≡ (joint_of faces c.loop-bend.bend).on = c.from.ensures ∙ ap (λ (j : Joint). j.on) c.joint_of.ensures.value in
    let test : is_off_edge_in faces c.args.cores.now c.args.lines.now c.loop-bend.bend ≡ false = (λ i. is_off_edge (get_or c.args.cores.now (sym on i) no_rect) (get_or c.args.lines.now (sym c.from-in-loop-bend.ensures i - 1) no_line)) ∙ sym c.is_off_edge.ensures ∙ c.if-is_off_edge.false in
    none_more (is_off_edge_in faces c.args.cores.now c.args.lines.now) 1 c.loop-bend.bend c.loop-bend.invariant test

pub returns : goal.returns
returns c =
    let faces = map face_data c.args.part.now.faces.items in
    let all : (k : ℕ) → 1 ≤ k → k < 1 + (length faces - 1) → is_off_edge_in faces c.args.cores.now c.args.lines.now k ≡ false = λ k low high. c.loop-bend.invariant k low (omega (arith, length-map c.args.part.now.faces.items face_data)) in
    sym (find_none (is_off_edge_in faces c.args.cores.now c.args.lines.now) 1 (length faces - 1) all)
