use Rattle.std.proofs.Common.{◌≡◌, ◌-◌, map, get_or, arith, ◌∙◌, ap}
use Rattle.part_file.specs.declared.part.Joint.{Joint}
use Rattle.part_file.specs.Part.{face_data}
use Rattle.unfolder.specs.Cores.{joint_of}
use Rattle.unfolder.specs.Blank.{line_image}
use Rattle.unfolder.specs.Extent.{IsNearLine}
use Rattle.unfolder.specs.Frames.{frame_map}
use Rattle.unfolder.specs.Tables.{no_frame, no_line, laid_line}
use Rattle.unfolder.proofs.Listing.{push_next, all_pushed, all_listed}
use Rattle.unfolder.proofs.layout.bend_lines.Goals as goal

pub loop-bend-preserved : goal.loop-bend-preserved
loop-bend-preserved c =
    let faces = map face_data c.args.part.now.faces.items in
    let b = c.loop-bend.bend in
    let on : c.from.result ≡ (joint_of faces b).on = c.from.ensures ∙ ap (λ (j : Joint). j.on) c.joint_of.ensures.value in
    let laid : c.line.result ≡ laid_line faces c.args.frames.now c.args.lines.now b = c.line.ensures.value ∙ (λ i. line_image (frame_map (get_or c.args.frames.now (on i) no_frame)) (get_or c.args.lines.now (c.from-in-loop-bend.ensures i - 1) no_line)) in
    record {
      count = omega (arith, c.push.ensures.len);
      value = all_listed (laid_line faces c.args.frames.now c.args.lines.now) 1 _ _ _ (push_next (laid_line faces c.args.frames.now c.args.lines.now) 1 (b - 1) b _ _ _ c.push.ensures.items c.loop-bend.invariant.value laid (omega arith)) (omega arith);
      near = all_pushed IsNearLine _ _ _ c.push.ensures.items c.loop-bend.invariant.near c.line.ensures.near;
    }
