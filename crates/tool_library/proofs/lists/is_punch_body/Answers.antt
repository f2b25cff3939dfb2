use Rattle.std.proofs.Common.{◌≡◌, pos}
use Rattle.std.specs.List.{list_all}
use Rattle.std.proofs.lemmas.Bool.Decides.{Decides-at}
use Rattle.std.proofs.lemmas.Int.{to_z-of_z}
use Rattle.tool_library.specs.ToolsFile.{is_body_box}
use Rattle.tool_library.proofs.Decided.{boxes_decided}
use Rattle.tool_library.proofs.lists.is_punch_body.Goals as goal

pub returns-clause-exact : goal.returns-clause-exact
returns-clause-exact c =
    let height_fits = c.ranges.height in
    let same : c.are_body_boxes.result ≡ list_all (is_body_box (pos 0) c.args.height) c.args.rects.now = simp to_z-of_z at c.are_body_boxes.ensures in
    Decides-at _ _ same (boxes_decided (pos 0) c.args.height c.args.rects.now)
