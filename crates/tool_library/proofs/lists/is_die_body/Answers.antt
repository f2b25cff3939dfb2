use Rattle.std.proofs.Common.{◌≡◌, pos, ◌-ℤ◌, neg_ℤ, w64, to_z, of_z, arith}
use Rattle.std.specs.List.{list_all}
use Rattle.std.proofs.lemmas.Bool.Decides.{Decides-at}
use Rattle.std.proofs.lemmas.Int.{ints}
use Rattle.tool_library.specs.ToolsFile.{is_body_box}
use Rattle.tool_library.proofs.Decided.{boxes_decided}
use Rattle.tool_library.proofs.lists.is_die_body.Goals as goal

pub returns-clause-exact : goal.returns-clause-exact
returns-clause-exact c =
    let height_fits = c.ranges.height in
    let low : to_z w64 (of_z w64 (pos 0 -ℤ to_z w64 (of_z w64 c.args.height))) ≡ neg_ℤ c.args.height = omega (arith, ints) in
    let same : c.are_body_boxes.result ≡ list_all (is_body_box (neg_ℤ c.args.height) (pos 0)) c.args.rects.now = rw low at c.are_body_boxes.ensures in
    Decides-at _ _ same (boxes_decided (neg_ℤ c.args.height) (pos 0) c.args.rects.now)
