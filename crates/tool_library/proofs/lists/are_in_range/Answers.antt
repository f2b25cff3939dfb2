use Rattle.std.proofs.Common.{ℤ, ℕ, pos, rules, tests}
use Rattle.std.proofs.lemmas.Bool.Decides.{Decides-at}
use Rattle.std.proofs.lemmas.Iterator.{YieldsList-from_slice}
use Rattle.std.proofs.lemmas.Iterator.Search.{all_from_yields_List}
use Rattle.tool_library.specs.ToolsFile.{is_section}
use Rattle.tool_library.proofs.Decided.{sections_decided}
use Rattle.tool_library.proofs.lists.are_in_range.Goals as goal

pub returns : goal.returns
returns c =
    let sections = c.args.sections.now in
    let same = all_from_yields_List (λ (section : ℤ × ℕ). is_section section.0 (pos section.1)) _ _ c.all.result c.all.ensures.ran (YieldsList-from_slice sections cc) (λ x b q k. search (rules, tests)) in
    Decides-at _ _ same (sections_decided sections)
