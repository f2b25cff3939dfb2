-- The lines so far.
use Rattle.std.proofs.Common.{◌≡◌, ◌++◌, [], flat_map, take}
use Rattle.svg_text.specs.Forms.{line_of}
use Rattle.sheet_page.proofs.head.put_style_lines.Given as goal

abbrev pub invariant-loop-line : goal.invariant-loop-line
invariant-loop-line l = l.out.items ≡ l.initial.out.items ++ flat_map (λ line. line_of line.now []) (take l.line-index l.lines)
