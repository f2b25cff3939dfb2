use Rattle.sheet_page.proofs.stroke_heading.+is_flat_among.Given as goal

-- how many bends are left
abbrev pub decreases-is_flat_among : goal.decreases-is_flat_among
decreases-is_flat_among l = l.bends
