use Rattle.std.proofs.Common.{[], ◌∷◌, ◌++◌}
use Rattle.svg_text.specs.Forms.{line_of}
use Rattle.sheet_page.specs.declared.forms.TheConstants.{SECTION}
use Rattle.sheet_page.specs.declared.station_part.TheConstants.{CARDS}
use Rattle.sheet_page.specs.Stations.{AreCards}
use Rattle.sheet_page.proofs.station_part.put_cards.Given as goal

-- the cards so far
abbrev pub invariant-loop-number : goal.invariant-loop-number
invariant-loop-number l = AreCards l.job l.number (l.fn.out.items ++ line_of SECTION.now (CARDS.now ∷ [])) l.out.items
