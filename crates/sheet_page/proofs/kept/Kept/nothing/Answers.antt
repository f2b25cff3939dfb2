use Rattle.std.proofs.Common.{refl}
use Rattle.sheet_page.proofs.kept.Kept.nothing.Goals as goal

pub returns-clause-kept : goal.returns-clause-kept
returns-clause-kept c = λ j all. record {
  flat = record { found = refl; tried = tt; flat = tt };
  states = refl;
  counts = λ bend kind. c.none.ensures bend kind;
  ends = c.none-2.ensures.dead_ends j all;
}
