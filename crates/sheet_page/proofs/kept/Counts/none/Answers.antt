use Rattle.std.proofs.Common.{refl}
use Rattle.sheet_page.proofs.Counted.{no_count}
use Rattle.sheet_page.proofs.kept.Counts.none.Goals as goal

pub returns : goal.returns
returns c = λ bend kind. no_count _ refl bend kind
