use Rattle.std.proofs.Common.{refl}
use Rattle.cert_merge.proofs.BaseTaking.{nothing_cut}
use Rattle.cert_merge.proofs.base_rows.BaseRows.none.Goals as goal

pub returns : goal.returns
returns c = λ job low high. nothing_cut job low high _ c.new.ensures.items refl refl refl
