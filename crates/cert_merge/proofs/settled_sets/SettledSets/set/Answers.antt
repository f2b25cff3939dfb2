use Rattle.std.proofs.Common.{◌∙◌, Some, arith, sym, ap}
use Rattle.std.specs.Prelude.{ℕ, slice_get}
use Rattle.std.proofs.lemmas.Option.{slice_get-get_or}
use Rattle.cert_merge.proofs.settled_sets.SettledSets.set.Goals as goal

pub returns : goal.returns
returns c =
    let within = c.requires.within in
    let place = c.from.ensures in
    ap (λ (n : ℕ). slice_get c.args.self.now.sets.items n) (sym place)
    ∙ (slice_get-get_or c.args.self.now.sets.items c.from.result c.index.result.now (omega (arith, within, place)) ∙ ap Some (sym c.index.ensures))
