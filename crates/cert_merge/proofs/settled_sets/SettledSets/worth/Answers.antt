use Rattle.std.proofs.Common.{Option, Some, ◌∙◌, sym, ap}
use Rattle.std.specs.Prelude.{option_map}
use Rattle.cert_merge.specs.declared.settled_sets.SettledSet.{SettledSet}
use Rattle.cert_merge.specs.Entries.{Settled}
use Rattle.cert_merge.specs.Settling.{said_by}
use Rattle.cert_merge.proofs.SettledSets.{below_high, none_unless_among}
use Rattle.cert_merge.proofs.settled_sets.SettledSets.worth.Goals as goal

pub returns-then-is_settled : goal.returns-then-is_settled
returns-then-is_settled c =
    let settled = c.args.self.now in
    let key = c.args.key.now in
    ap Some c.worth.ensures
    ∙ sym (ap (λ (o : Option Settled). option_map (λ (said : Settled). said.worth) o)
    (below_high settled key (c.is_settled.ensures.0 c.if-is_settled.true).high ∙ ap (λ (o : Option SettledSet). option_map (λ (set : SettledSet). said_by set key) o) c.set.ensures))

pub returns-else-is_settled : goal.returns-else-is_settled
returns-else-is_settled c =
    sym (ap (λ (o : Option Settled). option_map (λ (said : Settled). said.worth) o)
    (none_unless_among c.args.self.now c.args.key.now (λ among. let yes = c.is_settled.ensures.1 among in let no = c.if-is_settled.false in cc)))
