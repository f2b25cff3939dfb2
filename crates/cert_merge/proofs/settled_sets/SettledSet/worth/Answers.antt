use Rattle.std.proofs.Common.{◌<◌, ◌∙◌, ℕ, length, get_or, arith, ap}
use Rattle.std.proofs.lemmas.List.{get_or_default}
use Rattle.brake_base.specs.declared.stroke.Worth.TheVariants.{Cost, Blocked}
use Rattle.cert_merge.proofs.settled_sets.SettledSet.worth.Goals as goal

pub returns : goal.returns
returns c =
    let set = c.args.self.now in
    let key = c.args.key.now in
    let few = c.place_in_set.ensures.few in
    let place = c.place_in_set.ensures.value in
    let within : c.place_in_set.result < length set.worths = omega arith in
    get_or_default set.worths c.place_in_set.result (Cost 0) Blocked within ∙ ap (λ (n : ℕ). get_or set.worths n Blocked) place
