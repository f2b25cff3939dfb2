use Rattle.std.proofs.Common.{◌≡◌, ◌+◌, nat_lt, ap, ◌∙◌, arith}
use Rattle.stage_lanes.proofs.PlaceLemmas.{words_are}
use Rattle.stage_lanes.proofs.actions.ActionSet.before.Goals as goal

pub returns : goal.returns
returns c =
    let end = c.place-end.result in
    record {
      places = rw (← c.place-end.ensures.value) (words_are c.ones_before.result c.ones_before-2.result c.ones_before-3.result (λ place. nat_lt place end)
          (λ bit h. let e : 0 + bit ≡ bit = omega arith in c.ones_before.ensures.bits bit h ∙ ap (λ place. nat_lt place end) e)
          c.ones_before-2.ensures.bits c.ones_before-3.ensures.bits);
    }
