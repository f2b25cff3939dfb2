use Rattle.std.proofs.Common.{◌<◌, length, arith, ◌∙◌}
use Rattle.std.proofs.lemmas.List.{get_or_default}
use Rattle.cert_merge.proofs.ProvedWorths.{worth_in, none_past}
use Rattle.cert_merge.proofs.proved_keys.worth_of.Goals as goal

pub returns-then-place-rows : goal.returns-then-place-rows
returns-then-place-rows c =
    let rows = c.args.rows.now in
    let row = c.index-rows-place.result in
    let within : c.place_of-place.result < length rows = let less = c.if-place-rows.true in omega (arith, less) in
    worth_in rows c.requires c.args.key.now c.place_of-place.result row c.worth_at.result c.place_of-place.ensures within (c.index-rows-place.is ∙ get_or_default rows c.place_of-place.result _ row within) c.worth_at.ensures

pub returns-else-place-rows : goal.returns-else-place-rows
returns-else-place-rows c = none_past c.args.rows.now c.requires c.args.key.now c.place_of-place.result c.place_of-place.ensures (λ within. let past = c.if-place-rows.false in omega (arith, within, past))
