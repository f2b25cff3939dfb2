use Rattle.std.proofs.Common.{◌%◌, ◌<◌, ℕ, ap, subst, refl, arith}
use Rattle.brake_base.specs.declared.stroke.Key.{Key}
use Rattle.cert_merge.specs.Settling.{key_of}
use Rattle.cert_merge.specs.SetRows.{IsRowPut}
use Rattle.cert_merge.proofs.PutRows.{set_there}
use Rattle.cert_merge.proofs.PieceTexts.{place_put, place_skipped}
use Rattle.cert_merge.proofs.settled_pieces.put_place.Goals as goal

pub returns-in_ok-put_row-clause-text : goal.returns-in_ok-put_row-clause-text
returns-in_ok-put_row-clause-text c =
    let settled = c.args.settled.now in
    let place = c.args.place in
    let key = c.key_of-key.ensures in
    let old = c.args.out.now.items in
    let new = c.put_row.new.out.items in
    let less = c.if-key-stages.true in
    let stage : place % 6 < c.args.stages = subst (λ (k : Key). k.stage < c.args.stages) key less in
    let set = set_there settled (key_of place).mask (c.requires.goes_on.rows place (omega arith) c.requires.less stage).among in
    let put = c.in_ok-put_row.ensures.text in
    let its = subst (λ (n : ℕ). IsRowPut n settled c.key_of-key.result old new) c.in_ok-turn_to.ensures.writer.its_stages put in
    place_put settled c.args.stages place set.0 old new stage set.1 (subst (λ (k : Key). IsRowPut c.args.stages settled k old new) key its)

pub returns-else-key-stages-clause-text : goal.returns-else-key-stages-clause-text
returns-else-key-stages-clause-text c =
    let stage = ap (λ (k : Key). k.stage) c.key_of-key.ensures in
    let past = c.if-key-stages.false in
    place_skipped c.args.settled.now c.args.stages c.args.place c.args.out.now.items c.args.out.now.items (omega (arith, stage, past)) refl
