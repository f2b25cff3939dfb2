use Rattle.std.proofs.Common.{rules, arith, ◌≡◌, ◌++◌, ◌∷◌, [], length, ◌-◌, Some, sym, ◌∙◌}
use Rattle.std.proofs.lemmas.Int.{to_z-of_z}
use Rattle.cert_words.specs.LineWords.{signed_at}
use Rattle.cert_words.specs.JobWords.{numbers_in}
use Rattle.cert_words.proofs.NumberLists.{in_front, none_yet, no_more, not_end, has_room, preserved}
use Rattle.cert_words.proofs.job_words.signed_numbers.Goals as goal

pub loop-rest-init : goal.loop-rest-init
loop-rest-init c = rw c.new-numbers.ensures (none_yet (numbers_in 32 c.args.text.now))

pub returns-in_err-n : goal.returns-in_err-n
returns-in_err-n c =
    let some = not_end c.is_end.result c.loop-rest.rest.now c.is_end.ensures c.loop-rest-test.true in
    rw c.from_residual.ensures (sym c.loop-rest.invariant ∙ no_more c.loop-rest.numbers.items (32 - length c.loop-rest.numbers.items) c.loop-rest.rest.now some c.in_err-n.ensures)

pub loop-rest-preserved : goal.loop-rest-preserved
loop-rest-preserved c =
    let some = not_end c.is_end.result c.loop-rest.rest.now c.is_end.ensures c.loop-rest-test.true in
    let room = has_room c.is_full.result (length c.loop-rest.numbers.items) c.is_full.ensures.value c.if-is_full.false c.is_full.ensures.fits in
    let read : signed_at c.loop-rest.rest.now ≡ Some (c.in_ok-n.n, c.in_ok-n.behind.now) = c.in_ok-n.ensures in
    let pushed : c.push.new.self.items ≡ c.loop-rest.numbers.items ++ c.in_ok-n.n ∷ [] = first_of (grind (arith, to_z-of_z), search (rules, to_z-of_z)) in
    let kept : in_front c.push.new.self.items (numbers_in (32 - length c.push.new.self.items) c.in_ok-n.behind.now) ≡ numbers_in 32 c.args.text.now =
    rw pushed (preserved c.loop-rest.numbers.items c.in_ok-n.n c.loop-rest.rest.now c.in_ok-n.behind.now c.args.text.now room some read c.loop-rest.invariant) in
    kept
