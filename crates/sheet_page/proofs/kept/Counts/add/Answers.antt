use Rattle.std.proofs.Common.{rules, ◌≡◌, ◌∙◌, ◌+◌, ◌-◌, ◌*◌, ℕ, length, ap, arith}
use Rattle.brake_base.specs.Reasons.{kind_of}
use Rattle.sheet_page.proofs.Counted.{counted, count_is}
use Rattle.sheet_page.proofs.KeptLemmas.{kind_some, kind_low}
use Rattle.sheet_page.proofs.kept.Counts.add.Goals as goal

pub overflow_add-self : goal.overflow_add-self
overflow_add-self c =
    let all = c.args.self.now.all in
    let bend = c.args.bend in
    let kind = kind_of c.args.reason in
    let some = kind_some c.args.reason in
    let low = kind_low c.args.reason in
    let place_is : c.place_of-place.result ≡ (bend - 1) * 9 + (kind - 1) = c.place_of-place.ensures.value ∙ ap (λ (n : ℕ). (bend - 1) * 9 + (n - 1)) c.kind.ensures in
    let many : length all ≡ 108 = search rules in
    let is = count_is all bend kind c.place_of-place.result c.requires.first c.requires.last (omega (arith, some)) low place_is (omega (arith, many, c.place_of-place.ensures.within)) in
    let few = c.requires.few bend kind in
    omega (arith, is, few)

pub returns : goal.returns
returns c = λ b k.
    let all = c.args.self.now.all in
    let bend = c.args.bend in
    let kind = kind_of c.args.reason in
    let some = kind_some c.args.reason in
    let low = kind_low c.args.reason in
    let place_is : c.place_of-place.result ≡ (bend - 1) * 9 + (kind - 1) = c.place_of-place.ensures.value ∙ ap (λ (n : ℕ). (bend - 1) * 9 + (n - 1)) c.kind.ensures in
    let many : length all ≡ 108 = search rules in
    counted all bend kind c.place_of-place.result c.requires.first c.requires.last (omega (arith, some)) low place_is (omega (arith, many, c.place_of-place.ensures.within)) b k
