use Rattle.std.proofs.Common.{◌≡◌, ◌∙◌, pos, ◌*ℤ◌, ap, arith}
use Rattle.std.specs.Int.{int_div_euclid}
use Rattle.std.proofs.lemmas.Int.{ints}
use Rattle.sheet_views.proofs.side_view.five_sevenths.Goals as goal

pub returns : goal.returns
returns c =
    let is : c.div_euclid.result ≡ int_div_euclid (pos 5 *ℤ c.args.n) (pos 7) = c.div_euclid.ensures ∙ ap (λ m. int_div_euclid m (pos 7)) (omega (arith, ints, c.requires.low, c.requires.high)) in
    omega (arith, ints, is)
