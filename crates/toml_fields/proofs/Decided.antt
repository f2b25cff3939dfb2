-- Tests of ranges that decide what they test.
use Rattle.std.proofs.Common.{ℤ, ◌≤ℤ◌, ◌<ℤ◌, ◌&&◌, Decides, arith}
use Rattle.std.specs.Prelude.{int_le, int_lt}
use Rattle.std.proofs.lemmas.Int.{ints}
use Rattle.std.proofs.lemmas.Bool.Decides.{Decides-and, Decides-like}
use Rattle.toml_fields.specs.Ranges.{IsWithin, IsRange, is_within, is_range}

pub at_most_decided : (a b : ℤ) → Decides (int_le a b) (a ≤ℤ b)
at_most_decided a b = (λ passes. grind (arith, ints), λ le. grind (arith, ints))

pub below_decided : (a b : ℤ) → Decides (int_lt a b) (a <ℤ b)
below_decided a b = (λ passes. grind (arith, ints), λ lt. grind (arith, ints))

pub within_decided : (low high n : ℤ) → Decides (is_within low high n) (IsWithin low high n)
within_decided low high n =
    let all = Decides-and (int_le low n) (int_le n high) (at_most_decided low n) (at_most_decided n high) in
    Decides-like (is_within low high n) (λ p. record { bottom = p.0; top = p.1 }) (λ w. (w.bottom, w.top)) all

pub range_decided : (low high from to : ℤ) → Decides (is_range low high from to) (IsRange low high from to)
range_decided low high from to =
    let lower = Decides-and (int_lt from to) (int_le low from) (below_decided from to) (at_most_decided low from) in
    let all = Decides-and (int_lt from to && int_le low from) (int_le to high) lower (at_most_decided to high) in
    Decides-like (is_range low high from to) (λ p. record { order = p.0.0; bottom = p.0.1; top = p.1 }) (λ r. ((r.order, r.bottom), r.top)) all
