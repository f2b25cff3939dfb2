-- What the tests of a fixed box decide.
use Rattle.std.proofs.Common.{ℤ, neg_ℤ, Decides}
use Rattle.std.proofs.lemmas.Bool.Decides.{Decides-and, Decides-like}
use Rattle.toml_fields.specs.Ranges.{is_range}
use Rattle.toml_fields.proofs.Decided.{range_decided}
use Rattle.machine_file.specs.declared.machine.Fixed.{Fixed}
use Rattle.machine_file.specs.Machine.{coordinate_limit, HasFootprint, IsFixed}
use Rattle.machine_file.specs.MachineFile.{has_footprint, is_fixed}

footprint_decided : (box : Fixed) → Decides (has_footprint box) (HasFootprint box)
footprint_decided box =
    let along = range_decided (neg_ℤ coordinate_limit) coordinate_limit box.x0 box.x1 in
    let across = range_decided (neg_ℤ coordinate_limit) coordinate_limit box.rect.y0 box.rect.y1 in
    let both = Decides-and (is_range (neg_ℤ coordinate_limit) coordinate_limit box.x0 box.x1) (is_range (neg_ℤ coordinate_limit) coordinate_limit box.rect.y0 box.rect.y1) along across in
    Decides-like (has_footprint box) (λ p. record { along = p.0; across = p.1 }) (λ f. (f.along, f.across)) both

pub fixed_decided : (low high : ℤ) (box : Fixed) → Decides (is_fixed low high box) (IsFixed low high box)
fixed_decided low high box =
    let both = Decides-and (has_footprint box) (is_range low high box.rect.z0 box.rect.z1) (footprint_decided box) (range_decided low high box.rect.z0 box.rect.z1) in
    Decides-like (is_fixed low high box) (λ p. record { footprint = p.0; upwards = p.1 }) (λ f. (f.footprint, f.upwards)) both
