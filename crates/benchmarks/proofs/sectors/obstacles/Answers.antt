use Rattle.std.proofs.Common.{[], ◌∷◌}
use Rattle.std.proofs.lemmas.List.Elements.{All-nil, All-cons}
use Rattle.sector_geom.specs.Plane.{IsInRange, HasInterior}
use Rattle.benchmarks.proofs.sectors.obstacles.Goals as goal

pub returns-clause-in_range : goal.returns-clause-in_range
returns-clause-in_range c =
    let from-11 = c.rect-11.result ∷ [] in
    let from-10 = c.rect-10.result ∷ from-11 in
    let from-9 = c.rect-9.result ∷ from-10 in
    let from-8 = c.rect-8.result ∷ from-9 in
    let from-7 = c.rect-7.result ∷ from-8 in
    let from-6 = c.rect-6.result ∷ from-7 in
    let from-5 = c.rect-5.result ∷ from-6 in
    let from-4 = c.rect-4.result ∷ from-5 in
    let from-3 = c.rect-3.result ∷ from-4 in
    let from-2 = c.rect-2.result ∷ from-3 in
    (All-cons IsInRange c.rect.result from-2 c.rect.ensures.in_range
    (All-cons IsInRange c.rect-2.result from-3 c.rect-2.ensures.in_range
    (All-cons IsInRange c.rect-3.result from-4 c.rect-3.ensures.in_range
    (All-cons IsInRange c.rect-4.result from-5 c.rect-4.ensures.in_range
    (All-cons IsInRange c.rect-5.result from-6 c.rect-5.ensures.in_range
    (All-cons IsInRange c.rect-6.result from-7 c.rect-6.ensures.in_range
    (All-cons IsInRange c.rect-7.result from-8 c.rect-7.ensures.in_range
    (All-cons IsInRange c.rect-8.result from-9 c.rect-8.ensures.in_range
    (All-cons IsInRange c.rect-9.result from-10 c.rect-9.ensures.in_range
    (All-cons IsInRange c.rect-10.result from-11 c.rect-10.ensures.in_range
    (All-cons IsInRange c.rect-11.result [] c.rect-11.ensures.in_range
    (All-nil IsInRange))))))))))))

pub returns-clause-interior : goal.returns-clause-interior
returns-clause-interior c =
    let from-11 = c.rect-11.result ∷ [] in
    let from-10 = c.rect-10.result ∷ from-11 in
    let from-9 = c.rect-9.result ∷ from-10 in
    let from-8 = c.rect-8.result ∷ from-9 in
    let from-7 = c.rect-7.result ∷ from-8 in
    let from-6 = c.rect-6.result ∷ from-7 in
    let from-5 = c.rect-5.result ∷ from-6 in
    let from-4 = c.rect-4.result ∷ from-5 in
    let from-3 = c.rect-3.result ∷ from-4 in
    let from-2 = c.rect-2.result ∷ from-3 in
    (All-cons HasInterior c.rect.result from-2 c.rect.ensures.interior
    (All-cons HasInterior c.rect-2.result from-3 c.rect-2.ensures.interior
    (All-cons HasInterior c.rect-3.result from-4 c.rect-3.ensures.interior
    (All-cons HasInterior c.rect-4.result from-5 c.rect-4.ensures.interior
    (All-cons HasInterior c.rect-5.result from-6 c.rect-5.ensures.interior
    (All-cons HasInterior c.rect-6.result from-7 c.rect-6.ensures.interior
    (All-cons HasInterior c.rect-7.result from-8 c.rect-7.ensures.interior
    (All-cons HasInterior c.rect-8.result from-9 c.rect-8.ensures.interior
    (All-cons HasInterior c.rect-9.result from-10 c.rect-9.ensures.interior
    (All-cons HasInterior c.rect-10.result from-11 c.rect-10.ensures.interior
    (All-cons HasInterior c.rect-11.result [] c.rect-11.ensures.interior
    (All-nil HasInterior))))))))))))
