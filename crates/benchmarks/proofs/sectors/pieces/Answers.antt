use Rattle.std.proofs.Common.{[], ◌∷◌}
use Rattle.std.proofs.lemmas.List.Elements.{All-nil, All-cons}
use Rattle.sector_geom.specs.Covers.{IsCover}
use Rattle.benchmarks.proofs.sectors.pieces.Goals as goal

pub returns : goal.returns
returns c =
    let from-12 = c.cover-12.result ∷ [] in
    let from-11 = c.cover-11.result ∷ from-12 in
    let from-10 = c.cover-10.result ∷ from-11 in
    let from-9 = c.cover-9.result ∷ from-10 in
    let from-8 = c.cover-8.result ∷ from-9 in
    let from-7 = c.cover-7.result ∷ from-8 in
    let from-6 = c.cover-6.result ∷ from-7 in
    let from-5 = c.cover-5.result ∷ from-6 in
    let from-4 = c.cover-4.result ∷ from-5 in
    let from-3 = c.cover-3.result ∷ from-4 in
    let from-2 = c.cover-2.result ∷ from-3 in
    (All-cons IsCover c.cover.result from-2 c.cover.ensures.some
    (All-cons IsCover c.cover-2.result from-3 c.cover-2.ensures.some
    (All-cons IsCover c.cover-3.result from-4 c.cover-3.ensures.some
    (All-cons IsCover c.cover-4.result from-5 c.cover-4.ensures.some
    (All-cons IsCover c.cover-5.result from-6 c.cover-5.ensures.some
    (All-cons IsCover c.cover-6.result from-7 c.cover-6.ensures.some
    (All-cons IsCover c.cover-7.result from-8 c.cover-7.ensures.some
    (All-cons IsCover c.cover-8.result from-9 c.cover-8.ensures.some
    (All-cons IsCover c.cover-9.result from-10 c.cover-9.ensures.some
    (All-cons IsCover c.cover-10.result from-11 c.cover-10.ensures.some
    (All-cons IsCover c.cover-11.result from-12 c.cover-11.ensures.some
    (All-cons IsCover c.cover-12.result [] c.cover-12.ensures.some
    (All-nil IsCover)))))))))))))
