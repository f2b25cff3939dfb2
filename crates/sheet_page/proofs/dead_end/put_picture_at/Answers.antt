use Rattle.std.proofs.Common.{◌≡◌, ◌∙◌, ◌+ℤ◌, ◌^◌, get_or, FitsSigned, to_z-of_z, w64, pos, refl, sym, arith}
use Rattle.std.specs.Prelude.{int_lt, ◌&&◌, take}
use Rattle.std.proofs.lemmas.Int.{ints}
use Rattle.algebra.proofs.Widths.{fits_64}
use Rattle.sheet_page.specs.Pictured.{is_pictured, AreOfNote}
use Rattle.sheet_page.proofs.Pictures.{goes_more}
use Rattle.sheet_page.proofs.dead_end.put_picture_at.Goals as goal

pub returns-clause-value : goal.returns-clause-value
returns-clause-value c = λ d.
    let refusals = c.args.refusals.now in
    let job = refusals.job.now in
    let mask = refusals.mask in
    let notes = refusals.notes.now in
    let figure = c.args.figure in
    let put = c.args.put in
    let more = c.in_ok-more.more in
    let few = c.in_ok-more.ensures.count in
    let some = c.requires.put in
    let fits : FitsSigned w64 put = c.ranges.put in
    let fits_figure : FitsSigned w64 figure = c.ranges.figure in
    let fits_more : FitsSigned w64 more = fits_64 _ (2 ^ 20) (omega (arith, ints, few.0, few.1)) (omega arith) in
    let fits_both : FitsSigned w64 (put +ℤ more) = fits_64 _ (2 ^ 20) (omega (arith, ints, few.0, few.1, some.low, some.high)) (omega arith) in
    let fits_next : FitsSigned w64 (figure +ℤ put) = fits_64 _ (2 ^ 20) (omega (arith, ints, some.low, some.high, c.requires.figure)) (omega arith) in
    let pictures : AreOfNote job mask (get_or notes c.args.at d) (figure +ℤ put) more c.args.out.now.items c.put_picture.new.out.items = simp to_z-of_z at (c.in_ok-more.ensures.value d) in
    let told : c.is_shown.result ≡ (int_lt put (pos 2) && is_pictured job mask (take c.args.at notes) (get_or notes c.args.at d)) = simp to_z-of_z at (c.is_shown.ensures.value d) in
    let shows = sym told ∙ c.if-not-is_shown.false in
    simp to_z-of_z (goes_more job mask (get_or notes c.args.at d) figure put (int_lt put (pos 2) && is_pictured job mask (take c.args.at notes) (get_or notes c.args.at d)) more (put +ℤ more) c.args.out.now.items c.put_picture.new.out.items shows pictures refl)

pub returns-clause-count : goal.returns-clause-count
returns-clause-count c =
    let put = c.args.put in
    let more = c.in_ok-more.more in
    let few = c.in_ok-more.ensures.count in
    let some = c.requires.put in
    let most = c.is_shown.ensures.few c.if-not-is_shown.false in
    let fits : FitsSigned w64 put = c.ranges.put in
    let fits_more : FitsSigned w64 more = fits_64 _ (2 ^ 20) (omega (arith, ints, few.0, few.1)) (omega arith) in
    let fits_both : FitsSigned w64 (put +ℤ more) = fits_64 _ (2 ^ 20) (omega (arith, ints, few.0, few.1, some.low, some.high)) (omega arith) in
    simp to_z-of_z (record { low = omega (arith, ints, few.0, some.low); high = omega (arith, ints, few.1, most) })
