use Rattle.std.proofs.Common.{◌≡◌, ◌++◌, ◌^◌, FitsSigned, to_z-of_z, w64, arith}
use Rattle.algebra.proofs.Widths.{fits_64}
use Rattle.sheet_figures.specs.Beds.{bed_end_line}
use Rattle.sheet_figures.proofs.Growing.{three_more}
use Rattle.sheet_figures.proofs.bed.put_marks.Goals as goal

pub returns : goal.returns
returns c =
    let window = c.args.window.now in
    let bed = c.args.bed in
    let numbers = c.in_ok-put_station_numbers.ensures in
    let fits_from : FitsSigned w64 bed.0 = fits_64 _ (2 ^ 40) c.requires.from (omega arith) in
    let fits_to : FitsSigned w64 bed.1 = fits_64 _ (2 ^ 40) c.requires.to (omega arith) in
    let first : c.put_bed_end.new.out.items ≡ c.put_station_numbers.new.out.items ++ bed_end_line window bed.0 = simp (to_z-of_z fits_from) at c.in_ok-put_bed_end.ensures in
    let second : c.put_bed_end-2.new.out.items ≡ c.put_bed_end.new.out.items ++ bed_end_line window bed.1 = simp (to_z-of_z fits_to) at c.in_ok-put_bed_end-2.ensures in
    (numbers.0, three_more c.args.out.now.items numbers.0 (bed_end_line window bed.0) (bed_end_line window bed.1) numbers.1 first second)
