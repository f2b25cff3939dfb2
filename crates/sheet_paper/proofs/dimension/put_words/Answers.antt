use Rattle.std.proofs.Common.{◌≡◌, ◌++◌, pos, length, subst, OnOk, to_z, to_z-of_z, w64, arith}
use Rattle.std.proofs.lemmas.Int.{to_z_pos}
use Rattle.sheet_paper.specs.FigureLines.{LabelData, label_data, label_line}
use Rattle.sheet_paper.specs.Dimensions.{words_label}
use Rattle.sheet_paper.proofs.dimension.put_words.Goals as goal

pub returns : goal.returns
returns c =
    let window = c.args.window.now in
    let words = c.args.words.now in
    let letters : to_z w64 (length words) ≡ pos (length words) = to_z_pos w64 (length words) (omega (arith, c.requires.words)) in
    let is : label_data c.words_at-label.result ≡ words_label window c.args.low c.args.high c.args.y (pos (length words)) = simp (to_z-of_z c.ranges.low, to_z-of_z c.ranges.high, to_z-of_z c.ranges.y, letters) at c.words_at-label.ensures.value in
    subst (λ (label : LabelData). OnOk c.put_label.result (c.put_label.new.out.items ≡ c.args.out.now.items ++ label_line window label words)) is c.put_label.ensures
