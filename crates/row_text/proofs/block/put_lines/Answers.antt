use Rattle.std.proofs.Common.{◌≡◌, ℕ, ◌<◌, List, [], ◌++◌, length, get_or, ap, sym, ◌∙◌, arith}
use Rattle.std.proofs.lemmas.List.{append-nil, get_or_default}
use Rattle.row_text.specs.Blocks.{IsFirstSplit}
use Rattle.row_text.proofs.BlockTexts.{fewer_split, block_more, block_done}
use Rattle.row_text.proofs.block.put_lines.Goals as goal

pub loop-place-preserved : goal.loop-place-preserved
loop-place-preserved c =
    let lines = c.args.lines.now in
    let split : IsFirstSplit c.loop-place.rest c.in-Some.place c.in-Some.others = c.in-Some.ensures.some in
    let few : c.in-Some.place < 192 = split.within in
    let within : c.from.result < length lines = omega (arith, c.from.ensures, few, c.requires) in
    let line : c.index-lines-from.result ≡ get_or lines c.in-Some.place [] =
    c.index-lines-from.is ∙ get_or_default lines c.from.result c.index-lines-from.result [] within ∙ ap (λ (n : ℕ). get_or lines n []) c.from.ensures in
    block_more lines c.loop-place.rest c.in-Some.others c.in-Some.place _ _ _ _ split line c.loop-place.invariant c.in_ok-put.ensures

pub loop-place-smaller : goal.loop-place-smaller
loop-place-smaller c = fewer_split c.loop-place.rest c.in-Some.others c.in-Some.place c.in-Some.ensures.some

pub returns : goal.returns
returns c =
    let out = c.loop-place.out.items in
    sym (append-nil out)
    ∙ ap (λ (t : List ℕ). out ++ t) (sym (block_done c.args.lines.now c.loop-place.rest c.in_default.ensures.none))
    ∙ c.loop-place.invariant
