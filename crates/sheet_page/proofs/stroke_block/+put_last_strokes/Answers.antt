use Rattle.std.proofs.Common.{◌≡◌, ◌-◌, ◌<◌, ◌≤◌, ◌+◌, ◌∙◌, length, take, drop, get_or, ◌^◌, pos, ◌+ℤ◌, FitsSigned, to_z-of_z, w64, sym, subst, arith}
use Rattle.std.proofs.lemmas.Int.{ints}
use Rattle.algebra.proofs.Widths.{fits_64}
use Rattle.handling_cost.specs.StepCost.{IsKeyOf}
use Rattle.sheet_page.specs.Blocks.{IsBlock}
use Rattle.sheet_page.specs.Strokes.{stroke_data}
use Rattle.sheet_page.proofs.Blocks.{no_step, number_told, key_behind, tail_short, rest_told, blocks_put}
use Rattle.sheet_page.proofs.stroke_block.+put_last_strokes.Goals as goal

pub put_stroke-requires-clause-number : goal.put_stroke-requires-clause-number
put_stroke-requires-clause-number t c =
    let told = number_told c.args.job.now c.args.place.now.number c.args.place.now.key (get_or c.args.steps.now 0 no_step) (stroke_data c.stroke_at-stroke.result) c.stroke_at-stroke.ensures.value in
    omega (arith, told, c.requires.number)

pub put_stroke-requires-clause-count : goal.put_stroke-requires-clause-count
put_stroke-requires-clause-count t c = omega (arith, c.requires.count)

pub put_last_strokes-requires : goal.put_last_strokes-requires
put_last_strokes-requires t c =
    let steps = c.args.steps.now in
    let is = c.next_place-next.ensures.key in
    let behind = is ∙ key_behind c.args.job.now c.args.place.now.number c.args.place.now.key (get_or steps 0 no_step) (stroke_data c.stroke_at-stroke.result) c.stroke_at-stroke.ensures.value in
    let short = tail_short steps c.in-len1-up.len_at_least in
    let less : length (take (length steps - 1) (drop 1 steps)) < t = omega (arith, c.decreases, short) in
    let few : c.next_place-next.result.number + length (take (length steps - 1) (drop 1 steps)) ≤ 16 = omega (arith, short, c.requires.number, c.next_place-next.ensures.number) in
    (less, (subst (IsKeyOf c.args.job.now) (sym is) c.stroke_at-stroke.ensures.good.next, (rest_told c.args.job.now c.args.place.now.key no_step steps c.next_place-next.result.key c.in-len1-up.len_at_least c.requires.steps behind, (c.requires.count, (few, c.next_place-next.ensures.figure)))))

pub returns-in_ok-sides-in-len1-up : goal.returns-in_ok-sides-in-len1-up
returns-in_ok-sides-in-len1-up t c =
    let steps = c.args.steps.now in
    let told = c.stroke_at-stroke.ensures.value in
    let place = c.args.place.now in
    let views = c.in_ok-sides-in-len1-up.sides in
    let stroke = stroke_data c.stroke_at-stroke.result in
    let fits : FitsSigned w64 place.figure = fits_64 _ (2 ^ 20) (omega (arith, ints, c.requires.figure.low, c.requires.figure.high, c.requires.number)) (omega arith) in
    let some = c.in_ok-sides-in-len1-up.ensures.sides in
    let fits_views : FitsSigned w64 views = fits_64 _ (2 ^ 20) (omega (arith, ints, some.0, some.1)) (omega arith) in
    let block : IsBlock c.args.job.now c.args.count stroke place.figure views c.args.out.now.items c.put_stroke.new.out.items = simp to_z-of_z at c.in_ok-sides-in-len1-up.ensures.block in
    let higher : c.next_place-next.result.figure ≡ (place.figure +ℤ views) +ℤ pos 3 = simp to_z-of_z at c.next_place-next.ensures.next in
    blocks_put c.args.job.now place.key no_step c.args.count place.number c.next_place-next.result.number place.figure views c.next_place-next.result.figure steps c.next_place-next.result.key stroke c.args.out.now.items c.put_stroke.new.out.items c.put_last_strokes.new.out.items c.put_last_strokes.result c.in-len1-up.len_at_least told c.next_place-next.ensures.number higher
    (c.next_place-next.ensures.key ∙ key_behind c.args.job.now place.number place.key (get_or steps 0 no_step) stroke told) block c.put_last_strokes.ensures
