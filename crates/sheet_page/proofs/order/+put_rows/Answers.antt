use Rattle.std.proofs.Common.{◌-◌, ◌<◌, ◌≤◌, ◌+◌, length, take, drop, get_or, arith}
use Rattle.sheet_page.specs.Strokes.{stroke_data}
use Rattle.sheet_page.proofs.Blocks.{no_step, number_told, key_behind, tail_short, rest_told, rows_put}
use Rattle.sheet_page.proofs.order.+put_rows.Goals as goal

pub put_row-requires-clause-number : goal.put_row-requires-clause-number
put_row-requires-clause-number t c =
    let told = number_told c.args.job.now c.args.number c.args.key.now (get_or c.args.steps.now 0 no_step) (stroke_data c.stroke_at-stroke.result) c.stroke_at-stroke.ensures.value in
    omega (arith, told, c.requires.number)

pub put_rows-requires : goal.put_rows-requires
put_rows-requires t c =
    let steps = c.args.steps.now in
    let behind = key_behind c.args.job.now c.args.number c.args.key.now (get_or steps 0 no_step) (stroke_data c.stroke_at-stroke.result) c.stroke_at-stroke.ensures.value in
    let short = tail_short steps c.in-len1-up.len_at_least in
    let less : length (take (length steps - 1) (drop 1 steps)) < t = omega (arith, c.decreases, short) in
    let few : c.args.number + 1 + length (take (length steps - 1) (drop 1 steps)) ≤ 16 = omega (arith, short, c.requires.number) in
    (less, (c.stroke_at-stroke.ensures.good.next, (rest_told c.args.job.now c.args.key.now no_step steps c.stroke_at-stroke.result.after c.in-len1-up.len_at_least c.requires.steps behind, few)))

pub returns-in_ok-put_row-in-len1-up : goal.returns-in_ok-put_row-in-len1-up
returns-in_ok-put_row-in-len1-up t c =
    let steps = c.args.steps.now in
    let told = c.stroke_at-stroke.ensures.value in
    rows_put c.args.job.now c.args.key.now no_step c.args.number steps c.stroke_at-stroke.result.after (stroke_data c.stroke_at-stroke.result) c.args.out.now.items c.put_rows.new.out.items c.put_rows.result c.in-len1-up.len_at_least told
    (key_behind c.args.job.now c.args.number c.args.key.now (get_or steps 0 no_step) (stroke_data c.stroke_at-stroke.result) told) c.in_ok-put_row-in-len1-up.ensures c.put_rows.ensures
