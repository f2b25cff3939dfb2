use Rattle.std.proofs.Common.{◌-◌, ◌<◌, length, take, drop, arith}
use Rattle.std.proofs.lemmas.Int.{ints}
use Rattle.std.proofs.lemmas.List.Elements.{All-take, All-drop}
use Rattle.sheet_page.specs.Kept.{IsStateOf}
use Rattle.sheet_page.proofs.Blocks.{tail_short}
use Rattle.sheet_page.proofs.no_plan.+put_dead_ends.Goals as goal

pub put_dead_ends-requires : goal.put_dead_ends-requires
put_dead_ends-requires t c =
    let states = c.args.states.now in
    let short = tail_short states c.in-len1-up.len_at_least in
    let less : length (take (length states - 1) (drop 1 states)) < t = omega (arith, c.decreases, short) in
    let are = IsStateOf c.args.job.now c.args.cert.now.notes.items in
    let pictures = c.in_ok-count-in-len1-up.ensures.count in (
      less,
      (
        All-take are (length states - 1) (drop 1 states) (All-drop are 1 states c.requires.states),
        record {
          low = omega (arith, ints, c.figure_behind-next.ensures, pictures.low, pictures.high, c.requires.figure.low, c.requires.figure.high, short);
          high = omega (arith, ints, c.figure_behind-next.ensures, pictures.low, pictures.high, c.requires.figure.low, c.requires.figure.high, short);
        },
      ),
    )
