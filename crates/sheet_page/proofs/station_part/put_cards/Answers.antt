use Rattle.std.proofs.Common.{◌≡◌, arith}
use Rattle.job_setup.specs.Setup.{stage_count}
use Rattle.sheet_page.proofs.Sections.{cards_put}
use Rattle.sheet_page.proofs.station_part.put_cards.Goals as goal

pub returns : goal.returns
returns c =
    let all : c.loop-number.number ≡ stage_count c.args.job.now = omega (arith, c.loop-number.auto.number-end, c.loop-number-test.false, c.stages-number-end.ensures.value) in
    cards_put c.args.job.now c.loop-number.number c.args.out.now.items c.loop-number.out.items c.put_line-2.new.out.items c.put_line-2.result all c.loop-number.invariant c.put_line-2.ensures
