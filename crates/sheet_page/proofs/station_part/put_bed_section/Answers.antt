use Rattle.sheet_paper.proofs.Texts.{word_hole}
use Rattle.sheet_page.proofs.Sections.{bed_put}
use Rattle.sheet_page.proofs.station_part.put_bed_section.Goals as goal

pub returns : goal.returns
returns c =
    bed_put c.args.job.now c.stages.result c.args.out.now.items c.put_line-2.new.out.items c.put_line-2.result c.stages.ensures.value (simp word_hole at c.in_ok-put_line.ensures) c.in_ok-put_heading.ensures c.in_ok-put_bed.ensures.value c.in_ok-put_front.ensures.value c.put_line-2.ensures
