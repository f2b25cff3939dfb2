use Rattle.job_setup.specs.Setup.{setup_data}
use Rattle.cert_lines.specs.Lines.{line_text}
use Rattle.cert_lines.proofs.JobTexts.{fixtures_written}
use Rattle.cert_lines.proofs.job_lines.put_fixtures.Goals as goal

pub returns : goal.returns
unfolding line_text
returns c =
    fixtures_written (setup_data c.args.setup.now) c.args.out.now.items c.put_bed.new.out.items c.put_frames.new.out.items c.put_all_fixed.new.out.items c.put_all_fixed-2.new.out.items
    c.in_ok-put_bed.ensures (rw c.as_slice.ensures.value at c.in_ok-put_frames.ensures) (rw c.as_slice-2.ensures.value at c.in_ok-put_all_fixed.ensures) (rw c.as_slice-3.ensures.value at c.in_ok-put_all_fixed-2.ensures)
