use Rattle.sheet_figures.proofs.sweep.put_swept.Goals as goal

pub returns : goal.returns
returns c = record { radii = c.drawn_radii-radii.result; radii_are = c.drawn_radii-radii.ensures.value; text = c.in_ok-put_with_radii.ensures }
