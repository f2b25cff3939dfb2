use Rattle.fold_boxes.proofs.Leads.{least_is_lead}
use Rattle.job_setup.specs.Setup.{shape_of}
use Rattle.stroke_table.proofs.gathering.lead_of.Goals as goal

pub returns : goal.returns
returns c = least_is_lead (shape_of c.args.job.now) c.args.stroke.now.of.group c.in-Some.lead c.requires.some c.in-Some.ensures.some
