use Rattle.brake_base.specs.declared.stroke.Worth.TheVariants.{Cost, Blocked}
use Rattle.brake_draw.proofs.Drawing.{accepted_proved}
use Rattle.brake_draw.proofs.draw.drawn.Goals as goal

pub plan_drawn-requires : goal.plan_drawn-requires
plan_drawn-requires c = accepted_proved c.args.text.now c.args.job.now c.args.verdict (Cost c.in-Optimal.cost) c.in-Optimal.is c.requires.accepted c.requires.truth

pub no_plan_drawn-requires : goal.no_plan_drawn-requires
no_plan_drawn-requires c = accepted_proved c.args.text.now c.args.job.now c.args.verdict Blocked c.in-NoPlan.is c.requires.accepted c.requires.truth
