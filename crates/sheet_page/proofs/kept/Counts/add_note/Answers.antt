use Rattle.std.proofs.Common.{◌∙◌, ◌+◌, ap}
use Rattle.std.specs.Prelude.{◌==◌, ◌&&◌, cond}
use Rattle.brake_base.specs.declared.stroke.Action.{Action}
use Rattle.brake_base.specs.Reasons.{kind_of}
use Rattle.sheet_page.specs.Kept.{count_in}
use Rattle.sheet_page.proofs.kept.Counts.add_note.Goals as goal

pub returns : goal.returns
returns c = λ b k. c.add.ensures b k ∙ ap (λ (a : Action). count_in c.args.self.now b k + cond (a.bend == b && kind_of c.args.note.now.reason == k) 1 0) c.action_in.ensures.value
