use Rattle.plan_lines.proofs.PlanItems.{line_given}
use Rattle.plan_lines.proofs.plan_reader.pass_line.Goals as goal

pub returns-clause-given : goal.returns-clause-given
returns-clause-given c = λ answer behind answers next left some holds.
    rw c.next_number-reader.ensures (line_given c.args.reader.now.place answers c.args.reader.now.rest.now c.args.rest.now behind (answer, c.args.section) left some (λ job kept. next.gives job behind kept holds))
