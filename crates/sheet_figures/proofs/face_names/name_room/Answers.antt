use Rattle.std.proofs.Common.{arith}
use Rattle.std.proofs.lemmas.Grind.{common_steps}
use Rattle.sheet_figures.proofs.face_names.name_room.Goals as goal

pub returns-then-room-lt100-clause-x : goal.returns-then-room-lt100-clause-x
returns-then-room-lt100-clause-x c = grind (arith, common_steps)

pub returns-then-room-lt100-clause-y : goal.returns-then-room-lt100-clause-y
returns-then-room-lt100-clause-y c = grind (arith, common_steps)

pub returns-then-room-lt100-2-clause-x : goal.returns-then-room-lt100-2-clause-x
returns-then-room-lt100-2-clause-x c = grind (arith, common_steps)

pub returns-then-room-lt100-2-clause-y : goal.returns-then-room-lt100-2-clause-y
returns-then-room-lt100-2-clause-y c = grind (arith, common_steps)

pub returns-else-face-gt0-2-clause-x : goal.returns-else-face-gt0-2-clause-x
returns-else-face-gt0-2-clause-x c = grind (arith, common_steps)

pub returns-else-face-gt0-2-clause-y : goal.returns-else-face-gt0-2-clause-y
returns-else-face-gt0-2-clause-y c = grind (arith, common_steps)
