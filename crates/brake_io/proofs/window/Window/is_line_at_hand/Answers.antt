use Rattle.std.proofs.Common.{sym, inl}
use Rattle.std.proofs.lemmas.Bool.{ltb-true}
use Rattle.brake_io.proofs.Parts.{line_behind}
use Rattle.brake_io.proofs.window.Window.is_line_at_hand.Goals as goal

pub returns-in-Some : goal.returns-in-Some
returns-in-Some g c = λ more. inl (rw c.unread-unread.ensures at (line_behind c.unread-unread.result.now c.min.result c.in-Some.at (sym c.in-Some.ensures) (ltb-true _ _ more)))
