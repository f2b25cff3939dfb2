use Rattle.std.proofs.Common.{◌≡◌, ℕ, get_or, take}
use Rattle.brake_base.specs.declared.stroke.Back.{Back}
use Rattle.plan_lines.specs.declared.note.Note.{Note}
use Rattle.sheet_page.specs.Refused.{is_refused_so}
use Rattle.sheet_page.specs.Ways.{has_mark}
use Rattle.sheet_page.proofs.refusal_table.Refusals.ways_of_row.Given as goal

-- the ways so far
abbrev pub invariant-loop-i : goal.invariant-loop-i
invariant-loop-i l =
    (d : Note) (back : Back) (station : ℕ) → has_mark l.ways back station ≡ is_refused_so l.self.job.now l.self.mask (take l.i l.self.notes.now) (get_or l.self.notes.now l.at d) back station
