use Rattle.std.proofs.Common.{◌≡◌, ℕ, ◌≤◌, ◌<◌, ◌++◌, List, length, get_or, drop}
use Rattle.std.specs.Prelude.{None}
use Rattle.plan_lines.specs.declared.note.Note.{Note}
use Rattle.sheet_page.specs.Kept.{StateData, last_states, IsKept, HasFew}
use Rattle.sheet_page.proofs.kept.kept_of.Given as goal

-- the states so far and those of the rows that are left are all
abbrev pub invariant-loop-i : goal.invariant-loop-i
invariant-loop-i l = record {
  within : l.begin ≤ length l.notes;
  few : HasFew l.i l.begin l.kept;
  kept : (so_far : List StateData) × IsKept l.job l.notes so_far l.kept
      × (so_far ++ last_states l.notes l.i l.before (drop l.i l.rows) ≡ last_states l.notes 0 None l.rows);
  lesser : (k : ℕ) (d : Note) → k < l.begin → (get_or l.notes k d).row < l.i;
  from : (k : ℕ) (d : Note) → l.begin ≤ k → k < length l.notes → l.i ≤ (get_or l.notes k d).row;
}
