use Rattle.std.proofs.Common.{refl, arith, ap, List, ℕ, map, ◌++◌, sym}
use Rattle.plan_lines.specs.NoteLines.{note_told}
use Rattle.plan_lines.proofs.NoteRuns.{no_lines, taken_given}
use Rattle.plan_lines.proofs.NoteSets.{no_places}
use Rattle.cert_lines.proofs.WholeLines.{all_behind}
use Rattle.plan_lines.proofs.plan_reader.PlanReader.take_known.Goals as goal

pub returns-in-Notes-clause-told : goal.returns-in-Notes-clause-told
returns-in-Notes-clause-told c = λ behind answers left.
    rw c.number_behind-self.ensures (taken_given c.args.self.now.place c.args.known.now c.in-Notes.key c.in-Notes.least c.args.self.now.rest.now behind c.take-run.result answers c.in-Notes.is c.take-run.ensures.taken left)

pub returns-in_default : goal.returns-in_default
returns-in_default c =
    let known = c.args.known.now in
    let none = no_lines c.args.self.now.place.facts known (record { 0 = 0 }) 0 c.empty.result c.empty.ensures.value in
    record {
      told = λ behind answers left. (answers, ap (λ (places : List ℕ). map (note_told known) places ++ answers) (sym (no_places c.empty.result c.empty.ensures.value)), left);
      few = c.requires.few;
      rest = all_behind c.args.self.now.rest.now;
      shorter = let count = none.count_is in omega (arith, count);
      reasons = none.are_known;
      known = refl;
    }
