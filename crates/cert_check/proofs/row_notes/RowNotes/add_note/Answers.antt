use Rattle.std.proofs.Common.{◌≡◌, ◌-◌, ◌∷◌, ◌++◌, [], ℕ, List, length, length-set, arith, sym, ◌∙◌, ap, subst}
use Rattle.stage_lanes.specs.declared.actions.ActionSet.{ActionSet}
use Rattle.cert_check.specs.RowNotes.{note_at, AreNoted, IsActionPut, IsAtRow, IsFirstUnsound}
use Rattle.cert_check.proofs.NoteLemmas.{noted_note, written_back}
use Rattle.cert_check.proofs.row_notes.RowNotes.add_note.Goals as goal

pub returns-then-is_notable-clause-sets : goal.returns-then-is_notable-clause-sets
returns-then-is_notable-clause-sets c = λ rows notes some low are.
    let job = c.args.job.now in
    let sets = c.args.self.now.sets.items in
    let row : c.last_row-row.result ≡ length sets - 1 = c.last_row-row.ensures in
    let count = are.count in
    let slice = c.as_mut_slice.ensures in
    let put = subst (λ (n : ℕ). IsActionPut job n c.args.action sets c.put_action.new.sets) row
    (subst (λ (l : List ActionSet). IsActionPut job c.last_row-row.result c.args.action l c.put_action.new.sets) slice.value c.put_action.ensures) in
    let len = c.args.self.now.sets.len in
    let before : length sets ≡ len = sym (ap length slice.value) ∙ slice.len in
    let after : length c.put_action.new.sets ≡ len = ap length put.put ∙ (length-set sets (length sets - 1) put.set ∙ before) in
    subst (AreNoted job rows (notes ++ note_at (length sets - 1) c.args.action c.args.reason ∷ []))
    (sym (c.test.ensures.sets ∙ written_back len c.put_action.new.sets sets after before))
    (noted_note job c.recall_valid.ensures rows notes sets c.put_action.new.sets (length sets - 1) c.args.action c.args.reason (omega (arith, some, count)) low put are)

pub returns-then-is_notable-clause-unsound : goal.returns-then-is_notable-clause-unsound
returns-then-is_notable-clause-unsound c = λ rows notes some at first.
    let job = c.args.job.now in
    let sets = c.args.self.now.sets.items in
    let row : c.last_row-row.result ≡ length sets - 1 = c.last_row-row.ensures in
    subst (λ (n : ℕ). IsFirstUnsound job rows (notes ++ note_at n c.args.action c.args.reason ∷ []) c.test.new.self.unsound) row
    (c.test.ensures.unsound rows notes (subst (λ (n : ℕ). IsAtRow job rows c.args.self.now.folded.mask (note_at n c.args.action c.args.reason)) (sym row) at) first)

pub returns-else-is_notable-clause-sets : goal.returns-else-is_notable-clause-sets
returns-else-is_notable-clause-sets c = λ rows notes some low are.
    absurd (let count = are.count in let yes = c.is_notable.ensures.all (omega (arith, some, count)) low in let fails = c.if-is_notable.false in cc)

pub returns-else-is_notable-clause-unsound : goal.returns-else-is_notable-clause-unsound
returns-else-is_notable-clause-unsound c = λ rows notes some at first.
    absurd (let tried = at.tried in let yes = c.is_notable.ensures.all some tried.0 in let fails = c.if-is_notable.false in cc)
