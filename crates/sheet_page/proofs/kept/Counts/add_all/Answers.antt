use Rattle.std.proofs.Common.{◌≡◌, ◌∙◌, ◌+◌, ◌<◌, ℕ, Bool, List, length, get_or, take, arith}
use Rattle.std.specs.Prelude.{cond, count_by}
use Rattle.std.proofs.lemmas.List.Sums.{sum_by_more}
use Rattle.plan_lines.specs.declared.note.Note.{Note}
use Rattle.sheet_page.specs.Kept.{count_in, is_of}
use Rattle.sheet_page.proofs.kept.Counts.add_all.Goals as goal

-- one more
one_more : (p : Note → Bool) (notes : List Note) (now was i : ℕ) (d : Note) → now ≡ was + count_by p (take i notes) → i < length notes → now + cond (p (get_or notes i d)) 1 0 ≡ was + count_by p (take (i + 1) notes)
one_more p notes now was i d is within =
    let more = sum_by_more (λ (n : Note). cond (p n) 1 0) notes i d within in
    omega (arith, is, more)

pub loop-note-preserved : goal.loop-note-preserved
loop-note-preserved c = λ b k.
    c.add_note.ensures b k
    ∙ one_more (is_of c.args.job.now b k) c.args.notes.now (count_in c.loop-note.self b k) (count_in c.args.self.now b k) c.loop-note.note-index _ (c.loop-note.invariant b k) (omega arith)
