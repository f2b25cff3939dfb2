use Rattle.std.proofs.Common.{◌≡◌, map, take}
use Rattle.sheet_page.specs.Refused.{note_words}
use Rattle.sheet_page.proofs.refusal_table.all_words.Given as goal

-- the words so far
abbrev pub invariant-loop-note : goal.invariant-loop-note
invariant-loop-note l = map (λ words. words.items) l.words.items ≡ map (note_words l.job l.mask) (take l.note-index l.notes)
