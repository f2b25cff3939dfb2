use Rattle.std.proofs.Common.{◌∙◌, get_or, ap}
use Rattle.sheet_page.specs.Refused.{note_words}
use Rattle.sheet_page.proofs.Told.{told_at}
use Rattle.sheet_page.proofs.refusal_table.Refusals.words.Goals as goal

pub returns : goal.returns
returns c = λ d.
    let refusals = c.args.self.now in
    let is = c.index-words-at.is ∙ ap (λ words. get_or words c.args.at c.index-words-at.result) c.as_slice-words.ensures.value in
    c.as_slice.ensures.value
    ∙ told_at (λ words. words.items) (note_words refusals.job.now refusals.mask) refusals.words.items refusals.notes.now c.requires.refusals.told c.args.at c.index-words-at.result d c.requires.at is
