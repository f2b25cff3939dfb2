use Rattle.std.proofs.Common.{◌≡◌, ◌∙◌, ap, ℕ, ◌∷◌, ◌-◌, get_or, take, drop, length, map, string_bytes}
use Rattle.std.proofs.lemmas.Result.{IfOk-weaker}
use Rattle.command_runner.specs.declared.fetching.FetchStop.TheVariants.{TooLong}
use Rattle.command_runner.specs.Answers.{answer_data, long_refused}
use Rattle.command_runner.specs.Fetching.{file_words}
use Rattle.command_runner.specs.Ends.{HasRest}
use Rattle.command_runner.proofs.Rests.{refused_rest}
use Rattle.command_runner.proofs.Readings.{no_file, first_few, first_and_others, reads_rest}
use Rattle.command_runner.proofs.reading.answer_of_reading.Goals as goal

pub answer_to_files-requires-clause-limit : goal.answer_to_files-requires-clause-limit
answer_to_files-requires-clause-limit g c = first_few c.kinds.result.now c.as_slice.result.now (c.as_slice.ensures.value ∙ c.in-Ok.ensures)

pub returns-in-Ok-answer_to_files-clause-ok : goal.returns-in-Ok-answer_to_files-clause-ok
returns-in-Ok-answer_to_files-clause-ok g c =
    let form = g.C.ReadingCommand.form c.args.command.now in
    let files = c.as_slice.result.now in
    let all = get_or files 0 no_file ∷ take (length files - 1) (drop 1 files) in
    let is : all ≡ file_words form = first_and_others files c.in-len1-up.len_at_least ∙ c.as_slice.ensures.value ∙ c.in-Ok.ensures ∙ ap file_words c.kinds.ensures.kinds in
    let told = c.in-Ok-answer_to_files.ensures in
    reads_rest form (g.C.ReadingCommand.meaning c.args.command.now) (map string_bytes c.args.words.now) all (g.H.Shelf.state c.args.shelf.now) (g.H.Shelf.state c.answer_to_files.new.shelf) (answer_data c.in-Ok-answer_to_files.answer)
    is told.only told.answer (told.faults (λ fails. cc))

pub returns-clause-ok : goal.returns-clause-ok
returns-clause-ok g c =
    let form = g.C.ReadingCommand.form c.args.command.now in
    let words = map string_bytes c.args.words.now in
    let files = c.as_slice.result.now in
    let all = get_or files 0 no_file ∷ take (length files - 1) (drop 1 files) in
    let is : all ≡ file_words form = first_and_others files c.in-len1-up.len_at_least ∙ c.as_slice.ensures.value ∙ c.in-Ok.ensures ∙ ap file_words c.kinds.ensures.kinds in
    let stop = c.in-Err-answer_to_files.stop in
    IfOk-weaker c.answer_to_stop.result (λ answer. (number : ℕ) × (stop ≡ TooLong number) × (answer_data answer ≡ long_refused number))
    (λ answer. HasRest form (g.C.ReadingCommand.meaning c.args.command.now) words (g.H.Shelf.state c.args.shelf.now) (g.H.Shelf.state c.answer_to_files.new.shelf) (answer_data answer))
    (λ answer told. let long : stop ≡ TooLong told.0 = told.1 in
    refused_rest form (g.C.ReadingCommand.meaning c.args.command.now) words all told.0 (g.H.Shelf.state c.args.shelf.now) (g.H.Shelf.state c.answer_to_files.new.shelf) (answer_data answer)
    is c.in-Err-answer_to_files.ensures.only (rw long at c.in-Err-answer_to_files.ensures.too_long) (c.in-Err-answer_to_files.ensures.faults (λ fails. cc)) told.2) c.answer_to_stop.ensures.answer
