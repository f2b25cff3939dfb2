use Rattle.std.proofs.Common.{◌≡◌, ℕ, map, string_bytes, ap, ◌∙◌}
use Rattle.std.proofs.lemmas.Result.{IfOk-weaker}
use Rattle.std.specs.Vec.{vec_items}
use Rattle.command_runner.specs.declared.fetching.FetchStop.TheVariants.{TooLong}
use Rattle.command_runner.specs.Answers.{answer_data, long_refused}
use Rattle.command_runner.specs.Fetching.{file_words}
use Rattle.command_runner.specs.Ends.{HasRest}
use Rattle.command_runner.proofs.Rests.{has_rest, stops_short, refused_rest}
use Rattle.command_runner.proofs.running.answer_of.Goals as goal

pub returns-in-Ok-answer-clause-ok : goal.returns-in-Ok-answer-clause-ok
returns-in-Ok-answer-clause-ok g c =
    let files : c.as_slice.result.now ≡ file_words (g.C.Command.form c.args.command.now) = c.as_slice.ensures.value ∙ c.in-Ok.ensures ∙ ap file_words c.kinds.ensures.kinds in
    has_rest (g.C.Command.form c.args.command.now) (g.C.Command.meaning c.args.command.now) (map string_bytes c.args.words.now) c.as_slice.result.now (map vec_items c.in-Ok-fetch_all.contents.items)
    (g.H.Shelf.state c.args.shelf.now) (g.H.Shelf.state c.fetch_all.new.shelf) (g.H.Shelf.state c.answer.new.shelf) (answer_data c.in-Ok-answer.answer)
    files c.in-Ok-fetch_all.ensures.only c.in-Ok-fetch_all.ensures.fetched (c.in-Ok-fetch_all.ensures.faults (λ fails. cc)) (rw c.as_slice-in-Ok-fetch_all.ensures.value at c.in-Ok-answer.ensures.answer)

pub returns-clause-ok : goal.returns-clause-ok
returns-clause-ok g c =
    let words = map string_bytes c.args.words.now in
    let files : c.as_slice.result.now ≡ file_words (g.C.Command.form c.args.command.now) = c.as_slice.ensures.value ∙ c.in-Ok.ensures ∙ ap file_words c.kinds.ensures.kinds in
    IfOk-weaker c.answer_to_stop.result (λ answer. (number : ℕ) × (c.in-Err-fetch_all.stop ≡ TooLong number) × (answer_data answer ≡ long_refused number))
    (λ answer. HasRest (g.C.Command.form c.args.command.now) (g.C.Command.meaning c.args.command.now) words (g.H.Shelf.state c.args.shelf.now) (g.H.Shelf.state c.fetch_all.new.shelf) (answer_data answer))
    (λ answer told. let is : c.in-Err-fetch_all.stop ≡ TooLong told.0 = told.1 in
    refused_rest (g.C.Command.form c.args.command.now) (g.C.Command.meaning c.args.command.now) words c.as_slice.result.now told.0 (g.H.Shelf.state c.args.shelf.now) (g.H.Shelf.state c.fetch_all.new.shelf) (answer_data answer)
    files c.in-Err-fetch_all.ensures.only (rw is at c.in-Err-fetch_all.ensures.fetched) (c.in-Err-fetch_all.ensures.faults (λ fails. cc)) told.2) c.answer_to_stop.ensures.answer

pub returns-in-Err-Failed-clause-stops : goal.returns-in-Err-Failed-clause-stops
returns-in-Err-Failed-clause-stops g c =
    let files : c.as_slice.result.now ≡ file_words (g.C.Command.form c.args.command.now) = c.as_slice.ensures.value ∙ c.in-Ok.ensures ∙ ap file_words c.kinds.ensures.kinds in
    stops_short (g.C.Command.form c.args.command.now) (g.C.Command.begins c.args.command.now) (map string_bytes c.args.words.now) c.as_slice.result.now (map vec_items c.in-Ok-fetch_all.contents.items)
    (g.H.Shelf.state c.args.shelf.now) (g.H.Shelf.state c.fetch_all.new.shelf) (g.H.Shelf.state c.answer.new.shelf)
    files c.in-Ok-fetch_all.ensures.only c.in-Ok-fetch_all.ensures.fetched (rw c.as_slice-in-Ok-fetch_all.ensures.value at c.in-Err-Failed.ensures.begins)

pub returns-in-Ok-fetch_all-clause-stops : goal.returns-in-Ok-fetch_all-clause-stops
returns-in-Ok-fetch_all-clause-stops g c =
    let files : c.as_slice.result.now ≡ file_words (g.C.Command.form c.args.command.now) = c.as_slice.ensures.value ∙ c.in-Ok.ensures ∙ ap file_words c.kinds.ensures.kinds in
    stops_short (g.C.Command.form c.args.command.now) (g.C.Command.begins c.args.command.now) (map string_bytes c.args.words.now) c.as_slice.result.now (map vec_items c.in-Ok-fetch_all.contents.items)
    (g.H.Shelf.state c.args.shelf.now) (g.H.Shelf.state c.fetch_all.new.shelf) (g.H.Shelf.state c.answer.new.shelf)
    files c.in-Ok-fetch_all.ensures.only c.in-Ok-fetch_all.ensures.fetched (rw c.as_slice-in-Ok-fetch_all.ensures.value at c.in-Err-NoMemory.ensures.begins)
