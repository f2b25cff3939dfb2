use Rattle.std.proofs.Common.{◌≡◌, ℕ, List, ◌∷◌, [], ◌++◌, Ok, Err, map, string_bytes, Vec, Global, refl, ap, sym, subst, ◌∙◌, rules}
use Rattle.std.specs.Vec.{vec_items}
use Rattle.command_runner.specs.Fetching.{file_of, names_of, IsFetched}
use Rattle.command_runner.specs.declared.fetching.FetchStop.{FetchStop}
use Rattle.command_runner.specs.declared.fetching.FetchStop.TheVariants.{Fault}
use Rattle.command_runner.proofs.Storing.{same_error}
use Rattle.command_runner.proofs.Readings.{passes_nothing, text_content, text_too_long, text_untold, all_read, stops_at_end, stops_behind, stops_first, fails_behind, no_cause, either_cause}
use Rattle.command_runner.proofs.reading.answer_to_files.Goals as goal

pub returns-in_err-window-clause-too_long : goal.returns-in_err-window-clause-too_long
returns-in_err-window-clause-too_long g c =
    let stopped : c.from_residual.result ≡ Err c.in_err-window.field-0.0 = search rules in
    let words = map string_bytes c.args.words.now in
    rw stopped (stops_first c.in_err-window.field-0.0 (g.H.Shelf.state c.args.shelf.now) (g.H.Shelf.state c.open.new.shelf) (file_of words c.args.first) (map (file_of words) c.args.others.now) c.in_err-window.ensures.too_long)

pub returns-in_err-close-in-Ok-clause-too_long : goal.returns-in_err-close-in-Ok-clause-too_long
returns-in_err-close-in-Ok-clause-too_long g c =
    let stopped : c.from_residual-in_err-close-in-Ok.result ≡ Err c.in_err-close-in-Ok.field-0.0 = search rules in
    let words = map string_bytes c.args.words.now in
    let a = g.H.Shelf.state c.args.shelf.now in
    let first = file_of words c.args.first in
    let answers = c.in_ok-answer-in-Ok.ensures.answer in
    rw stopped (stops_at_end a (g.H.Shelf.state c.open.new.shelf) (g.H.Shelf.state c.fetch_all.new.shelf) (g.H.Shelf.state c.close.new.shelf) first (map (file_of words) c.args.others.now) c.in_ok-window.ensures.only.content c.in_ok-window.ensures.longs
    c.in_err-close-in-Ok.field-0.0 (map vec_items c.in-Ok.contents.items) c.answer_from.new.window c.in-Ok.ensures.fetched (text_too_long a first c.in_ok-window.window c.answer_from.new.window answers.passed c.in_ok-window.ensures.window answers.has_passed)
    c.in_err-close-in-Ok.ensures.too_long)

pub returns-in_ok-close-in-Ok-clause-answer : goal.returns-in_ok-close-in-Ok-clause-answer
returns-in_ok-close-in-Ok-clause-answer g c =
    let words = map string_bytes c.args.words.now in
    let a = g.H.Shelf.state c.args.shelf.now in
    let first = file_of words c.args.first in
    let contents = map vec_items c.as_slice.result.now in
    let answers = c.in_ok-answer-in-Ok.ensures.answer in
    let fetched : IsFetched (g.H.Shelf.state c.open.new.shelf) (g.H.Shelf.state c.fetch_all.new.shelf) (map (file_of words) c.args.others.now) (Ok contents) =
    subst (λ (l : List (Vec ℕ Global)). IsFetched (g.H.Shelf.state c.open.new.shelf) (g.H.Shelf.state c.fetch_all.new.shelf) (map (file_of words) c.args.others.now) (Ok (map vec_items l))) (sym c.as_slice.ensures.value) c.in-Ok.ensures.fetched in
    let whole = c.in_ok-close-in-Ok.ensures.whole in
    let text = (answers.passed ++ c.answer_from.new.window.unread) ++ whole.last in
    record {
      contents = text ∷ contents;
      is_fetched = all_read a (g.H.Shelf.state c.open.new.shelf) (g.H.Shelf.state c.fetch_all.new.shelf) (g.H.Shelf.state c.close.new.shelf) first (map (file_of words) c.args.others.now) c.in_ok-window.ensures.only.content c.in_ok-window.ensures.longs
          text contents (Ok contents) (text_content a first c.in_ok-window.window c.answer_from.new.window answers.passed c.in_ok-window.ensures.window answers.has_passed whole) fetched refl c.in_ok-close-in-Ok.ensures.longs;
      is_one = answers.is_one whole.last whole.over;
    }

pub returns-in-Err-clause-too_long : goal.returns-in-Err-clause-too_long
returns-in-Err-clause-too_long g c =
    let words = map string_bytes c.args.words.now in
    let a = g.H.Shelf.state c.args.shelf.now in
    let first = file_of words c.args.first in
    let window = c.in_ok-window.window in
    stops_behind a (g.H.Shelf.state c.open.new.shelf) (g.H.Shelf.state c.fetch_all.new.shelf) (g.H.Shelf.state c.stop_behind.new.shelf) first (map (file_of words) c.args.others.now) c.in_ok-window.ensures.only.content c.in_ok-window.ensures.longs
    c.stop_behind.result c.in-Err.stop window (text_too_long a first window window [] c.in_ok-window.ensures.window (passes_nothing window))
    (λ whole. (([] ++ window.unread) ++ whole.last, text_content a first window window [] c.in_ok-window.ensures.window (passes_nothing window) whole))
    c.in-Err.ensures.fetched c.stop_behind.ensures.too_long

pub returns-in-Err-clause-faults : goal.returns-in-Err-clause-faults
returns-in-Err-clause-faults g c = λ no.
    c.stop_behind.ensures.faults (λ is. no (ap (λ (stop : FetchStop). Err stop) is))
    ∙ c.in-Err.ensures.faults (λ fails. no (ap (λ (stop : FetchStop). Err stop) (c.stop_behind.ensures.kept (same_error (Err c.in-Err.stop) c.in-Err.stop Fault refl fails))))
    ∙ c.in_ok-window.ensures.faults (λ fails. cc)

pub returns-in-Err-clause-cause : goal.returns-in-Err-clause-cause
returns-in-Err-clause-cause g c = λ fails.
    let words = map string_bytes c.args.words.now in
    let a = g.H.Shelf.state c.args.shelf.now in
    let first = file_of words c.args.first in
    let window = c.in_ok-window.window in
    let failed : c.stop_behind.result ≡ Fault = same_error (Err c.stop_behind.result) c.stop_behind.result Fault refl fails in
    either_cause (names_of (first ∷ map (file_of words) c.args.others.now)) a (g.H.Shelf.state c.stop_behind.new.shelf) (c.in-Err.stop ≡ Fault) _
    (λ other. fails_behind a (g.H.Shelf.state c.open.new.shelf) (g.H.Shelf.state c.fetch_all.new.shelf) (g.H.Shelf.state c.stop_behind.new.shelf) first (map (file_of words) c.args.others.now) c.in_ok-window.ensures.only.content c.in_ok-window.ensures.never_falls.calls c.stop_behind.ensures.never_falls.calls
    (c.in-Err.ensures.cause (ap (λ (stop : FetchStop). Err stop) other)))
    (λ own. no_cause (names_of (first ∷ map (file_of words) c.args.others.now)) a (g.H.Shelf.state c.stop_behind.new.shelf) (text_untold a first window window [] c.in_ok-window.ensures.window (passes_nothing window) own.1))
    (c.stop_behind.ensures.fault failed)
