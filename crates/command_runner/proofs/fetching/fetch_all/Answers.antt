use Rattle.std.proofs.Common.{◌≡◌, ◌++◌, ◌∷◌, [], Err, map, string_bytes, refl, ap, ◌∙◌, length-append, arith, rules}
use Rattle.std.specs.Vec.{vec_items}
use Rattle.command_runner.specs.declared.fetching.FileWord.{FileWord}
use Rattle.command_runner.specs.declared.fetching.FetchStop.{FetchStop}
use Rattle.command_runner.specs.declared.fetching.FetchStop.TheVariants.{Fault}
use Rattle.command_runner.proofs.Fetches.{contents_more, content_kept, fetched_all, stops_too_long, fault_cause}
use Rattle.command_runner.proofs.Storing.{none_falls, same_error}
use Rattle.command_runner.proofs.fetching.fetch_all.Goals as goal

-- what is read past the last file
no_file : FileWord
no_file = record { number = 0; place = 0; limit = 0 }

pub loop-file-init : goal.loop-file-init
loop-file-init g c = record {
  content = refl;
  calls = omega arith;
  falls = record { calls = omega arith; faults = omega arith; longs = omega arith };
  faults = refl;
  longs = refl;
  count = rw c.new-contents.ensures.items refl;
  contents = rw c.new-contents.ensures.items tt;
}

pub returns-in_err-bytes-clause-only : goal.returns-in_err-bytes-clause-only
returns-in_err-bytes-clause-only g c = record {
  content = c.in_err-bytes.ensures.content ∙ c.loop-file.invariant.content;
  calls = omega (arith, c.in_err-bytes.ensures.calls, c.loop-file.invariant.calls, c.loop-file-test.true);
}

pub returns-in_err-bytes-clause-never_falls : goal.returns-in_err-bytes-clause-never_falls
returns-in_err-bytes-clause-never_falls g c = none_falls _ _ _ c.loop-file.invariant.falls c.in_err-bytes.ensures.never_falls

pub returns-in_err-bytes-clause-fetched : goal.returns-in_err-bytes-clause-fetched
unfolding no_file
returns-in_err-bytes-clause-fetched g c =
    let so_far = c.loop-file.invariant in
    let stopped : c.from_residual.result ≡ Err c.in_err-bytes.field-0.0 = search rules in
    rw stopped (stops_too_long (g.H.Shelf.state c.args.shelf.now) (g.H.Shelf.state c.loop-file.shelf) (g.H.Shelf.state c.fetch.new.shelf) (map string_bytes c.args.words.now) c.args.files.now c.loop-file.file-index no_file (map vec_items c.loop-file.contents.items) c.in_err-bytes.field-0.0
    c.loop-file-test.true so_far.content so_far.longs so_far.contents c.in_err-bytes.ensures.too_long)

pub returns-in_err-bytes-clause-faults : goal.returns-in_err-bytes-clause-faults
returns-in_err-bytes-clause-faults g c = λ no.
    let stopped : c.from_residual.result ≡ Err c.in_err-bytes.field-0.0 = search rules in
    c.in_err-bytes.ensures.faults (λ fails. no (stopped ∙ ap (λ (stop : FetchStop). Err stop) (same_error (Err c.in_err-bytes.field-0.0) c.in_err-bytes.field-0.0 Fault refl fails))) ∙ c.loop-file.invariant.faults

pub returns-in_err-bytes-clause-fault : goal.returns-in_err-bytes-clause-fault
returns-in_err-bytes-clause-fault g c = λ fails.
    let stopped : c.from_residual.result ≡ Err c.in_err-bytes.field-0.0 = search rules in
    let failed : c.in_err-bytes.field-0.0 ≡ Fault = same_error c.from_residual.result c.in_err-bytes.field-0.0 Fault stopped fails in
    rw c.loop-file.invariant.faults at (c.in_err-bytes.ensures.fault (rw failed refl))

pub returns-in_err-bytes-clause-cause : goal.returns-in_err-bytes-clause-cause
unfolding no_file
returns-in_err-bytes-clause-cause g c = λ fails.
    let so_far = c.loop-file.invariant in
    let stopped : c.from_residual.result ≡ Err c.in_err-bytes.field-0.0 = search rules in
    let failed : c.in_err-bytes.field-0.0 ≡ Fault = same_error c.from_residual.result c.in_err-bytes.field-0.0 Fault stopped fails in
    fault_cause (g.H.Shelf.state c.args.shelf.now) (g.H.Shelf.state c.loop-file.shelf) (g.H.Shelf.state c.fetch.new.shelf) (map string_bytes c.args.words.now) c.args.files.now c.loop-file.file-index no_file
    c.loop-file-test.true so_far.content so_far.falls.calls (c.in_err-bytes.ensures.cause (rw failed refl))

pub loop-file-preserved : goal.loop-file-preserved
unfolding no_file
loop-file-preserved g c =
    let so_far = c.loop-file.invariant in
    let now = c.in_ok-bytes.ensures in
    let grown : c.push.new.self.items ≡ c.loop-file.contents.items ++ c.in_ok-bytes.bytes ∷ [] = c.in_ok-push.ensures.items in
    record {
      content = now.content ∙ so_far.content;
      calls = omega (arith, now.calls, so_far.calls);
      falls = none_falls _ _ _ so_far.falls now.never_falls;
      faults = now.faults (λ fails. cc) ∙ so_far.faults;
      longs = now.longs ∙ so_far.longs;
      count = rw (grown, length-append) (omega (arith, so_far.count));
      contents = rw grown (contents_more (g.H.Shelf.state c.args.shelf.now) (map string_bytes c.args.words.now) c.args.files.now c.loop-file.file-index no_file c.loop-file.contents.items c.in_ok-bytes.bytes c.loop-file-test.true so_far.contents
          (content_kept _ _ _ _ so_far.content now.read));
    }

pub returns-clause-fetched : goal.returns-clause-fetched
returns-clause-fetched g c =
    let so_far = c.loop-file.invariant in
    fetched_all (g.H.Shelf.state c.args.shelf.now) (g.H.Shelf.state c.loop-file.shelf) (map string_bytes c.args.words.now) c.args.files.now c.loop-file.file-index (map vec_items c.loop-file.contents.items) c.loop-file-test.false so_far.longs so_far.contents

pub returns-clause-only : goal.returns-clause-only
returns-clause-only g c = record {
  content = c.loop-file.invariant.content;
  calls = omega (arith, c.loop-file.invariant.calls, c.loop-file.auto.file-index-end);
}
