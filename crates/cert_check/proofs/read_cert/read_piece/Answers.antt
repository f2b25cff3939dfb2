use Rattle.std.proofs.Common.{◌++◌, false, true, refl, ◌∙◌}
use Rattle.cert_lines.proofs.WholeLines.{all_behind, behind_both}
use Rattle.cert_check.specs.KnownNotes.{KnowsSound}
use Rattle.cert_check.specs.RowNotes.{IsTesting}
use Rattle.cert_check.proofs.KnownLemmas.{knows_none}
use Rattle.cert_check.proofs.ReadLemmas.{of_ok, piece_goes}
use Rattle.cert_check.proofs.read_cert.read_piece.Goals as goal

pub loop-answer-init : goal.loop-answer-init
loop-answer-init c = record {
  few = c.requires.few;
  testing = c.requires.testing;
  lines = knows_none c.args.read.now.job c.args.read.now.notes c.new-lines.result (c.new-lines.ensures.stages ∙ c.stages.ensures.value) c.new-lines.ensures.none;
  rest = all_behind c.args.reader.now.rest.now;
  reads = λ kind text behind may is. is;
}

pub loop-answer-preserved : goal.loop-answer-preserved
loop-answer-preserved c =
    let now = c.loop-answer.invariant in
    let took = c.take_items.ensures in
    let next = c.take_items.new in
    let was = c.in_ok-answer.was in
    let goes = c.in_ok-answer.field-0 in
    record {
      few = took.few;
      testing = of_ok c.in-Some.answer goes (IsTesting next.read.job next.read.notes) was c.in-Some.ensures.testing;
      lines = of_ok c.in-Some.answer goes (KnowsSound next.read.job next.read.notes next.lines) was c.in-Some.ensures.lines;
      rest = behind_both c.args.reader.now.rest.now c.loop-answer.reader.rest.now next.reader.rest.now now.rest took.rest;
      reads = λ kind text behind may is. piece_goes c.in-Some.answer goes true kind text next.read next.reader.place (next.reader.rest.now ++ behind) was c.if-not-branch.false (c.in-Some.ensures.item kind text behind may (now.reads kind text behind may is));
    }

pub returns-in_default-clause-rest : goal.returns-in_default-clause-rest
returns-in_default-clause-rest c = behind_both c.args.reader.now.rest.now c.loop-answer.reader.rest.now c.take_items.new.reader.rest.now (c.loop-answer.invariant).rest c.take_items.ensures.rest

pub returns-in_err-answer-clause-rest : goal.returns-in_err-answer-clause-rest
returns-in_err-answer-clause-rest c = behind_both c.args.reader.now.rest.now c.loop-answer.reader.rest.now c.take_items.new.reader.rest.now (c.loop-answer.invariant).rest c.take_items.ensures.rest

pub returns-then-not-branch-clause-rest : goal.returns-then-not-branch-clause-rest
returns-then-not-branch-clause-rest c = behind_both c.args.reader.now.rest.now c.loop-answer.reader.rest.now c.take_items.new.reader.rest.now (c.loop-answer.invariant).rest c.take_items.ensures.rest

pub returns-in_default-clause-answer : goal.returns-in_default-clause-answer
returns-in_default-clause-answer c = λ kind text behind may is. c.in_default.ensures.none refl kind text behind ((c.loop-answer.invariant).reads kind text behind may is)

pub returns-then-not-branch-clause-answer : goal.returns-then-not-branch-clause-answer
returns-then-not-branch-clause-answer c = λ kind text behind may is.
    let next = c.take_items.new in
    piece_goes c.in-Some.answer c.in_ok-answer.field-0 false kind text next.read next.reader.place (next.reader.rest.now ++ behind) c.in_ok-answer.was c.if-not-branch.true (c.in-Some.ensures.item kind text behind may ((c.loop-answer.invariant).reads kind text behind may is))
