use Rattle.std.proofs.Common.{refl, rules, ◌∙◌, map}
use Rattle.std.specs.Vec.{vec_items}
use Rattle.std.proofs.KnownBytes.{Appends-nil}
use Rattle.std.proofs.lemmas.List.{take_all}
use Rattle.brake_io.specs.Meanings.{PutsPart}
use Rattle.command_runner.specs.Answers.{concatenation}
use Rattle.command_runner.proofs.Putting.{put_more, put_up_to}
use Rattle.command_runner.proofs.delivery.put_all.Goals as goal

pub loop-text-init : goal.loop-text-init
loop-text-init g c = record { put = Appends-nil _; faults = refl }

pub loop-text-preserved : goal.loop-text-preserved
loop-text-preserved g c =
    let so_far = c.loop-text.invariant in
    record {
      put = put_more c.args.texts.now c.loop-text.text-index c.text-item.result c.as_slice.result.now (g.K.Sink.state c.args.out.now) (g.K.Sink.state c.loop-text.out) (g.K.Sink.state c.put.new.self)
          c.loop-text-test.true c.text-item.is c.as_slice.ensures.value so_far.put c.in_ok-put.ensures.ok;
      faults = c.in_ok-put.ensures.faults ∙ so_far.faults;
    }

pub returns-in_err-put-clause-err : goal.returns-in_err-put-clause-err
returns-in_err-put-clause-err g c =
    let so_far = c.loop-text.invariant in
    let part : PutsPart (g.K.Sink.state c.args.out.now) (g.K.Sink.state c.put.new.self) (concatenation (map vec_items c.args.texts.now)) =
    put_up_to c.args.texts.now c.loop-text.text-index c.text-item.result c.as_slice.result.now (g.K.Sink.state c.args.out.now) (g.K.Sink.state c.loop-text.out) (g.K.Sink.state c.put.new.self)
    c.loop-text-test.true c.text-item.is c.as_slice.ensures.value so_far.put c.in_err-put.ensures.err in
    search (rules, part)

pub returns-clause-ok : goal.returns-clause-ok
returns-clause-ok g c = rw (take_all c.loop-text.text-index c.args.texts.now c.loop-text-test.false) at c.loop-text.invariant.put
