use Rattle.std.proofs.Common.{◌≡◌, sym, subst, map, string_bytes}
use Rattle.command_runner.specs.declared.status.Status.TheVariants as status
use Rattle.command_runner.specs.Ends.{Ends, MayFault}
use Rattle.brake_commands.specs.declared.command.Command.{Command}
use Rattle.brake_commands.specs.Forms.{kinds_of, form_of}
use Rattle.brake_commands.specs.Commands.{meaning_of, begins_of}
use Rattle.brake_commands.proofs.command.run_command.Goals as goal

pub returns-in-Check-clause-ends : goal.returns-in-Check-clause-ends
returns-in-Check-clause-ends g c =
    subst (λ (k : Command). Ends (kinds_of (form_of k)) (meaning_of k) (begins_of k) (map string_bytes c.args.words.now)
    (record { shelf = g.H.Shelf.state c.args.shelf.now; sink = g.K.Sink.state c.args.out.now })
    (record { shelf = g.H.Shelf.state c.run_reading.new.shelf; sink = g.K.Sink.state c.run_reading.new.out }) c.run_reading.result)
    (sym c.in-Check.is) c.run_reading.ensures.ends

pub returns-in-Check-clause-cause : goal.returns-in-Check-clause-cause
returns-in-Check-clause-cause g c =
    subst (λ (k : Command). c.run_reading.result ≡ status.Fault → MayFault (kinds_of (form_of k)) (map string_bytes c.args.words.now)
    (record { shelf = g.H.Shelf.state c.args.shelf.now; sink = g.K.Sink.state c.args.out.now })
    (record { shelf = g.H.Shelf.state c.run_reading.new.shelf; sink = g.K.Sink.state c.run_reading.new.out }))
    (sym c.in-Check.is) c.run_reading.ensures.cause

pub returns-in-CheckFiles-clause-ends : goal.returns-in-CheckFiles-clause-ends
returns-in-CheckFiles-clause-ends g c =
    subst (λ (k : Command). Ends (kinds_of (form_of k)) (meaning_of k) (begins_of k) (map string_bytes c.args.words.now)
    (record { shelf = g.H.Shelf.state c.args.shelf.now; sink = g.K.Sink.state c.args.out.now })
    (record { shelf = g.H.Shelf.state c.run_reading-in-CheckFiles.new.shelf; sink = g.K.Sink.state c.run_reading-in-CheckFiles.new.out }) c.run_reading-in-CheckFiles.result)
    (sym c.in-CheckFiles.is) c.run_reading-in-CheckFiles.ensures.ends

pub returns-in-CheckFiles-clause-cause : goal.returns-in-CheckFiles-clause-cause
returns-in-CheckFiles-clause-cause g c =
    subst (λ (k : Command). c.run_reading-in-CheckFiles.result ≡ status.Fault → MayFault (kinds_of (form_of k)) (map string_bytes c.args.words.now)
    (record { shelf = g.H.Shelf.state c.args.shelf.now; sink = g.K.Sink.state c.args.out.now })
    (record { shelf = g.H.Shelf.state c.run_reading-in-CheckFiles.new.shelf; sink = g.K.Sink.state c.run_reading-in-CheckFiles.new.out }))
    (sym c.in-CheckFiles.is) c.run_reading-in-CheckFiles.ensures.cause

pub returns-in-Prove-clause-ends : goal.returns-in-Prove-clause-ends
returns-in-Prove-clause-ends g c =
    subst (λ (k : Command). Ends (kinds_of (form_of k)) (meaning_of k) (begins_of k) (map string_bytes c.args.words.now)
    (record { shelf = g.H.Shelf.state c.args.shelf.now; sink = g.K.Sink.state c.args.out.now })
    (record { shelf = g.H.Shelf.state c.run_reading-in-Prove.new.shelf; sink = g.K.Sink.state c.run_reading-in-Prove.new.out }) c.run_reading-in-Prove.result)
    (sym c.in-Prove.is) c.run_reading-in-Prove.ensures.ends

pub returns-in-Prove-clause-cause : goal.returns-in-Prove-clause-cause
returns-in-Prove-clause-cause g c =
    subst (λ (k : Command). c.run_reading-in-Prove.result ≡ status.Fault → MayFault (kinds_of (form_of k)) (map string_bytes c.args.words.now)
    (record { shelf = g.H.Shelf.state c.args.shelf.now; sink = g.K.Sink.state c.args.out.now })
    (record { shelf = g.H.Shelf.state c.run_reading-in-Prove.new.shelf; sink = g.K.Sink.state c.run_reading-in-Prove.new.out }))
    (sym c.in-Prove.is) c.run_reading-in-Prove.ensures.cause
