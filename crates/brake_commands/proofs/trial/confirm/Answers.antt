use Rattle.std.proofs.Common.{Err}
use Rattle.cert_check.proofs.Accepting.{good_text_accepted}
use Rattle.check_command.proofs.Checks.{refused_is}
use Rattle.brake_commands.proofs.trial.confirm.Goals as goal

pub unreachable-requires : goal.unreachable-requires
unreachable-requires c =
    let text = c.args.text.now in
    let good = c.requires in
    let is = refused_is text c.in-Err.fault c.in-Err.ensures.answer c.in_default.not-NoMemory in
    let same = good_text_accepted text good.0 good.1 (Err c.in-Err.fault) good.2 is in
    cc
