use Rattle.std.proofs.Common.{◌≡◌, ◌++◌, [], ℕ, List, Result, Err, refl, rules, subst, sym, take}
use Rattle.brake_io.proofs.Parts.{goes_nowhere, goes_further}
use Rattle.brake_io.specs.Pieces.{WindowState, GoesOn, HasPassed}
use Rattle.cert_check.specs.declared.fault.CheckFault.{CheckFault}
use Rattle.cert_check.specs.declared.fault.CheckFault.TheVariants.{NoMemory}
use Rattle.cert_check.specs.declared.read_window.TextStand.{TextStand}
use Rattle.cert_check.specs.ReadCert.{ReadAnswer}
use Rattle.cert_check.specs.ReadWindow.{BeginAnswer}
use Rattle.cert_check.proofs.WindowLemmas.{passed_none, passed_on, passed_more, begun_at}
use Rattle.cert_check.proofs.read_window.begin_from.Goals as goal

-- nothing was passed of a window that went on
only_read : (before now : WindowState) → GoesOn before now → HasPassed before now []
only_read before now goes = passed_on before before now [] (passed_none before) goes

pub loop-stand-init : goal.loop-stand-init
loop-stand-init g c = goes_nowhere _

pub loop-stand-smaller : goal.loop-stand-smaller
loop-stand-smaller g c = c.in_ok-fill_more.ensures.nearer (c.wants_more.ensures.more c.if-not-wants_more.false)

pub loop-stand-preserved : goal.loop-stand-preserved
loop-stand-preserved g c = goes_further _ _ _ c.loop-stand.invariant c.in_ok-fill_more.ensures.goes_on

pub returns-in-Ok-clause-read : goal.returns-in-Ok-clause-read
returns-in-Ok-clause-read g c =
    let before = c.args.window.now in
    let w = c.loop-stand.window in
    let next = c.pass.new.self in
    let stand = c.in-Ok.stand in (
      take stand.taken w.unread,
      passed_more before w next [] stand.taken c.pass.ensures (only_read before w c.loop-stand.invariant),
      begun_at c.args.kind w next c.unread.result.now stand.read stand.place stand.taken c.unread.ensures c.pass.ensures c.in-Ok.ensures.read,
    )

pub returns-then-not-wants_more-clause-read : goal.returns-then-not-wants_more-clause-read
returns-then-not-wants_more-clause-read g c =
    let w = c.loop-stand.window in
    let fault = c.in-Err.fault in (
      [],
      only_read c.args.window.now w c.loop-stand.invariant,
      λ last may.
          subst (λ (p : List ℕ). ReadAnswer c.args.kind (p ++ last) (Err fault)) c.unread.ensures
          (c.in-Err.ensures.refused fault last refl (λ is. may (c.wants_more.ensures.last c.if-not-wants_more.true is))),
    )

pub returns-in_err-fill_more-clause-read : goal.returns-in_err-fill_more-clause-read
returns-in_err-fill_more-clause-read g c =
    let before = c.args.window.now in
    let next = c.fill_more.new.self in
    let stopped : c.from_residual.result ≡ Err NoMemory = search rules in (
      [],
      only_read before next (goes_further before c.loop-stand.window next c.loop-stand.invariant c.in_err-fill_more.ensures.goes_on),
      λ last may.
          subst (λ (r : Result TextStand CheckFault). BeginAnswer c.args.kind r [] next.unread last) (sym stopped) tt,
    )
