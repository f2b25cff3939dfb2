use Rattle.std.proofs.Common.{◌≡◌, ◌++◌, Bool, Result, Ok, Err, rules, subst, sym, take}
use Rattle.brake_io.specs.Pieces.{WindowState, IsOver}
use Rattle.cert_check.specs.declared.fault.CheckFault.{CheckFault}
use Rattle.cert_check.specs.declared.fault.CheckFault.TheVariants.{NoMemory}
use Rattle.cert_check.specs.declared.read_cert.ReadCert.{ReadCert}
use Rattle.cert_check.specs.ReadCert.{ReadAnswer, PieceAnswer}
use Rattle.cert_check.proofs.WindowLemmas.{nearer_passed, not_over, passed_on, passed_more, piece_passed, piece_read, read_on}
use Rattle.cert_check.proofs.read_window.read_text_from.Goals as goal

pub loop-stand-init : goal.loop-stand-init
loop-stand-init g c =
    let begun = c.in_ok-stand.ensures in
    let passed = begun.read in
    record { few = begun.few; testing = begun.testing; passed = passed.0; has = passed.1; reads = passed.2 }

pub loop-stand-smaller : goal.loop-stand-smaller
loop-stand-smaller g c =
    let w = c.loop-stand.window in
    let over : IsOver w → ⊥ = not_over w c.is_over-is_last.result c.in_ok-more.more c.is_over-is_last.ensures.1 (λ is. c.in_ok-more.ensures.last is) c.if-not-more.false in
    nearer_passed w c.pass.new.self c.fill_more.new.self c.read_on.new.stand.taken c.pass.ensures over c.in_ok-fill_more.ensures.nearer

pub loop-stand-preserved : goal.loop-stand-preserved
loop-stand-preserved g c =
    let kind = c.args.kind in
    let now = c.loop-stand.invariant in
    let w = c.loop-stand.window in
    let old = c.loop-stand.stand in
    let new = c.read_on.new.stand in
    let next = c.pass.new.self in
    let later = c.fill_more.new.self in
    let more = c.in_ok-more.more in
    let piece = c.unread.result.now in
    let is_last = c.is_over-is_last.result in
    let over : IsOver w → ⊥ = not_over w is_last more c.is_over-is_last.ensures.1 (λ is. c.in_ok-more.ensures.last is) c.if-not-more.false in
    let gone : IsOver next → ⊥ = subst (λ (v : WindowState). IsOver v → ⊥) (sym c.pass.ensures) over in
    let passed = now.passed ++ take new.taken w.unread in
    record {
      few = c.read_on.ensures.few;
      testing = c.in_ok-more.ensures.testing;
      passed = passed;
      has = passed_on c.args.window.now next later passed (passed_more c.args.window.now w next now.passed new.taken c.pass.ensures now.has) c.in_ok-fill_more.ensures.goes_on;
      reads = read_on kind next later passed new.read new.place c.in_ok-fill_more.ensures.goes_on gone (λ last may.
          subst (λ (m : Bool). PieceAnswer (Ok m) kind (passed ++ next.unread ++ last) new.read new.place (next.unread ++ last)) c.if-not-more.false
          (piece_passed kind w now.passed piece is_last old.read new.read old.place new.place new.taken c.unread.ensures c.is_over-is_last.ensures.0 now.reads next more c.pass.ensures (c.in_ok-more.ensures.answer kind) last may));
    }

pub returns-then-not-more : goal.returns-then-not-more
returns-then-not-more g c =
    let kind = c.args.kind in
    let now = c.loop-stand.invariant in
    let w = c.loop-stand.window in
    let old = c.loop-stand.stand in
    let new = c.read_on.new.stand in
    let next = c.pass.new.self in
    let passed = now.passed ++ take new.taken w.unread in (
      passed,
      passed_more c.args.window.now w next now.passed new.taken c.pass.ensures now.has,
      λ last may.
          subst (λ (m : Bool). PieceAnswer (Ok m) kind (passed ++ next.unread ++ last) new.read new.place (next.unread ++ last)) c.if-not-more.true
          (piece_passed kind w now.passed c.unread.result.now c.is_over-is_last.result old.read new.read old.place new.place new.taken c.unread.ensures c.is_over-is_last.ensures.0 now.reads next c.in_ok-more.more c.pass.ensures (c.in_ok-more.ensures.answer kind) last may),
    )

pub returns-in_err-stand : goal.returns-in_err-stand
returns-in_err-stand g c =
    let kind = c.args.kind in
    let passed = c.in_err-stand.ensures.read in
    let failed = c.from_residual.ensures in
    let fault = c.in_err-stand.field-0.0 in
    let stopped : c.from_residual.result ≡ Err fault = search (rules, failed.0, failed.1) in (
      passed.0,
      passed.1,
      λ last may.
          subst (λ (r : Result ReadCert CheckFault). ReadAnswer kind (passed.0 ++ c.begin_from.new.window.unread ++ last) r) (sym stopped) (passed.2 last may),
    )

pub returns-in_err-more : goal.returns-in_err-more
returns-in_err-more g c =
    let kind = c.args.kind in
    let now = c.loop-stand.invariant in
    let w = c.loop-stand.window in
    let old = c.loop-stand.stand in
    let new = c.read_on.new.stand in
    let failed = c.from_residual-in_err-more.ensures in
    let fault = c.in_err-more.field-0.0 in
    let stopped : c.from_residual-in_err-more.result ≡ Err fault = search (rules, failed.0, failed.1) in (
      now.passed,
      now.has,
      λ last may.
          subst (λ (r : Result ReadCert CheckFault). ReadAnswer kind (now.passed ++ w.unread ++ last) r) (sym stopped)
          (piece_read kind w now.passed c.unread.result.now c.is_over-is_last.result old.read new.read old.place new.place new.taken c.unread.ensures c.is_over-is_last.ensures.0 now.reads (Err fault) (c.in_err-more.ensures.answer kind) last may),
    )

pub returns-in_err-fill_more : goal.returns-in_err-fill_more
returns-in_err-fill_more g c =
    let kind = c.args.kind in
    let now = c.loop-stand.invariant in
    let w = c.loop-stand.window in
    let new = c.read_on.new.stand in
    let next = c.pass.new.self in
    let later = c.fill_more.new.self in
    let failed = c.from_residual-in_err-fill_more.ensures in
    let stopped : c.from_residual-in_err-fill_more.result ≡ Err NoMemory = search (rules, failed.0, failed.1) in
    let passed = now.passed ++ take new.taken w.unread in (
      passed,
      passed_on c.args.window.now next later passed (passed_more c.args.window.now w next now.passed new.taken c.pass.ensures now.has) c.in_err-fill_more.ensures.goes_on,
      λ last may.
          subst (λ (r : Result ReadCert CheckFault). ReadAnswer kind (passed ++ later.unread ++ last) r) (sym stopped) tt,
    )
