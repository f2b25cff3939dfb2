-- What the first bytes at hand of a text come to.
use Rattle.std.specs.Prelude.{ℕ, List, ◌++◌, Result, Ok, Err}
use Rattle.cert_lines.specs.declared.format.TextKind.{TextKind}
use Rattle.cert_check.specs.declared.fault.CheckFault.{CheckFault}
use Rattle.cert_check.specs.declared.read_window.TextStand.{TextStand}
use Rattle.cert_check.specs.ReadCert.{IsReadBefore, ReadAnswer}

-- the job of the text is read, or the text refused: these bytes of it were passed, and it goes on
-- with those at hand and these last ones
abbrev pub BeginAnswer : TextKind → Result TextStand CheckFault → List ℕ → List ℕ → List ℕ → Type 0
BeginAnswer kind (Ok stand) passed unread last =
    IsReadBefore kind (passed ++ unread ++ last) stand.read stand.place (unread ++ last)
BeginAnswer kind (Err fault) passed unread last =
    ReadAnswer kind (passed ++ unread ++ last) (Err fault)
