-- Lines that are read and taken by a rule: a fold of lines, over texts.
use Rattle.std.proofs.Common.{◌≡◌, ℕ, List, Option, Some, None, refl, ap}
use Rattle.cert_words.specs.LineWords.{◌>>=◌}
use Rattle.cert_lines.specs.Lines.{CertLine}
use Rattle.cert_lines.proofs.Each.{Each, each_then}
use Rattle.cert_lines.proofs.TextLines.{line_bytes}
use Rattle.cert_lines.proofs.Readers.{ReadsLines}

-- the text is the line's, which leads there
abbrev pub Leads : {T : Type 0} → (CertLine → Option T) → List ℕ → T → Type 0
Leads take text t = (line : CertLine) × (text ≡ line_bytes line) × (take line ≡ Some t)

-- what is written is taken as the line is
pub taken_written : {T : Type 0} {Fits : CertLine → Type 0} {read : List ℕ → Option CertLine} → ReadsLines Fits read → (take : CertLine → Option T) (line : CertLine) → Fits line → (read (line_bytes line) >>= take) ≡ take line
taken_written reads take line is = ap (λ (o : Option CertLine). o >>= take) (reads.back line is)

lead : {T : Type 0} (take : CertLine → Option T) (text : List ℕ) (line : CertLine) → text ≡ line_bytes line → (o : Option T) → take line ≡ o → Each (Leads take text) o
lead take text line is None e = tt
lead take text line is (Some t) e = (line, is, e)

-- what is taken is spelled as a line that is taken
pub taken_spelled : {T : Type 0} {Fits : CertLine → Type 0} {read : List ℕ → Option CertLine} → ReadsLines Fits read → (take : CertLine → Option T) (text : List ℕ) → Each (Leads take text) (read text >>= take)
taken_spelled {T} {Fits} {read} reads take text =
    each_then (λ (line : CertLine). Fits line × (text ≡ line_bytes line)) (Leads take text) (read text) take (reads.only text) (λ line is. lead take text line is.1 (take line) refl)
