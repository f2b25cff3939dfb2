-- The lines that a format has, and the jobs of which it tells all.
use Rattle.std.proofs.Common.{◌≡◌, List, ◌++◌, refl}
use Rattle.std.proofs.lemmas.List.Elements.{filter-append}
use Rattle.job_setup.specs.Setup.{JobData}
use Rattle.cert_lines.specs.JobText.{IsJobOfVersion1}
use Rattle.cert_lines.specs.Lines.{is_of_version1, lines_of_format}
use Rattle.cert_lines.specs.declared.format.Format.{Format}
use Rattle.cert_lines.specs.declared.format.Format.TheVariants.{Version1, Version2, Table}
use Rattle.cert_lines.specs.Lines.{CertLine}

pub lines_append : (format : Format) (xs ys : List CertLine) → lines_of_format format (xs ++ ys) ≡ lines_of_format format xs ++ lines_of_format format ys
lines_append Version1 xs ys = filter-append is_of_version1 xs ys
lines_append Version2 xs ys = refl
lines_append Table xs ys = refl

-- a format tells of the job
abbrev pub JobIn : Format → JobData → Type 0
JobIn Version1 job = IsJobOfVersion1 job
JobIn _ job = Unit {0}
