-- The formats that are read, and the first line, which names one.
use Rattle.std.specs.Prelude.{ℕ, List, bytes_eq, codes, Option, Some, None}
use Rattle.std.specs.Prelude.{if◌then◌else◌}
use Rattle.cert_lines.specs.declared.format.TextKind.{TextKind}
use Rattle.cert_lines.specs.declared.format.TextKind.TheVariants.{Certificate, Table as TableKind}
use Rattle.cert_lines.specs.declared.format.Format.{Format}
use Rattle.cert_lines.specs.declared.format.Format.TheVariants.{Version1, Version2, Table}

-- the version of a certificate that a line names
abbrev pub version_of : List ℕ → Option Format
version_of line = if bytes_eq line (codes "brake-cert 1") then Some Version1
    else if bytes_eq line (codes "brake-cert 2") then Some Version2
    else None

-- the format of a table file, where a line names it
abbrev pub table_of : List ℕ → Option Format
table_of line = if bytes_eq line (codes "brake-table 1") then Some Table else None

-- the format that the first line of a text of this kind names
abbrev pub format_of : TextKind → List ℕ → Option Format
format_of Certificate line = version_of line
format_of TableKind line = table_of line
