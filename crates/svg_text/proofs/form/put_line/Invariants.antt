use Rattle.std.proofs.Common.{◌≡◌, ◌≤◌, ◌++◌, drop, length, map}
use Rattle.svg_text.specs.Forms.{hole_text, filled}
use Rattle.svg_text.proofs.form.put_line.Given as goal

abbrev pub invariant-loop-byte : goal.invariant-loop-byte
invariant-loop-byte l =
    (l.out.items ++ filled (drop l.byte-index l.form) (map hole_text (drop l.filled l.holes)) ≡ l.initial.out.items ++ filled l.form (map hole_text l.holes))
    × l.filled ≤ length l.holes
