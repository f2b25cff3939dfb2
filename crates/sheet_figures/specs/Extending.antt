-- Texts that grow.
use Rattle.std.specs.Prelude.{◌≡◌, ℕ, List, ◌++◌}

-- only text is appended
abbrev pub Extends : List ℕ → List ℕ → Type 0
Extends before now = (text : List ℕ) × (now ≡ before ++ text)
