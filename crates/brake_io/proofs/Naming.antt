-- What is held once a name holds other bytes.
use Rattle.std.proofs.Common.{◌≡◌, ◌≢◌, ◌∙◌, ap, ℕ, List, [], Option, Some, None, arith}
use Rattle.std.proofs.lemmas.Grind.{common_steps}
use Rattle.std.proofs.lemmas.Slice.Eq.{bytes_eq-Decides}
use Rattle.brake_io.specs.Meanings.{Names, Content, ShelfState, ChangesOnly, HoldsNow, with_bytes}

pub with_bytes-name : (name bytes : List ℕ) (names : Names) → with_bytes name bytes names name ≡ Some bytes
with_bytes-name name bytes names = grind (arith, common_steps, bytes_eq-Decides)

pub with_bytes-others : (name bytes : List ℕ) (names : Names) (other : List ℕ) → other ≢ name → with_bytes name bytes names other ≡ names other
with_bytes-others name bytes names other apart = grind (arith, common_steps, bytes_eq-Decides)

-- the content, where it is told
told : Option Content → Content
told None = record { held = λ _. None; due = [] }
told (Some content) = content

-- shelves that are the same hold the same
pub same_content : (before now : Content) (s s' : ShelfState) → s'.content ≡ Some now → s.content ≡ Some before → s' ≡ s → now ≡ before
unfolding told
same_content before now s s' is was same = ap told (rw (is, was) at (ap (λ (s : ShelfState). s.content) same))

pub changes_nothing : (name : List ℕ) (before now : Content) → now ≡ before → ChangesOnly name before now
changes_nothing name before now same =
    record { others = λ other _. ap (λ (c : Content). c.held other) same; due = ap (λ (c : Content). c.due) same }

pub changes_one : (name bytes : List ℕ) (before now : Content) → now ≡ record before { held = with_bytes name bytes before.held } → ChangesOnly name before now
changes_one name bytes before now is = record {
  others = λ other apart. ap (λ (c : Content). c.held other) is ∙ with_bytes-others name bytes before.held other apart;
  due = ap (λ (c : Content). c.due) is;
}

pub holds_given : (name bytes : List ℕ) (before now : Content) → now ≡ record before { held = with_bytes name bytes before.held } → HoldsNow name bytes before now
holds_given name bytes before now is = ap (λ (c : Content). c.held name) is ∙ with_bytes-name name bytes before.held
