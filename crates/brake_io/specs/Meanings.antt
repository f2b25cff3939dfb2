-- What is seen of a shelf, and of a sink.
use Rattle.std.specs.Prelude.{◌≡◌, ◌≢◌, ◌⊎◌, ⊤, ℕ, ◌<◌, ◌≤◌, List, length, take, Option, Some, None}
use Rattle.std.specs.Prelude.{IfSome, IsSomeAnd, Contains, bytes_eq, if◌then◌else◌}
use Rattle.std.specs.Io.KnownBytes.{Appends}

-- the bytes under each name, where the name is held
abbrev pub Names : Type 0
Names = List ℕ → Option (List ℕ)

-- what a shelf holds, and the numbers of the calls that are to fail
pub record Content : Type 0 where
  pub held : Names
  pub due : List ℕ

-- what is held once the name holds these bytes
abbrev pub with_bytes : List ℕ → List ℕ → Names → Names
with_bytes name bytes names = λ other. if bytes_eq name other then Some bytes else names other

-- What is seen of a shelf: its content, which it may tell or not, and how many calls there were,
-- how often the outside has failed, and how often a file was longer than its limit.
pub record ShelfState : Type 0 where
  pub content : Option Content
  pub calls : ℕ
  pub faults : ℕ
  pub longs : ℕ

-- what is seen of a sink: the text that was written, which it may tell or not, and how often the
-- outside has failed
pub record SinkState : Type 0 where
  pub written : Option (List ℕ)
  pub faults : ℕ

-- no count of a shelf falls
pub record NoCountFalls (before now : ShelfState) : Type 0 where
  pub calls : before.calls ≤ now.calls
  pub faults : before.faults ≤ now.faults
  pub longs : before.longs ≤ now.longs

-- where the content is told, these bytes are held under the name
abbrev pub Holds : ShelfState → List ℕ → List ℕ → Type 0
Holds shelf name bytes = IfSome shelf.content (λ content. content.held name ≡ Some bytes)

-- where the content is told, the bytes under the name are longer than the limit
abbrev pub IsLonger : ShelfState → List ℕ → ℕ → Type 0
IsLonger shelf name limit =
    IfSome shelf.content (λ content. IsSomeAnd (content.held name) (λ bytes. limit < length bytes))

-- a call that raised the count of calls from before to now is one that is to fail
abbrev pub IsDue : List ℕ → ℕ → ℕ → Type 0
IsDue due before now = (before < now) × Contains due now

-- where the content is told, the call from before to now is one that is to fail
abbrev pub MayFail : ShelfState → ShelfState → Type 0
MayFail before now = IfSome before.content (λ content. IsDue content.due before.calls now.calls)

-- where the content is told, the name isn't held, or the call is one that is to fail
abbrev pub MayFailAt : List ℕ → ShelfState → ShelfState → Type 0
MayFailAt name before now =
    IfSome before.content (λ content. (content.held name ≡ None)
    ⊎ IsDue content.due before.calls now.calls)

-- where the content was told, it is told now, and the fact relates the two
abbrev pub WhereBothTold : Option Content → Option Content → (Content → Content → Type 0) → Type 0
WhereBothTold None None P = ⊤
WhereBothTold None (Some now) P = ⊥
WhereBothTold (Some before) None P = ⊥
WhereBothTold (Some before) (Some now) P = P before now

abbrev pub WhereTold : ShelfState → ShelfState → (Content → Content → Type 0) → Type 0
WhereTold before now P = WhereBothTold before.content now.content P

-- every other name holds what it held, and the same calls are to fail
pub record ChangesOnly (name : List ℕ) (before now : Content) : Type 0 where
  pub others : (other : List ℕ) → other ≢ name → now.held other ≡ before.held other
  pub due : now.due ≡ before.due

-- the name holds these bytes
abbrev pub HoldsNow : List ℕ → List ℕ → Content → Content → Type 0
HoldsNow name bytes before now = now.held name ≡ Some bytes

-- the name holds what it held, or the first of these bytes
abbrev pub HoldsPart : List ℕ → List ℕ → Content → Content → Type 0
HoldsPart name bytes before now =
    (now.held name ≡ before.held name) ⊎ ((n : ℕ) × (now.held name ≡ Some (take n bytes)))

-- where the text is told, it has grown by the first bytes of the piece
abbrev pub AppendsPart : Option (List ℕ) → Option (List ℕ) → List ℕ → Type 0
AppendsPart before now piece = (n : ℕ) × Appends before now (take n piece)

-- where the sink tells its text, that has grown by the piece, or by the first bytes of it
abbrev pub Puts : SinkState → SinkState → List ℕ → Type 0
Puts before now piece = Appends before.written now.written piece

abbrev pub PutsPart : SinkState → SinkState → List ℕ → Type 0
PutsPart before now piece = AppendsPart before.written now.written piece
