-- A shelf in memory as its callers see it.
use Rattle.std.specs.Prelude.{◌≡◌, ◌⊎◌, ℕ, List, [], ◌∷◌, ◌++◌, Vec, String, Some, None, option_map}
use Rattle.std.specs.declared.alloc.Global.{Global}
use Rattle.std.specs.BTreeMap.{BTreeMap, get_by_text}
use Rattle.brake_io.specs.declared.mem_shelf.MemShelf.{MemShelf}
use Rattle.brake_io.specs.Rose.{raised}
use Rattle.brake_io.specs.Meanings.{Names, Content, ShelfState, IsDue, with_bytes}

-- the bytes that a map holds under each name
abbrev pub names_of : BTreeMap (String Global) (Vec ℕ Global) → Names
names_of files name = option_map (λ (bytes : Vec ℕ Global). bytes.items) (get_by_text files name)

-- what a shelf in memory holds, and the numbers of the calls that are to fail
abbrev pub content_of : MemShelf → Content
content_of s = record { held = names_of s.files; due = s.due.items }

-- what is seen of it
abbrev pub state_of : MemShelf → ShelfState
state_of s =
    record { content = Some (content_of s); calls = s.calls; faults = s.faults; longs = s.longs }

-- nothing is held, no call is to fail, and nothing was counted
abbrev pub empty : ShelfState
empty =
    record {
      content = Some (record { held = λ _. None; due = [] });
      calls = 0;
      faults = 0;
      longs = 0;
    }

-- the next call is one that is to fail
abbrev pub IsToFail : MemShelf → Type 0
IsToFail s = IsDue s.due.items s.calls (raised s.calls)

-- the next call is one that is to fail, or the name isn't held
abbrev pub IsToFailAt : MemShelf → List ℕ → Type 0
IsToFailAt s name = IsToFail s ⊎ ((content_of s).held name ≡ None)

-- the shelf, once the name holds these bytes
abbrev pub holding : List ℕ → List ℕ → MemShelf → ShelfState
holding name bytes s =
    record (state_of s) {
      content = Some
          (record (content_of s) { held = with_bytes name bytes (content_of s).held });
    }

-- the shelf, once the call with this number is to fail too
abbrev pub failing_at : ℕ → MemShelf → ShelfState
failing_at call s =
    record (state_of s) {
      content = Some (record (content_of s) {
        due = s.due.items
            ++ call ∷ [];
      });
    }
