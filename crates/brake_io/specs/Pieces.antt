-- Texts that are read and stored in pieces.
use Rattle.std.specs.Prelude.{◌≡◌, ◌≢◌, ◌⊎◌, ℕ, ◌+◌, ◌-◌, ◌<◌, ◌≤◌, List, [], ◌∷◌, ◌++◌, length}
use Rattle.std.specs.Prelude.{Option}
use Rattle.std.specs.Prelude.{IfSome, IsSomeAnd, None, Some}
use Rattle.std.specs.Io.KnownBytes.{Consumes, IsAtEnd}
use Rattle.brake_io.specs.declared.progress.Progress.{Progress}
use Rattle.brake_io.specs.declared.progress.Progress.TheVariants.{Reading, Ended, Failed, TooLong}
use Rattle.brake_io.specs.Meanings.{ShelfState}

-- What is seen of a window on a text: the bytes at hand, which were read and not yet passed; how
-- many bytes were read since it was opened, and how many the text may have; what is behind those
-- at hand, which it may tell or not; how often a read has failed; and how far the text is read.
pub record WindowState : Type 0 where
  pub unread : List ℕ
  pub taken : ℕ
  pub limit : ℕ
  pub left : Option (List ℕ)
  pub faults : ℕ
  pub progress : Progress

-- a window just opened
abbrev pub opened : ℕ → Option (List ℕ) → WindowState
opened limit left =
    record { unread = []; taken = 0; limit = limit; left = left; faults = 0; progress = Reading }

-- where the content is told, these bytes are told too, and the name holds them
abbrev pub GivesHeld : ShelfState → List ℕ → Option (List ℕ) → Type 0
GivesHeld shelf name left =
    IfSome shelf.content (λ content. IsSomeAnd left (λ bytes. content.held name ≡ Some bytes))

-- a window just opened on the bytes that the name holds
pub record IsOpened (shelf : ShelfState) (name : List ℕ) (limit : ℕ) (window : WindowState)
    : Type 0 where
  pub left : Option (List ℕ)
  pub is_opened : window ≡ opened limit left
  pub text : GivesHeld shelf name left

-- nothing more will come to hand
abbrev pub IsOver : WindowState → Type 0
IsOver window = window.progress ≢ Reading

-- at least 8 KiB are at hand, or all that comes
abbrev pub HasEnough : WindowState → Type 0
HasEnough window = (8192 ≤ length window.unread) ⊎ IsOver window

-- The window has gone on by the next piece of the text: what was at hand stays there, with the
-- piece behind it.
pub record GoesOn (before now : WindowState) : Type 0 where
  pub piece : List ℕ
  pub unread : now.unread ≡ before.unread ++ piece
  pub taken : now.taken ≡ before.taken + length piece
  pub limit : now.limit ≡ before.limit
  pub left : Consumes before.left now.left piece

-- a line feed, whose byte is 10, and a byte behind it are at hand, or all that comes
abbrev pub HasLine : WindowState → Type 0
HasLine window =
    ((line : List ℕ) × (next : ℕ) × (behind : List ℕ)
    × (window.unread ≡ line ++ 10 ∷ next ∷ behind)) ⊎ IsOver window

-- more is at hand than was, or all that comes
abbrev pub HasMore : WindowState → WindowState → Type 0
HasMore before now = (length before.unread < length now.unread) ⊎ IsOver now

-- The window has gone on, and these bytes were passed: they and what is at hand now are what was
-- at hand and the piece that came to hand.
pub record HasPassed (before now : WindowState) (passed : List ℕ) : Type 0 where
  pub piece : List ℕ
  pub bytes : before.unread ++ piece ≡ passed ++ now.unread
  pub taken : now.taken ≡ before.taken + length piece
  pub limit : now.limit ≡ before.limit
  pub left : Consumes before.left now.left piece

-- these bytes may come behind what is at hand: none where the window is over
abbrev pub MayFollow : WindowState → List ℕ → Type 0
MayFollow window last = IsOver window → last ≡ []

-- What was passed, what is at hand and these last bytes are the whole text, which is within its
-- limit. Where the window was over there are none.
pub record IsWhole (window : WindowState) : Type 0 where
  pub last : List ℕ
  pub is_left : IfSome window.left (λ left. left ≡ last)
  pub within : window.taken + length last ≤ window.limit
  pub over : IsOver window → last ≡ []

-- where it is told what is behind the window, the text is longer than its limit
abbrev pub IsTooLong : WindowState → Type 0
IsTooLong window = IfSome window.left (λ left. window.limit < window.taken + length left)

-- at most so many reads are still to come, of a text so far from its limit
abbrev pub reads_within : Progress → ℕ → ℕ
reads_within Reading room = room + 2
reads_within Ended room = 0
reads_within Failed room = 0
reads_within TooLong room = 0

abbrev pub reads_left : WindowState → ℕ
reads_left window = reads_within window.progress (window.limit - window.taken)

-- what is known of a text of which so many bytes are read, by how far it is read
abbrev pub IsReadSoFar : Progress → ℕ → ℕ → Option (List ℕ) → Type 0
IsReadSoFar Reading taken limit left = taken ≤ limit
IsReadSoFar Ended taken limit left = (taken ≤ limit) × IsAtEnd left
IsReadSoFar Failed taken limit left = left ≡ None
IsReadSoFar TooLong taken limit left = limit < taken

-- how often a read has failed, by how far a text is read: a text is told as failed exactly where
-- one did
abbrev pub IsToldFailed : Progress → ℕ → Type 0
IsToldFailed Reading faults = faults ≡ 0
IsToldFailed Ended faults = faults ≡ 0
IsToldFailed Failed faults = 0 < faults
IsToldFailed TooLong faults = faults ≡ 0
