-- The words of a line from the front, each behind a space: a value by its one spelling and its
-- range, and the text behind it.
use Rattle.std.specs.Prelude.{ℕ, ◌==◌, ℤ, Bool, ◌&&◌, not, nat_le}
use Rattle.std.specs.Prelude.{nat_lt, List, [], ◌∷◌, take, drop, bytes_eq, codes, Option, Some}
use Rattle.std.specs.Prelude.{None, if◌then◌else◌, ◌≡◌}
use Rattle.std.specs.List.{prefix_len}
use Rattle.brake_text.specs.Numbers.{number_of, signed_of}
use Rattle.brake_base.specs.declared.plane.Quarter.{Quarter}
use Rattle.brake_base.specs.declared.plane.Quarter.TheVariants.{Q1, Q2, Q3, Q4}
use Rattle.brake_base.specs.declared.stroke.Back.{Back}
use Rattle.brake_base.specs.declared.stroke.Back.TheVariants.{Parent, Child}
use Rattle.brake_base.specs.declared.stroke.Half.{Half}
use Rattle.brake_base.specs.declared.stroke.Half.TheVariants.{Back as BackHalf, Front as FrontHalf}
use Rattle.brake_base.specs.declared.stroke.Worth.{Worth}
use Rattle.brake_base.specs.declared.stroke.Worth.TheVariants.{Cost, Blocked}
use Rattle.part_file.specs.declared.part.Side.{Side}
use Rattle.part_file.specs.declared.part.Side.TheVariants.{N, E, S, W}
use Rattle.part_file.specs.declared.part.Dir.{Dir}
use Rattle.part_file.specs.declared.part.Dir.TheVariants.{Up, Down}

-- what a function gives of a value, where there is one
infixl 10 ◌>>=◌
abbrev pub ◌>>=◌ : {A B : Type 0} → Option A → (A → Option B) → Option B
None >>= f = None
(Some x) >>= f = f x

-- what was read, seen by a view, is what is there to read
abbrev pub Reads : {A B : Type 0} → (A → B) → Option A → Option B → Type 0
Reads view (Some x) there = there ≡ Some (view x)
Reads view None there = there ≡ None

abbrev pub is_space : ℕ → Bool
is_space byte = byte == 32

-- how many bytes stand before the first space
abbrev pub word_length : List ℕ → ℕ
word_length text = prefix_len (λ byte. not (is_space byte)) text

-- the word behind a space, which goes on to the next space or the end
unfoldable pub word_at : List ℕ → Option (List ℕ × List ℕ)
word_at [] = None
word_at (byte ∷ text) = if is_space byte
    then Some (take (word_length text) text, drop (word_length text) text) else None

-- the value, where no word is left
abbrev pub at_end : {A : Type 0} → A → List ℕ → Option A
at_end x [] = Some x
at_end x (byte ∷ text) = None

-- one thing, and another behind it
abbrev pub both_at : {A B : Type 0} → (List ℕ → Option (A × List ℕ))
    → (List ℕ → Option (B × List ℕ)) → List ℕ → Option ((A × B) × List ℕ)
both_at first second text = do
  one ← first text
  two ← second one.1
  Some ((one.0, two.0), two.1)

-- what is read, as something else
abbrev pub as_at : {A B : Type 0} → (A → B) → (List ℕ → Option (A × List ℕ)) → List ℕ
    → Option (B × List ℕ)
as_at to read text = read text >>= λ x. Some (to x.0, x.1)

-- what is read, of which nothing is behind
abbrev pub alone : {A : Type 0} → (List ℕ → Option (A × List ℕ)) → List ℕ → Option A
alone read text = read text >>= λ x. at_end x.0 x.1

-- one thing, and behind it another that goes on to the end
abbrev pub then_in : {A B : Type 0} → (List ℕ → Option (A × List ℕ)) → (List ℕ → Option B)
    → List ℕ → Option (A × B)
then_in first second text = do
  one ← first text
  two ← second one.1
  Some (one.0, two)

-- what is read to the end, as something else
abbrev pub as_in : {A B : Type 0} → (A → B) → (List ℕ → Option A) → List ℕ → Option B
as_in to read text = read text >>= λ x. Some (to x)

-- what the next word is by its spelling
unfoldable pub kind_at : {A : Type 0} → (List ℕ → Option A) → List ℕ → Option (A × List ℕ)
kind_at spelled text = do
  word ← word_at text
  x ← spelled word.0
  Some (x, word.1)

-- a number from low on and below an end
unfoldable pub count_at : ℕ → ℕ → List ℕ → Option (ℕ × List ℕ)
count_at low end text = do
  word ← word_at text
  n ← number_of word.0
  if nat_le low n && nat_lt n end then Some (n, word.1) else None

-- a signed number
unfoldable pub signed_at : List ℕ → Option (ℤ × List ℕ)
signed_at text = kind_at signed_of text

-- two signed numbers
unfoldable pub pair_at : List ℕ → Option ((ℤ × ℤ) × List ℕ)
pair_at text = both_at signed_at signed_at text

-- the side whose word it is
abbrev pub side_of : List ℕ → Option Side
side_of word = if bytes_eq word (codes "N") then Some N
    else if bytes_eq word (codes "E") then Some E
    else if bytes_eq word (codes "S") then Some S
    else if bytes_eq word (codes "W") then Some W
    else None

-- the direction whose word it is
abbrev pub dir_of : List ℕ → Option Dir
dir_of word = if bytes_eq word (codes "up") then Some Up
    else if bytes_eq word (codes "down") then Some Down
    else None

-- the side at the back whose word it is
abbrev pub back_of : List ℕ → Option Back
back_of word = if bytes_eq word (codes "P") then Some Parent
    else if bytes_eq word (codes "C") then Some Child
    else None

-- the half whose word it is
abbrev pub half_of : List ℕ → Option Half
half_of word = if bytes_eq word (codes "B") then Some BackHalf
    else if bytes_eq word (codes "F") then Some FrontHalf
    else None

-- the quarter whose number it is
abbrev pub quarter_of : List ℕ → Option Quarter
quarter_of word = if bytes_eq word (codes "1") then Some Q1
    else if bytes_eq word (codes "2") then Some Q2
    else if bytes_eq word (codes "3") then Some Q3
    else if bytes_eq word (codes "4") then Some Q4
    else None

-- a cost of at most 1,000,000,000
abbrev pub cost_of : List ℕ → Option Worth
cost_of word = number_of word >>= λ cost. if nat_le cost 1000000000 then Some (Cost cost) else None

-- that there is no way on
abbrev pub blocked_of : List ℕ → Option Worth
blocked_of word = if bytes_eq word (codes "none") then Some Blocked else None

-- a cost, or that there is no way on
abbrev pub worth_of : List ℕ → Option Worth
worth_of word = if bytes_eq word (codes "none") then Some Blocked else cost_of word
