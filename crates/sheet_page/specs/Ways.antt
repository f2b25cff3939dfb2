-- How a bend is tried: with which side at the back, at which stations.
use Rattle.std.specs.Prelude.{ℕ, zero, suc, ◌==◌, nat_lt, Bool, true, false, ◌&&◌, ◌||◌, List, [], ◌∷◌, ◌++◌}
use Rattle.std.specs.Prelude.{codes, length, slice_index_or, bytes_eq, if◌then◌else◌}
use Rattle.brake_base.specs.declared.stroke.Back.{Back}
use Rattle.brake_base.specs.declared.stroke.Back.TheVariants.{Parent, Child}
use Rattle.brake_base.specs.declared.stroke.Action.{Action}
use Rattle.sheet_figures.specs.BendWords.{number_words}
use Rattle.sheet_page.specs.declared.ways.Ways.{Ways}
use Rattle.sheet_page.specs.declared.ways.TheConstants.{EITHER_SIDE, PARENT_SIDE, FLANGE_SIDE, EVERY_STATION}

-- the same side at the back
abbrev pub same_back : Back → Back → Bool
same_back Parent Parent = true
same_back Child Child = true
same_back _ _ = false

-- the action is tried with this side at the back, at this station
abbrev pub is_way : Action → Back → (station : ℕ) → Bool
is_way action back station = same_back action.back back && (action.stage == station)

-- the stations below n that pass a test, ascending
abbrev pub stations_below : (ℕ → Bool) → (n : ℕ) → List ℕ
stations_below test zero = []
stations_below test (suc n) = stations_below test n ++ (if test n then n ∷ [] else [])

-- the stations that pass a test: there are at most six
abbrev pub stations_with : (ℕ → Bool) → List ℕ
stations_with test = stations_below test 6

-- the marks of a side, the mark of a station, and the stations with marks
abbrev pub marks_of : Ways → Back → List Bool
marks_of ways Parent = ways.parent
marks_of ways Child = ways.flange

abbrev pub has_mark : Ways → Back → (station : ℕ) → Bool
has_mark ways back station = slice_index_or (marks_of ways back) station false

abbrev pub marked : Ways → Back → List ℕ
marked ways back = stations_with (has_mark ways back)

-- there is no number
abbrev pub is_none : List ℕ → Bool
is_none numbers = length numbers == 0

-- the word before one station or before several, and the stations, of so many
unfoldable pub station_word : (count : ℕ) → List ℕ
station_word count = if count == 1 then codes ", station " else codes ", stations "

unfoldable pub station_words : (stations : List ℕ) → (count : ℕ) → List ℕ
station_words stations count =
    if nat_lt 1 count && (length stations == count) then EVERY_STATION.now
    else station_word (length stations) ++ number_words 0 (length stations) stations

-- a side and its stations, where it has some
unfoldable pub side_words : (side stations : List ℕ) → (count : ℕ) → List ℕ
side_words side stations count =
    if is_none stations then [] else side ++ station_words stations count

-- what stands between two sides, where both have stations
unfoldable pub between_sides : (parent flange : List ℕ) → List ℕ
between_sides parent flange =
    if is_none parent || is_none flange then [] else codes "; "

-- the stations with the parent at the back and those with the flange there, told as one where they
-- are the same
unfoldable pub ways_words : (parent flange : List ℕ) → (count : ℕ) → List ℕ
ways_words parent flange count =
    if bytes_eq parent flange then side_words EITHER_SIDE.now parent count
    else side_words PARENT_SIDE.now parent count ++ between_sides parent flange
    ++ side_words FLANGE_SIDE.now flange count
