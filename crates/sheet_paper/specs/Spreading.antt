-- Labels that stand on one line are moved apart.
use Rattle.std.specs.Prelude.{ℤ, ◌+ℤ◌, ◌-ℤ◌, ◌≤ℤ◌, List, [], ◌∷◌}
use Rattle.std.specs.Int.{int_min, int_max}

-- places in order, each at least the gap above the one before it, the first at least the low end
abbrev pub pushed_up : (low gap : ℤ) → List ℤ → List ℤ
pushed_up low gap [] = []
pushed_up low gap (place ∷ places) =
    int_max place low ∷ pushed_up (int_max place low +ℤ gap) gap places

-- how far up a place may stand before others
abbrev pub room_below : (high gap : ℤ) → List ℤ → ℤ
room_below high gap [] = high
room_below high gap (place ∷ places) = place -ℤ gap

-- places in order, each at least the gap below the one behind it, the last at most the high end
abbrev pub pushed_down : (high gap : ℤ) → List ℤ → List ℤ
pushed_down high gap [] = []
pushed_down high gap (place ∷ places) =
    int_min place (room_below high gap (pushed_down high gap places))
    ∷ pushed_down high gap places

-- places pushed up from the low end, and then down from the high end
abbrev pub spread_out : (low high gap : ℤ) → List ℤ → List ℤ
spread_out low high gap places = pushed_down high gap (pushed_up low gap places)

-- each place is at least the gap above the one before it
abbrev pub AreApart : (gap : ℤ) → List ℤ → Type 0
AreApart gap [] = Unit {0}
AreApart gap (place ∷ []) = Unit {0}
AreApart gap (place ∷ next ∷ places) =
    ((place +ℤ gap) ≤ℤ next) × AreApart gap (next ∷ places)
