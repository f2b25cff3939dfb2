-- Labels that are pushed up, and then down.
use Rattle.std.proofs.Common.{◌≡◌, ℕ, zero, suc, ◌+◌, ◌*◌, ◌^◌, ◌<◌, ◌≤◌, ℤ, pos, ◌+ℤ◌, ◌-ℤ◌, ◌*ℤ◌, ◌≤ℤ◌, List, [], ◌∷◌, ◌++◌, length, take, drop, get_or, refl, sym, ap, subst, ◌∙◌, append_assoc, drop-cons, unsigned_abs, arith}
use Rattle.std.proofs.Math.ListN.{set}
use Rattle.std.proofs.lemmas.List.{take-set, drop-set, take_more, drop_all, take_all, append-nil}
use Rattle.std.specs.List.{refill}
use Rattle.std.specs.Prelude.{All}
use Rattle.std.specs.Int.{int_min, int_max}
use Rattle.std.proofs.lemmas.Int.{ints, clamps}
use Rattle.algebra.proofs.Laws.{+ℤ-*ℤ, one-*ℤ, zero-*ℤ}
use Rattle.sheet_paper.specs.Spreading.{pushed_up, pushed_down, room_below, spread_out, AreApart}

-- ---- as many labels as places
pub up_length : (low gap : ℤ) (places : List ℤ) → length (pushed_up low gap places) ≡ length places
up_length low gap [] = refl
up_length low gap (p ∷ places) = ap suc (up_length (int_max p low +ℤ gap) gap places)

down_length : (high gap : ℤ) (places : List ℤ) → length (pushed_down high gap places) ≡ length places
down_length high gap [] = refl
down_length high gap (p ∷ places) = ap suc (down_length high gap places)

pub same_length : (low high gap : ℤ) (places : List ℤ) → length (pushed_down high gap (pushed_up low gap places)) ≡ length places
same_length low high gap places = down_length high gap (pushed_up low gap places) ∙ up_length low gap places

-- what is written back over all that is there
over_all : (xs ws : List ℤ) → length ws ≡ length xs → refill (length xs) xs ws ≡ ws
over_all xs ws same =
    let none : drop (length ws) xs ≡ [] = drop_all (length ws) xs (omega (arith, same)) in
    ap (λ (rest : List ℤ). take (length xs) (ws ++ rest)) none ∙ (ap (λ (all : List ℤ). take (length xs) all) (append-nil ws) ∙ take_all (length xs) ws (omega (arith, same)))

pub is_spread : (low high gap : ℤ) (places up down : List ℤ) → up ≡ pushed_up low gap places → down ≡ pushed_down high gap up → refill (length up) up down ≡ spread_out low high gap places
is_spread low high gap places up down raised lowered =
    over_all up down (ap length lowered ∙ down_length high gap up) ∙ (lowered ∙ ap (λ (all : List ℤ). pushed_down high gap all) raised)

-- ---- each at least the gap above the one before it
below : (p m gap : ℤ) → (int_min p (m -ℤ gap) +ℤ gap) ≤ℤ m
below p m gap = omega (arith, ints, clamps)

pub are_apart : (high gap : ℤ) (places : List ℤ) → AreApart gap (pushed_down high gap places)
are_apart high gap [] = tt
are_apart high gap (p ∷ []) = tt
are_apart high gap (p ∷ q ∷ places) = (below p _ gap, are_apart high gap (q ∷ places))

-- ---- none beyond the high end
falls : (p room gap high : ℤ) → pos 0 ≤ℤ gap → room ≤ℤ high → (int_min p room -ℤ gap) ≤ℤ high
falls p room gap high some low = omega (arith, ints, clamps, some, low)

lesser : (p room high : ℤ) → room ≤ℤ high → int_min p room ≤ℤ high
lesser p room high low = omega (arith, ints, clamps, low)

room_at_most : (high gap : ℤ) (places : List ℤ) → pos 0 ≤ℤ gap → room_below high gap (pushed_down high gap places) ≤ℤ high
room_at_most high gap [] some = omega (arith, ints)
room_at_most high gap (p ∷ places) some = falls p _ gap high some (room_at_most high gap places some)

down_below : (high gap : ℤ) (places : List ℤ) → pos 0 ≤ℤ gap → (k : ℕ) (d : ℤ) → k < length (pushed_down high gap places) → get_or (pushed_down high gap places) k d ≤ℤ high
down_below high gap [] some k d within = absurd (omega arith)
down_below high gap (p ∷ places) some zero d within = lesser p _ high (room_at_most high gap places some)
down_below high gap (p ∷ places) some (suc k) d within = down_below high gap places some k d (omega arith)

pub all_below : (high gap : ℤ) (places : List ℤ) → pos 0 ≤ℤ gap → All (λ (place : ℤ). place ≤ℤ high) (pushed_down high gap places)
all_below high gap places some = λ k d within. down_below high gap places some k d within

-- ---- none before the low end, where there is room
-- places that rise at least by the gap each
abbrev Climbs : (low gap : ℤ) → List ℤ → Type 0
Climbs low gap [] = Unit {0}
Climbs low gap (p ∷ places) = (low ≤ℤ p) × Climbs (low +ℤ gap) gap places

up_to : (a b c : ℤ) → a ≤ℤ b → b ≤ℤ c → a ≤ℤ c
up_to a b c low high = omega (arith, ints, low, high)

both_up : (a b gap : ℤ) → a ≤ℤ b → (a +ℤ gap) ≤ℤ (b +ℤ gap)
both_up a b gap low = omega (arith, ints, low)

climbs_lower : (low from gap : ℤ) (places : List ℤ) → low ≤ℤ from → Climbs from gap places → Climbs low gap places
climbs_lower low from gap [] less climbs = tt
climbs_lower low from gap (p ∷ places) less climbs =
    (up_to low from p less climbs.0, climbs_lower (low +ℤ gap) (from +ℤ gap) gap places (both_up low from gap less) climbs.1)

greater : (p low : ℤ) → low ≤ℤ int_max p low
greater p low = omega (arith, ints, clamps)

up_climbs : (low gap : ℤ) (places : List ℤ) → Climbs low gap (pushed_up low gap places)
up_climbs low gap [] = tt
up_climbs low gap (p ∷ places) =
    (greater p low, climbs_lower (low +ℤ gap) (int_max p low +ℤ gap) gap _ (both_up low (int_max p low) gap (greater p low)) (up_climbs (int_max p low +ℤ gap) gap places))

once_more : (n : ℕ) (gap : ℤ) → pos (suc n) *ℤ gap ≡ gap +ℤ (pos n *ℤ gap)
once_more n gap =
    let one : suc n ≡ 1 + n = omega arith in
    ap (λ (m : ℕ). pos m *ℤ gap) one ∙ (+ℤ-*ℤ (pos 1) (pos n) gap ∙ ap (λ (x : ℤ). x +ℤ (pos n *ℤ gap)) (one-*ℤ gap))

-- the room for a list's end
next_room : (low high gap : ℤ) (n : ℕ) → (low +ℤ (pos (suc n) *ℤ gap)) ≤ℤ (high +ℤ gap) → ((low +ℤ gap) +ℤ (pos n *ℤ gap)) ≤ℤ (high +ℤ gap)
next_room low high gap n room = same (pos (suc n) *ℤ gap) (pos n *ℤ gap) (once_more n gap) room
  where
    same : (more less : ℤ) → more ≡ gap +ℤ less → (low +ℤ more) ≤ℤ (high +ℤ gap) → ((low +ℤ gap) +ℤ less) ≤ℤ (high +ℤ gap)
    same more less is h = omega (arith, ints, is, h)

no_more : (low high gap : ℤ) → (low +ℤ (pos 0 *ℤ gap)) ≤ℤ (high +ℤ gap) → (low -ℤ gap) ≤ℤ high
no_more low high gap room = same (pos 0 *ℤ gap) (zero-*ℤ gap) room
  where
    same : (none : ℤ) → none ≡ pos 0 → (low +ℤ none) ≤ℤ (high +ℤ gap) → (low -ℤ gap) ≤ℤ high
    same none is h = omega (arith, ints, is, h)

gap_back : (low gap room : ℤ) → ((low +ℤ gap) -ℤ gap) ≤ℤ room → low ≤ℤ room
gap_back low gap room h = omega (arith, ints, h)

least_of : (low p room : ℤ) → low ≤ℤ p → low ≤ℤ room → low ≤ℤ int_min p room
least_of low p room a b = omega (arith, ints, clamps, a, b)

less_gap : (low gap x : ℤ) → low ≤ℤ x → (low -ℤ gap) ≤ℤ (x -ℤ gap)
less_gap low gap x h = omega (arith, ints, h)

more_gap : (low gap x : ℤ) → pos 0 ≤ℤ gap → (low +ℤ gap) ≤ℤ x → low ≤ℤ x
more_gap low gap x some h = omega (arith, ints, some, h)

room_stays : (low high gap : ℤ) (places : List ℤ) → Climbs low gap places → (low +ℤ (pos (length places) *ℤ gap)) ≤ℤ (high +ℤ gap) → (low -ℤ gap) ≤ℤ room_below high gap (pushed_down high gap places)
room_stays low high gap [] climbs room = no_more low high gap room
room_stays low high gap (p ∷ places) climbs room =
    let behind = gap_back low gap _ (room_stays (low +ℤ gap) high gap places climbs.1 (next_room low high gap (length places) room)) in
    less_gap low gap _ (least_of low p _ climbs.0 behind)

down_above : (low high gap : ℤ) (places : List ℤ) → pos 0 ≤ℤ gap → Climbs low gap places → (low +ℤ (pos (length places) *ℤ gap)) ≤ℤ (high +ℤ gap) → (k : ℕ) (d : ℤ) → k < length (pushed_down high gap places) → low ≤ℤ get_or (pushed_down high gap places) k d
down_above low high gap [] some climbs room k d within = absurd (omega arith)
down_above low high gap (p ∷ places) some climbs room zero d within =
    let behind = gap_back low gap _ (room_stays (low +ℤ gap) high gap places climbs.1 (next_room low high gap (length places) room)) in
    least_of low p _ climbs.0 behind
down_above low high gap (p ∷ places) some climbs room (suc k) d within =
    more_gap low gap _ some (down_above (low +ℤ gap) high gap places some climbs.1 (next_room low high gap (length places) room) k d (omega arith))

pub all_above : (low high gap : ℤ) (places : List ℤ) → pos 0 ≤ℤ gap → (low +ℤ (pos (length places) *ℤ gap)) ≤ℤ (high +ℤ gap) → All (λ (place : ℤ). low ≤ℤ place) (pushed_down high gap (pushed_up low gap places))
all_above low high gap places some room = λ k d within.
    down_above low high gap (pushed_up low gap places) some (up_climbs low gap places) (subst (λ (n : ℕ). (low +ℤ (pos n *ℤ gap)) ≤ℤ (high +ℤ gap)) (sym (up_length low gap places)) room) k d within

-- ---- all near
pub greatest_near : (a b : ℤ) (bound : ℕ) → unsigned_abs a ≤ bound → unsigned_abs b ≤ bound → unsigned_abs (int_max a b) ≤ bound
greatest_near a b bound h l = omega (arith, ints, clamps, h, l)

pub least_near : (a b : ℤ) (bound : ℕ) → unsigned_abs a ≤ bound → unsigned_abs b ≤ bound → unsigned_abs (int_min a b) ≤ bound
least_near a b bound h l = omega (arith, ints, clamps, h, l)

lowered : (p room gap : ℤ) (n : ℕ) → unsigned_abs p ≤ 2 ^ 57 → unsigned_abs room ≤ 2 ^ 57 + n * 2 ^ 52 → unsigned_abs gap ≤ 2 ^ 52 → unsigned_abs (int_min p room -ℤ gap) ≤ 2 ^ 57 + suc n * 2 ^ 52
lowered p room gap n h l some = omega (arith, ints, clamps, h, l, some)

room_near : (high gap : ℤ) (places : List ℤ) → unsigned_abs high ≤ 2 ^ 57 → unsigned_abs gap ≤ 2 ^ 52 → All (λ (place : ℤ). unsigned_abs place ≤ 2 ^ 57) places → unsigned_abs (room_below high gap (pushed_down high gap places)) ≤ 2 ^ 57 + length places * 2 ^ 52
room_near high gap [] end some near = omega (arith, end)
room_near high gap (p ∷ places) end some near =
    lowered p _ gap (length places) (near 0 p (omega arith)) (room_near high gap places end some (λ k d within. near (suc k) d (omega arith))) some

nearer : (z : ℤ) (n : ℕ) → unsigned_abs z ≤ 2 ^ 57 → unsigned_abs z ≤ 2 ^ 57 + n * 2 ^ 52
nearer z n h = omega (arith, h)

wider : (z : ℤ) (n : ℕ) → unsigned_abs z ≤ 2 ^ 57 + n * 2 ^ 52 → unsigned_abs z ≤ 2 ^ 57 + suc n * 2 ^ 52
wider z n h = omega (arith, h)

down_near : (high gap : ℤ) (places : List ℤ) → unsigned_abs high ≤ 2 ^ 57 → unsigned_abs gap ≤ 2 ^ 52 → All (λ (place : ℤ). unsigned_abs place ≤ 2 ^ 57) places → (k : ℕ) (d : ℤ) → k < length (pushed_down high gap places) → unsigned_abs (get_or (pushed_down high gap places) k d) ≤ 2 ^ 57 + length places * 2 ^ 52
down_near high gap [] end some near k d within = absurd (omega arith)
down_near high gap (p ∷ places) end some near zero d within =
    let n = length places in
    let room = room_below high gap (pushed_down high gap places) in
    let behind : unsigned_abs room ≤ 2 ^ 57 + n * 2 ^ 52 = room_near high gap places end some (λ k d within. near (suc k) d (omega arith)) in
    wider (int_min p room) n (least_near p room (2 ^ 57 + n * 2 ^ 52) (nearer p n (near 0 p (omega arith))) behind)
down_near high gap (p ∷ places) end some near (suc k) d within =
    wider (get_or (pushed_down high gap places) k d) (length places) (down_near high gap places end some (λ k d within. near (suc k) d (omega arith)) k d (omega arith))

pub all_near : (high gap : ℤ) (places : List ℤ) → length places ≤ 16 → unsigned_abs high ≤ 2 ^ 52 → unsigned_abs gap ≤ 2 ^ 52 → All (λ (place : ℤ). unsigned_abs place ≤ 2 ^ 57) places → All (λ (place : ℤ). unsigned_abs place ≤ 2 ^ 58) (pushed_down high gap places)
all_near high gap places few end some near = λ k d within.
    under (get_or (pushed_down high gap places) k d) (length places) few (down_near high gap places (farther high end) some near k d within)
  where
    farther : (z : ℤ) → unsigned_abs z ≤ 2 ^ 52 → unsigned_abs z ≤ 2 ^ 57
    farther z h = omega (arith, h)

    under : (z : ℤ) (n : ℕ) → n ≤ 16 → unsigned_abs z ≤ 2 ^ 57 + n * 2 ^ 52 → unsigned_abs z ≤ 2 ^ 58
    under z n few h = omega (arith, few, h)

-- ---- a place more is pushed up
pub up_step : (gap least x : ℤ) (places pushed : List ℤ) (i : ℕ) → i < length places → x ≡ get_or places i x → (pushed ++ int_max x least ∷ []) ++ pushed_up (int_max x least +ℤ gap) gap (drop (i + 1) places) ≡ pushed ++ pushed_up least gap (drop i places)
up_step gap least x places pushed i within here =
    let next : suc i ≡ i + 1 = omega arith in
    let front : drop i places ≡ x ∷ drop (i + 1) places = drop-cons places i x within ∙ (ap (λ (y : ℤ). y ∷ drop (suc i) places) (sym here) ∙ ap (λ (n : ℕ). x ∷ drop n places) next) in
    append_assoc pushed (int_max x least ∷ []) (pushed_up (int_max x least +ℤ gap) gap (drop (i + 1) places)) ∙ ap (λ (rest : List ℤ). pushed ++ pushed_up least gap rest) (sym front)

-- ---- a place more is pushed down
room_snoc : (most m gap : ℤ) (places : List ℤ) → room_below most gap (places ++ m ∷ []) ≡ room_below (m -ℤ gap) gap places
room_snoc most m gap [] = refl
room_snoc most m gap (p ∷ places) = refl

down_snoc : (most gap x : ℤ) (places : List ℤ) → pushed_down most gap (places ++ x ∷ []) ≡ pushed_down (int_min x most -ℤ gap) gap places ++ int_min x most ∷ []
down_snoc most gap x [] = refl
down_snoc most gap x (p ∷ places) =
    ap (λ (rest : List ℤ). int_min p (room_below most gap rest) ∷ rest) (down_snoc most gap x places)
    ∙ ap (λ (room : ℤ). int_min p room ∷ (pushed_down (int_min x most -ℤ gap) gap places ++ int_min x most ∷ [])) (room_snoc most (int_min x most) gap (pushed_down (int_min x most -ℤ gap) gap places))

pub down_step : (gap most x : ℤ) (places : List ℤ) (i m n : ℕ) → m ≡ i → n ≡ i + 1 → i < length places → x ≡ get_or places i x → pushed_down (int_min x most -ℤ gap) gap (take m (set places i (int_min x most))) ++ drop m (set places i (int_min x most)) ≡ pushed_down most gap (take n places) ++ drop n places
down_step gap most x places i m n same next within here = rw (same, next) (at_index gap most x places i within here)
  where
    at_index : (gap most x : ℤ) (places : List ℤ) (i : ℕ) → i < length places → x ≡ get_or places i x → pushed_down (int_min x most -ℤ gap) gap (take i (set places i (int_min x most))) ++ drop i (set places i (int_min x most)) ≡ pushed_down most gap (take (i + 1) places) ++ drop (i + 1) places
    at_index gap most x places i within here =
        let one_more : take (i + 1) places ≡ take i places ++ x ∷ [] = take_more places i x within ∙ ap (λ (y : ℤ). take i places ++ y ∷ []) (sym here) in
        let front : take i (set places i (int_min x most)) ≡ take i places = take-set places i (int_min x most) in
        let back : drop i (set places i (int_min x most)) ≡ int_min x most ∷ drop (i + 1) places = drop-set places i (int_min x most) within in
        ap (λ (ys : List ℤ). pushed_down (int_min x most -ℤ gap) gap ys ++ drop i (set places i (int_min x most))) front
        ∙ (ap (λ (ys : List ℤ). pushed_down (int_min x most -ℤ gap) gap (take i places) ++ ys) back
        ∙ (sym (append_assoc (pushed_down (int_min x most -ℤ gap) gap (take i places)) (int_min x most ∷ []) (drop (i + 1) places))
        ∙ (ap (λ (ys : List ℤ). ys ++ drop (i + 1) places) (sym (down_snoc most gap x (take i places)))
        ∙ ap (λ (ys : List ℤ). pushed_down most gap ys ++ drop (i + 1) places) (sym one_more))))
