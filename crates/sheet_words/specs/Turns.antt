-- How the part is turned before a stroke, in words and icons.
use Rattle.std.specs.Prelude.{ℕ, ◌/◌, ◌%◌, ◌==◌, Bool, true, false, pos, negsuc, List, [], ◌∷◌, ◌++◌, codes}
use Rattle.std.specs.Prelude.{if◌then◌else◌}
use Rattle.std.specs.Ordering.{int_eq}
use Rattle.brake_base.specs.declared.space.V3.{V3}
use Rattle.brake_base.specs.Vectors.{vector}
use Rattle.brake_base.specs.Turns.{turn_of, apply}
use Rattle.sheet_words.specs.declared.turns.Movement.{Movement}
use Rattle.sheet_words.specs.declared.turns.Movement.TheVariants.{Still, QuarterAnticlockwise, Half, QuarterClockwise, OverBack, OverRight, TipRight, TipLeft, TipBack, TipFront}
use Rattle.sheet_words.specs.declared.turns.TheConstants.{STILL, QUARTER_ANTICLOCKWISE, HALF, QUARTER_CLOCKWISE, OVER, TIPPED_CLOCKWISE, TIPPED_ANTICLOCKWISE}

-- a movement in words
unfoldable pub movement_words : Movement → List ℕ
movement_words Still = codes "no turn"
movement_words QuarterAnticlockwise = codes "quarter turn anticlockwise"
movement_words Half = codes "half turn"
movement_words QuarterClockwise = codes "quarter turn clockwise"
movement_words OverBack = codes "turn over, front to back"
movement_words OverRight = codes "turn over, left to right"
movement_words TipRight = codes "tip over to the right"
movement_words TipLeft = codes "tip over to the left"
movement_words TipBack = codes "tip over to the back"
movement_words TipFront = codes "tip over to the front"

-- the shapes of its icon
unfoldable pub icon_shapes : Movement → List ℕ
icon_shapes Still = STILL.now
icon_shapes QuarterAnticlockwise = QUARTER_ANTICLOCKWISE.now
icon_shapes Half = HALF.now
icon_shapes QuarterClockwise = QUARTER_CLOCKWISE.now
icon_shapes OverBack = OVER.now
icon_shapes OverRight = OVER.now
icon_shapes TipRight = TIPPED_CLOCKWISE.now
icon_shapes TipLeft = TIPPED_ANTICLOCKWISE.now
icon_shapes TipBack = TIPPED_CLOCKWISE.now
icon_shapes TipFront = TIPPED_ANTICLOCKWISE.now

-- the words at the left and at the right of its icon
unfoldable pub words_left : Movement → List ℕ
words_left OverRight = codes "left"
words_left TipRight = codes "left"
words_left TipLeft = codes "left"
words_left OverBack = codes "front"
words_left TipBack = codes "front"
words_left TipFront = codes "front"
words_left _ = []

unfoldable pub words_right : Movement → List ℕ
words_right OverRight = codes "right"
words_right TipRight = codes "right"
words_right TipLeft = codes "right"
words_right OverBack = codes "back"
words_right TipBack = codes "back"
words_right TipFront = codes "back"
words_right _ = []

-- the movement of so many quarter turns about the vertical, where there is one
abbrev pub movements_about : ℕ → List Movement
movements_about quarters =
    if quarters == 1 then QuarterAnticlockwise ∷ []
    else if quarters == 2 then Half ∷ []
    else if quarters == 3 then QuarterClockwise ∷ []
    else []

-- what turns or tips the part over, where something does
abbrev pub movements_over : ℕ → List Movement
movements_over base =
    if base == 1 then OverBack ∷ []
    else if base == 2 then TipRight ∷ []
    else if base == 3 then TipLeft ∷ []
    else if base == 4 then TipBack ∷ []
    else if base == 5 then TipFront ∷ []
    else []

-- The movements of the turn of a number, which is 4 times the number of the base turn and the
-- quarter turns before it. A half turn that is then turned over is told as one.
abbrev pub movements : ℕ → List Movement
movements number =
    if number == 0 then Still ∷ []
    else if number == 6 then OverRight ∷ []
    else movements_about (number % 4) ++ movements_over (number / 4)

-- what parts a movement from those before it, and movements that may follow others
unfoldable pub parting : (first : Bool) → List ℕ
parting first = if first then [] else codes ", then "

abbrev pub movement_texts : (first : Bool) → List Movement → List ℕ
movement_texts first [] = []
movement_texts first (movement ∷ movements) =
    parting first ++ movement_words movement ++ movement_texts false movements

-- a turn in words
abbrev pub turn_words : ℕ → List ℕ
turn_words number = movement_texts true (movements number)

-- where a direction along an axis points
unfoldable pub side_words : V3 → List ℕ
side_words towards =
    if int_eq towards.z (pos 1) then codes "up"
    else if int_eq towards.z (negsuc 0) then codes "down"
    else if int_eq towards.x (pos 1) then codes "to the right"
    else if int_eq towards.x (negsuc 0) then codes "to the left"
    else if int_eq towards.y (pos 1) then codes "to the back"
    else codes "to the front"

-- where side A, on which z of face 0 points, looks in the attitude of a number
abbrev pub looks : ℕ → List ℕ
looks attitude = side_words (apply (turn_of attitude) (vector (pos 0) (pos 0) (pos 1)))
