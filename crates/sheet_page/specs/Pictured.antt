-- The pictures of the refused strokes of a state of the part.
use Rattle.std.specs.Prelude.{◌≡◌, ℕ, ◌==◌, ℤ, pos, ◌+ℤ◌, int_lt, Bool, true, false, ◌&&◌, List, [], ◌∷◌, ◌++◌}
use Rattle.std.specs.Prelude.{Option, Some, None}
use Rattle.brake_base.specs.declared.mask.Mask.{Mask}
use Rattle.brake_base.specs.declared.reason.Reason.{Reason}
use Rattle.brake_base.specs.declared.reason.Reason.TheVariants.{Upper, Nose, Lower, SelfHit}
use Rattle.job_setup.specs.Setup.{JobData}
use Rattle.plan_lines.specs.declared.note.Note.{Note}
use Rattle.sheet_views.specs.Drawing.{drawing_of}
use Rattle.sheet_views.specs.Swept.{swept_by}
use Rattle.sheet_figures.specs.Refusals.{IsRefusal}
use Rattle.sheet_page.specs.Left.{action_of_note}
use Rattle.sheet_page.specs.Refused.{is_one_row, is_first, row_firsts}

-- the box that a reason names as hitting something
abbrev pub hitting_box : Reason → Option ℕ
hitting_box (Upper box quarter index) = Some box
hitting_box (Nose box quarter stage) = Some box
hitting_box (Lower box quarter index) = Some box
hitting_box (SelfHit box quarter other) = Some box
hitting_box _ = None

-- there is a box, and two boxes are one
abbrev pub is_some : Option ℕ → Bool
is_some None = false
is_some (Some box) = true

abbrev pub is_one_box : Option ℕ → Option ℕ → Bool
is_one_box (Some a) (Some b) = a == b
is_one_box _ _ = false

-- two notes are of one bend and of one box that hits something
abbrev pub is_one_hit : JobData → Note → Note → Bool
is_one_hit job a b =
    is_one_box (hitting_box a.reason) (hitting_box b.reason)
    && ((action_of_note job a).bend == (action_of_note job b).bend)

-- The note has a picture: a box hits something, the note is the first of its row, and no earlier
-- one that is the first of its row is of the same bend and box.
abbrev pub is_pictured : JobData → Mask → (earlier : List Note) → Note → Bool
is_pictured job mask earlier note =
    is_some (hitting_box note.reason) && is_first (is_one_row job mask) earlier note
    && is_first (is_one_hit job) (row_firsts job mask earlier) note

-- the text goes on with so many pictures of the stroke that a note is against, numbered from `figure`
abbrev pub AreOfNote :
    JobData → Mask → Note → (figure count : ℤ) → (before after : List ℕ) → Type 0
AreOfNote job mask note figure count before after =
    let action = action_of_note job note in
    let drawing = drawing_of job mask action in
    IsRefusal (swept_by job action.stage drawing.pose note.reason) job drawing action note.reason
    figure count before after

-- The text goes on with the pictures of a note, where so many are put before them, and then there
-- are so many: none where two are put, and none where the note has no picture.
abbrev pub GoesOn : (shows : Bool) → JobData → Mask → Note
    → (figure put count : ℤ) → (before after : List ℕ) → Type 0
GoesOn true job mask note figure put count before after =
    (more : ℤ) × AreOfNote job mask note (figure +ℤ put) more before after × (count ≡ put +ℤ more)
GoesOn false job mask note figure put count before after = (after ≡ before) × (count ≡ put)

-- the pictures of the last notes, behind earlier ones, numbered from `figure` and where so many are
-- put; then there are so many
abbrev pub AreLast : JobData → Mask → (earlier last : List Note)
    → (figure put count : ℤ) → (before after : List ℕ) → Type 0
AreLast job mask earlier [] figure put count before after = (after ≡ before) × (count ≡ put)
AreLast job mask earlier (note ∷ last) figure put count before after =
    (next : ℤ) × (behind : List ℕ)
    × GoesOn (int_lt put (pos 2) && is_pictured job mask earlier note) job mask note figure put next
    before behind
    × AreLast job mask (earlier ++ note ∷ []) last figure next count behind after
