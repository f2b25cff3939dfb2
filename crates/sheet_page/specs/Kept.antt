-- What is kept of a certificate's rows.
use Rattle.std.specs.Prelude.{◌≡◌, ℕ, ◌+◌, ◌*◌, ◌^◌, ◌<◌, ◌≤◌, ◌-◌, ◌==◌, nat_le, Bool, false, ◌&&◌, List, [], ◌∷◌}
use Rattle.std.specs.Prelude.{◌++◌, max, All, Option, Some, None, map, take, drop, length, filter, fold, find}
use Rattle.std.specs.Prelude.{flat_map, count_by, slice_index_or, option_map, IfSome, if◌then◌else◌}
use Rattle.brake_base.specs.declared.mask.Mask.{Mask}
use Rattle.brake_base.specs.declared.stroke.Key.{Key}
use Rattle.brake_base.specs.Masks.{bends_of}
use Rattle.brake_base.specs.Reasons.{kind_of}
use Rattle.job_setup.specs.Setup.{JobData, stage_count}
use Rattle.handling_cost.specs.StepCost.{IsActionAt}
use Rattle.plan_cert.specs.Cert.{CertData}
use Rattle.cert_lines.specs.Lines.{action_at}
use Rattle.plan_lines.specs.declared.note.Note.{Note}
use Rattle.cert_lines.specs.declared.row_head.RowHead.{RowHead}
use Rattle.sheet_page.specs.declared.kept.State.{State}
use Rattle.sheet_page.specs.declared.kept.Counts.{Counts}
use Rattle.sheet_page.specs.declared.kept.DeadEnds.{DeadEnds}
use Rattle.sheet_page.specs.declared.kept.Kept.{Kept}
use Rattle.sheet_page.specs.Left.{action_of_note, strokes_left}

-- a key at which these bends are folded
abbrev pub key_at : Mask → Key
key_at mask = record { mask = mask; attitude = 0; stage = 0 }

-- no bend is folded
abbrev pub flat_mask : Mask
flat_mask = record { 0 = 0 }

-- the note is against an action that can be tried where these bends are folded
pub record IsNoteAt (job : JobData) (mask : Mask) (note : Note) : Type 0 where
  pub number : note.action < 24 * stage_count job
  pub action : IsActionAt job (key_at mask) (action_at (stage_count job) note.action)

abbrev pub AreNotesAt : JobData → Mask → List Note → Type 0
AreNotesAt job mask notes = All (IsNoteAt job mask) notes

-- the notes from a place on and none from another on, of all, and those of a state
abbrev pub notes_between : List Note → (begin end : ℕ) → List Note
notes_between notes begin end = take (end - begin) (drop begin notes)

abbrev pub notes_of : List Note → State → List Note
notes_of notes state = notes_between notes state.begin state.end

-- each note is against an action of 12 bends at the job's stages
abbrev pub HaveActions : JobData → List Note → Type 0
HaveActions job notes = All (λ note. note.action < 24 * stage_count job) notes

-- the state's notes are some of these, each against an action that can be tried there
pub record IsStateOf (job : JobData) (notes : List Note) (state : State) : Type 0 where
  pub begins : state.begin ≤ state.end
  pub ends : state.end ≤ length notes
  pub tried : AreNotesAt job state.mask (notes_of notes state)

-- a state of the part: its folded bends, and the notes of its first row
pub record StateData : Type 0 where
  pub mask : Mask
  pub notes : List Note

abbrev pub state_data : List Note → State → StateData
state_data notes state = record { mask = state.mask; notes = notes_of notes state }

-- the notes of a row
abbrev pub notes_at_row : List Note → (row : ℕ) → List Note
notes_at_row notes row = filter (λ note. note.row == row) notes

-- the bends of a mask are those that were folded at the row before, where there is one
abbrev pub is_mask_before : (before : Option Mask) → Mask → Bool
is_mask_before None mask = false
is_mask_before (Some before) mask = before.0 == mask.0

-- a row, where it is the first of its state
unfoldable pub state_begun : List Note → (row : ℕ) → (before : Option Mask) → Mask → List StateData
state_begun notes row before mask =
    if is_mask_before before mask then []
    else record { mask = mask; notes = notes_at_row notes row } ∷ []

-- the states of the last rows, of which the first has this number, behind a row of this mask: of
-- the rows of a state, which stand together, the first counts
abbrev pub last_states : List Note → (row : ℕ) → (before : Option Mask) → List RowHead → List StateData
last_states notes row before [] = []
last_states notes row before (head ∷ rows) =
    state_begun notes row before head.key.mask
    ++ last_states notes (row + 1) (Some head.key.mask) rows

-- the states of the part in a certificate
abbrev pub states_of : CertData → List StateData
states_of cert = last_states cert.notes 0 None cert.rows

-- the state of the flat blank, and its notes; none where it has no row
abbrev pub notes_if_any : Option StateData → List Note
notes_if_any None = []
notes_if_any (Some state) = state.notes

abbrev pub flat_state : List StateData → Option StateData
flat_state states = find (λ state. state.mask.0 == 0) states

abbrev pub flat_notes : List StateData → List Note
flat_notes states = notes_if_any (flat_state states)

-- how many bends are folded at a state
abbrev pub folded : StateData → ℕ
folded state = length (bends_of state.mask)

-- the states at which every stroke is refused
abbrev pub dead_ends : JobData → List StateData → List StateData
dead_ends job states = filter (λ state. strokes_left job state.mask state.notes == 0) states

-- how many bends are folded at most at some states
abbrev pub most_folded : List StateData → ℕ
most_folded states = fold (λ most state. max most (folded state)) 0 states

-- those of the states at which most bends are folded
abbrev pub furthest : List StateData → List StateData
furthest states = filter (λ state. folded state == most_folded states) states

-- how often a bend is refused for a kind of reasons
abbrev pub is_of : JobData → (bend kind : ℕ) → Note → Bool
is_of job bend kind note =
    ((action_of_note job note).bend == bend) && (kind_of note.reason == kind)

abbrev pub refusal_count : JobData → List StateData → (bend kind : ℕ) → ℕ
refusal_count job states bend kind =
    count_by (is_of job bend kind) (flat_map (λ state. state.notes) states)

-- a number is that of a bend, or of a kind of reasons
abbrev pub is_bend : ℕ → Bool
is_bend number = nat_le 1 number && nat_le number 12

abbrev pub is_kind : ℕ → Bool
is_kind number = nat_le 1 number && nat_le number 9

-- the count that is kept of a bend and a kind: 0 where there is no such bend or kind
unfoldable pub count_in : Counts → (bend kind : ℕ) → ℕ
count_in counts bend kind =
    if is_bend bend && is_kind kind
    then slice_index_or counts.all ((bend - 1) * 9 + (kind - 1)) 0
    else 0

-- each count has room as an i64
abbrev pub AreFew : Counts → Type 0
AreFew counts = (bend kind : ℕ) → count_in counts bend kind < 2 ^ 63

-- what is kept as the state of the flat blank is that of these states
pub record IsFlatState (job : JobData) (notes : List Note) (states : List StateData)
    (kept : Option State) : Type 0 where
  pub found : option_map (state_data notes) kept ≡ flat_state states
  pub tried : IfSome kept (IsStateOf job notes)
  pub flat : IfSome kept (λ state. state.mask ≡ flat_mask)

-- what is kept of the states at which every stroke is refused is of these states
pub record AreDeadEnds (job : JobData) (notes : List Note) (states : List StateData)
    (kept : DeadEnds) : Type 0 where
  pub most : kept.most ≡ most_folded states
  pub count : kept.count ≡ length (furthest states)
  pub shown : map (state_data notes) kept.shown.items ≡ take 4 (furthest states)
  pub tried : All (IsStateOf job notes) kept.shown.items

-- what is kept is of these states, whose notes are among these
pub record IsKept (job : JobData) (notes : List Note) (all : List StateData) (kept : Kept)
    : Type 0 where
  pub flat : IsFlatState job notes all kept.flat
  pub states : kept.states ≡ length all
  pub counts : (bend kind : ℕ) → count_in kept.counts bend kind ≡ refusal_count job all bend kind
  pub ends : AreDeadEnds job notes (dead_ends job all) kept.dead_ends

-- no count that is kept is above the number of states or of notes
pub record HasFew (all notes : ℕ) (kept : Kept) : Type 0 where
  pub states : kept.states ≤ all
  pub ends : kept.dead_ends.count ≤ kept.states
  pub counts : (bend kind : ℕ) → count_in kept.counts bend kind ≤ notes
