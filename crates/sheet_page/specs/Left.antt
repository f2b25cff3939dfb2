-- The strokes of a state of the part that no note is against.
use Rattle.std.specs.Prelude.{ℕ, ◌+◌, ◌==◌, nat_lt, Bool, not, ◌&&◌, List, length, sum_by, if◌then◌else◌}
use Rattle.std.specs.List.{list_any}
use Rattle.brake_base.specs.declared.mask.Mask.{Mask}
use Rattle.brake_base.specs.declared.stroke.Action.{Action}
use Rattle.brake_base.specs.declared.stroke.Back.{Back}
use Rattle.brake_base.specs.declared.stroke.Back.TheVariants.{Parent, Child}
use Rattle.brake_base.specs.Actions.{number_of_action}
use Rattle.brake_base.specs.Masks.{numbers_to}
use Rattle.job_setup.specs.Setup.{JobData, bend_count, stage_count}
use Rattle.job_setup.specs.StrokeGroup.{is_lead}
use Rattle.plan_lines.specs.declared.note.Note.{Note}
use Rattle.cert_lines.specs.Lines.{action_at}
use Rattle.sheet_page.specs.Ways.{stations_with}

-- the action of a note
abbrev pub action_of_note : JobData → Note → Action
action_of_note job note = action_at (stage_count job) note.action

-- one of the notes is against this action
abbrev pub is_noted : JobData → List Note → Action → Bool
is_noted job notes action =
    list_any (λ note. note.action == number_of_action (stage_count job) action) notes

-- the bend can be tried in this way, and no note is against it
abbrev pub is_left_so : JobData → List Note → (bend : ℕ) → Back → (station : ℕ) → Bool
is_left_so job notes bend back station =
    nat_lt station (stage_count job)
    && not (is_noted job notes (record { bend = bend; back = back; stage = station }))

-- in how many ways the bend is left, where a stroke of it can be tried
unfoldable pub left_of : JobData → Mask → List Note → (bend : ℕ) → ℕ
left_of job mask notes bend =
    if is_lead job mask bend
    then length (stations_with (is_left_so job notes bend Parent))
    + length (stations_with (is_left_so job notes bend Child))
    else 0

-- how many strokes are left
abbrev pub strokes_left : JobData → Mask → List Note → ℕ
strokes_left job mask notes = sum_by (left_of job mask notes) (numbers_to (bend_count job))
