-- The pictures of the refused strokes, note by note.
use Rattle.std.proofs.Common.{◌≡◌, ℕ, ◌+◌, ◌<◌, ◌≤◌, ℤ, pos, ◌+ℤ◌, Bool, true, List, length, get_or, take, drop, sym, subst}
use Rattle.std.specs.Prelude.{Result, Ok, Err, IfOk, int_lt, ◌&&◌}
use Rattle.std.proofs.lemmas.List.{take_more, drop_more}
use Rattle.brake_base.specs.declared.mask.Mask.{Mask}
use Rattle.job_setup.specs.Setup.{JobData}
use Rattle.plan_lines.specs.declared.note.Note.{Note}
use Rattle.brake_base.specs.declared.stroke.Action.{Action}
use Rattle.brake_base.specs.declared.reason.Reason.{Reason}
use Rattle.sheet_views.specs.Drawing.{DrawingData, drawing_of}
use Rattle.sheet_views.specs.Swept.{swept_by}
use Rattle.sheet_figures.specs.Refusals.{IsRefusal}
use Rattle.sheet_page.specs.Left.{action_of_note}
use Rattle.sheet_page.specs.Pictured.{is_pictured, AreOfNote, GoesOn, AreLast}

module _ (job : JobData) (mask : Mask) (notes : List Note) (figure : ℤ) where
  last_one : (at : ℕ) (d : Note) (put next count : ℤ) (before mid after : List ℕ) → at < length notes
      → GoesOn (int_lt put (pos 2) && is_pictured job mask (take at notes) (get_or notes at d)) job mask (get_or notes at d) figure put next before mid
      → AreLast job mask (take (at + 1) notes) (drop (at + 1) notes) figure next count mid after → AreLast job mask (take at notes) (drop at notes) figure put count before after
  last_one at d put next count before mid after within goes rest =
      subst (λ (t : List Note). AreLast job mask (take at notes) t figure put count before after) (sym (drop_more notes at d within))
      (next, mid, goes, subst (λ (t : List Note). AreLast job mask t (drop (at + 1) notes) figure next count mid after) (take_more notes at d within) rest)

  pub last_more : (at : ℕ) (d : Note) (put next : ℤ) (before mid after : List ℕ) {E : Type 0} (r : Result ℤ E) → at < length notes
      → GoesOn (int_lt put (pos 2) && is_pictured job mask (take at notes) (get_or notes at d)) job mask (get_or notes at d) figure put next before mid
      → IfOk r (λ count. AreLast job mask (take (at + 1) notes) (drop (at + 1) notes) figure next count mid after) → IfOk r (λ count. AreLast job mask (take at notes) (drop at notes) figure put count before after)
  last_more at d put next before mid after (Ok count) within goes rest = last_one at d put next count before mid after within goes rest
  last_more at d put next before mid after (Err e) within goes rest = tt

-- what goes on, where nothing is shown, and where the pictures of a note are
module _ (job : JobData) (mask : Mask) (note : Note) (figure put : ℤ) where
  pub goes_more : (shows : Bool) (more count : ℤ) (before after : List ℕ) → shows ≡ true → AreOfNote job mask note (figure +ℤ put) more before after → count ≡ put +ℤ more → GoesOn shows job mask note figure put count before after
  goes_more shows more count before after is pictures further = subst (λ (b : Bool). GoesOn b job mask note figure put count before after) (sym is) (more, pictures, further)

-- the pictures of a note's stroke, as they are put
pub of_note : (job : JobData) (mask : Mask) (note : Note) (action : Action) (drawing : DrawingData) (reason : Reason) (figure count : ℤ) (before after : List ℕ) → action ≡ action_of_note job note → drawing ≡ drawing_of job mask action → reason ≡ note.reason
    → IsRefusal (swept_by job action.stage drawing.pose reason) job drawing action reason figure count before after → AreOfNote job mask note figure count before after
of_note job mask note action drawing reason figure count before after same_action same_drawing same_reason are =
    subst (λ (a : Action). IsRefusal (swept_by job a.stage (drawing_of job mask a).pose note.reason) job (drawing_of job mask a) a note.reason figure count before after) same_action
    (subst (λ (d : DrawingData). IsRefusal (swept_by job action.stage d.pose note.reason) job d action note.reason figure count before after) same_drawing
    (subst (λ (r : Reason). IsRefusal (swept_by job action.stage drawing.pose r) job drawing action r figure count before after) same_reason are))

pub if_ok_map : {T E : Type 0} (P Q : T → Type 0) (r : Result T E) → ((x : T) → P x → Q x) → IfOk r P → IfOk r Q
if_ok_map P Q (Ok x) h is = h x is
if_ok_map P Q (Err e) h is = tt
