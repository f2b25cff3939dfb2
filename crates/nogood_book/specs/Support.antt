-- The support of a reason: the bends on which it depends.
use Rattle.std.specs.Prelude.{◌≡◌, ℕ, ◌≤◌, nat_le, Bool, false, ◌&&◌, ◌||◌, IsTrue, List, [], ◌∷◌, All}
use Rattle.std.specs.List.{list_any}
use Rattle.brake_base.specs.declared.mask.Mask.{Mask}
use Rattle.brake_base.specs.declared.reason.Reason.{Reason}
use Rattle.brake_base.specs.declared.reason.Reason.TheVariants.{Frame, Upper, Nose, Lower, SelfHit}
use Rattle.brake_base.specs.Masks.{has, mask_of}
use Rattle.unfolder.specs.Cores.{joint_of}
use Rattle.fold_boxes.specs.Pose.{face_of_box}
use Rattle.job_setup.specs.Setup.{JobData, bend_count}
use Rattle.job_setup.specs.StrokeGroup.{in_group}
use Rattle.box_support.specs.Deciding.{is_deciding}

-- the boxes that a reason names
abbrev pub named_boxes : Reason → List ℕ
named_boxes (Frame box) = box ∷ []
named_boxes (Upper box quarter index) = box ∷ []
named_boxes (Nose box quarter stage) = box ∷ []
named_boxes (Lower box quarter index) = box ∷ []
named_boxes (SelfHit box quarter other) = box ∷ other ∷ []
named_boxes _ = []

-- they are the numbers of the job's faces, and of the corners of its bends
abbrev pub NamesBoxes : JobData → Reason → Type 0
NamesBoxes job reason = All (λ box. face_of_box box ≤ bend_count job) (named_boxes reason)

-- The bend is in the support of a reason against the strokes of bend b: it may be bent in one
-- stroke with b, or it decides where one of the reason's boxes lies as seen from the face on which
-- b stands.
abbrev pub is_in_support : JobData → ℕ → Reason → ℕ → Bool
is_in_support job b reason bend =
    let faces = job.part.faces in
    in_group job (λ c. false) b bend
    || list_any (λ box. is_deciding faces (joint_of faces b).on box bend) (named_boxes reason)

-- the number of a bend of the job
abbrev pub is_bend : JobData → ℕ → Bool
is_bend job bend = nat_le 1 bend && nat_le bend (bend_count job)

-- the support as a set of the job's bends
unfoldable pub support_of : JobData → ℕ → Reason → Mask
support_of job b reason = mask_of (λ bend. is_bend job bend && is_in_support job b reason bend)

-- two sets of folded bends agree on the support
abbrev pub AgreeOnSupport : JobData → ℕ → Reason → Mask → Mask → Type 0
AgreeOnSupport job b reason s t =
    (bend : ℕ) → IsTrue (is_in_support job b reason bend) → has s bend ≡ has t bend
