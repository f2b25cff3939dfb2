-- How the part is held in the strokes of the bends so far.
use Rattle.std.proofs.Common.{◌≡◌, ◌≢◌, inl, inr, ℕ, ◌+◌, ◌-◌, ◌*◌, ◌<◌, ◌≤◌, List, length, set, get_or, arith, refl, ◌∙◌, ap, length-set}
use Rattle.std.proofs.lemmas.Bool.Decides.{eqb_tells}
use Rattle.std.proofs.lemmas.List.{get_or-set_same, get_or-set_other}
use Rattle.brake_base.specs.declared.mask.Mask.{Mask}
use Rattle.brake_base.specs.declared.stroke.Back.{Back}
use Rattle.brake_base.specs.declared.stroke.Back.TheVariants.{Parent, Child}
use Rattle.brake_base.specs.declared.stroke.Action.{Action}
use Rattle.brake_base.specs.Actions.{back_number}
use Rattle.fold_boxes.specs.Pose.{attitude_of}
use Rattle.job_setup.specs.Setup.{JobData, shape_of}
use Rattle.handling_cost.specs.StepCost.{attitude_at}
use Rattle.set_facts.specs.Facts.{side_place}

-- there are 24 places, and those of the bends below a bend tell how the part is held
abbrev pub AreHeld : JobData → Mask → ℕ → List ℕ → Type 0
AreHeld job mask bend attitudes =
    (length attitudes ≡ 24) × ((action : Action) (d : ℕ) → 1 ≤ action.bend → action.bend < bend → get_or attitudes (side_place action.bend action.back) d ≡ attitude_at job mask action)

-- two bends have no place in common
other_bend : (b c : ℕ) (back side : Back) → 1 ≤ b → b < c → (b - 1) * 2 + back_number back ≢ (c - 1) * 2 + back_number side
other_bend b c Parent Parent first less same = omega (arith, first, less, same)
other_bend b c Parent Child first less same = omega (arith, first, less, same)
other_bend b c Child Parent first less same = omega (arith, first, less, same)
other_bend b c Child Child first less same = omega (arith, first, less, same)

-- one bend more
pub held_more : (job : JobData) (mask : Mask) (bend : ℕ) (attitudes : List ℕ) (parent child : ℕ) → 1 ≤ bend → bend ≤ 12 →
    parent ≡ attitude_of (shape_of job) mask bend Parent → child ≡ attitude_of (shape_of job) mask bend Child → AreHeld job mask bend attitudes →
    AreHeld job mask (bend + 1) (set (set attitudes ((bend - 1) * 2) parent) ((bend - 1) * 2 + 1) child)
unfolding attitude_at
held_more job mask bend attitudes parent child first last parent_is child_is held =
    let place = (bend - 1) * 2 in
    let one = set attitudes place parent in
    let count : length one ≡ 24 = length-set attitudes place parent ∙ held.0 in (
      length-set one (place + 1) child ∙ count,
      λ action d low high. elim (eqb_tells action.bend bend) [
        | inl here ↦ by_side action d here.1 action.back refl
        | inr there ↦
            get_or-set_other one (place + 1) (side_place action.bend action.back) child d (other_bend action.bend bend action.back Child low (let no = there.1 in omega (arith, high, no)))
            ∙ (get_or-set_other attitudes place (side_place action.bend action.back) parent d (λ same. other_bend action.bend bend action.back Parent low (let no = there.1 in omega (arith, high, no)) (omega (arith, same)))
            ∙ held.1 action d low (let no = there.1 in omega (arith, high, no)))
      ],
    )
  where
    by_side : (action : Action) (d : ℕ) → action.bend ≡ bend → (back : Back) → action.back ≡ back →
        get_or (set (set attitudes ((bend - 1) * 2) parent) ((bend - 1) * 2 + 1) child) ((action.bend - 1) * 2 + back_number action.back) d ≡ attitude_of (shape_of job) mask action.bend action.back
    by_side action d here Parent side =
        let place = (bend - 1) * 2 in
        rw (here, side) (get_or-set_other (set attitudes place parent) (place + 1) (place + 0) child d (λ same. omega (arith, same))
        ∙ (ap (λ (n : ℕ). get_or (set attitudes place parent) n d) (omega arith) ∙ (get_or-set_same attitudes place parent d (omega (arith, held.0, last)) ∙ parent_is)))
    by_side action d here Child side =
        let place = (bend - 1) * 2 in
        let count : length (set attitudes place parent) ≡ 24 = length-set attitudes place parent ∙ held.0 in
        rw (here, side) (get_or-set_same (set attitudes place parent) (place + 1) child d (omega (arith, count, last)) ∙ child_is)
