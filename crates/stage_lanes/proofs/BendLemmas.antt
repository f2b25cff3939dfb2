-- All actions of some bends at some stages, bend by bend.
use Rattle.std.proofs.Common.{◌≡◌, ℕ, ◌+◌, ◌/◌, ◌%◌, ◌≤◌, Bool, true, false, ◌&&◌, ◌||◌, nat_lt, ◌==◌, refl, ap, sym, ◌∙◌, arith, inl, inr}
use Rattle.std.proofs.lemmas.Bool.{cases_lt, cases_eq}
use Rattle.brake_base.specs.declared.mask.Mask.{Mask}
use Rattle.brake_base.specs.Masks
use Rattle.stage_lanes.specs.declared.actions.ActionSet.{ActionSet}
use Rattle.stage_lanes.specs.declared.stages.StageSet.{StageSet}
use Rattle.stage_lanes.specs.Stages
use Rattle.stage_lanes.specs.ActionSets.{ArePlaces, IsNone}
use Rattle.stage_lanes.proofs.SetLemmas.{yes, no}

-- the set has all actions of those bends that are below a bend
abbrev pub HasBelow : Mask → StageSet → ℕ → ActionSet → Type 0
HasBelow bends stages bend set = ArePlaces set (λ place. nat_lt (place / 16 + 1) bend && (Masks.has bends (place / 16 + 1) && Stages.has stages (place % 8)))

pub none_below : (bends : Mask) (stages : StageSet) (set : ActionSet) → IsNone set → HasBelow bends stages 1 set
none_below bends stages set none place h = none place h ∙ ap (λ t. t && (Masks.has bends (place / 16 + 1) && Stages.has stages (place % 8))) (no (place / 16 + 1) 1 (omega arith))

mixed : Bool → Bool → Bool → Bool → Bool → Bool
mixed lower bend stage parent child = ((lower && (bend && stage)) || (parent && stage)) || (child && stage)

and_nothing : (t : Bool) → false ≡ (t && false)
and_nothing true = refl
and_nothing false = refl

pub bend_skipped : (bends : Mask) (stages : StageSet) (bend : ℕ) (set : ActionSet) → Masks.has bends bend ≡ false → HasBelow bends stages bend set → HasBelow bends stages (bend + 1) set
bend_skipped bends stages bend set absent below place h =
    let own = place / 16 + 1 in
    let stage = Stages.has stages (place % 8) in
    below place h ∙ elim (cases_lt own bend) [
      | inl lower ↦ ap (λ t. t && (Masks.has bends own && stage)) (sym (yes own bend lower) ∙ yes own (bend + 1) (omega (arith, lower)))
      | inr above ↦ elim (cases_eq own bend) [
        | inl same ↦
            let gone : Masks.has bends own ≡ false = ap (Masks.has bends) same ∙ absent in
            ap (λ t. t && (Masks.has bends own && stage)) (sym (no own bend above)) ∙ and_nothing (nat_lt own (bend + 1)) ∙ ap (λ t. nat_lt own (bend + 1) && (t && stage)) (sym gone)
        | inr apart ↦ ap (λ t. t && (Masks.has bends own && stage)) (sym (no own bend above) ∙ no own (bend + 1) (omega (arith, above, apart)))
      ]
    ]

pub all_below : (bends : Mask) (stages : StageSet) (bend : ℕ) (set : ActionSet) → 13 ≤ bend → HasBelow bends stages bend set → ArePlaces set (λ place. Masks.has bends (place / 16 + 1) && Stages.has stages (place % 8))
all_below bends stages bend set past below place h = below place h ∙ ap (λ t. t && (Masks.has bends (place / 16 + 1) && Stages.has stages (place % 8))) (sym (yes (place / 16 + 1) bend (omega (arith, h, past))))
