-- The action that has a place in sets, and its number.
use Rattle.std.proofs.Common.{◌≡◌, ℕ, ◌+◌, ◌-◌, ◌*◌, ◌/◌, ◌%◌, ◌<◌, ◌≤◌, ◌==◌, if◌then◌else◌, arith}
use Rattle.std.proofs.lemmas.Nat.{div-mul-add, mod-mul-add, same_from_place}
use Rattle.std.proofs.lemmas.Grind.{common_steps}
use Rattle.brake_base.specs.declared.stroke.Back.TheVariants.{Parent, Child}
use Rattle.brake_base.specs.declared.stroke.Action.{Action}
use Rattle.brake_base.specs.Actions.{IsActionAmong}
use Rattle.stage_lanes.specs.ActionSets.{place_of}
use Rattle.cert_lines.specs.Lines.{action_at}
use Rattle.plan_lines.specs.NoteLines.{number_at}
use Rattle.plan_lines.proofs.ActionNumbers.{action_of_number}
use Rattle.plan_lines.proofs.NoteSets.{place_below}

-- an action of a machine with fewer stages is one of a machine with eight
pub among_eight : (stages : ℕ) (action : Action) → stages ≤ 8 → IsActionAmong 12 stages action → IsActionAmong 12 8 action
among_eight stages action few among = let s = among.stage in record { first = among.first; last = among.last; stage = omega (arith, s, few) }

-- the action at an action's place is that action
pub action_of_place : (action : Action) → IsActionAmong 12 8 action → action ≡ action_at 8 (place_of action)
action_of_place action among = action_of_number 8 action among (place_below action among)

-- the action of the number of a place is that of the place
pub action_at_number : (stages place : ℕ) → place % 8 < stages → action_at stages (number_at stages place) ≡ action_at 8 place
action_at_number stages place stage =
    let quotient : number_at stages place / stages ≡ place / 8 = div-mul-add (place / 8) stages (place % 8) stage in
    let rest : number_at stages place % stages ≡ place % 8 = mod-mul-add (place / 8) stages (place % 8) stage in
    λ i. record {
      bend = quotient i / 2 + 1;
      back = if quotient i % 2 == 0 then Parent else Child;
      stage = rest i;
    }

-- places of one number are one
pub same_place : (stages place other : ℕ) → place % 8 < stages → other % 8 < stages → number_at stages place ≡ number_at stages other → place ≡ other
same_place stages place other here there same =
    let parts = same_from_place (place / 8) (place % 8) (other / 8) (other % 8) stages here there same in
    let side = parts.0 in
    let stage = parts.1 in
    omega (arith, side, stage)

-- the number of a place is one of 24 sides' numbers
pub number_at_below : (stages place : ℕ) → place < 192 → place % 8 < stages → number_at stages place < 24 * stages
number_at_below stages place within stage =
    let side : place / 8 + 1 ≤ 24 = omega (arith, within) in
    below (place / 8) stages (place % 8) side stage
  where
    below : (side stages stage : ℕ) → side + 1 ≤ 24 → stage < stages → side * stages + stage < 24 * stages
    below side stages stage few small = grind (arith, common_steps)
