-- The costs of a set's actions alone, side by side, and those of its actions that cost the least.
use Rattle.std.proofs.Common.{◌≡◌, ℕ, ◌+◌, ◌*◌, ◌/◌, ◌%◌, ◌<◌, ◌≤◌, true, false, Bool, ◌&&◌, ◌==◌, refl, if◌then◌else◌, IsTrue, List, slice_index, ap, sym, ◌∙◌, arith, inl, inr, true≢false}
use Rattle.std.proofs.lemmas.Bool.{cases_eq, cases_Bool, eqb-true}
use Rattle.brake_base.specs.declared.mask.Mask.{Mask}
use Rattle.brake_base.specs.declared.stroke.Back.{Back}
use Rattle.brake_base.specs.declared.stroke.Back.TheVariants.{Parent, Child}
use Rattle.brake_base.specs.Actions.{IsActionAmong, back_number}
use Rattle.brake_base.specs.declared.stroke.Action.{Action}
use Rattle.stage_lanes.specs.declared.actions.ActionSet.{ActionSet}
use Rattle.stage_lanes.specs.declared.stages.StageSet.{StageSet}
use Rattle.stage_lanes.specs.Stages
use Rattle.stage_lanes.specs.Stages.{AreStages}
use Rattle.stage_lanes.specs.Lanes.{AreLanes}
use Rattle.stage_lanes.specs.ActionSets.{has_place, place_of, ArePlaces, IsFirst, IsNone}
use Rattle.action_lanes.specs.declared.costs.ActionCosts.{ActionCosts}
use Rattle.action_lanes.specs.Costs.{cost_at, is_of, AreCosts, IsLeastCost, IsCheapest}
use Rattle.action_lanes.specs.Cheapest.{AreOf, AreCheapest}
use Rattle.action_lanes.proofs.CostLemmas.{place_is, test_same, when_same, when_apart}

-- the costs of the set's actions at the sides before a side
abbrev pub AreOnlyTo : ActionCosts → ActionSet → ℕ → ActionCosts → Type 0
AreOnlyTo costs set sides only =
    (place : ℕ) → place < 192 → place / 8 < sides → cost_at only place ≡ (if has_place set place then cost_at costs place else 536870912)

pub side_only : (costs : ActionCosts) (set : ActionSet) (side : ℕ) (stages : StageSet) (only next : ActionCosts) (all kept lanes : List ℕ)
    → AreStages stages (λ stage. has_place set (8 * side + stage)) → AreLanes lanes (λ stage. cost_at costs (8 * side + stage)) → AreLanes all (λ stage. 536870912)
    → AreLanes kept (λ stage. if Stages.has stages stage then slice_index lanes stage else slice_index all stage)
    → AreCosts next (λ place. if place / 8 == side then slice_index kept (place % 8) else cost_at only place)
    → AreOnlyTo costs set side only → AreOnlyTo costs set (side + 1) next
side_only costs set side stages only next all kept lanes are costed blocked kept_are set_are before place h past = set_are place h ∙ elim (cases_eq (place / 8) side) [
  | inl same ↦
      let at : 8 * side + place % 8 ≡ place = omega (arith, same) in
      let low : place % 8 < 8 = omega arith in
      when_same (place / 8) side (slice_index kept (place % 8)) (cost_at only place) same ∙ kept_are (place % 8) low
      ∙ (λ i. if are (place % 8) low i then costed (place % 8) low i else blocked (place % 8) low i)
      ∙ ap (λ (n : ℕ). if has_place set n then cost_at costs n else 536870912) at
  | inr apart ↦
      when_apart (place / 8) side (slice_index kept (place % 8)) (cost_at only place) apart ∙ before place h (omega (arith, past, apart))
]

back_few : (back : Back) → back_number back < 2
back_few Parent = omega arith
back_few Child = omega arith

place_low : (action : Action) → IsActionAmong 12 8 action → place_of action < 192
place_low action among = omega (arith, place_is action, back_few action.back, among.last, among.stage)

both_true : (a b : Bool) → a ≡ true → b ≡ true → (a && b) ≡ true
both_true true b one other = other
both_true false b one other = absurd (true≢false (sym one))

parts_true : (a b : Bool) → (a && b) ≡ true → (a ≡ true) × (b ≡ true)
parts_true true b e = (refl, e)
parts_true false b e = absurd (true≢false (sym e))

-- from costs of which all but the set's are those of no way on
module _ (costs : ActionCosts) (bends : Mask) (set same both : ActionSet) (least : ℕ) (of : AreOf bends set)
    (small : (place : ℕ) → place < 192 → IsTrue (has_place set place) → cost_at costs place ≤ 536870912) (lowest : IsLeastCost costs bends least)
    (equal : ArePlaces same (λ place. is_of bends place && (cost_at costs place == least))) (common : ArePlaces both (λ place. has_place same place && has_place set place)) where
  taken : (place : ℕ) → place < 192 → IsTrue (has_place set place) → cost_at costs place ≡ least → IsTrue (has_place both place)
  taken place h its is =
      common place h ∙ both_true (has_place same place) (has_place set place)
      (equal place h ∙ both_true (is_of bends place) (cost_at costs place == least) (of place h its) (ap (λ (n : ℕ). n == least) is ∙ test_same least)) its

  cost_is : (place : ℕ) → place < 192 → IsTrue (has_place both place) → cost_at costs place ≡ least
  cost_is place h t =
      let here = (parts_true (has_place same place) (has_place set place) (sym (common place h) ∙ t)).0 in
      eqb-true (cost_at costs place) least (parts_true (is_of bends place) (cost_at costs place == least) (sym (equal place h) ∙ here)).1

  pub cheapest_are : AreCheapest costs set both
  cheapest_are = record {
    among = λ place h t. (parts_true (has_place same place) (has_place set place) (sym (common place h) ∙ t)).1;
    least = λ place other h k t its.
        let is = cost_is place h t in
        let most = lowest.least other k (of other k its) in
        elim (cases_eq (cost_at costs other) least) [
          | inl ties ↦ inr (is ∙ sym ties, taken other k its ties)
          | inr dearer ↦ inl (omega (arith, is, most, dearer))
        ];
  }

  pub none_cheapest : ((place : ℕ) → place < 192 → has_place set place ≡ false → cost_at costs place ≡ 536870912) → IsNone both → IsNone set
  none_cheapest others none place h = elim (cases_Bool (has_place set place)) [
    | inl its ↦
        let most = lowest.least place h (of place h its) in
        let few = small place h its in
        let capped = lowest.capped in
        absurd (elim lowest.attained [
          | inl blocked ↦ true≢false (sym (taken place h its (omega (arith, blocked, most, few))) ∙ none place h)
          | inr found ↦ elim (cases_Bool (has_place set found.0)) [
            | inl member ↦ true≢false (sym (taken found.0 found.1 member found.3) ∙ none found.0 found.1)
            | inr out ↦
                let blocked = others found.0 found.1 out in
                let cost = found.3 in
                true≢false (sym (taken place h its (omega (arith, blocked, cost, most, few))) ∙ none place h)
          ]
        ])
    | inr out ↦ out
  ]

-- the first of those that cost the least comes before all others by its cost
pub first_cheapest : (costs : ActionCosts) (set part : ActionSet) → AreCheapest costs set part → (action : Action) → IsFirst part action → IsCheapest costs set action
first_cheapest costs set part are action first =
    let low = place_low action first.among in
    record {
      among = first.among;
      member = are.among (place_of action) low first.member;
      none_earlier = λ place h t earlier. elim (are.least (place_of action) place low h first.member t) [
        | inl dearer ↦ elim earlier [
          | inl less ↦ omega (arith, less, dearer)
          | inr tie ↦ let e = tie.0 in omega (arith, e, dearer)
        ]
        | inr same ↦ elim earlier [
          | inl less ↦ let e = same.0 in omega (arith, less, e)
          | inr tie ↦ true≢false (sym same.1 ∙ first.none_before place tie.1)
        ]
      ];
    }
