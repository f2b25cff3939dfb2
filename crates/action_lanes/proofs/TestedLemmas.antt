-- Which actions are tested: those with a sum below the worth, and of those at the worth the ones up to
-- the first that gives it.
use Rattle.std.proofs.Common.{◌≡◌, ℕ, ◌<◌, ◌≤◌, ◌⊎◌, Bool, true, false, ◌&&◌, ◌||◌, nat_lt, ◌==◌, IsTrue, refl, ap, sym, ◌∙◌, arith, inl, inr, true≢false}
use Rattle.std.proofs.lemmas.Bool.{cases_lt, cases_eq, and_parts, and_from, or_parts, or_left, or_right}
use Rattle.brake_base.specs.declared.mask.Mask.{Mask}
use Rattle.brake_base.specs.declared.stroke.Back.{Back}
use Rattle.brake_base.specs.declared.stroke.Back.TheVariants.{Parent, Child}
use Rattle.brake_base.specs.declared.stroke.Action.{Action}
use Rattle.brake_base.specs.Actions.{IsActionAmong, back_number, number_of_action}
use Rattle.stage_lanes.specs.declared.actions.ActionSet.{ActionSet}
use Rattle.stage_lanes.specs.ActionSets.{has_place, place_of, ArePlaces, IsNone, IsFirst}
use Rattle.action_lanes.specs.declared.costs.ActionCosts.{ActionCosts}
use Rattle.action_lanes.specs.Costs.{cost_at, is_of, IsLeastCost}
use Rattle.action_lanes.specs.Tested.{IsTested, AreTested}
use Rattle.action_lanes.proofs.CostLemmas.{test_same, test_apart, yes, no}

back_low : (back : Back) → back_number back < 2
back_low Parent = omega arith
back_low Child = omega arith

pub place_below : (action : Action) → IsActionAmong 12 8 action → place_of action < 192
unfolding number_of_action
place_below action h = let b = back_low action.back in let f = h.first in let l = h.last in let s = h.stage in omega (arith, b, f, l, s)

pub less : (m n : ℕ) → nat_lt m n ≡ true → m < n
less m n e = elim (cases_lt m n) [
  | inl low ↦ low
  | inr high ↦ absurd (true≢false (sym e ∙ sym (no m n high)))
]

pub equal_is : (m n : ℕ) → (m == n) ≡ true → m ≡ n
equal_is m n e = elim (cases_eq m n) [
  | inl same ↦ same
  | inr apart ↦ absurd (true≢false (sym e ∙ test_apart m n apart))
]

either : (a b : Bool) → (a || b) ≡ true → (a ≡ true) ⊎ (b ≡ true)
either true b e = inl refl
either false b e = inr e

module _ (leads : Mask) (sums known : ActionCosts) (best : ℕ)
    (bound : (place : ℕ) → place < 192 → IsTrue (is_of leads place) → cost_at sums place ≤ cost_at known place)
    (least : IsLeastCost known leads best) (below : ActionSet)
    (lesser : ArePlaces below (λ place. is_of leads place && nat_lt (cost_at sums place) best)) where
  in_below : (place : ℕ) → place < 192 → IsTrue (has_place below place) → IsTrue (is_of leads place) × (cost_at sums place < best)
  in_below place h t =
      let both = and_parts (is_of leads place) (nat_lt (cost_at sums place) best) (sym (lesser place h) ∙ t) in
      (both.0, less (cost_at sums place) best both.1)

  to_below : (place : ℕ) → place < 192 → IsTrue (is_of leads place) → cost_at sums place < best → IsTrue (has_place below place)
  to_below place h of low = lesser place h ∙ and_from (is_of leads place) (nat_lt (cost_at sums place) best) of (sym (yes (cost_at sums place) best low))

  not_below : (place : ℕ) → place < 192 → IsTrue (is_of leads place) → has_place below place ≡ false → best ≤ cost_at sums place
  not_below place h of e = elim (cases_lt (cost_at sums place) best) [
    | inl low ↦ absurd (true≢false (sym (to_below place h of low) ∙ e))
    | inr high ↦ high
  ]

  below_tested : (place : ℕ) → IsTrue (is_of leads place) → cost_at sums place < best → IsTested leads sums known place
  below_tested place of low = record {
    bend = of;
    way = let c = least.capped in omega (arith, c, low);
    dearer = λ other h its earlier. let l = least.least other h its in omega (arith, l, low);
  }

  module _ (giving : ActionSet) (equal : ArePlaces giving (λ place. is_of leads place && (cost_at known place == best)))
      (both : ActionSet) (shared : ArePlaces both (λ place. has_place giving place && has_place below place)) where
    in_giving : (place : ℕ) → place < 192 → IsTrue (has_place giving place) → IsTrue (is_of leads place) × (cost_at known place ≡ best)
    in_giving place h t =
        let parts = and_parts (is_of leads place) (cost_at known place == best) (sym (equal place h) ∙ t) in
        (parts.0, equal_is (cost_at known place) best parts.1)

    to_giving : (place : ℕ) → place < 192 → IsTrue (is_of leads place) → cost_at known place ≡ best → IsTrue (has_place giving place)
    to_giving place h of e = equal place h ∙ and_from (is_of leads place) (cost_at known place == best) of (ap (λ n. n == best) e ∙ test_same best)

    module _ (way : best < 536870912) (apart : IsNone both) (first : Action) (is_first : IsFirst giving first)
        (at_best : ActionSet) (ties : ArePlaces at_best (λ place. is_of leads place && (cost_at sums place == best)))
        (before until : ActionSet) (earlier : ArePlaces before (λ place. nat_lt place (place_of first)))
        (to_first : ArePlaces until (λ place. has_place before place || place == place_of first))
        (tied : ActionSet) (in_both : ArePlaces tied (λ place. has_place at_best place && has_place until place))
        (result : ActionSet) (joined : ArePlaces result (λ place. has_place below place || has_place tied place)) where
      end : ℕ
      end = place_of first

      low_end : place_of first < 192
      low_end = place_below first is_first.among

      -- one that gives the worth has it as its sum
      gives_at_sum : (place : ℕ) → place < 192 → IsTrue (has_place giving place) → cost_at sums place ≡ best
      gives_at_sum place h t =
          let gives = in_giving place h t in
          let most = bound place h gives.0 in
          let its = gives.1 in
          elim (cases_lt (cost_at sums place) best) [
            | inl low ↦ absurd (true≢false (sym (shared place h ∙ and_from (has_place giving place) (has_place below place) t (to_below place h gives.0 low)) ∙ apart place h))
            | inr high ↦ omega (arith, high, most, its)
          ]

      first_sum : cost_at sums (place_of first) ≡ best
      first_sum = gives_at_sum (place_of first) low_end is_first.member

      in_tied : (place : ℕ) → place < 192 → IsTrue (has_place tied place) → IsTrue (is_of leads place) × (cost_at sums place ≡ best) × (place ≤ place_of first)
      in_tied place h t =
          let parts = and_parts (has_place at_best place) (has_place until place) (sym (in_both place h) ∙ t) in
          let its = and_parts (is_of leads place) (cost_at sums place == best) (sym (ties place h) ∙ parts.0) in (
            its.0,
            equal_is (cost_at sums place) best its.1,
            elim (either (has_place before place) (place == place_of first) (sym (to_first place h) ∙ parts.1)) [
              | inl less_than ↦ let l = less place (place_of first) (sym (earlier place h) ∙ less_than) in omega (arith, l)
              | inr same ↦ let e = equal_is place (place_of first) same in omega (arith, e)
            ],
          )

      to_tied : (place : ℕ) → place < 192 → IsTrue (is_of leads place) → cost_at sums place ≡ best → place ≤ place_of first → IsTrue (has_place tied place)
      to_tied place h of e low = in_both place h ∙ and_from (has_place at_best place) (has_place until place)
          (ties place h ∙ and_from (is_of leads place) (cost_at sums place == best) of (ap (λ n. n == best) e ∙ test_same best))
          (to_first place h ∙ elim (cases_lt place (place_of first)) [
            | inl less_than ↦ or_left (has_place before place) (place == place_of first) (earlier place h ∙ sym (yes place (place_of first) less_than))
            | inr reached ↦ or_right (has_place before place) (place == place_of first) (let e : place ≡ place_of first = omega (arith, low, reached) in ap (λ n. n == place_of first) e ∙ test_same (place_of first))
          ])

      tied_tested : (place : ℕ) → IsTrue (is_of leads place) → cost_at sums place ≡ best → place ≤ place_of first → IsTested leads sums known place
      tied_tested place of e low = record {
        bend = of;
        way = omega (arith, e, way);
        dearer = λ other h its sooner. elim (cases_lt best (cost_at known other)) [
          | inl more ↦ omega (arith, e, more)
          | inr no_more ↦
              let l = least.least other h its in
              let gives = to_giving other h its (omega (arith, l, no_more)) in
              let s = gives_at_sum other h gives in
              absurd (elim sooner [
                | inl lower ↦ omega (arith, lower, s, e)
                | inr tie ↦ let p = tie.1 in true≢false (sym gives ∙ is_first.none_before other (omega (arith, p, low)))
              ])
        ];
      }

      tested_in : (place : ℕ) → place < 192 → IsTested leads sums known place → IsTrue (has_place result place)
      tested_in place h t = joined place h ∙ elim (cases_lt (cost_at sums place) best) [
        | inl low ↦ or_left (has_place below place) (has_place tied place) (to_below place h t.bend low)
        | inr high ↦
            let g = in_giving (place_of first) low_end is_first.member in
            let gives = g.1 in
            elim (cases_lt best (cost_at sums place)) [
              | inl more ↦ let d = t.dearer (place_of first) low_end g.0 (inl (omega (arith, more, first_sum))) in absurd (omega (arith, d, gives, more))
              | inr no_more ↦
                  let e : cost_at sums place ≡ best = omega (arith, high, no_more) in
                  elim (cases_lt (place_of first) place) [
                    | inl past ↦ let d = t.dearer (place_of first) low_end g.0 (inr (omega (arith, e, first_sum), past)) in absurd (omega (arith, d, gives, e))
                    | inr up_to ↦ or_right (has_place below place) (has_place tied place) (to_tied place h t.bend e up_to)
                  ]
            ]
      ]

      result_cases : (place : ℕ) → place < 192 → IsTrue (has_place result place) → IsTested leads sums known place × (cost_at sums place ≤ best)
      result_cases place h t = elim (either (has_place below place) (has_place tied place) (sym (joined place h) ∙ t)) [
        | inl low ↦ let p = in_below place h low in let l = p.1 in (below_tested place p.0 p.1, omega (arith, l))
        | inr tie ↦ let p = in_tied place h tie in let e = p.1 in (tied_tested place p.0 p.1 p.2, omega (arith, e))
      ]

      pub up_to_the_first : AreTested leads sums known best result
      up_to_the_first = record {
        tested = λ place h. ((λ t. (result_cases place h t).0), tested_in place h);
        rest = λ place h of e. not_below place h of (or_parts (has_place below place) (has_place tied place) (sym (joined place h) ∙ e)).0;
        most = λ place h t. (result_cases place h t).1;
      }
