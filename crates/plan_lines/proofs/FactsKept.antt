-- Whether a bend is a lead, by what is kept of the job.
use Rattle.std.proofs.Common.{◌≡◌, ℕ, zero, suc, ◌+◌, ◌-◌, ◌<◌, ◌≤◌, ◌==◌, Bool, true, false, not, ◌&&◌, nat_lt, nat_le, List, length, get_or, set, IsTrue, sym, ap, subst, ◌∙◌, inl, inr, ltb-true, lt-ltb, arith}
use Rattle.std.specs.Prelude.{◌↔◌, if◌then◌else◌}
use Rattle.std.proofs.lemmas.Grind.{common_steps, get_or-set_at}
use Rattle.std.proofs.lemmas.List.{get_or-set_other}
use Rattle.std.proofs.lemmas.Bool.{and_left, and_right, cases_eq, cases_lt, le-ltb}
use Rattle.std.proofs.lemmas.Bool.Decides.{same_from_decides}
use Rattle.brake_base.specs.declared.mask.Mask.{Mask}
use Rattle.brake_base.specs.Masks.{has, IsEmpty}
use Rattle.fold_boxes.specs.Groups.{is_mate}
use Rattle.job_setup.specs.Setup.{JobData, shape_of, bend_count}
use Rattle.job_setup.specs.StrokeGroup.{in_group, is_lead}
use Rattle.handling_cost.proofs.Actions.{lead_is, lead_from}
use Rattle.plan_lines.specs.declared.job_facts.JobFacts.{JobFacts}
use Rattle.plan_lines.specs.Facts.{none_folded, AreEarlier, KeepsFacts}

-- an unfolded bend is a lead exactly where none of the lesser bends of its group is left
pub unfolded_is : (facts : JobFacts) (job : JobData) (b i : ℕ) (mask d left : Mask) (folded empty : Bool) → KeepsFacts facts job → 1 ≤ b → b ≤ facts.bends → i ≡ b - 1
    → ((c : ℕ) → has left c ≡ (has (get_or facts.earlier i d) c && not (has mask c))) → folded ≡ has mask b → IsTrue empty ↔ IsEmpty left → folded ≡ false → empty ≡ is_lead job mask b
unfolded_is facts job b i mask d left folded empty kept some within at rest is iff unfolded =
    same_from_decides empty (is_lead job mask b) (iff.0, iff.1) (
      λ lead c. members c ∙ elim (cases_lt c b) [
        | inr greater ↦ and_left (nat_lt c b) (in_group job (has mask) b c) (le-ltb c b greater)
        | inl lesser ↦ elim (cases_lt c 1) [
          | inl low ↦ and_right (nat_lt c b) (in_group job (has mask) b c) (zero_is_none c (omega arith))
          | inr first ↦ and_right (nat_lt c b) (in_group job (has mask) b c) ((lead_is job mask b lead).least c first (omega (arith, lesser, inside)) lesser)
        ]
      ],
      λ none. lead_from job mask b (record { flat = sym is ∙ unfolded; least = λ c first last lesser. let out = sym (members c) ∙ none c in rw (lt-ltb c b lesser) at out }),
    )
  where
    inside : b ≤ bend_count job
    inside = omega (arith, within, kept.bends)

    same_lesser : (lesser gang mate folded self : Bool) → (lesser ≡ true → self ≡ false) → ((lesser && (if gang then mate && not false else self)) && not folded) ≡ (lesser && (if gang then mate && not folded else self))
    same_lesser lesser gang mate folded self other = grind arith

    apart : (c : ℕ) → c < b → (c == b) ≡ false
    apart c lesser = grind (arith, common_steps)

    members : (c : ℕ) → has left c ≡ (nat_lt c b && in_group job (has mask) b c)
    members c =
        rest c ∙ ap (λ (t : Bool). t && not (has mask c)) (subst (λ (n : ℕ). AreEarlier job b (get_or facts.earlier n d)) (sym at) (kept.earlier b d some inside) c)
        ∙ same_lesser (nat_lt c b) job.setup.gang (is_mate (shape_of job) b c) (has mask c) (c == b) (λ lesser. apart c (ltb-true c b lesser))

    no_bend : (gang self other : Bool) → self ≡ false → (if gang then false && other else self) ≡ false
    no_bend gang self other e = grind arith

    zero_is_none : (c : ℕ) → c ≡ 0 → in_group job (has mask) b c ≡ false
    zero_is_none c none = rw none (no_bend job.setup.gang (0 == b) (not (has mask 0)) (apart 0 (omega (arith, some))))

-- the members of a group that stand before a bend
pub earlier_are : (job : JobData) (b : ℕ) (group front set : Mask) (none : ℕ → Bool) → 1 ≤ b → ((c : ℕ) → none c ≡ false) → ((c : ℕ) → has group c ≡ in_group job none b c)
    → ((c : ℕ) → has front c ≡ (nat_le 1 c && nat_le c (b - 1))) → ((c : ℕ) → has set c ≡ (has group c && has front c)) → AreEarlier job b set
unfolding has
earlier_are job b group front set none some empty are before both zero = let apart : (0 == b) ≡ false = grind (arith, common_steps) in
    outside job.setup.gang (0 == b) apart
  where
    outside : (gang self : Bool) → self ≡ false → false ≡ (nat_lt 0 b && (if gang then false && true else self))
    outside gang self e = grind arith
earlier_are job b group front set none some empty are before both (suc c) =
    both (suc c) ∙ (λ i. are (suc c) i && (before (suc c) ∙ ordered (suc c) (omega arith)) i) ∙ ap (λ (f : Bool). (if job.setup.gang then is_mate (shape_of job) b (suc c) && not f else (suc c == b)) && nat_lt (suc c) b) (empty (suc c))
    ∙ swap (in_group job none_folded b (suc c)) (nat_lt (suc c) b)
  where
    ordered : (c : ℕ) → 1 ≤ c → (nat_le 1 c && nat_le c (b - 1)) ≡ nat_lt c b
    ordered c first = grind (arith, common_steps)

    swap : (s t : Bool) → (s && t) ≡ (t && s)
    swap s t = grind arith

-- the mask of one more bend
pub one_more : (job : JobData) (masks : List Mask) (bend i : ℕ) (new : Mask) → length masks ≡ 12 → bend ≤ 12 → 1 ≤ bend → i ≡ bend - 1 → AreEarlier job bend new
    → ((b : ℕ) (d : Mask) → 1 ≤ b → b < bend → AreEarlier job b (get_or masks (b - 1) d)) → (b : ℕ) (d : Mask) → 1 ≤ b → b < bend + 1 → AreEarlier job b (get_or (set masks i new) (b - 1) d)
one_more job masks bend i new count few some at is each b d first less = elim (cases_eq b bend) [
  | inl same ↦
      let place : b - 1 ≡ i = omega (arith, same, at) in
      let inside : i < length masks = omega (arith, at, count, few, some) in
      subst (λ m. AreEarlier job b m) (sym (get_or-set_at masks i (b - 1) new d place inside)) (subst (λ n. AreEarlier job n new) (sym same) is)
  | inr apart ↦
      let before : b < bend = omega (arith, apart, less) in
      subst (λ m. AreEarlier job b m) (sym (get_or-set_other masks i (b - 1) new d (λ same. absurd (omega (arith, same, at, before, first, some))))) (each b d first before)
]
