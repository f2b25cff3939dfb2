-- The table with no stroke, and with one more.
use Rattle.std.proofs.Common.{◌≡◌, ◌⊎◌, inl, inr, ℕ, zero, suc, ◌-◌, ◌^◌, ◌<◌, ◌≤◌, List, length, get_or, replicate, Option, Some, None, refl, sym, ◌∙◌, ap, subst, arith}
use Rattle.std.specs.Prelude.{unwrap_or, slice_set}
use Rattle.std.proofs.lemmas.Bool.{cases_lt}
use Rattle.std.proofs.lemmas.List.{get_or-set_same, get_or-set_other, length-set, length-replicate}
use Rattle.brake_base.specs.declared.mask.Mask.{Mask}
use Rattle.brake_base.specs.declared.stroke.Back.{Back}
use Rattle.brake_base.specs.declared.stroke.Back.TheVariants.{Parent, Child}
use Rattle.fold_boxes.specs.Pose.{attitude_of}
use Rattle.job_setup.specs.Setup.{JobData, shape_of}
use Rattle.job_setup.specs.StrokeGroup.{group_of}
use Rattle.job_setup.specs.ValidJob.{IsJob}
use Rattle.stage_lanes.specs.declared.codes.StageCodes.{StageCodes}
use Rattle.stroke_table.specs.declared.known.Hold.{Hold}
use Rattle.stroke_table.specs.declared.known.KeptStroke.{KeptStroke}
use Rattle.stroke_table.specs.Codes.{IsFirstCode, AreCodesOf}
use Rattle.stroke_table.specs.Finding.{IsFoundGauge, IsFound}
use Rattle.stroke_table.specs.Table.{place_of, place_count, IsKeptOf, IsHoldOf, IsCodeAt, AreCodesAt, IsHoldAt, IsTable}
use Rattle.stroke_table.proofs.FirstCodes.{all_codes}

-- what is found of a stroke is kept of it
pub kept_of : (job : JobData) → IsJob job → (mask : Mask) (lead : ℕ) (back : Back) (kept : KeptStroke) → kept.attitude ≡ attitude_of (shape_of job) mask lead back
    → IsFound job (record { of = record { group = group_of job mask lead; back = back }; mask = mask }) kept.found → IsKeptOf job mask lead back kept
kept_of job fit mask lead back kept same found = record {
  attitude = same;
  codes = all_codes job fit mask (record { group = group_of job mask lead; back = back }) lead kept.found.codes.0 refl found.codes;
  gauge = found.gauge;
}

none_at : (n i : ℕ) → ◌≡◌ {A = Option KeptStroke} (get_or (replicate n None) i None) None
none_at zero i = refl
none_at (suc n) zero = refl
none_at (suc n) (suc i) = none_at n i

pub no_stroke : (job : JobData) → length job.part.faces ≤ 13 → (n : ℕ) → n ≡ place_count job → IsTable job (replicate n None)
no_stroke job few n is = record {
  few = few;
  count = length-replicate n None ∙ is;
  each = λ mask lead back stroke first last here. let none = none_at n (place_of mask lead back) in absurd (cc);
}

-- the place lies in the table
pub place_within : (job : JobData) (mask : Mask) (lead : ℕ) (back : Back) → mask.0 < 2 ^ (length job.part.faces - 1) → 1 ≤ lead → lead ≤ 12 → place_of mask lead back < place_count job
place_within job mask lead Parent inside first last = omega (arith, inside, first, last)
place_within job mask lead Child inside first last = omega (arith, inside, first, last)

-- two strokes with one place are one
record AreSame (mask mask2 : Mask) (lead lead2 : ℕ) (back back2 : Back) : Type 0 where
  masks : mask ≡ mask2
  leads : lead ≡ lead2
  backs : back ≡ back2

same_mask : (mask mask2 : Mask) → mask.0 ≡ mask2.0 → mask ≡ mask2
same_mask mask mask2 is = λ i. record { 0 = is i }

one_place : (mask mask2 : Mask) (lead lead2 : ℕ) (back back2 : Back) → 1 ≤ lead → lead ≤ 12 → 1 ≤ lead2 → lead2 ≤ 12 → place_of mask lead back ≡ place_of mask2 lead2 back2 → AreSame mask mask2 lead lead2 back back2
one_place mask mask2 lead lead2 Parent Parent first last first2 last2 is = record { masks = same_mask mask mask2 (omega (arith, is, first, last, first2, last2)); leads = omega (arith, is, first, last, first2, last2); backs = refl }
one_place mask mask2 lead lead2 Child Child first last first2 last2 is = record { masks = same_mask mask mask2 (omega (arith, is, first, last, first2, last2)); leads = omega (arith, is, first, last, first2, last2); backs = refl }
one_place mask mask2 lead lead2 Parent Child first last first2 last2 is = absurd (omega (arith, is, first, last, first2, last2))
one_place mask mask2 lead lead2 Child Parent first last first2 last2 is = absurd (omega (arith, is, first, last, first2, last2))

-- what stands at a place after a stroke was put at another, or at the same one
after_put : (strokes : List (Option KeptStroke)) (place other : ℕ) (stroke found : KeptStroke) → place < length strokes → get_or (slice_set strokes place (Some stroke)) other None ≡ Some found
    → ((other ≡ place) × (stroke ≡ found)) ⊎ (get_or strokes other None ≡ Some found)
after_put strokes place other stroke found within here = elim (cases_lt other place) [
  | inl below ↦ inr (sym (get_or-set_other strokes place other (Some stroke) None (λ e. omega (arith, e, below))) ∙ here)
  | inr high ↦ elim (cases_lt place other) [
    | inl above ↦ inr (sym (get_or-set_other strokes place other (Some stroke) None (λ e. omega (arith, e, above))) ∙ here)
    | inr low ↦
        let same : other ≡ place = omega (arith, high, low) in
        let put = ap (λ (i : ℕ). get_or (slice_set strokes place (Some stroke)) i None) same ∙ get_or-set_same strokes place (Some stroke) None within in
        inl (same, ap (λ (o : Option KeptStroke). unwrap_or o found) (sym put ∙ here))
  ]
]

pub one_more : (job : JobData) (strokes : List (Option KeptStroke)) (mask : Mask) (lead : ℕ) (back : Back) (stroke : KeptStroke) → mask.0 < 2 ^ (length job.part.faces - 1) → 1 ≤ lead → lead ≤ 12 → IsKeptOf job mask lead back stroke
    → IsTable job strokes → IsTable job (slice_set strokes (place_of mask lead back) (Some stroke))
one_more job strokes mask lead back stroke inside first last is table = record {
  few = table.few;
  count = length-set strokes (place_of mask lead back) (Some stroke) ∙ table.count;
  each = λ mask2 lead2 back2 found first2 last2 here. elim (after_put strokes (place_of mask lead back) (place_of mask2 lead2 back2) stroke found within here) [
    | inl same ↦
        let keys = one_place mask mask2 lead lead2 back back2 first last first2 last2 (sym same.0) in
        let of_mask = subst (λ (m : Mask). IsKeptOf job m lead back stroke) keys.masks is in
        let of_lead = subst (λ (l : ℕ). IsKeptOf job mask2 l back stroke) keys.leads of_mask in
        let of_back = subst (λ (b : Back). IsKeptOf job mask2 lead2 b stroke) keys.backs of_lead in
        subst (IsKeptOf job mask2 lead2 back2) same.1 of_back
    | inr kept ↦ table.each mask2 lead2 back2 found first2 last2 kept
  ];
}
  where
    within : place_of mask lead back < length strokes
    within = let p = place_within job mask lead back inside first last in omega (arith, p, table.count)

-- what is kept of the stroke that stands at a place
module _ (job : JobData) (strokes : List (Option KeptStroke)) (mask : Mask) (lead : ℕ) (back : Back) where
  pub kept_code : (stage code : ℕ) → IsTable job strokes → 1 ≤ lead → lead < length job.part.faces → stage < length job.setup.stages → IsCodeAt strokes (place_of mask lead back) stage code → IsFirstCode job mask (group_of job mask lead) back stage code
  kept_code stage code table first last within at =
      let kept = table.each mask lead back at.0 first (omega (arith, last, table.few)) at.1 in
      subst (IsFirstCode job mask (group_of job mask lead) back stage) at.2 (kept.codes.each stage within)

  pub kept_codes : (codes : StageCodes) → IsTable job strokes → 1 ≤ lead → lead < length job.part.faces → AreCodesAt strokes (place_of mask lead back) codes → AreCodesOf job mask lead back codes.0
  kept_codes codes table first last at =
      let kept = table.each mask lead back at.0 first (omega (arith, last, table.few)) at.1 in
      subst (λ (c : StageCodes). AreCodesOf job mask lead back c.0) at.2 kept.codes

  pub kept_hold : (hold : Hold) → IsTable job strokes → 1 ≤ lead → lead < length job.part.faces → IsHoldAt strokes (place_of mask lead back) hold → IsHoldOf job mask lead back hold
  kept_hold hold table first last at =
      let kept = table.each mask lead back at.0 first (omega (arith, last, table.few)) at.1 in
      record { attitude = sym at.2 ∙ kept.attitude; gauge = subst (IsFoundGauge job mask (group_of job mask lead) back) at.3 kept.gauge }
