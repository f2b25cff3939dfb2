-- The group of an unfolded bend can be bent.
use Rattle.std.proofs.Common.{◌≡◌, inl, inr, ℕ, zero, suc, ◌+◌, ◌-◌, ◌<◌, ◌≤◌, Bool, true, false, not, cond, length, Some, refl, sym, ◌∙◌, ap, arith}
use Rattle.std.specs.Prelude.{find, unwrap_or}
use Rattle.std.specs.List.{range_with_len}
use Rattle.std.proofs.Math.Nat.{eq-or-lt_of_le}
use Rattle.std.proofs.lemmas.Bool.{and_parts, eqb-true}
use Rattle.brake_base.specs.declared.mask.Mask.{Mask}
use Rattle.brake_base.specs.Masks.{has}
use Rattle.fold_boxes.specs.Groups.{is_mate}
use Rattle.fold_boxes.specs.Pose.{IsGroup, lead_of}
use Rattle.job_setup.specs.Setup.{JobData, shape_of}
use Rattle.job_setup.specs.StrokeGroup.{in_group}
use Rattle.handling_cost.proofs.Mates.{grouped, grouped_self, grouped_shared, grouped_flat}

-- what is found passes, where a number of the range does
found_passes : (p : ℕ → Bool) (a n b : ℕ) → a ≤ b → b < a + n → p b ≡ true → p (unwrap_or (find p (range_with_len a n)) 0) ≡ true
found_passes p a zero b low high here = absurd (omega arith)
found_passes p a (suc n) b low high here = by_test (p a) refl (λ more. found_passes p (a + 1) n b more (omega (arith, high)) here)
  where
    by_test : (t : Bool) → p a ≡ t → (a + 1 ≤ b → p (unwrap_or (find p (range_with_len (a + 1) n)) 0) ≡ true) → p (unwrap_or (cond t (Some a) (find p (range_with_len (a + 1) n))) 0) ≡ true
    by_test true is rest = is
    by_test false is rest = elim (eq-or-lt_of_le low) [ inl same ↦ absurd (let other = ap p same in cc) | inr more ↦ rest (omega (arith, more)) ]

module _ (job : JobData) (mask : Mask) (bend : ℕ) (first : 1 ≤ bend) (last : bend < length job.part.faces) (flat : has mask bend ≡ false) (group : Mask) (bends : (other : ℕ) → has group other ≡ in_group job (has mask) bend other) where
  lead_passes : has group (lead_of (shape_of job) group) ≡ true
  lead_passes = found_passes (has group) 1 (length job.part.faces - 1) bend first (omega (arith, first, last)) (bends bend ∙ grouped_self job (has mask) job.setup.gang bend first (omega (arith, last)) flat)

  in_it : (b : ℕ) → has group b ≡ true → grouped job.setup.gang job (has mask) bend b ≡ true
  in_it b member = sym (bends b) ∙ member

  mates_of : (gang : Bool) (lead b : ℕ) → grouped gang job (has mask) bend lead ≡ true → grouped gang job (has mask) bend b ≡ true → is_mate (shape_of job) lead b ≡ true
  mates_of true lead b one other = (and_parts (is_mate (shape_of job) lead b) (not (has mask b)) (grouped_shared job (has mask) true bend lead b one other)).0
  mates_of false lead b one other =
      let self = (and_parts (is_mate (shape_of job) bend bend) (not (has mask bend)) (grouped_self job (has mask) true bend first (omega (arith, last)) flat)).0 in
      (λ i. is_mate (shape_of job) (eqb-true lead bend one i) (eqb-true b bend other i)) ∙ self

  pub group_is : IsGroup (shape_of job) mask group
  group_is = record {
    some = lead_passes;
    mates = λ b member. mates_of job.setup.gang (lead_of (shape_of job) group) b (in_it (lead_of (shape_of job) group) lead_passes) (in_it b member);
    flat = λ b member. grouped_flat job (has mask) job.setup.gang bend b flat (in_it b member);
  }
