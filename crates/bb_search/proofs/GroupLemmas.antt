-- The sets after strokes, by the groups where no bend is folded.
use Rattle.std.proofs.Common.{◌≡◌, ℕ, ◌+◌, ◌-◌, ◌<◌, ◌≤◌, Bool, true, false, ◌&&◌, ◌||◌, ◌==◌, not, cond, List, length, get_or, set, slice_index_or, slice_set, refl, ap, sym, ◌∙◌, arith, inl, inr}
use Rattle.std.proofs.lemmas.Bool.{cases_eq}
use Rattle.std.proofs.lemmas.List.{get_or-set_same, get_or-set_other}
use Rattle.brake_base.specs.declared.mask.Mask.{Mask}
use Rattle.brake_base.specs.Masks.{has, union}
use Rattle.brake_base.proofs.MaskNumbers.{is_mask_of, has_mask_of, mask_of_fits}
use Rattle.job_setup.specs.Setup.{JobData, shape_of}
use Rattle.fold_boxes.specs.Groups.{is_mate}
use Rattle.job_setup.specs.StrokeGroup.{group_of}
use Rattle.job_setup.proofs.GroupMasks.{has_group_of}
use Rattle.bb_search.specs.Groups.{IsFoldedBy}

-- a bend that is folded may be left out of what is folded with it
folded_too : (gang folded mate is : Bool) → (folded || cond gang (mate && not false) is) ≡ (folded || cond gang (mate && not folded) is)
folded_too true true mate is = refl
folded_too true false mate is = refl
folded_too false folded mate is = refl

-- with what is folded it comes to the same whether the group is that where no bend is folded
pub union_of_group : (job : JobData) (none mask : Mask) (bend : ℕ) → ((other : ℕ) → has none other ≡ false)
    → union mask (group_of job none bend) ≡ union mask (group_of job mask bend)
union_of_group job none mask bend empty =
    is_mask_of (union mask (group_of job none bend)) (λ other. has mask other || has (group_of job mask bend) other)
    (mask_of_fits (λ other. has mask other || has (group_of job none bend) other))
    (λ other first last.
    has_mask_of (λ c. has mask c || has (group_of job none bend) c) other first last
    ∙ ap (λ t. has mask other || t) (has_group_of job none bend other first last)
    ∙ ap (λ t. has mask other || cond job.setup.gang (is_mate (shape_of job) bend other && not t) (other == bend)) (empty other)
    ∙ folded_too job.setup.gang (has mask other) (is_mate (shape_of job) bend other) (other == bend)
    ∙ sym (ap (λ t. has mask other || t) (has_group_of job mask bend other first last)))

-- one bend more
pub one_more : (job : JobData) (groups : List Mask) (end : ℕ) (none group : Mask) → 1 ≤ end → end ≤ length groups
    → ((other : ℕ) → has none other ≡ false) → group ≡ group_of job none end
    → ((bend : ℕ) → 1 ≤ bend → bend < end → IsFoldedBy job bend (slice_index_or groups (bend - 1) (record { 0 = 0 })))
    → (bend : ℕ) → 1 ≤ bend → bend < end + 1 → IsFoldedBy job bend (slice_index_or (slice_set groups (end - 1) group) (bend - 1) (record { 0 = 0 }))
one_more job groups end none group first room empty is before bend some low mask = elim (cases_eq bend end) [
  | inl same ↦
      let at : bend - 1 ≡ end - 1 = omega (arith, same) in
      ap (λ (n : ℕ). union mask (get_or (set groups (end - 1) group) n (record { 0 = 0 }))) at
      ∙ ap (union mask) (get_or-set_same groups (end - 1) group (record { 0 = 0 }) (omega (arith, first, room)) ∙ is)
      ∙ union_of_group job none mask end empty
      ∙ ap (λ (n : ℕ). union mask (group_of job mask n)) (sym same)
  | inr apart ↦
      ap (union mask) (get_or-set_other groups (end - 1) (bend - 1) group (record { 0 = 0 }) (λ e. apart (omega (arith, e, first, some))))
      ∙ before bend some (omega (arith, low, apart)) mask
]
