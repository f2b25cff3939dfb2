-- The refusals of a page, part by part.
use Rattle.std.proofs.Common.{◌≡◌, ◌∙◌, ℕ, ◌-◌, ◌≤◌, ℤ, ◌+ℤ◌, List, ◌∷◌, ◌++◌, length, map, take, ap, sym, subst}
use Rattle.std.specs.Prelude.{Result, Ok, Err, OnOk, option_map}
use Rattle.std.proofs.lemmas.List.{length-map}
use Rattle.job_setup.specs.Setup.{JobData}
use Rattle.plan_lines.specs.declared.note.Note.{Note}
use Rattle.sheet_page.specs.declared.kept.Kept.{Kept}
use Rattle.sheet_page.specs.Counts.{counts_text}
use Rattle.sheet_page.specs.Kept.{StateData, state_data, notes_if_any, flat_notes, dead_ends, furthest, most_folded, refusal_count, count_in, IsKept}
use Rattle.sheet_page.specs.NoPlan.{first_text, far_text, refusals_begin, AreDeadEnds, HasRefusals}
use Rattle.sheet_page.proofs.Joined.{two_put}

-- all of them
module _ (job : JobData) (notes : List Note) (states : List StateData) (kept : Kept) (are : IsKept job notes states kept) where
  same_counts : count_in kept.counts ≡ refusal_count job states
  same_counts = λ i b k. are.counts b k i

  same_far : far_text kept.dead_ends.most kept.dead_ends.count (length kept.dead_ends.shown.items)
      ≡ far_text (most_folded (dead_ends job states)) (length (furthest (dead_ends job states))) (length (take 4 (furthest (dead_ends job states))))
  same_far =
      let ends = are.ends in
      let shown : length kept.dead_ends.shown.items ≡ length (take 4 (furthest (dead_ends job states))) = sym (length-map kept.dead_ends.shown.items (state_data notes)) ∙ ap length ends.shown in
      ap (λ (n : ℕ). far_text n kept.dead_ends.count (length kept.dead_ends.shown.items)) ends.most
      ∙ ap (λ (n : ℕ). far_text (most_folded (dead_ends job states)) n (length kept.dead_ends.shown.items)) ends.count
      ∙ ap (λ (n : ℕ). far_text (most_folded (dead_ends job states)) (length (furthest (dead_ends job states))) n) shown

  begun : (before : List ℕ) {o1 o2 : List ℕ} → o1 ≡ before ++ first_text job (notes_if_any (option_map (state_data notes) kept.flat))
      → o2 ≡ o1 ++ far_text kept.dead_ends.most kept.dead_ends.count (length kept.dead_ends.shown.items) → o2 ≡ before ++ refusals_begin job states
  begun before {o1 = o1} first second =
      two_put before (first_text job (flat_notes states)) (far_text (most_folded (dead_ends job states)) (length (furthest (dead_ends job states))) (length (take 4 (furthest (dead_ends job states)))))
      (first ∙ ap (λ o. before ++ first_text job (notes_if_any o)) are.flat.found) (second ∙ ap (λ (t : List ℕ). o1 ++ t) same_far)

  pub refusals_put : (figure : ℤ) (before now o1 o2 o3 : List ℕ) {T E : Type 0} (r : Result T E) → o1 ≡ before ++ first_text job (notes_if_any (option_map (state_data notes) kept.flat))
      → o2 ≡ o1 ++ far_text kept.dead_ends.most kept.dead_ends.count (length kept.dead_ends.shown.items) → AreDeadEnds job (map (state_data notes) kept.dead_ends.shown.items) figure o2 o3
      → OnOk r (now ≡ o3 ++ counts_text job (count_in kept.counts) kept.states) → OnOk r (HasRefusals job states figure before now)
  refusals_put figure before now o1 o2 o3 (Ok _) first second ends last = record {
    told = o3;
    shown = subst (λ (t : List ℕ). AreDeadEnds job (take 4 (furthest (dead_ends job states))) figure t o3) (begun before first second)
        (subst (λ (s : List StateData). AreDeadEnds job s figure o2 o3) are.ends.shown ends);
    text = last ∙ ap (λ (count : ℕ → ℕ → ℕ). o3 ++ counts_text job count kept.states) same_counts ∙ ap (λ (n : ℕ). o3 ++ counts_text job (refusal_count job states) n) are.states;
  }
  refusals_put figure before now o1 o2 o3 (Err _) first second ends last = tt
