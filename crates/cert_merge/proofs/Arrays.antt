-- Reasons by the numbers of their actions, kept one by one.
use Rattle.std.proofs.Common.{◌≡◌, inl, inr, ℕ, suc, ◌+◌, ◌<◌, ◌≤◌, List, [], ◌∷◌, ◌++◌, length, get_or, take, replicate, All, Option, Some, None, sym, ◌∙◌, ap, subst, arith}
use Rattle.std.specs.Prelude.{slice_set}
use Rattle.std.proofs.lemmas.Bool.{cases_lt, cases_eq}
use Rattle.std.proofs.lemmas.List.{get_or-set_same, get_or-set_other, get_or_past, get_or_default, get_or-replicate, length-replicate}
use Rattle.std.proofs.Math.Seq.{take-suc}
use Rattle.brake_base.specs.declared.reason.Reason.{Reason}
use Rattle.plan_lines.specs.declared.note.Note.{Note}
use Rattle.cert_merge.specs.Entries.{first_reason}
use Rattle.cert_merge.specs.Merged.{later_of, reason_noted}
use Rattle.cert_merge.proofs.Flat.{noted_append, by_itself, not_by}

-- the reasons of both, up to another action
pub united_more : (both first second : List (Option Reason)) (count : ℕ) (reason : Option Reason) → count < length both
    → ((action : ℕ) → action < count → get_or both action None ≡ first_reason (get_or first action None) (get_or second action None))
    → reason ≡ first_reason (get_or first count None) (get_or second count None)
    → (action : ℕ) → action < count + 1 → get_or (slice_set both count reason) action None ≡ first_reason (get_or first action None) (get_or second action None)
united_more both first second count reason within before is action less = elim (cases_eq action count) [
  | inl same ↦ subst (λ (n : ℕ). get_or (slice_set both count reason) n None ≡ first_reason (get_or first n None) (get_or second n None)) (sym same) (get_or-set_same both count reason None within ∙ is)
  | inr other ↦ get_or-set_other both count action reason None other ∙ before action (below other)
]
  where
    below : (action ≡ count → ⊥) → action < count
    below other = elim (cases_lt action count) [ inl low ↦ low | inr high ↦ absurd (other (omega (arith, high, less))) ]

pub united_all : (both first second : List (Option Reason)) (count : ℕ) → length both ≡ 144 → length first ≡ 144 → length second ≡ 144 → 144 ≤ count
    → ((action : ℕ) → action < count → get_or both action None ≡ first_reason (get_or first action None) (get_or second action None))
    → (action : ℕ) → get_or both action None ≡ first_reason (get_or first action None) (get_or second action None)
united_all both first second count b f s all before action = elim (cases_lt action count) [
  | inl less ↦ before action less
  | inr past ↦
      get_or_past both action None (omega (arith, b, all, past))
      ∙ sym (ap (λ (o : Option Reason). first_reason o (get_or second action None)) (get_or_past first action None (omega (arith, f, all, past))) ∙ get_or_past second action None (omega (arith, s, all, past)))
]

-- the reasons of the notes of a row, up to another note
pub kept_more : (reasons : List (Option Reason)) (notes : List Note) (k : ℕ) (note : Note) → k < length notes → get_or notes k note ≡ note → length reasons ≡ 144 → note.action < 144
    → ((row action : ℕ) → All (λ (n : Note). n.row ≡ row) notes → get_or reasons action None ≡ reason_noted (take k notes) row action)
    → (row action : ℕ) → All (λ (n : Note). n.row ≡ row) notes → get_or (slice_set reasons note.action (Some note.reason)) action None ≡ reason_noted (take (k + 1) notes) row action
kept_more reasons notes k note within is count few before row action all =
    let one : k + 1 ≡ suc k = omega arith in
    let more : take (k + 1) notes ≡ take k notes ++ note ∷ [] =
    ap (λ (n : ℕ). take n notes) one ∙ (take-suc notes k note within ∙ ap (λ (n : Note). take k notes ++ n ∷ []) is) in
    let here : note.row ≡ row = subst (λ (n : Note). n.row ≡ row) is (all k note within) in
    let told = ap (λ (ns : List Note). reason_noted ns row action) more ∙ noted_append (take k notes) (note ∷ []) row action in
    elim (cases_eq action note.action) [
      | inl same ↦
          let by : reason_noted (note ∷ []) row action ≡ Some note.reason = by_itself note row action here (sym same) in
          subst (λ (n : ℕ). get_or (slice_set reasons note.action (Some note.reason)) n None ≡ Some note.reason) (sym same) (get_or-set_same reasons note.action (Some note.reason) None (omega (arith, count, few)))
          ∙ sym (told ∙ ap (λ (o : Option Reason). later_of (reason_noted (take k notes) row action) o) by)
      | inr other ↦
          let none : reason_noted (note ∷ []) row action ≡ None = not_by note row action (λ there against. other (sym against)) in
          get_or-set_other reasons note.action action (Some note.reason) None other
          ∙ (before row action all ∙ sym (told ∙ ap (λ (o : Option Reason). later_of (reason_noted (take k notes) row action) o) none))
    ]

-- the same in the words of a loop over the notes
pub kept_on : (reasons new : List (Option Reason)) (notes : List Note) (k : ℕ) (d : Note) → k < length notes → length reasons ≡ 144 → All (λ (n : Note). n.action < 144) notes
    → ((row action : ℕ) → All (λ (n : Note). n.row ≡ row) notes → get_or reasons action None ≡ reason_noted (take k notes) row action)
    → new ≡ slice_set reasons (get_or notes k d).action (Some (get_or notes k d).reason)
    → (row action : ℕ) → All (λ (n : Note). n.row ≡ row) notes → get_or new action None ≡ reason_noted (take (k + 1) notes) row action
kept_on reasons new notes k d within count few before is row action all =
    ap (λ (rs : List (Option Reason)). get_or rs action None) is
    ∙ kept_more reasons notes k (get_or notes k d) within (get_or_default notes k (get_or notes k d) d within) count (few k d within) before row action all

abbrev no_reason : Option Reason
no_reason = None

pub none_kept : (count action : ℕ) → get_or (replicate count no_reason) action no_reason ≡ no_reason
none_kept count action = elim (cases_lt action count) [
  | inl less ↦ get_or-replicate count action no_reason no_reason less
  | inr past ↦ get_or_past (replicate count no_reason) action no_reason (rw (length-replicate count no_reason) past)
]
