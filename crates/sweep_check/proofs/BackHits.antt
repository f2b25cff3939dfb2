-- The first hit of the boxes of the back half, box by box.
use Rattle.std.proofs.Common.{◌≡◌, ◌⊎◌, ◌∙◌, inl, inr, ℕ, ◌<◌, ◌≤◌, List, [], ◌∷◌, length, get_or, Option, Some, None, refl, sym, ap, subst, arith, true≢false}
use Rattle.std.proofs.Math.Nat.{eq-or-lt_of_le}
use Rattle.std.proofs.lemmas.Bool.{cases_lt}
use Rattle.std.proofs.lemmas.List.{get_or_default}
use Rattle.std.specs.Prelude.{All, Any, AllPairs}
use Rattle.brake_base.specs.Order.{IsBefore}
use Rattle.fold_boxes.specs.declared.posed_part.PoseBox.{PoseBox}
use Rattle.sector_geom.specs.declared.sector.Sweep.TheVariants.{Fourth}
use Rattle.job_setup.specs.declared.obstacle.Obstacle.{Obstacle}
use Rattle.job_setup.specs.Setup.{JobData}
use Rattle.job_setup.proofs.BoxByBox.{all_flat_map}
use Rattle.sweep_check.specs.declared.pieces.Piece.{Piece}
use Rattle.sweep_check.specs.declared.hits.Hit.{Hit}
use Rattle.sweep_check.specs.Pieces.{box_pieces, if_back, back_pieces}
use Rattle.sweep_check.specs.Along.{AreApart}
use Rattle.sweep_check.specs.Hits.{IsPieceMet, IsFirstHit, hit_place}
use Rattle.sweep_check.proofs.Some.{any_flat_from}
use Rattle.sweep_check.proofs.FirstHits.{EachBefore}
use Rattle.sweep_check.proofs.PieceLists.{all_back, all_of_box}

-- the pieces of a box, where it is of the back half
abbrev pub pieces_at : JobData → PoseBox → List Piece
pieces_at job box = if_back box.half (box_pieces job Fourth box)

abbrev pub IsUnmet : List Obstacle → Piece → Type 0
IsUnmet obstacles piece = All (λ obstacle. IsPieceMet piece obstacle → ⊥) obstacles

-- none of them meets an obstacle
abbrev pub AreUnmet : JobData → List Obstacle → PoseBox → Type 0
AreUnmet job obstacles box = All (IsUnmet obstacles) (pieces_at job box)

-- a box that lies apart from all obstacles has no piece that meets one
pub apart_unmet : (job : JobData) (box : PoseBox) (obstacles : List Obstacle) → AreApart box obstacles → All (IsUnmet obstacles) (box_pieces job Fourth box)
apart_unmet job box obstacles apart = all_of_box (IsUnmet obstacles) job Fourth box (λ quarter rect is. λ k d inside met. true≢false (sym met.near.along ∙ apart k d inside))

pub none_met : (job : JobData) (obstacles : List Obstacle) (box : PoseBox) (found : Option Hit) → found ≡ None → IsFirstHit (λ o. o.index) IsPieceMet (pieces_at job box) obstacles found → AreUnmet job obstacles box
none_met job obstacles box found is first = subst (λ (o : Option Hit). IsFirstHit (λ x. x.index) IsPieceMet (pieces_at job box) obstacles o) is first

pub all_unmet : (job : JobData) (boxes : List PoseBox) (obstacles : List Obstacle) → All (AreUnmet job obstacles) boxes → All (IsUnmet obstacles) (back_pieces job boxes)
all_unmet job boxes obstacles unmet = all_flat_map (IsUnmet obstacles) (pieces_at job) boxes unmet

numbered : (job : JobData) (box : PoseBox) → All (λ piece. piece.body ≡ box.id) (pieces_at job box)
numbered job box = all_back (λ piece. piece.body ≡ box.id) box.half (box_pieces job Fourth box) (all_of_box (λ piece. piece.body ≡ box.id) job Fourth box (λ quarter rect is. refl))

late : (a b c a' b' c' : ℕ) → a' < a → IsBefore (a ∷ b ∷ c ∷ []) (a' ∷ b' ∷ c' ∷ []) → ⊥
late a b c a' b' c' above (inl less) = omega (arith, less, above)
late a b c a' b' c' above (inr rest) = let same = rest.0 in omega (arith, same, above)

-- where none of the boxes before one has a piece that meets an obstacle, its first hit is the first of all
pub first_box : (job : JobData) (boxes : List PoseBox) (obstacles : List Obstacle) (i : ℕ) (d : PoseBox) (hit : Hit) → i < length boxes → AllPairs (λ a b. a.id < b.id) boxes → IsFirstHit (λ o. o.index) IsPieceMet (pieces_at job (get_or boxes i d)) obstacles (Some hit)
    → EachBefore (AreUnmet job obstacles) boxes i → IsFirstHit (λ o. o.index) IsPieceMet (back_pieces job boxes) obstacles (Some hit)
first_box job boxes obstacles i d hit inside ascend first unmet = (
  any_flat_from (λ piece. ((piece.body ≡ hit.body) × (piece.quarter ≡ hit.quarter)) × Any (λ o. (o.index ≡ hit.other) × IsPieceMet piece o) obstacles) (pieces_at job) boxes (i, get_or boxes i d, inside, get_or_default boxes i (get_or boxes i d) d inside, first.0),
  all_flat_map NoneBefore (pieces_at job) boxes (λ k e within. by_order k e within (cases_lt k i)),
)
  where
    NoneBefore : Piece → Type 0
    NoneBefore piece = All (λ o. IsPieceMet piece o → IsBefore (hit_place piece.body piece.quarter o.index) (hit_place hit.body hit.quarter hit.other) → ⊥) obstacles

    of_box : hit.body ≡ (get_or boxes i d).id
    of_box =
        let some = first.0 in
        sym some.4.0.0 ∙ sym (ap (λ (p : Piece). p.body) some.3) ∙ numbered job (get_or boxes i d) some.0 some.1 some.2

    by_order : (k : ℕ) (e : PoseBox) → k < length boxes → (k < i) ⊎ (i ≤ k) → All NoneBefore (pieces_at job (get_or boxes k e))
    by_order k e within (inl before) = λ m f inner l g low has order. unmet k e before m f inner l g low has
    by_order k e within (inr after) = elim (eq-or-lt_of_le after) [
      | inl same ↦ subst (λ (box : PoseBox). All NoneBefore (pieces_at job box)) (get_or_default boxes i d e inside ∙ ap (λ (n : ℕ). get_or boxes n e) same) first.1
      | inr later ↦ λ m f inner l g low has order.
          let body = numbered job (get_or boxes k e) m f inner in
          let is = of_box in
          let here = ap (λ (box : PoseBox). box.id) (get_or_default boxes i d e inside) in
          let above = ascend i k e later within in
          late _ _ _ _ _ _ (omega (arith, body, is, here, above)) order
    ]
