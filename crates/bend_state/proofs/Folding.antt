-- What a fold and its undo keep of the state.
use Rattle.std.proofs.Common.{◌≡◌, ℕ, ◌+◌, ◌-◌, ◌≤◌, not, ◌&&◌, List, [], ◌∷◌, ◌++◌, length, drop, get_or, refl, sym, ◌∙◌, ap, subst, arith}
use Rattle.std.specs.List.{refill}
use Rattle.std.proofs.lemmas.List.{get_or_push, length_push, take_all, take-append-le}
use Rattle.brake_base.specs.declared.space.Place.{Place}
use Rattle.brake_base.specs.declared.mask.Mask.{Mask}
use Rattle.brake_base.specs.Masks.{has, union}
use Rattle.fold_boxes.specs.Shapes.{ShapeData}
use Rattle.fold_boxes.specs.Places.{ArePlaces}
use Rattle.fold_boxes.specs.Pose.{IsGroup}
use Rattle.bend_state.specs.declared.state.Fold.{Fold}
use Rattle.bend_state.specs.State.{IsState, Leads, no_bends, no_fold, last_fold}
use Rattle.bend_state.proofs.Folds.{IsLastFold, leads_more, leads_less, without_group}

-- a slice that is written whole
refilled : (old new : List Place) → length new ≡ length old → refill (length old) old new ≡ new
refilled old new same =
    take-append-le (length old) new (drop (length new) old) (omega (arith, same)) ∙ take_all (length old) new (omega (arith, same))

pub folded_state : (shape : ShapeData) (before group all : Mask) (folds more : List Fold) (mark : ℕ) (old new : List Place)
    → IsState (record { shape = shape; mask = before; folds = folds }) old → IsGroup shape before group → all ≡ union before group
    → more ≡ folds ++ record { before = before; group = group; mark = mark } ∷ [] → length new ≡ length old → ArePlaces shape (union before group) new
    → IsState (record { shape = shape; mask = all; folds = more }) (refill (length old) old new)
folded_state shape before group all folds more mark old new is of_group all_is more_is same are =
    let fold : Fold = record { before = before; group = group; mark = mark } in
    let put = refilled old new same in
    record {
      count = ap length put ∙ same ∙ is.count;
      each = subst (λ (ps : List Place). ArePlaces shape all ps) (sym put) (subst (λ (m : Mask). ArePlaces shape m new) (sym all_is) are);
      folded = subst (λ (fs : List Fold). Leads shape no_bends fs all) (sym more_is) (subst (λ (m : Mask). Leads shape no_bends (folds ++ fold ∷ []) m) (sym all_is) (leads_more shape no_bends before folds fold refl of_group is.folded));
    }

pub last_of : (shape : ShapeData) (mask : Mask) (folds rest : List Fold) (fold : Fold) → folds ≡ rest ++ fold ∷ [] → Leads shape no_bends folds mask → IsLastFold shape no_bends mask rest fold
last_of shape mask folds rest fold is leads = leads_less shape no_bends mask rest fold (subst (λ (fs : List Fold). Leads shape no_bends fs mask) is leads)

pub undone_state : (shape : ShapeData) (mask : Mask) (folds rest : List Fold) (fold : Fold) (old new : List Place)
    → IsState (record { shape = shape; mask = mask; folds = folds }) old → folds ≡ rest ++ fold ∷ [] → length new ≡ length old → ArePlaces shape fold.before new
    → IsState (record { shape = shape; mask = fold.before; folds = rest }) (refill (length old) old new)
undone_state shape mask folds rest fold old new is folds_are same are =
    let put = refilled old new same in
    record {
      count = ap length put ∙ same ∙ is.count;
      each = subst (λ (ps : List Place). ArePlaces shape fold.before ps) (sym put) are;
      folded = (last_of shape mask folds rest fold folds_are is.folded).earlier;
    }

last_is : (folds rest : List Fold) (fold : Fold) → folds ≡ rest ++ fold ∷ [] → last_fold folds ≡ fold
last_is folds rest fold is =
    let count : length folds ≡ length rest + 1 = ap length is ∙ length_push rest fold in
    let at : length rest ≡ length folds - 1 = omega (arith, count) in
    ap (λ (fs : List Fold). get_or fs (length folds - 1) no_fold) is ∙ get_or_push rest fold no_fold (length folds - 1) at

pub without_last : (shape : ShapeData) (mask : Mask) (folds rest : List Fold) (fold : Fold) → folds ≡ rest ++ fold ∷ [] → Leads shape no_bends folds mask → (bend : ℕ) → 1 ≤ bend → bend ≤ 16
    → has fold.before bend ≡ (has mask bend && not (has (last_fold folds).group bend))
without_last shape mask folds rest fold is leads bend low high =
    let last = last_of shape mask folds rest fold is leads in
    without_group shape fold.before fold.group mask last.group last.after bend low high
    ∙ ap (λ (f : Fold). has mask bend && not (has f.group bend)) (sym (last_is folds rest fold is))
