-- What is known of a part that has a blank.
use Rattle.std.proofs.Common.{◌≡◌, ℕ, zero, suc, ◌+◌, ◌-◌, ◌<◌, ◌≤◌, ℤ, Bool, true, false, cond, List, [], ◌∷◌, length, get_or, Some, None, Ok, refl, sym, ◌∙◌, ap, inl, inr, arith}
use Rattle.std.specs.Prelude.{Option, find, position}
use Rattle.std.specs.List.{position_from, range_with_len}
use Rattle.std.proofs.lemmas.Bool.{cases_lt}
use Rattle.std.proofs.lemmas.Iterator.Adapters.{position_from-zero}
use Rattle.std.proofs.lemmas.List.FromFn.{length-map-range_with_len}
use Rattle.part_file.specs.Part.{PartData, FaceData}
use Rattle.unfolder.specs.declared.blank.UnfoldFault.TheVariants.{CoreTooSmall, BendOffFace}
use Rattle.unfolder.specs.Cores.{core, is_too_small, is_off_face}
use Rattle.toml_fields.specs.Results.{refuse_found}
use Rattle.unfolder.specs.Blank.{BlankData, bend_numbers, cores_of, blank_of_part}
use Rattle.unfolder.specs.Tables.{no_rect}
use Rattle.unfolder.proofs.Layouts.{core_at, stops_at_cores, stops_at_lines}
use Rattle.unfolder.proofs.PlaceLaws.{AreCores}

-- where no element passes, each fails
none_passes : {X : Type 0} (p : X → Bool) (xs : List X) (i k : ℕ) (d : X) → position_from p i xs ≡ None → k < length xs → p (get_or xs k d) ≡ false
none_passes p [] i k d none inside = absurd (omega arith)
none_passes p (x ∷ xs) i k d none inside = by_test (p x) k none inside refl (λ j rest below. none_passes p xs (i + 1) j d rest below)
  where
    by_test : (t : Bool) (j : ℕ) → cond t (Some i) (position_from p (i + 1) xs) ≡ None → j < length (x ∷ xs) → p x ≡ t → ((n : ℕ) → position_from p (i + 1) xs ≡ None → n < length xs → p (get_or xs n d) ≡ false) → p (get_or (x ∷ xs) j d) ≡ false
    by_test true j clash below here rest = absurd (let c = clash in cc)
    by_test false zero clash below here rest = here
    by_test false (suc j) clash below here rest = rest j clash (omega arith)

-- with no core refused, all fit
pub cores_fit : (faces : List FaceData) (q : ℤ) → Ok tt ≡ refuse_found (position is_too_small (cores_of faces q)) CoreTooSmall → AreCores faces q
cores_fit faces q passed = by_place (position is_too_small (cores_of faces q)) refl passed
  where
    by_place : (found : Option ℕ) → position is_too_small (cores_of faces q) ≡ found → Ok tt ≡ refuse_found found CoreTooSmall → AreCores faces q
    by_place (Some f) e clash = absurd (let c = clash in cc)
    by_place None e none = record {
      fits = λ f inside. ap is_too_small (sym (core_at faces q (cores_of faces q) f refl inside))
          ∙ none_passes is_too_small (cores_of faces q) 0 f no_rect (sym (position_from-zero is_too_small (cores_of faces q)) ∙ e) (let long = length-map-range_with_len (core faces q) 0 (length faces) in omega arith);
    }

-- where no number of a range is found, each fails
none_from : (test : ℕ → Bool) (a n : ℕ) → find test (range_with_len a n) ≡ None → (k : ℕ) → a ≤ k → k < a + n → test k ≡ false
none_from test a zero none k low high = absurd (omega arith)
none_from test a (suc n) none k low high = by_test (test a) refl none (none_from test (a + 1) n)
  where
    by_test : (t : Bool) → test a ≡ t → cond t (Some a) (find test (range_with_len (a + 1) n)) ≡ None → (find test (range_with_len (a + 1) n) ≡ None → (j : ℕ) → a + 1 ≤ j → j < (a + 1) + n → test j ≡ false) → test k ≡ false
    by_test true here clash later = absurd (let c = clash in cc)
    by_test false here rest later = elim (cases_lt a k) [
      | inl above ↦ later rest k (omega arith) (omega arith)
      | inr same ↦ let at : k ≡ a = omega arith in ap test at ∙ here
    ]

-- with no bend refused, each line is within its parent's core edge
pub lines_kept : (faces : List FaceData) (q : ℤ) → Ok tt ≡ refuse_found (find (is_off_face faces q) (bend_numbers faces)) BendOffFace → (b : ℕ) → 0 < b → b < length faces → is_off_face faces q b ≡ false
lines_kept faces q passed = by_place (find (is_off_face faces q) (bend_numbers faces)) refl passed
  where
    by_place : (found : Option ℕ) → find (is_off_face faces q) (bend_numbers faces) ≡ found → Ok tt ≡ refuse_found found BendOffFace → (b : ℕ) → 0 < b → b < length faces → is_off_face faces q b ≡ false
    by_place (Some f) e clash = absurd (let c = clash in cc)
    by_place None e none = λ b some inside. none_from (is_off_face faces q) 1 (length faces - 1) e b (omega arith) (omega arith)

-- the cores of a part that has a blank have sizes of at least 1
pub cores_of_blank : (part : PartData) (q : ℤ) (blank : BlankData) → blank_of_part part q ≡ Ok blank → AreCores part.faces q
cores_of_blank part q blank given = by_place (position is_too_small (cores_of part.faces q)) refl
  where
    by_place : (found : Option ℕ) → position is_too_small (cores_of part.faces q) ≡ found → AreCores part.faces q
    by_place (Some f) e = absurd (let clash = sym given ∙ stops_at_cores part q (CoreTooSmall f) (sym (ap (λ o. refuse_found o CoreTooSmall) e)) in cc)
    by_place None e = cores_fit part.faces q (sym (ap (λ o. refuse_found o CoreTooSmall) e))

-- and the line of each bend is within its parent's core edge
pub lines_of_blank : (part : PartData) (q : ℤ) (blank : BlankData) → blank_of_part part q ≡ Ok blank → (b : ℕ) → 0 < b → b < length part.faces → is_off_face part.faces q b ≡ false
lines_of_blank part q blank given = by_place (position is_too_small (cores_of part.faces q)) (find (is_off_face part.faces q) (bend_numbers part.faces)) refl refl
  where
    by_place : (small : Option ℕ) (off : Option ℕ) → position is_too_small (cores_of part.faces q) ≡ small → find (is_off_face part.faces q) (bend_numbers part.faces) ≡ off → (b : ℕ) → 0 < b → b < length part.faces → is_off_face part.faces q b ≡ false
    by_place (Some f) off e g = absurd (let clash = sym given ∙ stops_at_cores part q (CoreTooSmall f) (sym (ap (λ o. refuse_found o CoreTooSmall) e)) in cc)
    by_place None (Some b) e g = absurd (let clash = sym given ∙ stops_at_lines part q (BendOffFace b) (sym (ap (λ o. refuse_found o CoreTooSmall) e)) (sym (ap (λ o. refuse_found o BendOffFace) g)) in cc)
    by_place None None e g = lines_kept part.faces q (sym (ap (λ o. refuse_found o BendOffFace) g))
