-- How fingers reach into boxes, and the warnings that are put one by one.
use Rattle.std.proofs.Common.{◌≡◌, ℕ, ◌+◌, ◌<◌, ℤ, Bool, true, false, ◌↔◌, IsTrue, List, [], ◌∷◌, ◌++◌, map, take, length, refl, sym, ap, ◌∙◌, arith}
use Rattle.std.specs.Prelude.{All, flat_map}
use Rattle.std.specs.List.{range_with_len}
use Rattle.std.proofs.lemmas.Int.{ints}
use Rattle.std.proofs.lemmas.List.{flat_map_more}
use Rattle.std.proofs.lemmas.List.Elements.{All-take, All-weaker}
use Rattle.std.proofs.lemmas.List.FromFn.{map-range_with_len_more}
use Rattle.brake_base.specs.declared.space.Box3.{Box3}
use Rattle.brake_base.specs.Boxes.{Overlap}
use Rattle.job_setup.specs.Setup.{JobData}
use Rattle.job_setup.specs.ValidJob.{IsJob}
use Rattle.job_setup.specs.Near.{IsNearBox}
use Rattle.job_setup.specs.Obstacles.{upper_boxes}
use Rattle.job_setup.proofs.Solid.{IsSolid, solid_near, upper_solid}
use Rattle.sheet_views.specs.Hazards.{overlaps}

-- a box that is known end by end
pub same_box : (a b c d e f a' b' c' d' e' f' : ℤ) → a ≡ a' → b ≡ b' → c ≡ c' → d ≡ d' → e ≡ e' → f ≡ f' → (let x : Box3 = record { lo = record { x = a; y = b; z = c }; hi = record { x = d; y = e; z = f } } in let y : Box3 = record { lo = record { x = a'; y = b'; z = c' }; hi = record { x = d'; y = e'; z = f' } } in x ≡ y)
same_box a b c d e f a' b' c' d' e' f' ea eb ec ed ee ef = λ i. record { lo = record { x = ea i; y = eb i; z = ec i }; hi = record { x = ed i; y = ee i; z = ef i } }

-- two tests that hold together are equal
same_test : (r s : Bool) → (r ≡ true → s ≡ true) → (s ≡ true → r ≡ true) → r ≡ s
same_test true s forth back = sym (forth refl)
same_test false true forth back = back refl
same_test false false forth back = refl

test_of : (a b : Box3) → Overlap a b → overlaps a b ≡ true
test_of a b h = grind (arith, ints, h.x, h.y, h.z)

of_test : (a b : Box3) → overlaps a b ≡ true → Overlap a b
of_test a b h = record { x = grind (arith, ints, h); y = grind (arith, ints, h); z = grind (arith, ints, h) }

pub overlaps_is : (r : Bool) (a b : Box3) → (IsTrue r ↔ Overlap a b) → r ≡ overlaps a b
overlaps_is r a b tells = same_test r (overlaps a b) (λ h. test_of a b (tells.0 h)) (λ h. tells.1 (of_test a b h))

-- the machine's boxes above the punches lie near
pub beam_near : (job : JobData) → IsJob job → 0 < length job.setup.stages → (n : ℕ) → All IsNearBox (take n (upper_boxes job))
beam_near job valid some n = All-take IsNearBox n (upper_boxes job) (All-weaker IsSolid IsNearBox solid_near (upper_boxes job) (upper_solid job valid some))

range_more : (i : ℕ) → range_with_len 0 (i + 1) ≡ range_with_len 0 i ++ i ∷ []
range_more i = sym (map_id (range_with_len 0 (i + 1))) ∙ map-range_with_len_more (λ (k : ℕ). k) 0 i i (omega arith) ∙ ap (λ (ks : List ℕ). ks ++ i ∷ []) (map_id (range_with_len 0 i))
  where
    map_id : (ks : List ℕ) → map (λ (k : ℕ). k) ks ≡ ks
    map_id [] = refl
    map_id (k ∷ ks) = ap (λ (rest : List ℕ). k ∷ rest) (map_id ks)

-- the items of one station more
pub station_more : {X : Type 0} (f : ℕ → List X) (old before after : List X) (i : ℕ) → before ≡ old ++ flat_map f (range_with_len 0 i) → after ≡ before ++ f i → after ≡ old ++ flat_map f (range_with_len 0 (i + 1))
station_more {X = X} f old before after i so_far put =
    put ∙ ap (λ (xs : List X). xs ++ f i) so_far ∙ flat_map_more f old (range_with_len 0 i) i ∙ ap (λ (ks : List ℕ). old ++ flat_map f ks) (sym (range_more i))
