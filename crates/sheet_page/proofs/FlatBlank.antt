-- The blank of a job's part has a face for each face of the part, and a line for each bend.
use Rattle.std.proofs.Common.{◌≡◌, ◌∙◌, ℕ, zero, suc, ◌+◌, ◌-◌, List, [], ◌∷◌, ◌++◌, flat_map, append-nil, length, ap, sym, arith}
use Rattle.std.specs.Prelude.{Result, Ok, Err, IsOkAnd, ℤ, find, position}
use Rattle.std.specs.List.{range_with_len}
use Rattle.std.proofs.lemmas.List.{length-map}
use Rattle.std.proofs.lemmas.List.Concat.{flat_map-append}
use Rattle.std.proofs.lemmas.List.FromFn.{length-map-range_with_len}
use Rattle.toml_fields.specs.Results.{◌>>=◌, refuse_found}
use Rattle.part_file.specs.Part.{PartData}
use Rattle.unfolder.specs.declared.blank.UnfoldFault.TheVariants.{CoreTooSmall, BendOffFace}
use Rattle.unfolder.specs.Cores.{is_too_small, is_off_face}
use Rattle.unfolder.specs.Blank.{BlankData, blank_of_part, cores_of, bend_numbers, is_overlap_in, pairs_below, flat_overlap, flat_face, flat_faces, bend_line, bend_lines}
use Rattle.job_setup.specs.Setup.{JobData}
use Rattle.sheet_figures.specs.declared.blank.Flat.{Flat}
use Rattle.sheet_figures.specs.MovedBlanks.{IsMovedBlank, moved_face, moved_line}
use Rattle.unfolder.specs.Extent.{extent_of}
use Rattle.sheet_page.specs.BlankPart.{IsFlatOf}
use Rattle.sheet_page.proofs.Joined.{two_put}

-- what comes out where three tests are passed
passed : {A B C X F : Type 0} (a : Result A F) (b : Result B F) (c : Result C F) (x : X) (P : X → Type 0) → IsOkAnd (a >>= λ _. b >>= λ _. c >>= λ _. Ok x) P → P x
passed (Ok _) (Ok _) (Ok _) x P is = is
passed (Err _) b c x P is = absurd is
passed (Ok _) (Err _) c x P is = absurd is
passed (Ok _) (Ok _) (Err _) x P is = absurd is

blank_is : (part : PartData) (q : ℤ) (P : BlankData → Type 0) → IsOkAnd (blank_of_part part q) P → P (record { faces = flat_faces part.faces q; bends = bend_lines part.faces q })
unfolding blank_of_part
blank_is part q P is =
    passed (refuse_found (position is_too_small (cores_of part.faces q)) CoreTooSmall) (refuse_found (find (is_off_face part.faces q) (bend_numbers part.faces)) BendOffFace)
    (refuse_found (find (is_overlap_in (flat_faces part.faces q)) (pairs_below (length part.faces))) flat_overlap) (record { faces = flat_faces part.faces q; bends = bend_lines part.faces q }) P is

module _ (job : JobData) (flat : Flat) (is : IsFlatOf job flat) where
  pub as_many_faces : length flat.blank.faces.items ≡ length job.part.faces
  as_many_faces =
      let moved = blank_is job.part job.q (λ blank. IsMovedBlank blank flat) is in
      ap length moved.faces ∙ length-map (flat_faces job.part.faces job.q) (moved_face (extent_of (flat_faces job.part.faces job.q))) ∙ length-map-range_with_len (flat_face job.part.faces job.q) 0 (length job.part.faces)

  pub as_many_lines : length flat.blank.bends.items ≡ length job.part.faces - 1
  as_many_lines =
      let moved = blank_is job.part job.q (λ blank. IsMovedBlank blank flat) is in
      ap length moved.lines ∙ length-map (bend_lines job.part.faces job.q) (moved_line (extent_of (flat_faces job.part.faces job.q))) ∙ length-map-range_with_len (bend_line job.part.faces job.q) 1 (length job.part.faces - 1)

-- what is told of the numbers from 0 on, one after the other
range_more : (a n : ℕ) → range_with_len a (suc n) ≡ range_with_len a n ++ (a + n) ∷ []
range_more a zero = ap (λ (m : ℕ). m ∷ []) (omega arith)
range_more a (suc n) =
    let same : a + 1 + n ≡ a + suc n = omega arith in
    ap (λ (t : List ℕ). a ∷ t) (range_more (a + 1) n ∙ ap (λ (m : ℕ). range_with_len (a + 1) n ++ m ∷ []) same)

pub told_to : (text : ℕ → List ℕ) (n : ℕ) (before now : List ℕ) {mid : List ℕ} → mid ≡ before ++ flat_map text (range_with_len 0 n) → now ≡ mid ++ text n → now ≡ before ++ flat_map text (range_with_len 0 (n + 1))
told_to text n before now told one =
    let next : n + 1 ≡ suc n = omega arith in
    let same : 0 + n ≡ n = omega arith in
    two_put before (flat_map text (range_with_len 0 n)) (text n) told one
    ∙ ap (λ (t : List ℕ). before ++ t)
    (sym (ap (λ (m : ℕ). flat_map text (range_with_len 0 m)) next ∙ ap (flat_map text) (range_more 0 n ∙ ap (λ (m : ℕ). range_with_len 0 n ++ m ∷ []) same) ∙ flat_map-append text (range_with_len 0 n) (n ∷ [])
    ∙ ap (λ (t : List ℕ). flat_map text (range_with_len 0 n) ++ t) (append-nil (text n))))
