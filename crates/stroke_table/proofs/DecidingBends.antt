-- The sets of deciding bends: how they are filled, and where those of a stroke stand.
use Rattle.std.proofs.Common.{◌≡◌, inl, inr, ℕ, zero, suc, ◌+◌, ◌*◌, ◌<◌, ◌≤◌, ◌==◌, Bool, true, false, ◌||◌, List, [], ◌∷◌, ◌++◌, length, get_or, IsTrue, refl, sym, ◌∙◌, ap, subst, arith}
use Rattle.std.proofs.lemmas.Bool.{cases_lt, eq-eqb, ne_eqb}
use Rattle.brake_base.specs.declared.mask.Mask.{Mask}
use Rattle.brake_base.specs.Masks.{has}
use Rattle.fold_boxes.specs.Pose.{lead_of, face_of_box, IsNumberOfBox}
use Rattle.fold_boxes.proofs.Leads.{lead_is}
use Rattle.fold_boxes.proofs.PartBounds.{parent_inside}
use Rattle.job_setup.specs.Setup.{JobData, shape_of}
use Rattle.job_setup.specs.ValidJob.{IsJob}
use Rattle.job_setup.proofs.Validity.{shape_of_job}
use Rattle.box_support.proofs.Boxes.{face_number, corner_number}
use Rattle.stroke_table.specs.Records.{parent_of, AreDeciding}

-- ---- a set, bend by bend
or_none : (t : Bool) → (t || false) ≡ t
or_none true = refl
or_none false = refl

or_one : (t : Bool) → (t || true) ≡ true
or_one true = refl
or_one false = refl

module _ (test before after : ℕ → Bool) (n : ℕ) (so_far : (f : ℕ) → 1 ≤ f → f < n → before f ≡ test f) (none : (f : ℕ) → n ≤ f → before f ≡ false) (put : (f : ℕ) → after f ≡ (before f || (f == n))) where
  pub decided_more : test n ≡ true → (f : ℕ) → 1 ≤ f → f < n + 1 → after f ≡ test f
  decided_more is f first low = elim (cases_lt f n) [
    | inl less ↦ put f ∙ ap (λ (t : Bool). before f || t) (ne_eqb f n (λ e. omega (arith, e, less))) ∙ or_none (before f) ∙ so_far f first less
    | inr rest ↦ let same : f ≡ n = omega (arith, rest, low) in put f ∙ ap (λ (t : Bool). before f || t) (eq-eqb f n same) ∙ or_one (before f) ∙ sym is ∙ ap test (sym same)
  ]

  pub none_past : (f : ℕ) → n + 1 ≤ f → after f ≡ false
  none_past f past = put f ∙ ap (λ (t : Bool). before f || t) (ne_eqb f n (λ e. omega (arith, e, past))) ∙ or_none (before f) ∙ none f (omega (arith, past))

-- a bend that doesn't decide
pub undecided_more : (test before : ℕ → Bool) (n : ℕ) → ((f : ℕ) → 1 ≤ f → f < n → before f ≡ test f) → ((f : ℕ) → n ≤ f → before f ≡ false) → test n ≡ false → (f : ℕ) → 1 ≤ f → f < n + 1 → before f ≡ test f
undecided_more test before n so_far none is f first low = elim (cases_lt f n) [
  | inl less ↦ so_far f first less
  | inr rest ↦ let same : f ≡ n = omega (arith, rest, low) in none f (omega (arith, same)) ∙ sym is ∙ ap test (sym same)
]

-- ---- where those of a stroke stand
pub parent_low : (job : JobData) → IsJob job → (group : Mask) → IsTrue (has group (lead_of (shape_of job) group)) → parent_of job group < length job.part.faces
parent_low job fit group member =
    let lead = lead_is (shape_of job) group member in
    let earlier = (parent_inside (shape_of job) (shape_of_job job fit) (lead_of (shape_of job) group) lead.some lead.inside).0 in
    omega (arith, earlier, lead.inside)

pub number_low : (job : JobData) → IsJob job → (mask : Mask) (number : ℕ) → IsNumberOfBox (shape_of job) mask number → (number < 25) × (face_of_box number < length job.part.faces)
number_low job fit mask number (inl inside) =
    let few : length job.part.faces ≤ 13 = fit.part.few_faces in
    let same = face_number number (omega (arith, inside, few)) in
    (omega (arith, inside, few), omega (arith, same, inside))
number_low job fit mask number (inr (c, some, inside, folded, is)) =
    let few : length job.part.faces ≤ 13 = fit.part.few_faces in
    let same : face_of_box number ≡ c = ap face_of_box is ∙ corner_number c some in
    (omega (arith, inside, few, is), omega (arith, same, inside))

-- ---- a further set
get_pushed : (xs : List Mask) (x d : Mask) (k : ℕ) → k ≡ length xs → get_or (xs ++ x ∷ []) k d ≡ x
get_pushed [] x d zero same = refl
get_pushed [] x d (suc k) same = absurd (omega (arith, same))
get_pushed (y ∷ xs) x d zero same = absurd (let e : 0 ≡ suc (length xs) = same in omega (arith, e))
get_pushed (y ∷ xs) x d (suc k) same = get_pushed xs x d k (let e : suc k ≡ suc (length xs) = same in omega (arith, e))

get_earlier : (xs ys : List Mask) (d : Mask) (k : ℕ) → k < length xs → get_or (xs ++ ys) k d ≡ get_or xs k d
get_earlier [] ys d k low = absurd (omega (arith, low))
get_earlier (y ∷ xs) ys d zero low = refl
get_earlier (y ∷ xs) ys d (suc k) low = get_earlier xs ys d k (let e : suc k < suc (length xs) = low in omega (arith, e))

-- those of the first so many places
abbrev pub AreFirst : JobData → List Mask → ℕ → Type 0
AreFirst job sets n =
    (from number : ℕ) → 25 * from + number < n → from < length job.part.faces → number < 25 → face_of_box number < length job.part.faces → AreDeciding job from number (get_or sets (25 * from + number) (record { 0 = 0 }))

pub set_more : (job : JobData) (sets : List Mask) (place : ℕ) (bends : Mask) (from' number' : ℕ) → length sets ≡ place → 25 * from' + number' ≡ place → number' < 25
    → (from' < length job.part.faces → face_of_box number' < length job.part.faces → AreDeciding job from' number' bends) → AreFirst job sets place → AreFirst job (sets ++ bends ∷ []) (place + 1)
set_more job sets place bends from' number' long at small is so_far from number low inside few face = elim (cases_lt (25 * from + number) place) [
  | inl earlier ↦ subst (AreDeciding job from number) (sym (get_earlier sets (bends ∷ []) (record { 0 = 0 }) (25 * from + number) (omega (arith, earlier, long)))) (so_far from number earlier inside few face)
  | inr rest ↦
      let same : from ≡ from' = omega (arith, rest, low, at, few, small) in
      let one : number ≡ number' = omega (arith, rest, low, at, few, small) in
      subst (AreDeciding job from number) (sym (get_pushed sets bends (record { 0 = 0 }) (25 * from + number) (omega (arith, rest, low, long))))
      (subst (λ (f : ℕ). AreDeciding job f number bends) (sym same) (subst (λ (k : ℕ). AreDeciding job from' k bends) (sym one)
      (is (subst (λ (f : ℕ). f < length job.part.faces) same inside) (subst (λ (k : ℕ). face_of_box k < length job.part.faces) one face))))
]
