-- From setups that fit to setups that were tried.
use Rattle.std.proofs.Common.{◌≡◌, ℕ, zero, suc, List, [], ◌∷◌, length, Option, Some, None, Ok, refl, sym, ap, ◌∙◌, subst, arith}
use Rattle.std.specs.Prelude.{All, IfSome, slice_get, option_map}
use Rattle.std.specs.List.{AllZip}
use Rattle.std.proofs.lemmas.Option.{same_Some, slice_get-map, slice_get_within, get_or_from_slice_get}
use Rattle.std.proofs.lemmas.List.Elements.{All-cons}
use Rattle.brake_base.specs.declared.stroke.Worth.{Worth}
use Rattle.brake_base.specs.declared.stroke.Worth.TheVariants.{Cost, Blocked}
use Rattle.setup_choice.specs.declared.outcome.Fit.{Fit}
use Rattle.setup_choice.specs.declared.outcome.Fit.TheVariants.{Ready, Short}
use Rattle.setup_choice.specs.declared.cheapest.Tried.{Tried}
use Rattle.setup_choice.specs.declared.cheapest.Tried.TheVariants as tried
use Rattle.setup_choice.specs.Setups.{OneSetupData}
use Rattle.setup_choice.specs.Best.{HasCost}
use Rattle.setup_choice.specs.Fitting.{setup_fits}
use Rattle.brake_commands.specs.SetupList.{JobFilesData, fits_with}
use Rattle.brake_commands.specs.SetupStops.{FittedData, IsFitted, FitsAs}
use Rattle.brake_commands.specs.Attempts.{PlannedData, AttemptData, IsPlannedJob, IsPlannedAs, IsAttemptOf, IsAttempt, IsPlannedWell, IsPlannedAt, tried_of, tried_all}

-- a setup that fits stands on the machine
pub stands : (files : JobFilesData) (one : OneSetupData) (fit : Fit) → FitsAs files one fit → setup_fits files.part files.tools files.machine one ≡ Ok tt
stands files one (Ready job) fits = fits.0
stands files one Short fits = fits.0

-- each setup of the list was tried as it fits
pub all_attempts : (files : JobFilesData) (setups : List OneSetupData) (fits : List FittedData) (attempts : List AttemptData)
    → AllZip (IsFitted files) setups fits → AllZip IsAttemptOf fits attempts → AllZip (IsAttempt files) setups attempts
all_attempts files [] [] [] fitted tried = tt
all_attempts files [] [] (attempt ∷ attempts) fitted tried = absurd tried
all_attempts files [] (fit ∷ fits) attempts fitted tried = absurd fitted
all_attempts files (one ∷ setups) [] attempts fitted tried = absurd fitted
all_attempts files (one ∷ setups) (fit ∷ fits) [] fitted tried = absurd tried
all_attempts files (one ∷ setups) (fit ∷ fits) (attempt ∷ attempts) (first, fitted) (own, tried) =
    (record { name = own.name ∙ first.name; fit = fit.fit; fits = first.fits; planned = own.planned }, all_attempts files setups fits attempts fitted tried)

well_as : (fit : Fit) (planned : Option PlannedData) → IsPlannedAs fit planned → IfSome planned IsPlannedJob
well_as Short None is = tt
well_as (Ready job) (Some planned) is = is.1
well_as Short (Some planned) is = absurd is
well_as (Ready job) None is = absurd is

-- each certificate is one of its job
pub all_well : (fits : List FittedData) (attempts : List AttemptData) → AllZip IsAttemptOf fits attempts → All IsPlannedWell attempts
all_well [] [] tried = λ i d within. absurd (omega (arith, within))
all_well [] (attempt ∷ attempts) tried = absurd tried
all_well (fit ∷ fits) [] tried = absurd tried
all_well (fit ∷ fits) (attempt ∷ attempts) (own, tried) =
    All-cons IsPlannedWell attempt attempts (well_as fit.fit attempt.planned own.planned) (all_well fits attempts tried)

-- there are as many
pub as_many : {A B : Type 0} (R : A → B → Type 0) (xs : List A) (ys : List B) → AllZip R xs ys → length xs ≡ length ys
as_many R [] [] all = refl
as_many R [] (y ∷ ys) all = absurd all
as_many R (x ∷ xs) [] all = absurd all
as_many R (x ∷ xs) (y ∷ ys) (own, all) =
    let rest = as_many R xs ys all in
    omega (arith, rest)

-- what is related to the item at a place
pub right_at : {A B : Type 0} (R : A → B → Type 0) (xs : List A) (ys : List B) (i : ℕ) (x : A) → AllZip R xs ys → slice_get xs i ≡ Some x → (y : B) × (slice_get ys i ≡ Some y) × R x y
right_at R [] ys i x all here = absurd cc
right_at R (z ∷ xs) [] i x all here = absurd all
right_at R (z ∷ xs) (y ∷ ys) zero x (own, all) here = (y, refl, subst (λ w. R w y) (same_Some z x here) own)
right_at R (z ∷ xs) (y ∷ ys) (suc i) x (own, all) here = right_at R xs ys i x all here

pub left_at : {A B : Type 0} (R : A → B → Type 0) (xs : List A) (ys : List B) (i : ℕ) (y : B) → AllZip R xs ys → slice_get ys i ≡ Some y → (x : A) × (slice_get xs i ≡ Some x) × R x y
left_at R xs [] i y all here = absurd cc
left_at R [] (z ∷ ys) i y all here = absurd all
left_at R (x ∷ xs) (z ∷ ys) zero y (own, all) here = (x, refl, subst (λ w. R x w) (same_Some z y here) own)
left_at R (x ∷ xs) (z ∷ ys) (suc i) y (own, all) here = left_at R xs ys i y all here

-- how the setup of a place did
did_at : (attempts : List AttemptData) (place : ℕ) (attempt : AttemptData) → slice_get attempts place ≡ Some attempt → slice_get (tried_all attempts) place ≡ Some (tried_of attempt.planned)
did_at attempts place attempt here = slice_get-map (λ (a : AttemptData). tried_of a.planned) attempts place ∙ ap (option_map (λ (a : AttemptData). tried_of a.planned)) here

-- the cost of the planned job of a place
pub has_cost : (attempts : List AttemptData) (place : ℕ) (planned : PlannedData) (cost : ℕ) → IsPlannedAt attempts place planned → planned.cert.claim ≡ Cost cost → HasCost (tried_all attempts) place cost
has_cost attempts place planned cost (attempt, here, is) claim =
    did_at attempts place attempt here ∙ ap (λ (p : Option PlannedData). Some (tried_of p)) is ∙ ap (λ (w : Worth). Some (tried.Planned w)) claim

claim_of : Tried → Worth
claim_of (tried.Planned claim) = claim
claim_of tried.Short = Blocked

pub cost_at : (attempts : List AttemptData) (place : ℕ) (planned : PlannedData) (cost : ℕ) → IsPlannedAt attempts place planned → HasCost (tried_all attempts) place cost → planned.cert.claim ≡ Cost cost
unfolding claim_of
cost_at attempts place planned cost (attempt, here, is) has =
    let there : Some (tried_of attempt.planned) ≡ Some (tried.Planned (Cost cost)) = sym (did_at attempts place attempt here) ∙ has in
    let same : tried_of (Some planned) ≡ tried.Planned (Cost cost) = ap tried_of (sym is) ∙ same_Some _ _ there in
    ap claim_of same

planned_there : (attempts : List AttemptData) (place cost : ℕ) (attempt : AttemptData) → slice_get attempts place ≡ Some attempt → (o : Option PlannedData) → attempt.planned ≡ o → tried_of o ≡ tried.Planned (Cost cost)
    → (planned : PlannedData) × IsPlannedAt attempts place planned
planned_there attempts place cost attempt here None is did = absurd cc
planned_there attempts place cost attempt here (Some planned) is did = (planned, (attempt, here, is))

there_is : (attempts : List AttemptData) (place cost : ℕ) (o : Option AttemptData) → slice_get attempts place ≡ o → option_map (λ (a : AttemptData). tried_of a.planned) o ≡ Some (tried.Planned (Cost cost))
    → (planned : PlannedData) × IsPlannedAt attempts place planned
there_is attempts place cost None here did = absurd cc
there_is attempts place cost (Some attempt) here did = planned_there attempts place cost attempt here attempt.planned refl (same_Some _ _ did)

-- a setup with a cost has a planned job
pub has_planned : (attempts : List AttemptData) (place cost : ℕ) → HasCost (tried_all attempts) place cost → (planned : PlannedData) × IsPlannedAt attempts place planned
has_planned attempts place cost has =
    there_is attempts place cost (slice_get attempts place) refl (sym (slice_get-map (λ (a : AttemptData). tried_of a.planned) attempts place) ∙ has)

-- the planned job of a place is planned well
pub well_at : (attempts : List AttemptData) (place : ℕ) (planned : PlannedData) → All IsPlannedWell attempts → IsPlannedAt attempts place planned → IsPlannedJob planned
well_at attempts place planned all (attempt, here, is) =
    let own : IsPlannedWell attempt = subst IsPlannedWell (get_or_from_slice_get attempts place attempt attempt here) (all place attempt (slice_get_within attempts place attempt here)) in
    subst (λ (p : Option PlannedData). IfSome p IsPlannedJob) is own

-- the setups before the first refused one stand
pub all_stand : (files : JobFilesData) (setups : List OneSetupData) (fits : List FittedData) → AllZip (IsFitted files) setups fits → All (λ one. fits_with files one ≡ Ok tt) setups
all_stand files [] [] fitted = λ i d within. absurd (omega (arith, within))
all_stand files [] (fit ∷ fits) fitted = absurd fitted
all_stand files (one ∷ setups) [] fitted = absurd fitted
all_stand files (one ∷ setups) (fit ∷ fits) (own, fitted) =
    All-cons (λ earlier. fits_with files earlier ≡ Ok tt) one setups (stands files one fit.fit own.fits) (all_stand files setups fits fitted)
