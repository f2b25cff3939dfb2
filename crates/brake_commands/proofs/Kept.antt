-- What is kept of tried setups once their certificates are stored tells what they came to.
use Rattle.std.proofs.Common.{◌≡◌, ℕ, suc, ◌+◌, List, [], ◌∷◌, ◌++◌, Option, Some, None, refl, sym, ap, ◌∙◌, subst, arith}
use Rattle.std.specs.Prelude.{All, IfSome, codes, slice_get, option_map, map}
use Rattle.std.specs.List.{flat_map, enumerate_from}
use Rattle.std.proofs.lemmas.Option.{same_Some, slice_get-map, slice_get_within, get_or_from_slice_get}
use Rattle.std.proofs.lemmas.List.Elements.{All-cons}
use Rattle.brake_base.specs.declared.stroke.Worth.TheVariants.{Cost}
use Rattle.handling_cost.specs.Plan.{start}
use Rattle.setup_sheet.specs.OrderSheet.{AreSteps}
use Rattle.cert_lines.specs.Lines.{number, text_line}
use Rattle.setup_choice.specs.declared.cheapest.Tried.{Tried}
use Rattle.setup_choice.specs.Best.{HasCost, IsBest}
use Rattle.command_runner.specs.declared.status.Status.{Status}
use Rattle.command_runner.specs.declared.status.Status.TheVariants as status
use Rattle.brake_commands.specs.Attempts.{PlannedData, AttemptData, kept_of, kept_attempt, IsPlannedJob, IsPlannedWell, IsKept, IsPlannedAt, tried_of, tried_all}
use Rattle.brake_commands.specs.SetupsAnswer.{cost_word, try_line, try_lines, best_texts, EndsTried, with_best, without}
use Rattle.brake_commands.proofs.Claims.{claimed_told}
use Rattle.brake_commands.proofs.Trying.{cost_at}

kept_from : (o : Option PlannedData) (kept : PlannedData) → IfSome o IsPlannedJob → Some kept ≡ option_map kept_of o → (own : PlannedData) × IsPlannedJob own × (kept ≡ kept_of own)
kept_from None kept well is = absurd cc
kept_from (Some own) kept well is = (own, well, same_Some kept (kept_of own) is)

-- the planned job of which this is kept
kept_there : (attempt : AttemptData) (kept : PlannedData) → IsKept attempt → attempt.planned ≡ Some kept → (own : PlannedData) × IsPlannedJob own × (kept ≡ kept_of own)
kept_there attempt kept (whole, well, same) is = kept_from whole.planned kept well (sym is ∙ ap (λ (a : AttemptData). a.planned) same)

kept_steps : (attempt : AttemptData) (kept : PlannedData) (cost : ℕ) → IsKept attempt → attempt.planned ≡ Some kept → kept.cert.claim ≡ Cost cost → AreSteps kept.job start kept.cert.steps
kept_steps attempt kept cost is_kept is claim =
    let own = kept_there attempt kept is_kept is in
    let own_claim : own.0.cert.claim ≡ Cost cost = ap (λ (p : PlannedData). p.cert.claim) (sym own.2) ∙ claim in
    subst (λ (p : PlannedData). AreSteps p.job start p.cert.steps) (sym own.2) (claimed_told own.0.job own.0.cert cost own.1.proves.proves.proves own_claim)

-- the kept steps of the setup of a place with a cost can be told
pub steps_at : (attempts : List AttemptData) (place : ℕ) (kept : PlannedData) (cost : ℕ) → All IsKept attempts → IsPlannedAt attempts place kept → HasCost (tried_all attempts) place cost
    → AreSteps kept.job start kept.cert.steps
steps_at attempts place kept cost all (attempt, here, is) has =
    let own : IsKept attempt = subst IsKept (get_or_from_slice_get attempts place attempt attempt here) (all place attempt (slice_get_within attempts place attempt here)) in
    kept_steps attempt kept cost own is (cost_at attempts place kept cost (attempt, here, is) has)

-- what is kept of each is kept of a planned setup
pub all_kept : (attempts : List AttemptData) → All IsPlannedWell attempts → All IsKept (map kept_attempt attempts)
all_kept [] well = λ i d within. absurd (omega (arith, within))
all_kept (attempt ∷ attempts) well =
    All-cons IsKept (kept_attempt attempt) (map kept_attempt attempts) (attempt, well 0 attempt (omega arith), refl) (all_kept attempts (λ i d within. well (suc i) d (omega (arith, within))))

tried_of_kept : (o : Option PlannedData) → tried_of (option_map kept_of o) ≡ tried_of o
tried_of_kept None = refl
tried_of_kept (Some planned) = refl

-- how each did is kept
tried_kept : (attempts : List AttemptData) → tried_all (map kept_attempt attempts) ≡ tried_all attempts
tried_kept [] = refl
tried_kept (attempt ∷ attempts) =
    ap (λ (t : Tried). t ∷ tried_all (map kept_attempt attempts)) (tried_of_kept attempt.planned) ∙ ap (λ (l : List Tried). tried_of attempt.planned ∷ l) (tried_kept attempts)

cost_kept : (o : Option PlannedData) → cost_word (option_map kept_of o) ≡ cost_word o
cost_kept None = refl
cost_kept (Some planned) = refl

line_kept : (n : ℕ) (attempt : AttemptData) → try_line (n, kept_attempt attempt) ≡ try_line (n, attempt)
unfolding try_line
line_kept n attempt = ap (λ (word : List ℕ). text_line (codes "try") (number n ∷ attempt.name ∷ word ∷ [])) (cost_kept attempt.planned)

lines_kept : (n : ℕ) (attempts : List AttemptData) → flat_map try_line (enumerate_from n (map kept_attempt attempts)) ≡ flat_map try_line (enumerate_from n attempts)
lines_kept n [] = refl
lines_kept n (attempt ∷ attempts) =
    ap (λ (l : List ℕ). l ++ flat_map try_line (enumerate_from (n + 1) (map kept_attempt attempts))) (line_kept n attempt) ∙ ap (λ (l : List ℕ). try_line (n, attempt) ++ l) (lines_kept (n + 1) attempts)

-- the line of each is kept
pub tries_kept : (attempts : List AttemptData) → try_lines (map kept_attempt attempts) ≡ try_lines attempts
tries_kept attempts = lines_kept 0 attempts

own_of : (attempts : List AttemptData) (place : ℕ) (attempt : AttemptData) (kept : PlannedData) → slice_get attempts place ≡ Some attempt → (o : Option PlannedData) → attempt.planned ≡ o → option_map kept_of o ≡ Some kept
    → (own : PlannedData) × IsPlannedAt attempts place own × (kept ≡ kept_of own)
own_of attempts place attempt kept here None is same = absurd cc
own_of attempts place attempt kept here (Some own) is same = (own, (attempt, here, is), sym (same_Some (kept_of own) kept same))

own_at : (attempts : List AttemptData) (place : ℕ) (seen : AttemptData) (kept : PlannedData) → seen.planned ≡ Some kept → (o : Option AttemptData) → slice_get attempts place ≡ o → option_map kept_attempt o ≡ Some seen
    → (own : PlannedData) × IsPlannedAt attempts place own × (kept ≡ kept_of own)
own_at attempts place seen kept is None here same = absurd cc
own_at attempts place seen kept is (Some attempt) here same =
    own_of attempts place attempt kept here attempt.planned refl (ap (λ (a : AttemptData). a.planned) (same_Some (kept_attempt attempt) seen same) ∙ is)

-- the planned job of the setup of a place, of which this is kept
planned_kept : (attempts : List AttemptData) (place : ℕ) (kept : PlannedData) → IsPlannedAt (map kept_attempt attempts) place kept → (own : PlannedData) × IsPlannedAt attempts place own × (kept ≡ kept_of own)
planned_kept attempts place kept (seen, here, is) =
    own_at attempts place seen kept is (slice_get attempts place) refl (sym (slice_get-map kept_attempt attempts place) ∙ here)

-- how the answer ends is kept
pub ends_kept : (attempts : List AttemptData) (ended : Status) (ending : List (List ℕ)) → EndsTried (map kept_attempt attempts) ended ending → EndsTried attempts ended ending
ends_kept attempts ended ending (with_best place kept is_best at) =
    let own = planned_kept attempts place kept at in
    let best : IsBest (tried_all attempts) (Some place) = subst (λ (t : List Tried). IsBest t (Some place)) (tried_kept attempts) is_best in
    subst (λ (p : PlannedData). EndsTried attempts status.Done (best_texts place p)) (sym own.2) (with_best place own.0 best own.1)
ends_kept attempts ended ending (without none) = without (subst (λ (t : List Tried). IsBest t None) (tried_kept attempts) none)
