-- The best of the tried setups, with the plan of its certificate, is a pair such that none costs less.
use Rattle.std.proofs.Common.{◌≡◌, ℕ, ◌≤◌, ℤ, List, Option, Some, None, Result, Ok, Err, refl, sym, ap, ◌∙◌, subst, arith}
use Rattle.std.specs.Prelude.{All}
use Rattle.std.specs.List.{AllZip}
use Rattle.std.proofs.lemmas.Option.{slice_get_within}
use Rattle.brake_base.specs.declared.stroke.Step.{Step}
use Rattle.brake_base.specs.declared.stroke.Worth.{Worth}
use Rattle.brake_base.specs.declared.stroke.Worth.TheVariants.{Cost, Blocked}
use Rattle.job_setup.specs.declared.fault.JobFault.{JobFault}
use Rattle.job_setup.specs.Setup.{JobData}
use Rattle.handling_cost.specs.Plan.{IsPlan, total, start}
use Rattle.handling_cost.specs.Good.{AreClaimed}
use Rattle.handling_cost.specs.Claim.{IsTrueClaim}
use Rattle.setup_choice.specs.declared.outcome.Fit.{Fit}
use Rattle.setup_choice.specs.declared.outcome.Fit.TheVariants.{Ready, Short}
use Rattle.setup_choice.specs.Setups.{OneSetupData}
use Rattle.setup_choice.specs.Best.{HasCost}
use Rattle.setup_choice.specs.Fitting.{job_of_choice}
use Rattle.command_runner.specs.declared.status.Status.{Status}
use Rattle.brake_commands.specs.SetupList.{JobFilesData, SetupList}
use Rattle.brake_commands.specs.SetupStops.{FitsAs}
use Rattle.brake_commands.specs.Attempts.{PlannedData, AttemptData, IsPlannedJob, IsPlannedAs, IsAttempt, IsPlannedWell, IsPlannedAt, tried_all}
use Rattle.brake_commands.specs.Pairs.{IsPair}
use Rattle.brake_commands.specs.SetupsAnswer.{EndsTried, with_best, without, IsEnding, best, no_pair}
use Rattle.brake_commands.proofs.Claims.{good_claim_true}
use Rattle.brake_commands.proofs.FirstChoice.{one_first}
use Rattle.brake_commands.proofs.Trying.{right_at, left_at, has_cost, cost_at, well_at}

abbrev the_same : Result JobData JobFault → Result JobData JobFault → Type 0
the_same a b = a ≡ b

value_or : JobData → Result JobData JobFault → JobData
value_or job (Ok other) = other
value_or job (Err fault) = job

same_Ok : (job other : JobData) → the_same (Ok job) (Ok other) → job ≡ other
unfolding value_or
same_Ok job other is = ap (value_or job) is

-- one job comes of a setup
one_job : (files : JobFilesData) (one : OneSetupData) (job other : JobData) → FitsAs files one (Ready job) → FitsAs files one (Ready other) → job ≡ other
one_job files one job other (stands, (choice, pick, gives)) (again, (second, pick_too, gives_too)) =
    let same : choice ≡ second = one_first choice second (pick.first second pick_too.choice) (pick_too.first choice pick.choice) in
    same_Ok job other (sym gives ∙ ap (λ (c : List (List ℤ)). job_of_choice files.part files.tools files.machine one c) same ∙ gives_too)

-- a setup that fits with a job was tried as that job
ready_planned : (files : JobFilesData) (one : OneSetupData) (job : JobData) (fit : Fit) (planned : Option PlannedData) → FitsAs files one fit → FitsAs files one (Ready job) → IsPlannedAs fit planned
    → (own : PlannedData) × (planned ≡ Some own) × (own.job ≡ job) × IsPlannedJob own
ready_planned files one job Short planned (stands, none) (again, (choice, pick, gives)) is = absurd (none choice pick.choice)
ready_planned files one job (Ready other) None fits ready is = absurd is
ready_planned files one job (Ready other) (Some own) fits ready is = (own, refl, is.0 ∙ one_job files one other job fits ready, is.1)

-- a tried setup with a planned job fits with that job
fits_planned : (files : JobFilesData) (one : OneSetupData) (fit : Fit) (planned : PlannedData) → FitsAs files one fit → IsPlannedAs fit (Some planned) → FitsAs files one (Ready planned.job)
fits_planned files one Short planned fits is = absurd is
fits_planned files one (Ready job) planned fits is = subst (λ (j : JobData). FitsAs files one (Ready j)) (sym is.0) fits

-- the cost of a least plan is at most that of each
at_most : (job : JobData) (claim : Worth) (steps : List Step) → IsTrueClaim job claim → IsPlan job steps → (cost : ℕ) × (claim ≡ Cost cost) × (cost ≤ total job start steps)
at_most job (Cost cost) steps (least, is) plan = (cost, refl, is.least steps plan)
at_most job Blocked steps none plan = absurd (none steps plan)

module _ (list : SetupList) (attempts : List AttemptData) (tries : AllZip (IsAttempt list.files) list.setups attempts) where
  -- each pair costs at least what was found for its setup
  pair_cost : (place : ℕ) (job : JobData) (steps : List Step) → IsPair list place job steps → (cost : ℕ) × HasCost (tried_all attempts) place cost × (cost ≤ total job start steps)
  pair_cost place job steps pair =
      let there = right_at (IsAttempt list.files) list.setups attempts place pair.one tries pair.listed in
      let own = ready_planned list.files pair.one job there.2.fit there.0.planned there.2.fits pair.fits there.2.planned in
      let truth : IsTrueClaim job own.0.cert.claim = subst (λ (j : JobData). IsTrueClaim j own.0.cert.claim) own.2 (good_claim_true own.0.job own.0.cert own.3.valid own.3.proves.proves.proves) in
      let least = at_most job own.0.cert.claim steps truth pair.plan in
      (least.0, has_cost attempts place own.0 least.0 (there.0, there.1, own.1) least.1, least.2)

  -- the plan of a planned job is a pair
  is_pair : (place : ℕ) (planned : PlannedData) (cost : ℕ) → All IsPlannedWell attempts → IsPlannedAt attempts place planned → planned.cert.claim ≡ Cost cost
      → IsPair list place planned.job planned.cert.steps × (total planned.job start planned.cert.steps ≡ cost)
  is_pair place planned cost well (attempt, here, is) claim =
      let there = left_at (IsAttempt list.files) list.setups attempts place attempt tries here in
      let own = well_at attempts place planned well (attempt, here, is) in
      let claimed : AreClaimed planned.job (Cost cost) planned.cert.steps = subst (λ (w : Worth). AreClaimed planned.job w planned.cert.steps) claim own.proves.proves.proves.good.claimed in
      let planned_as : IsPlannedAs there.2.fit (Some planned) = subst (IsPlannedAs there.2.fit) is there.2.planned in (
        record {
          one = there.0;
          listed = there.1;
          fits = fits_planned list.files there.0 there.2.fit planned there.2.fits planned_as;
          plan = claimed.0;
        },
        claimed.1,
      )

  pub ends : (status : Status) (ending : List (List ℕ)) → All IsPlannedWell attempts → EndsTried attempts status ending → IsEnding list attempts status ending
  ends status ending well (with_best place planned is_best at) =
      let cost = is_best.0 in
      let claim = cost_at attempts place planned cost at is_best.1.has in
      let pair = is_pair place planned cost well at claim in
      best place planned cost is_best at claim (record {
        pair = pair.0;
        sum = pair.1;
        least = λ other job steps is.
            let found = pair_cost other job steps is in
            let within = slice_get_within (tried_all attempts) other _ found.1 in
            let less = is_best.1.least other found.0 within found.1 in
            omega (arith, less, found.2);
      })
  ends status ending well (without none) = no_pair (λ other job steps is.
      let found = pair_cost other job steps is in
      none other found.0 found.1)
