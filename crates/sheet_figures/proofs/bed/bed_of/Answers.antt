use Rattle.std.proofs.Common.{◌≤◌, ◌^◌, ℤ, negsuc, pos, ◌≤ℤ◌, unsigned_abs, ap, subst, sym, arith}
use Rattle.std.proofs.lemmas.Int.{ints}
use Rattle.job_setup.specs.Setup.{SetupData}
use Rattle.job_setup.proofs.Near.{setup_near}
use Rattle.sheet_figures.proofs.bed.bed_of.Goals as goal

-- a place near 0 is within these bounds
within : (z : ℤ) → negsuc 999999999 ≤ℤ z → z ≤ℤ pos 1000000000 → unsigned_abs z ≤ 2 ^ 40
within z low high = omega (arith, ints, low, high)

pub returns-clause-value : goal.returns-clause-value
returns-clause-value c = ap (λ (s : SetupData). s.bed) c.setup.ensures.value

pub returns-clause-from : goal.returns-clause-from
returns-clause-from c =
    let near = (setup_near c.args.job.now c.setup.ensures.valid).bed_from in
    subst (λ (s : SetupData). unsigned_abs s.bed.0 ≤ 2 ^ 40) (sym c.setup.ensures.value) (within c.args.job.now.setup.bed.0 near.0 near.1)

pub returns-clause-to : goal.returns-clause-to
returns-clause-to c =
    let near = (setup_near c.args.job.now c.setup.ensures.valid).bed_to in
    subst (λ (s : SetupData). unsigned_abs s.bed.1 ≤ 2 ^ 40) (sym c.setup.ensures.value) (within c.args.job.now.setup.bed.1 near.0 near.1)
