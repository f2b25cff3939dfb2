-- The blocks of the strokes, one behind the other, and the rows of the table.
use Rattle.std.proofs.Common.{◌≡◌, ℕ, ◌+◌, ◌-◌, ◌≤◌, ℤ, pos, ◌+ℤ◌, List, [], ◌∷◌, ◌++◌, length, get_or, take, drop, ap, sym, subst, ◌∙◌, arith}
use Rattle.std.specs.Prelude.{Result, Ok, Err, OnOk}
use Rattle.std.proofs.lemmas.List.{take_all, length-drop}
use Rattle.brake_base.specs.declared.stroke.Key.{Key}
use Rattle.brake_base.specs.declared.stroke.Step.{Step}
use Rattle.brake_base.specs.declared.stroke.Back.TheVariants.{Parent}
use Rattle.job_setup.specs.Setup.{JobData}
use Rattle.handling_cost.specs.StepCost.{key_after}
use Rattle.setup_sheet.specs.OrderSheet.{IsStepAt, AreSteps}
use Rattle.sheet_page.specs.Blocks.{IsBlock, AreBlocks}
use Rattle.sheet_page.specs.Orders.{order_row, order_rows}
use Rattle.sheet_page.specs.Strokes.{StrokeData, stroke_of}
use Rattle.sheet_page.proofs.Joined.{two_put}

-- a step where there is none
abbrev pub no_step : Step
no_step = record { action = record { bend = 0; back = Parent; stage = 0 }; gauge = record { left_face = 0; right_face = 0 } }

-- the number of the stroke of a step, and the key behind it
module _ (job : JobData) (number : ℕ) (key : Key) (step : Step) (stroke : StrokeData) (is : stroke ≡ stroke_of job number key step) where
  pub number_told : stroke.number ≡ number
  unfolding stroke_of
  number_told = ap (λ (s : StrokeData). s.number) is

  pub key_behind : stroke.after ≡ key_after job key step.action
  unfolding stroke_of
  key_behind = ap (λ (s : StrokeData). s.after) is

-- what is left of a list behind its first place
pub tail_is : {A : Type 0} (all : List A) → take (length all - 1) (drop 1 all) ≡ drop 1 all
tail_is all = take_all (length all - 1) (drop 1 all) (omega (arith, length-drop 1 all))

pub tail_short : {A : Type 0} (all : List A) → 1 ≤ length all → length (take (length all - 1) (drop 1 all)) + 1 ≡ length all
tail_short all some = omega (arith, ap length (tail_is all), length-drop 1 all)

-- steps of which the first is taken
module _ (job : JobData) (key : Key) (d : Step) where
  pub first_told : (all : List Step) → 1 ≤ length all → AreSteps job key all → IsStepAt job key (get_or all 0 d)
  first_told [] some are = absurd (omega arith)
  first_told (step ∷ steps) some are = are.0

  behind : (all : List Step) (next : Key) → 1 ≤ length all → AreSteps job key all → next ≡ key_after job key (get_or all 0 d).action → AreSteps job next (drop 1 all)
  behind [] next some are same = absurd (omega arith)
  behind (step ∷ steps) next some are same = subst (λ (k : Key). AreSteps job k steps) (sym same) are.1

  pub rest_told : (all : List Step) (next : Key) → 1 ≤ length all → AreSteps job key all → next ≡ key_after job key (get_or all 0 d).action → AreSteps job next (take (length all - 1) (drop 1 all))
  rest_told all next some are same = subst (AreSteps job next) (sym (tail_is all)) (behind all next some are same)

  -- the block of the first, and those of the others
  put_behind : (count number : ℕ) (figure views : ℤ) (all : List Step) (next : Key) (stroke : StrokeData) (before mid now : List ℕ) → 1 ≤ length all → stroke ≡ stroke_of job number key (get_or all 0 d) → next ≡ key_after job key (get_or all 0 d).action → IsBlock job count stroke figure views before mid
      → AreBlocks job count (number + 1) ((figure +ℤ views) +ℤ pos 3) next (drop 1 all) mid now → AreBlocks job count number figure key all before now
  put_behind count number figure views [] next stroke before mid now some told same block blocks = absurd (omega arith)
  put_behind count number figure views (step ∷ steps) next stroke before mid now some told same block blocks = (
    views,
    mid,
    subst (λ (s : StrokeData). IsBlock job count s figure views before mid) told block,
    subst (λ (k : Key). AreBlocks job count (number + 1) ((figure +ℤ views) +ℤ pos 3) k steps mid now) same blocks,
  )

  pub blocks_put : (count number after : ℕ) (figure views further : ℤ) (all : List Step) (next : Key) (stroke : StrokeData) (before mid now : List ℕ) {T E : Type 0} (r : Result T E) → 1 ≤ length all → stroke ≡ stroke_of job number key (get_or all 0 d) → after ≡ number + 1 → further ≡ (figure +ℤ views) +ℤ pos 3
      → next ≡ key_after job key (get_or all 0 d).action → IsBlock job count stroke figure views before mid → OnOk r (AreBlocks job count after further next (take (length all - 1) (drop 1 all)) mid now) → OnOk r (AreBlocks job count number figure key all before now)
  blocks_put count number after figure views further all next stroke before mid now (Ok _) some told later higher same block blocks =
      put_behind count number figure views all next stroke before mid now some told same block
      (subst (λ (f : ℤ). AreBlocks job count (number + 1) f next (drop 1 all) mid now) higher
      (subst (λ (n : ℕ). AreBlocks job count n further next (drop 1 all) mid now) later (subst (λ (s : List Step). AreBlocks job count after further next s mid now) (tail_is all) blocks)))
  blocks_put count number after figure views further all next stroke before mid now (Err _) some told later higher same block blocks = tt

  -- the row of the first, and those of the others
  put_under : (number : ℕ) (all : List Step) (next : Key) (stroke : StrokeData) (before now : List ℕ) {mid : List ℕ} → 1 ≤ length all → stroke ≡ stroke_of job number key (get_or all 0 d) → next ≡ key_after job key (get_or all 0 d).action → mid ≡ before ++ order_row job stroke → now ≡ mid ++ order_rows job (number + 1) next (drop 1 all) → now ≡ before ++ order_rows job number key all
  put_under number [] next stroke before now some told same row rows = absurd (omega arith)
  put_under number (step ∷ steps) next stroke before now {mid = mid} some told same row rows =
      two_put before (order_row job (stroke_of job number key step)) (order_rows job (number + 1) (key_after job key step.action) steps)
      (row ∙ ap (λ (s : StrokeData). before ++ order_row job s) told) (rows ∙ ap (λ (k : Key). mid ++ order_rows job (number + 1) k steps) same)

  pub rows_put : (number : ℕ) (all : List Step) (next : Key) (stroke : StrokeData) (before now : List ℕ) {mid : List ℕ} {T E : Type 0} (r : Result T E) → 1 ≤ length all → stroke ≡ stroke_of job number key (get_or all 0 d) → next ≡ key_after job key (get_or all 0 d).action → mid ≡ before ++ order_row job stroke
      → OnOk r (now ≡ mid ++ order_rows job (number + 1) next (take (length all - 1) (drop 1 all))) → OnOk r (now ≡ before ++ order_rows job number key all)
  rows_put number all next stroke before now {mid = mid} (Ok _) some told same row rows =
      put_under number all next stroke before now some told same row (subst (λ (s : List Step). now ≡ mid ++ order_rows job (number + 1) next s) (tail_is all) rows)
  rows_put number all next stroke before now (Err _) some told same row rows = tt
