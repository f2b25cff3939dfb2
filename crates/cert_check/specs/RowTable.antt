-- How a row is found by its key.
use Rattle.std.specs.Prelude.{◌≡◌, ℕ, ◌+◌, ◌<◌, List, length, slice_index_or, Some, Option, None}
use Rattle.brake_base.specs.declared.stroke.Key.{Key}
use Rattle.brake_base.specs.declared.stroke.Worth.{Worth}
use Rattle.job_setup.specs.Setup.{JobData}
use Rattle.job_setup.specs.ValidJob.{IsJob}
use Rattle.cert_lines.specs.declared.row_head.RowHead.{RowHead}
use Rattle.plan_cert.specs.KeyPlaces.{key_place, key_count}
use Rattle.cert_lines.specs.Lines.{IsWorth}
use Rattle.plan_cert.specs.WellFormed.{AreRowsOf}
use Rattle.plan_cert.specs.GoodCert.{HaveRow}

-- rows of a job
pub record RowsOf : Type 0 where
  pub job : JobData
  pub rows : List RowHead

-- Of the first so many rows each stands, by its number and 1, at its key's number, and what isn't 0
-- is such a row.
pub record IsIndexed (rows : List RowHead) (count : ℕ) (places : List ℕ) : Type 0 where
  pub each : (i : ℕ) (d : RowHead) → i < count
      → slice_index_or places (key_place (slice_index_or rows i d).key) 0 ≡ i + 1
  pub only : (place i : ℕ) (d : RowHead) → slice_index_or places place 0 ≡ i + 1
      → (i < count) × (key_place (slice_index_or rows i d).key ≡ place)

-- the rows of a job, each to be found by its key
pub record IsRowTable (job : JobData) (rows : List RowHead) (places : List ℕ) : Type 0 where
  pub valid : IsJob job
  pub ordered : AreRowsOf job rows
  pub count : length places ≡ key_count job
  pub indexed : IsIndexed rows (length rows) places

-- the worth of the row of a key, the only one that it has; none where no row has the key
abbrev pub IsWorthAt : List RowHead → Key → Option Worth → Type 0
IsWorthAt rows key (Some worth) =
    HaveRow rows key worth × ((other : Worth) → HaveRow rows key other → other ≡ worth)
    × IsWorth worth
IsWorthAt rows key None = (worth : Worth) → HaveRow rows key worth → ⊥
