-- What a check of a table comes to. Worths are in tenths of a second.
use Rattle.std.specs.Prelude.{◌≡◌, ℕ, ◌<◌, ◌≤◌, List, length, slice_index_or, Option, Some}
use Rattle.std.specs.Prelude.{None}
use Rattle.brake_base.specs.declared.stroke.Key.{Key}
use Rattle.brake_base.specs.declared.stroke.Step.{Step}
use Rattle.brake_base.specs.declared.stroke.Worth.{Worth}
use Rattle.brake_base.specs.declared.stroke.Worth.TheVariants.{Cost}
use Rattle.brake_base.specs.Keys.{KeyIsBefore}
use Rattle.brake_base.specs.Worths.{IsAtMost}
use Rattle.job_setup.specs.Setup.{JobData}
use Rattle.handling_cost.specs.Plan.{IsPlan, total, start}
use Rattle.handling_cost.specs.Proved.{proved_of}
use Rattle.cert_lines.specs.declared.row_head.RowHead.{RowHead}
use Rattle.plan_cert.specs.GoodCert.{worths_in, HaveRow}
use Rattle.plan_cert.specs.RowFaults.{IsFirstFault, IsBadReason, IsNotClosed}
use Rattle.cert_merge.specs.declared.proved.TableFault.{TableFault}
use Rattle.cert_merge.specs.declared.proved.TableFault.TheVariants.{BadReason, NotClosed}
use Rattle.cert_merge.specs.Table.{TableData}

-- every plan costs at least the worth, and there is none where it is Blocked
abbrev pub CostsAtLeast : JobData → Worth → Type 0
CostsAtLeast job worth =
    (steps : List Step) → IsPlan job steps → IsAtMost worth (Cost (total job start steps))

-- what the rows of a table prove of a key
abbrev pub proved_by : JobData → List RowHead → Key → Worth
proved_by job rows key = proved_of job (worths_in rows) key

-- this action of this row is the first that isn't accounted for, for this cause
abbrev pub IsTableFault : JobData → TableData → TableFault → Type 0
IsTableFault job t (BadReason row action) =
    IsFirstFault job t.rows t.notes row action (IsBadReason job t.notes row action)
IsTableFault job t (NotClosed row action) =
    IsFirstFault job t.rows t.notes row action (IsNotClosed job t.rows t.notes row action)

-- the rows have this worth for the key, or they have none
abbrev pub IsWorthIn : List RowHead → Key → Option Worth → Type 0
IsWorthIn rows key (Some worth) = HaveRow rows key worth
IsWorthIn rows key None = (worth : Worth) → HaveRow rows key worth → ⊥

-- the row has the key, and this is its worth; or it has another
abbrev pub IsWorthAt : RowHead → Key → Option Worth → Type 0
IsWorthAt row key (Some worth) = (row.key ≡ key) × (row.worth ≡ worth)
IsWorthAt row key None = row.key ≡ key → ⊥

-- so many rows, and no others, stand before the key
pub record IsPlaceOf (rows : List RowHead) (key : Key) (place : ℕ) : Type 0 where
  pub before :
      (k : ℕ) (d : RowHead) → k < length rows → k < place
      → KeyIsBefore (slice_index_or rows k d).key key
  pub behind :
      (k : ℕ) (d : RowHead) → place ≤ k → k < length rows
      → KeyIsBefore (slice_index_or rows k d).key key → ⊥
