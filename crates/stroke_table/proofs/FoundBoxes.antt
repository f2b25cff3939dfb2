-- What is found of the box of a key, by the record that has the key.
use Rattle.std.proofs.Common.{ℕ, ◌^◌, ◌<◌, List, Option, refl, sym, subst}
use Rattle.std.specs.Prelude.{All, IfSome, IsSome, slice_get}
use Rattle.brake_base.specs.declared.mask.Mask.{Mask}
use Rattle.job_setup.specs.Setup.{JobData, bend_count}
use Rattle.stroke_table.specs.declared.keys.BoxKey.{BoxKey}
use Rattle.stroke_table.specs.declared.records.BoxRecord.{BoxRecord}
use Rattle.stroke_table.specs.Records.{IsBoxKey, IsBoxRecord, IsFoundBox, HasRecordAt}
use Rattle.stroke_table.proofs.TrueRecords.{record_at}

module _ (boxes : List BoxRecord) (key : BoxKey) (index : ℕ) (at : HasRecordAt boxes key index) where
  pub record_there : IsSome (slice_get boxes index)
  record_there = subst IsSome (sym at.1) refl

  pub found_there : (job : JobData) (mask : Mask) → All (IsBoxRecord job) boxes → mask.0 < 2 ^ bend_count job → IsBoxKey job mask key
      → IfSome (slice_get boxes index) (λ known. IsFoundBox job mask key known.found)
  found_there job mask all inside is =
      let one : BoxRecord = at.0 in
      let found = record_at (IsBoxRecord job) boxes index one at.1 all mask inside (subst (IsBoxKey job mask) (sym at.2) is) in
      subst (λ (o : Option BoxRecord). IfSome o (λ known. IsFoundBox job mask key known.found)) (sym at.1) (subst (λ (k : BoxKey). IsFoundBox job mask k one.found) at.2 found)
