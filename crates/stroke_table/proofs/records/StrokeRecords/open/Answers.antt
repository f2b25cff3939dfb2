use Rattle.std.proofs.Common.{rules, ℕ, ◌≡◌, ◌∙◌, ap, length, sym, subst, arith}
use Rattle.std.specs.Prelude.{All, vec_capacity}
use Rattle.std.proofs.lemmas.Nat.{pow_pos}
use Rattle.std.proofs.lemmas.List.{length-replicate}
use Rattle.std.proofs.lemmas.List.Elements.{All-nil}
use Rattle.job_setup.specs.Setup.{bend_count}
use Rattle.stroke_table.specs.Records.{IsBoxRecord, IsGroupRecord}
use Rattle.stroke_table.proofs.TrueRecords.{as_long, no_record}
use Rattle.stroke_table.proofs.records.StrokeRecords.open.Goals as goal

pub returns : goal.returns
returns c =
    let job = c.args.job.now in
    let groups = c.in_ok-no_groups.field-0.items in
    let long = as_long c.group_places.result groups c.in_ok-no_groups.ensures in
    let room : vec_capacity c.in_ok-with_capacity.field-0 ≡ 16384 = search rules in
    record {
      around = c.in_ok-all_surroundings.ensures;
      deciding = c.in_ok-deciding_bends.ensures;
      some_place = omega (arith, c.group_places.ensures, pow_pos (bend_count job), long);
      groups = no_record (IsGroupRecord job) c.group_places.result groups c.in_ok-no_groups.ensures;
      index_count = ap length c.in_ok-no_indices.ensures ∙ length-replicate {A = ℕ} 16384 65535;
      room = omega (arith, room);
      boxes = subst (All (IsBoxRecord job)) (sym c.in_ok-with_capacity.ensures.items) (All-nil (IsBoxRecord job));
    }
