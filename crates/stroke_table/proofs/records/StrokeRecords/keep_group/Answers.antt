use Rattle.std.proofs.Common.{◌<◌, length, Some, arith}
use Rattle.std.proofs.lemmas.List.{length-set}
use Rattle.stroke_table.specs.Records.{IsGroupRecord}
use Rattle.stroke_table.proofs.TrueRecords.{record_more}
use Rattle.stroke_table.proofs.records.StrokeRecords.keep_group.Goals as goal

pub returns : goal.returns
returns c = λ job kept is.
    let records = c.args.self.now.groups.items in
    let place = c.group_place-place.result in
    let within : place < length records = omega (arith, c.group_place-place.ensures, c.requires) in
    let long = length-set records place (Some c.args.found) in
    record {
      around = kept.around;
      deciding = kept.deciding;
      index_count = kept.index_count;
      room = kept.room;
      boxes = kept.boxes;
      some_place = omega (arith, long, kept.some_place);
      groups = record_more (IsGroupRecord job) records place c.args.found within is kept.groups;
    }
