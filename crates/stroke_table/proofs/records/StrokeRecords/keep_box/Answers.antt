use Rattle.std.proofs.Common.{◌∙◌, arith}
use Rattle.std.proofs.lemmas.List.{length-set}
use Rattle.stroke_table.proofs.records.StrokeRecords.keep_box.Goals as goal

pub returns-clause-kept : goal.returns-clause-kept
returns-clause-kept c = λ job kept is.
    let same = c.put_box.ensures.same_memory in
    record {
      around = kept.around;
      deciding = kept.deciding;
      some_place = kept.some_place;
      groups = kept.groups;
      index_count = length-set c.args.self.now.indices.items c.args.place _ ∙ kept.index_count;
      room = omega (arith, same, kept.room);
      boxes = c.put_box.ensures.each job kept.boxes is;
    }
