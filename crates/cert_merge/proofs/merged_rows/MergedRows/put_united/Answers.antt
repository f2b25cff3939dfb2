use Rattle.std.proofs.Common.{◌≡◌, ◌∙◌, length, ◌∷◌, [], ◌++◌, arith}
use Rattle.cert_merge.specs.declared.merged_rows.Part.TheVariants as parts
use Rattle.cert_merge.specs.declared.merged_rows.MergedRows.{MergedRows}
use Rattle.cert_merge.specs.Entries.{united}
use Rattle.cert_merge.proofs.JoinedRows.{united_put}
use Rattle.cert_merge.proofs.merged_rows.MergedRows.put_united.Goals as goal

pub returns : goal.returns
returns c = λ job done x y holds are.
    let new : MergedRows = record { heads = c.push.new.self; parts = c.push-2.new.self; joined = c.put_united.new.out } in
    let start : c.len-start.result ≡ length c.args.self.now.joined.items = omega (arith, c.len-start.ensures) in
    let end : c.len-end.result ≡ length c.put_united.new.out.items = omega (arith, c.len-end.ensures) in
    united_put c.args.stages done (x.0, united x.1 y.1) c.args.first.now.head c.args.self.now new holds are.first_is.head c.in_ok-push.ensures.items (c.in_ok-put_united.ensures job x y are)
    (c.in_ok-push-2.ensures.items ∙ (λ i. c.args.self.now.parts.items ++ parts.Joined (start i) (end i) ∷ []))
