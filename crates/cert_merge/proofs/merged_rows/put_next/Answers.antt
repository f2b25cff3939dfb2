use Rattle.std.proofs.Common.{◌≡◌, sym, ◌∙◌}
use Rattle.cert_merge.specs.declared.merged.Next.TheVariants.{First, Second, Both}
use Rattle.cert_merge.specs.MergeSteps.{next_of}
use Rattle.cert_merge.specs.RowTexts.{next_key}
use Rattle.cert_merge.proofs.MergingTexts.{has_both, sides_of, of_one_key, first_left, second_left, first_goes, second_goes, both_goes}
use Rattle.cert_merge.proofs.merged_rows.put_next.Goals as goal

pub put_joined-requires-clause-rows : goal.put_joined-requires-clause-rows
put_joined-requires-clause-rows c =
    let job = c.requires.sides.0 in
    let xs = c.requires.sides.1 in
    let ys = c.requires.sides.2 in
    let sides = c.requires.sides.3 in
    let first = c.args.first.now in
    let second = c.args.second.now in
    let is : next_of (next_key first) (next_key second) ≡ Both = (λ i. next_of (sym c.key.ensures i) (sym c.key-2.ensures i)) ∙ sym c.next_of.ensures ∙ c.in-Both.is in
    let has = has_both job xs ys first second sides is in (
      job,
      has.x,
      has.y,
      of_one_key job has.xs_more has.ys_more has.x has.y first second (sides_of job xs ys first second sides has) has.taken.1 c.in-Some-take-2.row c.in-Some-take-3.other (sym c.take-in-Both.ensures.value ∙ c.in-Some-take-2.is)
          (sym c.take-in-Some-take-2.ensures.value ∙ c.in-Some-take-3.is),
    )

pub advance-requires-in-Some-take-3 : goal.advance-requires-in-Some-take-3
advance-requires-in-Some-take-3 c =
    let job = c.requires.sides.0 in
    let xs = c.requires.sides.1 in
    let ys = c.requires.sides.2 in
    let sides = c.requires.sides.3 in
    let first = c.args.first.now in
    let second = c.args.second.now in
    let is : next_of (next_key first) (next_key second) ≡ Both = (λ i. next_of (sym c.key.ensures i) (sym c.key-2.ensures i)) ∙ sym c.next_of.ensures ∙ c.in-Both.is in
    let has = has_both job xs ys first second sides is in (
      job,
      has.xs_more,
      first_left job has.xs_more has.ys_more has.x has.y first second (sides_of job xs ys first second sides has) has.taken.1 c.in-Some-take-2.row c.in-Some-take-3.other (sym c.take-in-Both.ensures.value ∙ c.in-Some-take-2.is)
          (sym c.take-in-Some-take-2.ensures.value ∙ c.in-Some-take-3.is),
    )

pub advance-requires-in-Some-take-3-2 : goal.advance-requires-in-Some-take-3-2
advance-requires-in-Some-take-3-2 c =
    let job = c.requires.sides.0 in
    let xs = c.requires.sides.1 in
    let ys = c.requires.sides.2 in
    let sides = c.requires.sides.3 in
    let first = c.args.first.now in
    let second = c.args.second.now in
    let is : next_of (next_key first) (next_key second) ≡ Both = (λ i. next_of (sym c.key.ensures i) (sym c.key-2.ensures i)) ∙ sym c.next_of.ensures ∙ c.in-Both.is in
    let has = has_both job xs ys first second sides is in (
      job,
      has.ys_more,
      second_left job has.xs_more has.ys_more has.x has.y first second (sides_of job xs ys first second sides has) has.taken.1 c.in-Some-take-2.row c.in-Some-take-3.other (sym c.take-in-Both.ensures.value ∙ c.in-Some-take-2.is)
          (sym c.take-in-Some-take-2.ensures.value ∙ c.in-Some-take-3.is),
    )

pub returns-in_ok-put_row-in-First-clause-merged : goal.returns-in_ok-put_row-in-First-clause-merged
returns-in_ok-put_row-in-First-clause-merged c = λ job done xs ys under.
    let first = c.args.first.now in
    let second = c.args.second.now in
    let is : next_of (next_key first) (next_key second) ≡ First = (λ i. next_of (sym c.key.ensures i) (sym c.key-2.ensures i)) ∙ sym c.next_of.ensures ∙ c.in-First.is in
    first_goes job xs ys first second under.sides done c.args.merged.now c.put_row.new.self under.holds c.advance.new.self c.in-Some.row (sym c.take.ensures.value ∙ c.in-Some.is) is
    (λ said holds text. c.in_ok-put_row-in-First.ensures job _ done said holds text) (λ rows left. c.advance.ensures.side job rows left) c.advance.ensures.bends c.advance.ensures.stages

pub returns-in_ok-put_row-in-Second-clause-merged : goal.returns-in_ok-put_row-in-Second-clause-merged
returns-in_ok-put_row-in-Second-clause-merged c = λ job done xs ys under.
    let first = c.args.first.now in
    let second = c.args.second.now in
    let is : next_of (next_key first) (next_key second) ≡ Second = (λ i. next_of (sym c.key.ensures i) (sym c.key-2.ensures i)) ∙ sym c.next_of.ensures ∙ c.in-Second.is in
    second_goes job xs ys first second under.sides done c.args.merged.now c.put_row-in-Some-take.new.self under.holds c.advance-in-Some-take.new.self c.in-Some-take.row (sym c.take-in-Second.ensures.value ∙ c.in-Some-take.is) is
    (λ said holds text. c.in_ok-put_row-in-Second.ensures job _ done said holds text) (λ rows left. c.advance-in-Some-take.ensures.side job rows left) c.advance-in-Some-take.ensures.bends c.advance-in-Some-take.ensures.stages

pub returns-in_ok-put_joined-in-Both-clause-merged : goal.returns-in_ok-put_joined-in-Both-clause-merged
returns-in_ok-put_joined-in-Both-clause-merged c = λ job done xs ys under.
    let first = c.args.first.now in
    let second = c.args.second.now in
    let is : next_of (next_key first) (next_key second) ≡ Both = (λ i. next_of (sym c.key.ensures i) (sym c.key-2.ensures i)) ∙ sym c.next_of.ensures ∙ c.in-Both.is in
    both_goes job done xs ys c.args.merged.now c.put_joined.new.self first second c.advance-in-Some-take-3.new.self c.advance-in-Some-take-3-2.new.self c.in-Some-take-2.row c.in-Some-take-3.other under is (sym c.take-in-Both.ensures.value ∙ c.in-Some-take-2.is)
    (sym c.take-in-Some-take-2.ensures.value ∙ c.in-Some-take-3.is) (λ x y holds are. c.in_ok-put_joined-in-Both.ensures job done x y holds are) (λ rows left. c.advance-in-Some-take-3.ensures.side job rows left) (λ rows left. c.advance-in-Some-take-3-2.ensures.side job rows left)
    c.advance-in-Some-take-3.ensures.bends c.advance-in-Some-take-3.ensures.stages c.advance-in-Some-take-3-2.ensures.bends c.advance-in-Some-take-3-2.ensures.stages
