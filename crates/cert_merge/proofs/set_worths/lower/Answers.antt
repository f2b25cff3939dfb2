use Rattle.std.proofs.Common.{◌≡◌, ◌<◌, ◌∙◌, ℕ, length, subst, rules}
use Rattle.std.specs.Prelude.{min}
use Rattle.std.proofs.lemmas.List.{length-set}
use Rattle.cert_merge.specs.SetWorths.{number_of}
use Rattle.cert_merge.proofs.LaneWorths.{lane_lowered, lane_left}
use Rattle.cert_merge.proofs.set_worths.lower.Goals as goal

pub returns : goal.returns
returns c =
    let rows = c.args.proved.now in
    let key = c.args.next.now.key in
    let at = c.from-attitude.ensures ∙ c.number.ensures.value in
    let long : length rows ≡ 24 = search rules in
    let turn : key.attitude < 24 = subst (λ (n : ℕ). n < 24) c.number.ensures.value c.number.ensures.below in
    record {
      count = length-set rows c.from-attitude.result c.with.result ∙ long;
      attitude = turn;
      here = lane_lowered rows c.from-attitude.result key.attitude key.stage c.min-least.result c.with.result long turn at c.with.ensures.lanes (number_of c.args.next.now.proved) c.requires.stage
          (c.min-least.ensures ∙ (λ i. min (c.cost.ensures i) (c.number_of.ensures i)));
      rest = lane_left rows c.from-attitude.result key.attitude key.stage c.min-least.result c.with.result long turn at c.with.ensures.lanes;
    }
