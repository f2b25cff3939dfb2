use Rattle.std.proofs.Common.{◌≡◌, ◌≤◌, ◌^◌, ◌++◌, ◌∷◌, [], List, ℤ, unsigned_abs, FitsSigned, to_z-of_z, w64, sym, subst, arith}
use Rattle.std.specs.Prelude.{All}
use Rattle.std.proofs.lemmas.List.Elements.{All-push}
use Rattle.algebra.proofs.Widths.{fits_64}
use Rattle.handling_cost.proofs.Keys.{some_stage}
use Rattle.sheet_figures.proofs.front_ends.both_ends.Goals as goal

pub loop-stage-preserved : goal.loop-stage-preserved
loop-stage-preserved c =
    let from = c.range_of-range.result.0 in
    let to = c.range_of-range.result.1 in
    let fits_from : FitsSigned w64 from = fits_64 _ (2 ^ 40) c.range_of-range.ensures.near_from (omega arith) in
    let fits_to : FitsSigned w64 to = fits_64 _ (2 ^ 40) c.range_of-range.ensures.near_to (omega arith) in
    let first : c.push.new.self.items ≡ c.loop-stage.ends.items ++ from ∷ [] = simp (to_z-of_z fits_from) at c.push.ensures.items in
    let second : c.push-in-loop-stage.new.self.items ≡ c.push.new.self.items ++ to ∷ [] = simp (to_z-of_z fits_to) at c.push-in-loop-stage.ensures.items in
    let near : All (λ (end : ℤ). unsigned_abs end ≤ 2 ^ 40) c.push.new.self.items = subst (λ (all : List ℤ). All (λ (end : ℤ). unsigned_abs end ≤ 2 ^ 40) all) (sym first) (All-push (λ (end : ℤ). unsigned_abs end ≤ 2 ^ 40) c.loop-stage.ends.items from c.loop-stage.invariant.near c.range_of-range.ensures.near_from) in
    record {
      few = omega (arith, c.push.ensures.len, c.push-in-loop-stage.ensures.len, c.loop-stage.invariant.few);
      near = subst (λ (all : List ℤ). All (λ (end : ℤ). unsigned_abs end ≤ 2 ^ 40) all) (sym second) (All-push (λ (end : ℤ). unsigned_abs end ≤ 2 ^ 40) c.push.new.self.items to near c.range_of-range.ensures.near_to);
    }

pub returns-clause-some : goal.returns-clause-some
returns-clause-some c = some_stage c.args.job.now c.stages-stage-end.ensures.valid
