use Rattle.std.proofs.Common.{◌∙◌, ℕ, ◌+◌, Bool, true, false, List, length, take, sym, ap, subst}
use Rattle.std.specs.Prelude.{replicate, slice_set}
use Rattle.std.proofs.lemmas.Bool.{true≢false}
use Rattle.std.proofs.lemmas.List.{length-replicate, length-set}
use Rattle.nogood_book.specs.Refuted.{AreTold}
use Rattle.nogood_book.proofs.Told.{told_of_none, none_set, told_step, told_skip}
use Rattle.nogood_book.proofs.book.refuted_actions.Goals.{then-matches, else-matches}
use Rattle.nogood_book.proofs.book.refuted_actions.Goals as goal

pub loop-nogood-init : goal.loop-nogood-init
loop-nogood-init c = record {
  count = length-replicate 144 false;
  told = told_of_none c.args.stages c.args.mask (replicate 144 false) (none_set 144);
}

pub loop-nogood-preserved : goal.loop-nogood-preserved
loop-nogood-preserved c =
    let stages = c.args.stages in
    let i = c.loop-nogood.nogood-index in
    let so_far = c.loop-nogood.refuted in
    let told = λ (l : List Bool). AreTold stages (take (i + 1) c.args.nogoods.now) c.args.mask 0 l in
    elim c.if-matches.branch [
      | then-matches w ↦
          let place = w.from.ensures ∙ w.action_number.ensures.value in
          record {
            count = ap length w.refuted-is ∙ length-set so_far w.from.result true ∙ c.loop-nogood.invariant.count;
            told = subst told (sym (w.refuted-is ∙ ap (λ (n : ℕ). slice_set so_far n true) place))
                (told_step stages c.requires.stages c.args.nogoods.now c.requires.actions c.args.mask i _ c.loop-nogood-test.true so_far c.loop-nogood.invariant.told c.loop-nogood.invariant.count (c.matches.ensures.0 w.if-matches.true));
          }
      | else-matches w ↦ record {
        count = ap length w.refuted-is ∙ c.loop-nogood.invariant.count;
        told = subst told (sym w.refuted-is)
            (told_skip stages c.requires.stages c.args.nogoods.now c.requires.actions c.args.mask i _ c.loop-nogood-test.true so_far c.loop-nogood.invariant.told (λ matches. true≢false (sym (c.matches.ensures.1 matches) ∙ w.if-matches.false)));
      }
    ]
