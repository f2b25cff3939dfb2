use Rattle.std.proofs.Common.{◌≡◌, ◌∙◌, ℕ, false, Vec, Global, sym, ap, subst}
use Rattle.std.specs.Prelude.{slice_index_or}
use Rattle.std.proofs.lemmas.Bool.{true≢false}
use Rattle.brake_base.specs.Actions.{IsActionAmong, number_of_action}
use Rattle.nogood_book.specs.declared.nogood.Nogood.{Nogood}
use Rattle.nogood_book.specs.Book.{Grows, stays, IsNumbered}
use Rattle.nogood_book.proofs.Growth.{grows_next}
use Rattle.nogood_book.proofs.Told.{told_at, told_later, grown_numbered}
use Rattle.nogood_book.proofs.book.grow_at.Goals.{then-not-refuted-from+in_ok-grow_by, else-not-refuted-from}
use Rattle.nogood_book.proofs.book.grow_at.Goals as goal

pub grow_by-requires-clause-new : goal.grow_by-requires-clause-new
grow_by-requires-clause-new c =
    let action = c.action_of-action.result in
    let stages = c.stages-stages.ensures.value in
    let told = c.refuted_actions-refuted.result in
    let numbered : IsNumbered c.args.job.now c.loop-number.number action = record {
      among = subst (λ (n : ℕ). IsActionAmong 12 n action) stages c.action_of-action.ensures.action;
      is = subst (λ (n : ℕ). number_of_action n action ≡ c.loop-number.number) stages c.action_of-action.ensures.value;
    } in
    let at = told_at c.args.job.now c.args.mask c.loop-number.nogoods.items c.loop-number.number action numbered told c.loop-number.invariant.told in
    λ refuted. true≢false (sym (at.1 refuted) ∙ ap (λ (n : ℕ). slice_index_or told n false) (sym c.from.ensures) ∙ c.if-not-refuted-from.true)

pub loop-number-preserved : goal.loop-number-preserved
loop-number-preserved c =
    let job = c.args.job.now in
    let mask = c.args.mask in
    let n = c.loop-number.number in
    let action = c.action_of-action.result in
    let stages = c.stages-stages.ensures.value in
    let so_far = c.loop-number.invariant in
    let before = c.loop-number.nogoods.items in
    let after = c.if-not-refuted-from.nogoods.items in
    let told = c.refuted_actions-refuted.result in
    let numbered : IsNumbered job n action = record {
      among = subst (λ (k : ℕ). IsActionAmong 12 k action) stages c.action_of-action.ensures.action;
      is = subst (λ (k : ℕ). number_of_action k action ≡ n) stages c.action_of-action.ensures.value;
    } in
    elim c.if-not-refuted-from.branch [
      | then-not-refuted-from+in_ok-grow_by w ↦
          let grows = subst (λ (v : Vec Nogood Global). Grows job mask action before v.items) (sym w.nogoods-is) w.in_ok-grow_by.ensures.list in
          record {
            strokes = so_far.strokes ∙ sym (w.strokes-is ∙ w.in_ok-grow_by.ensures.job);
            same = w.strokes-is ∙ w.in_ok-grow_by.ensures.job ∙ so_far.same;
            list = grows_next job mask n c.args.nogoods.now.items before after action so_far.list numbered grows;
            actions = grown_numbered job c.stages-stages.ensures.valid mask action before after grows so_far.actions;
            count = so_far.count;
            told = told_later job mask action before after grows n numbered told so_far.told;
          }
      | else-not-refuted-from w ↦
          let at = told_at job mask before n action numbered told so_far.told in
          let known = ap (λ (k : ℕ). slice_index_or told k false) (sym c.from.ensures) ∙ w.if-not-refuted-from.false in
          let grows = subst (λ (v : Vec Nogood Global). Grows job mask action before v.items) (sym w.nogoods-is) (stays (λ can opposed. at.0 known)) in
          record {
            strokes = so_far.strokes ∙ sym w.strokes-is;
            same = w.strokes-is ∙ so_far.same;
            list = grows_next job mask n c.args.nogoods.now.items before after action so_far.list numbered grows;
            actions = grown_numbered job c.stages-stages.ensures.valid mask action before after grows so_far.actions;
            count = so_far.count;
            told = told_later job mask action before after grows n numbered told so_far.told;
          }
    ]
