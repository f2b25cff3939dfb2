use Rattle.std.proofs.Common.{◌≡◌, inl, inr, ℕ, ◌∙◌, ◌<◌, ◌≤◌, ◌&&◌, ◌||◌, ◌==◌, ◌^◌, ap, sym, subst, arith, rules}
use Rattle.brake_base.specs.declared.mask.Mask.{Mask}
use Rattle.std.proofs.lemmas.Bool.{cases_lt}
use Rattle.brake_base.specs.Masks.{has}
use Rattle.job_setup.specs.Setup.{bend_count}
use Rattle.fold_boxes.proofs.MatesSoFar.{one_more, none_more}
use Rattle.fold_boxes.proofs.Beyond.{none_yet, found_earlier, none_later}
use Rattle.nogood_book.specs.Support.{is_bend, is_in_support}
use Rattle.box_support.proofs.PathBends.{path_exact}
use Rattle.nogood_book.proofs.Supports.{bend_is, no_bend_0, no_bend_past, is_support}
use Rattle.nogood_book.proofs.deciding.support.Goals.{then-is_in_support, else-is_in_support}
use Rattle.nogood_book.proofs.deciding.support.Goals as goal

pub loop-bend-init : goal.loop-bend-init
loop-bend-init c =
    let job = c.args.job.now in
    let test = λ (k : ℕ). is_bend job k && is_in_support job c.args.action.bend c.args.reason k in
    record {
      fits = omega (arith, c.empty-support.ensures.number);
      bends = λ f. c.empty-support.ensures.value f ∙ none_yet test f (no_bend_0 job (is_in_support job c.args.action.bend c.args.reason 0));
    }

pub loop-bend-preserved : goal.loop-bend-preserved
loop-bend-preserved c =
    let job = c.args.job.now in
    let b = c.args.action.bend in
    let test = λ (k : ℕ). is_bend job k && is_in_support job b c.args.reason k in
    let bend = c.loop-bend.bend in
    let first : 1 ≤ bend = omega (arith, c.loop-bend.auto.bend) in
    let last : bend ≤ bend_count job = omega (arith, c.loop-bend-test.true, c.bends-bend-end.ensures.value) in
    let found : c.is_in_support.result ≡ test bend = c.is_in_support.ensures ∙ sym (ap (λ t. t && is_in_support job b c.args.reason bend) (bend_is job bend first last)) in
    elim c.if-is_in_support.branch [
      | then-is_in_support w ↦ record {
        fits = subst (λ (m : Mask). m.0 < 2 ^ 16) (sym w.support-is) (search rules);
        bends = λ f. ap (λ m. has m f) w.support-is ∙ w.with-support.ensures f ∙ ap (λ t. t || (f == bend)) (c.loop-bend.invariant.bends f) ∙ one_more test f bend (sym found ∙ w.if-is_in_support.true);
      }
      | else-is_in_support w ↦ record {
        fits = subst (λ (m : Mask). m.0 < 2 ^ 16) (sym w.support-is) c.loop-bend.invariant.fits;
        bends = λ f. ap (λ m. has m f) w.support-is ∙ c.loop-bend.invariant.bends f ∙ none_more test f bend (sym found ∙ w.if-is_in_support.false);
      }
    ]

pub returns-clause-bends : goal.returns-clause-bends
returns-clause-bends c = λ f.
    let job = c.args.job.now in
    let test = λ (k : ℕ). is_bend job k && is_in_support job c.args.action.bend c.args.reason k in
    c.loop-bend.invariant.bends f ∙ elim (cases_lt f c.loop-bend.bend) [
      | inl low ↦ found_earlier test f c.loop-bend.bend low
      | inr past ↦ none_later test f c.loop-bend.bend past ∙ sym (no_bend_past job f (is_in_support job c.args.action.bend c.args.reason f) (omega (arith, past, c.loop-bend-test.false, c.bends-bend-end.ensures.value)))
    ]

pub returns-clause-value : goal.returns-clause-value
returns-clause-value c = is_support c.args.job.now c.args.action.bend c.args.reason c.loop-bend.support c.loop-bend.invariant.fits (returns-clause-bends c)

pub returns-clause-paths : goal.returns-clause-paths
returns-clause-paths c = λ f g bends path bend. path_exact c.args.job.now.part c.bends-bend-end.ensures.valid.part f g bends path bend
