use Rattle.std.proofs.Common.{◌≡◌, Bool, false, Option, Some, None, refl, sym, ◌∙◌, true≢false}
use Rattle.std.specs.Prelude.{is_some}
use Rattle.job_setup.specs.Setup.{JobData, stage_count}
use Rattle.cert_merge.specs.declared.row_texts.RowText.{RowText}
use Rattle.cert_merge.specs.RowTexts.{AreLeft}
use Rattle.cert_merge.specs.MergeSteps.{Rows}
use Rattle.cert_merge.specs.MergedRows.{HoldsRows, IsUnderway}
use Rattle.cert_merge.proofs.MergingTexts.{at_first, one_more, all_over, sides_begun}
use Rattle.cert_merge.proofs.merged_rows.put_all.Goals as goal

none_of : (next : Option RowText) (told : Bool) → told ≡ is_some next → told ≡ false → next ≡ None
none_of None told is e = refl
none_of (Some row) told is e = absurd (true≢false (sym is ∙ e))

pub loop-second-init : goal.loop-second-init
loop-second-init c =
    let begun : (job : JobData) (done xs ys : Rows) → HoldsRows (stage_count job) done c.args.merged.now → AreLeft job xs c.args.first → AreLeft job ys c.args.second → IsUnderway job done xs ys c.args.merged.now c.of-first.result c.of-second.result =
    λ job done xs ys holds left left_too.
    sides_begun job done xs ys c.args.merged.now c.args.first c.args.second c.of-first.result c.of-second.result holds left left_too (c.of-first.ensures.side job xs left) (c.of-second.ensures.side job ys left_too) c.of-first.ensures.bends c.of-first.ensures.stages
    c.of-second.ensures.bends c.of-second.ensures.stages in
    record {
      some = (c.requires.0, c.requires.1, c.requires.2, c.requires.3, begun c.requires.0 c.requires.1 c.requires.2 c.requires.3 c.requires.4 c.requires.5 c.requires.6);
      left = λ job done xs ys holds left left_too. at_first job done xs ys c.args.merged.now c.of-first.result c.of-second.result (begun job done xs ys holds left left_too);
    }

pub loop-second-preserved : goal.loop-second-preserved
loop-second-preserved c =
    let some = c.loop-second.invariant.some in
    let on = c.in_ok-put_next.ensures.merged some.0 some.1 some.2 some.3 some.4 in
    record {
      some = (some.0, _, on.xs_left, on.ys_left, on.underway);
      left = λ job done xs ys holds left left_too.
          one_more job done xs ys c.loop-second.merged c.put_next.new.merged c.loop-second.first c.loop-second.second c.put_next.new.first c.put_next.new.second (λ done xs ys under. c.in_ok-put_next.ensures.merged job done xs ys under)
          (c.loop-second.invariant.left job done xs ys holds left left_too);
    }

pub returns : goal.returns
returns c = λ job done xs ys holds left left_too.
    all_over job done xs ys c.loop-second.merged c.loop-second.first c.loop-second.second (none_of c.loop-second.first.next c.is_some.result c.is_some.ensures c.if-is_some.false) (none_of c.loop-second.second.next c.is_some-else-is_some.result c.is_some-else-is_some.ensures c.if-is_some-2.false) (c.loop-second.invariant.left job done xs ys holds left left_too)
