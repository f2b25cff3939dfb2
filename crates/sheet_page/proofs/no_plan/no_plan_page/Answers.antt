use Rattle.std.proofs.Common.{◌∙◌, ◌++◌, ℤ, pos, List, [], ℕ, ap, subst, FitsSigned, to_z-of_z, w64, ◌^◌, arith}
use Rattle.std.specs.Prelude.{unsigned_abs}
use Rattle.std.proofs.lemmas.Int.{ints}
use Rattle.algebra.proofs.Widths.{fits_64}
use Rattle.plan_cert.specs.Cert.{cert_data}
use Rattle.sheet_page.specs.declared.no_plan.TheConstants.{NO_PLAN, NO_ORDER}
use Rattle.sheet_page.specs.Head.{head_text}
use Rattle.sheet_page.specs.Kept.{states_of}
use Rattle.sheet_page.specs.NoPlan.{HasRefusals}
use Rattle.sheet_page.specs.Page.{first_figure, HasParts}
use Rattle.sheet_page.proofs.Joined.{begun}
use Rattle.sheet_page.proofs.Sizes.{size_is}
use Rattle.sheet_page.proofs.no_plan.no_plan_page.Goals as goal

pub collect-kept-requires-clause-notes : goal.collect-kept-requires-clause-notes
collect-kept-requires-clause-notes c = c.requires.good.form.rows.each_note

pub collect-kept-requires-clause-order : goal.collect-kept-requires-clause-order
collect-kept-requires-clause-order c = c.requires.good.form.rows.note_order

pub put_refusals-requires-clause-figure : goal.put_refusals-requires-clause-figure
put_refusals-requires-clause-figure c =
    let range = c.first_figure.ensures.range in
    record { low = omega (arith, ints, range.low, range.high); high = omega (arith, ints, range.low, range.high) }

pub returns : goal.returns
returns c =
    let job = c.args.job.now in
    let states = states_of (cert_data c.args.cert.now) in
    let head = simp (to_z-of_z c.ranges.size) at c.in_ok-put_head.ensures in
    let front =
    begun (head_text job NO_PLAN.now NO_ORDER.now (pos (unsigned_abs c.args.size))) c.new-out.ensures.items
    (head ∙ ap (λ (z : ℤ). c.new-out.result.items ++ head_text job NO_PLAN.now NO_ORDER.now z) (size_is c.args.size c.requires.size)) in
    let range = c.first_figure.ensures.range in
    let fits : FitsSigned w64 c.first_figure.result = fits_64 _ (2 ^ 20) (omega (arith, ints, range.low, range.high)) (omega arith) in
    let told : HasRefusals job states c.first_figure.result c.put_verdict.new.out.items c.put_refusals.new.out.items = simp to_z-of_z at c.in_ok-put_refusals.ensures in
    let placed : HasRefusals job states (first_figure job) c.put_verdict.new.out.items c.put_refusals.new.out.items =
    subst (λ (f : ℤ). HasRefusals job states f c.put_verdict.new.out.items c.put_refusals.new.out.items) c.first_figure.ensures.value told in
    record {
      told = c.put_parts.new.out.items;
      parts = subst (λ (t : List ℕ). HasParts job 0 [] t c.put_parts.new.out.items) front c.in_ok-put_parts.ensures;
      refusals = c.put_refusals.new.out.items;
      refused = subst (λ (t : List ℕ). HasRefusals job states (first_figure job) t c.put_refusals.new.out.items) c.in_ok-put_verdict.ensures placed;
      text = c.in_ok-put_line.ensures;
    }
