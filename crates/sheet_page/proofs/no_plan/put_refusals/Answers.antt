use Rattle.std.proofs.Common.{map, List, subst, FitsSigned, to_z-of_z, w64}
use Rattle.plan_cert.specs.Cert.{cert_data}
use Rattle.sheet_page.specs.declared.kept.State.{State}
use Rattle.sheet_page.specs.Kept.{state_data, states_of}
use Rattle.sheet_page.specs.NoPlan.{AreDeadEnds}
use Rattle.sheet_page.proofs.Refusals.{refusals_put}
use Rattle.sheet_page.proofs.no_plan.put_refusals.Goals as goal

pub returns : goal.returns
returns c =
    let job = c.args.job.now in
    let notes = c.args.cert.now.notes.items in
    let kept = c.args.kept.now in
    let figure = c.args.figure in
    let fits : FitsSigned w64 figure = c.ranges.figure in
    let shown : AreDeadEnds job (map (state_data notes) c.as_slice.result.now) figure c.put_far.new.out.items c.put_dead_ends.new.out.items = simp to_z-of_z at c.in_ok-put_dead_ends.ensures in
    refusals_put job notes (states_of (cert_data c.args.cert.now)) kept c.requires.kept figure c.args.out.now.items c.put_counts.new.out.items c.put_flat.new.out.items c.put_far.new.out.items c.put_dead_ends.new.out.items c.put_counts.result c.in_ok-put_flat.ensures c.in_ok-put_far.ensures
    (subst (λ (s : List State). AreDeadEnds job (map (state_data notes) s) figure c.put_far.new.out.items c.put_dead_ends.new.out.items) c.as_slice.ensures.value shown) c.put_counts.ensures
