use Rattle.std.proofs.Common.{◌≡◌, ◌++◌, sym, subst}
use Rattle.std.specs.Prelude.{OnOk}
use Rattle.brake_base.specs.declared.stroke.Key.{Key}
use Rattle.setup_sheet.specs.OrderSheet.{AreSteps}
use Rattle.sheet_page.specs.Orders.{order_rows}
use Rattle.sheet_page.proofs.order.put_all_rows.Goals as goal

pub put_rows-requires-clause-steps : goal.put_rows-requires-clause-steps
put_rows-requires-clause-steps c = subst (λ (k : Key). AreSteps c.args.job.now k c.args.steps.now) (sym c.first_key-key.ensures.value) c.requires.steps

pub returns : goal.returns
returns c = subst (λ (k : Key). OnOk c.put_rows.result (c.put_rows.new.out.items ≡ c.args.out.now.items ++ order_rows c.args.job.now 1 k c.args.steps.now)) c.first_key-key.ensures.value c.put_rows.ensures
