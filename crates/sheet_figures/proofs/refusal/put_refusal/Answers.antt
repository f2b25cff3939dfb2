use Rattle.std.proofs.Common.{◌≡◌, ◌∙◌, ℤ, Option, Some, sym, subst, FitsSigned, to_z-of_z, w64}
use Rattle.std.specs.Prelude.{IfOk}
use Rattle.sheet_views.specs.declared.swept.Swept.{Swept}
use Rattle.sheet_views.specs.Drawing.{drawing_data}
use Rattle.sheet_views.specs.Swept.{swept_by}
use Rattle.sheet_figures.specs.declared.refusal.Refused.{Refused}
use Rattle.sheet_figures.specs.Refusals.{ArePictures, IsRefusal}
use Rattle.sheet_figures.proofs.refusal.put_refusal.Goals as goal

pub returns-in-Some-clause-value : goal.returns-in-Some-clause-value
returns-in-Some-clause-value c =
    let job = c.args.job.now in
    let drawing = drawing_data c.args.drawing.now in
    let action = c.args.action in
    let reason = c.args.reason in
    let number = c.args.number in
    let old = c.args.out.now.items in
    let after = c.put_pictures.new.out.items in
    let refused : Refused = record { action = action; reason = reason; swept = c.in-Some.swept } in
    let fits_number : FitsSigned w64 number = c.ranges.number in
    let found : swept_by job action.stage drawing.pose reason ≡ Some c.in-Some.swept = sym c.swept_by.ensures.value ∙ c.in-Some.is in
    let pictures : IfOk c.put_pictures.result (λ (count : ℤ). ArePictures job drawing refused number count old after) = simp to_z-of_z at c.put_pictures.ensures.value in
    subst (λ (swept : Option Swept). IfOk c.put_pictures.result (λ (count : ℤ). IsRefusal swept job drawing action reason number count old after)) (sym found) pictures
