use Rattle.std.proofs.Common.{inl, inr, refl, FitsSigned, to_z-of_z, w64}
use Rattle.sheet_figures.specs.Refusals.{AreRefusalWindows}
use Rattle.sheet_views.specs.Drawing.{drawing_data}
use Rattle.sheet_figures.proofs.Growing.{grows_on}
use Rattle.sheet_figures.proofs.Pictures.{picture_grows}
use Rattle.sheet_figures.proofs.refusal.put_pictures.Goals as goal

pub returns-then-not-windows-clause-value : goal.returns-then-not-windows-clause-value
returns-then-not-windows-clause-value c =
    let number = c.args.number in
    let windows = c.refusal_windows-windows.result in
    let fits_number : FitsSigned w64 number = c.ranges.number in
    let are : AreRefusalWindows c.args.job.now (drawing_data c.args.drawing.now) c.args.refused.now number windows = simp to_z-of_z at c.refusal_windows-windows.ensures.value in
    record {
      windows = windows;
      windows_are = are;
      first = c.put_picture.new.out.items;
      picture = c.in_ok-put_picture.ensures;
      rest = inl (c.if-not-windows.true, refl, refl);
    }

pub returns-clause-value : goal.returns-clause-value
returns-clause-value c =
    let number = c.args.number in
    let windows = c.refusal_windows-windows.result in
    let fits_number : FitsSigned w64 number = c.ranges.number in
    let are : AreRefusalWindows c.args.job.now (drawing_data c.args.drawing.now) c.args.refused.now number windows = simp to_z-of_z at c.refusal_windows-windows.ensures.value in
    record {
      windows = windows;
      windows_are = are;
      first = c.put_picture.new.out.items;
      picture = c.in_ok-put_picture.ensures;
      rest = inr (c.if-not-windows.false, refl, c.in_ok-put_picture-2.ensures);
    }

pub returns-clause-grows : goal.returns-clause-grows
returns-clause-grows c = grows_on _ (picture_grows c.in_ok-put_picture.ensures) (picture_grows c.in_ok-put_picture-2.ensures)
