use Rattle.std.proofs.Common.{◌≡◌, ◌∙◌, ◌^◌, ℤ, ◌+ℤ◌, ◌-ℤ◌, ◌*ℤ◌, ◌≤ℤ◌, ap, sym, subst, FitsSigned, to_z-of_z, w64, rules, arith}
use Rattle.algebra.proofs.Widths.{fits_64}
use Rattle.sheet_paper.specs.Windows.{across, upright, begin_around}
use Rattle.sheet_paper.proofs.window.Window.of_units.Goals as goal

pub returns-clause-value : goal.returns-clause-value
returns-clause-value c =
    let area = c.args.area.now in
    let fits_x : FitsSigned w64 c.begin_around.result = fits_64 _ (2 ^ 50) c.begin_around.ensures.near (omega arith) in
    let fits_x_room : FitsSigned w64 c.in_units.result = fits_64 _ (2 ^ 50) c.in_units.ensures.near (omega arith) in
    let fits_across : FitsSigned w64 c.across.result = fits_64 _ (2 ^ 15) c.across.ensures.near (omega arith) in
    let x0 : FitsSigned w64 area.x0 = search rules in
    let x1 : FitsSigned w64 area.x1 = search rules in
    let x_room : c.in_units.result ≡ across c.args.paper *ℤ c.args.unit = simp (to_z-of_z fits_across, to_z-of_z c.ranges.unit) at c.in_units.ensures.value ∙ ap (λ (a : ℤ). a *ℤ c.args.unit) c.across.ensures.value in
    let fits_y : FitsSigned w64 c.begin_around-2.result = fits_64 _ (2 ^ 50) c.begin_around-2.ensures.near (omega arith) in
    let fits_y_room : FitsSigned w64 c.in_units-2.result = fits_64 _ (2 ^ 50) c.in_units-2.ensures.near (omega arith) in
    let fits_upright : FitsSigned w64 c.upright.result = fits_64 _ (2 ^ 15) c.upright.ensures.near (omega arith) in
    let y0 : FitsSigned w64 area.y0 = search rules in
    let y1 : FitsSigned w64 area.y1 = search rules in
    let y_room : c.in_units-2.result ≡ upright c.args.paper *ℤ c.args.unit = simp (to_z-of_z fits_upright, to_z-of_z c.ranges.unit) at c.in_units-2.ensures.value ∙ ap (λ (a : ℤ). a *ℤ c.args.unit) c.upright.ensures.value in
    let x : c.begin_around.result ≡ begin_around c.in_units.result area.x0 area.x1 = simp (to_z-of_z fits_x_room, to_z-of_z x0, to_z-of_z x1) at c.begin_around.ensures.value in
    let y : c.begin_around-2.result ≡ begin_around c.in_units-2.result area.y0 area.y1 = simp (to_z-of_z fits_y_room, to_z-of_z y0, to_z-of_z y1) at c.begin_around-2.ensures.value in
    let whole_x = x ∙ ap (λ (room : ℤ). begin_around room area.x0 area.x1) x_room in
    let whole_y = y ∙ ap (λ (room : ℤ). begin_around room area.y0 area.y1) y_room in
    simp (to_z-of_z c.ranges.scale, to_z-of_z c.ranges.unit, to_z-of_z c.ranges.number, to_z-of_z fits_x, to_z-of_z fits_y)
    (λ i. record { paper = c.args.paper; scale = c.args.scale; unit = c.args.unit; places = c.args.places; number = c.args.number; x = whole_x i; y = whole_y i })

pub returns-clause-whole : goal.returns-clause-whole
returns-clause-whole c = λ room.
    let area = c.args.area.now in
    let fits_x : FitsSigned w64 c.begin_around.result = fits_64 _ (2 ^ 50) c.begin_around.ensures.near (omega arith) in
    let fits_x_room : FitsSigned w64 c.in_units.result = fits_64 _ (2 ^ 50) c.in_units.ensures.near (omega arith) in
    let fits_across : FitsSigned w64 c.across.result = fits_64 _ (2 ^ 15) c.across.ensures.near (omega arith) in
    let x0 : FitsSigned w64 area.x0 = search rules in
    let x1 : FitsSigned w64 area.x1 = search rules in
    let x_room : c.in_units.result ≡ across c.args.paper *ℤ c.args.unit = simp (to_z-of_z fits_across, to_z-of_z c.ranges.unit) at c.in_units.ensures.value ∙ ap (λ (a : ℤ). a *ℤ c.args.unit) c.across.ensures.value in
    let fits_y : FitsSigned w64 c.begin_around-2.result = fits_64 _ (2 ^ 50) c.begin_around-2.ensures.near (omega arith) in
    let fits_y_room : FitsSigned w64 c.in_units-2.result = fits_64 _ (2 ^ 50) c.in_units-2.ensures.near (omega arith) in
    let fits_upright : FitsSigned w64 c.upright.result = fits_64 _ (2 ^ 15) c.upright.ensures.near (omega arith) in
    let y0 : FitsSigned w64 area.y0 = search rules in
    let y1 : FitsSigned w64 area.y1 = search rules in
    let y_room : c.in_units-2.result ≡ upright c.args.paper *ℤ c.args.unit = simp (to_z-of_z fits_upright, to_z-of_z c.ranges.unit) at c.in_units-2.ensures.value ∙ ap (λ (a : ℤ). a *ℤ c.args.unit) c.upright.ensures.value in
    let wide : (area.x1 -ℤ area.x0) ≤ℤ c.in_units.result = subst (λ (r : ℤ). (area.x1 -ℤ area.x0) ≤ℤ r) (sym x_room) room.0 in
    let tall : (area.y1 -ℤ area.y0) ≤ℤ c.in_units-2.result = subst (λ (r : ℤ). (area.y1 -ℤ area.y0) ≤ℤ r) (sym y_room) room.1 in
    let left : (area.x1 -ℤ area.x0) ≤ℤ c.in_units.result → c.begin_around.result ≤ℤ area.x0 = simp (to_z-of_z fits_x_room, to_z-of_z x0, to_z-of_z x1) at c.begin_around.ensures.low in
    let right : (area.x1 -ℤ area.x0) ≤ℤ c.in_units.result → area.x1 ≤ℤ (c.begin_around.result +ℤ c.in_units.result) = simp (to_z-of_z fits_x_room, to_z-of_z x0, to_z-of_z x1) at c.begin_around.ensures.high in
    let bottom : (area.y1 -ℤ area.y0) ≤ℤ c.in_units-2.result → c.begin_around-2.result ≤ℤ area.y0 = simp (to_z-of_z fits_y_room, to_z-of_z y0, to_z-of_z y1) at c.begin_around-2.ensures.low in
    let top : (area.y1 -ℤ area.y0) ≤ℤ c.in_units-2.result → area.y1 ≤ℤ (c.begin_around-2.result +ℤ c.in_units-2.result) = simp (to_z-of_z fits_y_room, to_z-of_z y0, to_z-of_z y1) at c.begin_around-2.ensures.high in
    simp (to_z-of_z c.ranges.unit, to_z-of_z fits_x, to_z-of_z fits_y) (record {
      left = left wide;
      right = subst (λ (r : ℤ). area.x1 ≤ℤ (c.begin_around.result +ℤ r)) x_room (right wide);
      bottom = bottom tall;
      top = subst (λ (r : ℤ). area.y1 ≤ℤ (c.begin_around-2.result +ℤ r)) y_room (top tall);
    })
