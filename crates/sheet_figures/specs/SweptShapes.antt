-- What a box of the part sweeps, as it is drawn. Lengths are in micrometres, widths in tenths of a
-- millimetre of paper.
use Rattle.std.specs.Prelude.{◌≡◌, ℕ, ◌+◌, ◌*◌, ◌/◌, ◌<◌, ◌≤◌, max, ℤ, pos, neg_ℤ, ◌+ℤ◌, ◌*ℤ◌, unsigned_abs, List, [], ◌∷◌, ◌++◌, codes}
use Rattle.std.specs.Fmt.{signed_decimal}
use Rattle.brake_base.specs.declared.stroke.Half.{Half}
use Rattle.brake_base.specs.declared.stroke.Half.TheVariants.{Back, Front}
use Rattle.sector_geom.specs.declared.sector.Sector.{Sector}
use Rattle.sector_geom.specs.declared.sector.Sweep.{Sweep}
use Rattle.sector_geom.specs.declared.sector.Sweep.TheVariants.{Eighth, Fourth}
use Rattle.svg_text.specs.Forms.{line_of}
use Rattle.sheet_paper.specs.declared.window.Window.{Window}
use Rattle.sheet_paper.specs.FigureLines.{length_text, width_text, rectangle_line}
use Rattle.sheet_views.specs.declared.swept.Struck.{Struck}
use Rattle.sheet_views.specs.declared.swept.Struck.TheVariants.{Body, Nose}
use Rattle.sheet_views.specs.declared.swept.Swept.{Swept}
use Rattle.sheet_figures.specs.declared.forms.TheConstants.{CULPRIT, GHOST, MIRRORED, RING, WEDGE}
use Rattle.sheet_figures.specs.declared.sweep.Radii.{Radii}
use Rattle.sheet_figures.specs.declared.sweep.Wedge.{Wedge}
use Rattle.sheet_figures.specs.Parts.{across_bed}
use Rattle.sheet_figures.specs.Tools.{nose_line}
use Rattle.sheet_figures.specs.SideViews.{group_end}
use Rattle.sheet_figures.specs.AfterViews.{turned_line}

-- The radii of a cover's circles in whole numbers: the inner one rounded down, the outer one up.
pub record AreRadii (cover : Sector) (radii : Radii) : Type 0 where
  pub near_low : radii.near * radii.near ≤ unsigned_abs cover.near2
  pub near_high : unsigned_abs cover.near2 < (radii.near + 1) * (radii.near + 1)
  pub far_high : unsigned_abs cover.far2 ≤ radii.far * radii.far
  pub far_least : (n : ℕ) → unsigned_abs cover.far2 ≤ n * n → radii.far ≤ n

-- ---- the wedge
-- the greater coordinate of a ray's point, at least 1
abbrev pub reach_of : ℤ × ℤ → ℕ
reach_of ray = max (max (unsigned_abs ray.0) (unsigned_abs ray.1)) 1

-- the ray's point, taken so often that it lies beyond twice a distance
abbrev pub far_point : ℤ × ℤ → (far : ℕ) → ℤ × ℤ
far_point ray far =
    let times = pos ((2 * far) / reach_of ray + 1) in (times *ℤ ray.0, times *ℤ ray.1)

abbrev pub turned : ℤ × ℤ → ℤ × ℤ
turned point = (neg_ℤ point.1, point.0)

abbrev pub moved : (point by : ℤ × ℤ) → ℤ × ℤ
moved point by = (point.0 +ℤ by.0, point.1 +ℤ by.1)

-- the wedge between the rays of a cover: far points on both, and between them two corners that lie
-- as far out again
abbrev pub wedge_of : Sector → (far : ℕ) → Wedge
wedge_of cover far =
    let lower = far_point cover.lower far in
    let upper = far_point cover.upper far in
    record {
      lower = lower;
      lower_corner = moved lower (turned lower);
      upper_corner = moved upper (turned lower);
      upper = upper;
    }

abbrev pub wedge_line : Window → Wedge → List ℕ
wedge_line window wedge =
    line_of WEDGE.now
    (signed_decimal window.number ∷ length_text window wedge.lower.0
    ∷ length_text window wedge.lower.1 ∷ length_text window wedge.lower_corner.0
    ∷ length_text window wedge.lower_corner.1 ∷ length_text window wedge.upper_corner.0
    ∷ length_text window wedge.upper_corner.1 ∷ length_text window wedge.upper.0
    ∷ length_text window wedge.upper.1 ∷ [])

-- ---- the ring
-- the outer circle and the inner one, each in two arcs
abbrev pub ring_texts : Window → (near far : ℤ) → List (List ℕ)
ring_texts window near far =
    width_text window (pos 2) ∷ signed_decimal window.number ∷ length_text window (neg_ℤ far)
    ∷ length_text window far ∷ length_text window far ∷ length_text window far
    ∷ length_text window far ∷ length_text window far ∷ length_text window (neg_ℤ far)
    ∷ length_text window (neg_ℤ near) ∷ length_text window near ∷ length_text window near
    ∷ length_text window near ∷ length_text window near ∷ length_text window near
    ∷ length_text window (neg_ℤ near) ∷ []

abbrev pub ring_line : Window → (near far : ℤ) → List ℕ
ring_line window near far = line_of RING.now (ring_texts window near far)

unfoldable pub sector_lines : Window → Sector → Radii → List ℕ
sector_lines window cover radii =
    wedge_line window (wedge_of cover radii.far)
    ++ ring_line window (pos radii.near) (pos radii.far)

-- the cover of a swept box; that of the front half is mirrored
unfoldable pub mirrored_lines : Window → Sector → Radii → List ℕ
mirrored_lines window cover radii =
    line_of MIRRORED.now [] ++ sector_lines window cover radii ++ group_end

unfoldable pub cover_lines : Half → Window → Sector → Radii → List ℕ
cover_lines Back window cover radii = sector_lines window cover radii
cover_lines Front window cover radii = mirrored_lines window cover radii

-- ---- the box
-- the box, turned by so many degrees
unfoldable pub ghost_lines : Window → Swept → (degrees : ℤ) → List ℕ
ghost_lines window swept degrees =
    let area = across_bed swept.body in
    turned_line degrees
    ++ line_of GHOST.now
    (width_text window (pos 2) ∷ width_text window (pos 10) ∷ width_text window (pos 6)
    ∷ length_text window area.x0 ∷ length_text window area.y0 ∷ length_text window area.x1
    ∷ length_text window area.y1 ∷ length_text window area.x0 ∷ [])
    ++ group_end

-- A third of a box's turn, in degrees: a half of the sheet turns by 45, one half against the other
-- by 90, and the front half the other way.
unfoldable pub third_of_turn : Sweep → Half → ℤ
third_of_turn Fourth Back = pos 30
third_of_turn Fourth Front = neg_ℤ (pos 30)
third_of_turn Eighth Back = pos 15
third_of_turn Eighth Front = neg_ℤ (pos 15)

-- the box at three angles
unfoldable pub three_ghosts : Window → Swept → List ℕ
three_ghosts window swept =
    ghost_lines window swept (third_of_turn swept.sweep swept.half)
    ++ ghost_lines window swept (pos 2 *ℤ third_of_turn swept.sweep swept.half)
    ++ ghost_lines window swept (pos 3 *ℤ third_of_turn swept.sweep swept.half)

-- the box as it lies
abbrev pub culprit_line : Window → Swept → List ℕ
culprit_line window swept =
    let area = across_bed swept.body in
    line_of CULPRIT.now
    (width_text window (pos 4) ∷ length_text window area.x0 ∷ length_text window area.y0
    ∷ length_text window area.x1 ∷ length_text window area.y1 ∷ length_text window area.x0
    ∷ signed_decimal (pos swept.id) ∷ [])

-- ---- what it would strike
unfoldable pub struck_line : Window → Struck → List ℕ
struck_line window (Body rect) = rectangle_line window (codes "hit") (pos 4) (across_bed rect)
struck_line window (Nose nose) = nose_line window (codes "hit") (pos 4) nose

-- all of it
unfoldable pub swept_lines : Window → Swept → Radii → List ℕ
swept_lines window swept radii =
    struck_line window swept.struck ++ cover_lines swept.half window swept.cover radii
    ++ three_ghosts window swept ++ culprit_line window swept ++ group_end

-- the text goes on with it
pub record IsSweptText (window : Window) (swept : Swept) (before after : List ℕ) : Type 0 where
  pub radii : Radii
  pub radii_are : AreRadii swept.cover radii
  pub text : after ≡ before ++ swept_lines window swept radii
