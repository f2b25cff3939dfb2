-- A station from the right.
use Rattle.std.specs.Prelude.{◌≡◌, ℕ, ℤ, pos, List, ◌++◌}
use Rattle.job_setup.specs.Setup.{JobData}
use Rattle.sheet_paper.specs.declared.window.Area.{Area}
use Rattle.sheet_paper.specs.declared.window.Window.{Window}
use Rattle.sheet_paper.specs.Windows.{framed}
use Rattle.sheet_paper.specs.FigureLines.{end_line}
use Rattle.sheet_figures.specs.SideViews.{group_end, figure_begin, frame_line}
use Rattle.sheet_figures.specs.Tools.{upper_lines, lower_lines}
use Rattle.sheet_figures.specs.Strokes.{IsWindowFor}

-- what stands above the station and what stands under it, and the frame
unfoldable pub card_shapes : Window → JobData → (stage : ℕ) → List ℕ
card_shapes window job stage =
    upper_lines window job stage ++ lower_lines window job stage ++ group_end
    ++ frame_line window

-- The text goes on with a figure of the station: its tools, in the window around an area.
pub record IsCardFigure (job : JobData) (stage : ℕ) (number : ℤ) (before after : List ℕ)
    : Type 0 where
  pub area : Area
  pub window : Window
  pub window_is : IsWindowFor (framed (pos 38) (pos 50) (pos 1)) area number window
  pub title : List ℕ
  pub sentence : List ℕ
  pub text :
      after
      ≡ before ++ figure_begin window title sentence ++ card_shapes window job stage
      ++ end_line window title
