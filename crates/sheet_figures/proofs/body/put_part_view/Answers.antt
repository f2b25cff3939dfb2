use Rattle.std.proofs.Common.{ℕ, List, subst}
use Rattle.sheet_paper.specs.FigureLines.{end_line}
use Rattle.sheet_figures.specs.SideViews.{group_end}
use Rattle.sheet_figures.specs.Bodies.{IsPainted, bend_mark}
use Rattle.sheet_figures.proofs.Growing.{three_more}
use Rattle.sheet_figures.proofs.body.put_part_view.Goals as goal

pub returns : goal.returns
returns c =
    let window = c.args.window.now in
    let painted = c.put_painted.new.out.items in
    record {
      painted = painted;
      boxes_painted = subst (λ (before : List ℕ). IsPainted window c.args.boxes.now before painted) c.in_ok-put_begin.ensures c.in_ok-put_painted.ensures;
      text = three_more painted (bend_mark window c.args.line) group_end (end_line window c.args.title.now) c.in_ok-put_bend_line.ensures c.in_ok-put_shapes_end.ensures c.in_ok-put_figure_end.ensures;
    }
