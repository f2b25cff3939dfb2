use Rattle.std.proofs.Common.{◌≡◌, ◌∙◌, ap, arith}
use Rattle.job_setup.specs.Setup.{bend_count}
use Rattle.sheet_page.specs.Headings.{is_flat_among, is_still_flat}
use Rattle.sheet_page.proofs.stroke_heading.is_still_flat.Goals as goal

pub returns : goal.returns
unfolding is_still_flat
returns c =
    let all : c.bends.result ≡ bend_count c.args.job.now = omega (arith, c.bends.ensures.value) in
    c.is_flat_among.ensures ∙ ap (is_flat_among c.args.job.now c.args.folded c.args.flanges) all
