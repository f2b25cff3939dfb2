use Rattle.std.proofs.Common.{ap, ◌++◌, ◌∙◌, None, Some, refl, sym}
use Rattle.cert_lines.specs.JobLines.{JobLinesData, job_lines_data}
use Rattle.cert_lines.specs.LineReading.{lines_in}
use Rattle.plan_lines.specs.Items.{items_behind, job_items}
use Rattle.plan_lines.proofs.JobItems.{cut_item, unended}
use Rattle.cert_lines.proofs.WholeLines.{behind_cut, behind_both, cut_before}
use Rattle.plan_lines.proofs.job_answers.behind_job_lines.Goals as goal

pub loop-line-preserved : goal.loop-line-preserved
loop-line-preserved c =
    let before = job_lines_data c.loop-line.lines in
    let after = job_lines_data c.take_line.new.self in
    let line = c.in-Some.line.now in
    let rest = c.loop-line.rest.now in
    let more = c.in-Some.behind.now in
    let cut = c.in-Some.ensures.some in
    record {
      same = λ behind.
          c.loop-line.invariant.same behind ∙ cut_item c.loop-line.at before line rest more behind (Some after) cut c.in-Some-take_line.ensures ∙ ap (λ n. job_items n after (lines_in (more ++ behind))) (sym c.next_number-at.ensures);
      rest = behind_both c.args.text.now rest more c.loop-line.invariant.rest (behind_cut rest line more cut);
    }

pub returns-in_default-take_line-clause-some : goal.returns-in_default-take_line-clause-some
returns-in_default-take_line-clause-some c = λ behind.
    let rest = c.loop-line.rest.now in
    let line = c.in-Some.line.now in
    let more = c.in-Some.behind.now in
    let cut = c.in-Some.ensures.some in
    let none = c.in_default-take_line.ensures in (
      lines_in (more ++ behind),
      cut_before rest line more behind cut,
      c.loop-line.invariant.same behind ∙ cut_item c.loop-line.at (job_lines_data c.loop-line.lines) line rest more behind None cut none.0
          ∙ ap (λ (lines : JobLinesData). items_behind c.loop-line.at lines line (lines_in (more ++ behind))) (sym none.1),
    )

pub returns-clause-none : goal.returns-clause-none
returns-clause-none c = λ none behind last. c.loop-line.invariant.same behind ∙ unended c.loop-line.at (job_lines_data c.loop-line.lines) c.loop-line.rest.now behind last (c.in_default.ensures.none refl)
