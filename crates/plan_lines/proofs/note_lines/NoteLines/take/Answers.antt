use Rattle.std.proofs.Common.{ℕ, subst}
use Rattle.std.proofs.lemmas.List.Elements.{All-set}
use Rattle.plan_lines.specs.NoteLines.{known_reasons, IsBlock, IsRun}
use Rattle.plan_lines.proofs.NoteRuns.{rest_few, taken_anyhow, taken_by}
use Rattle.plan_lines.proofs.note_lines.NoteLines.take.Goals as goal

pub take_lines-requires-clause-count : goal.take_lines-requires-clause-count
take_lines-requires-clause-count c =
    let blocks = c.self.invariant.are_blocks in
    let run = c.longer-run.ensures.run _ _ c.turned_to-turned.result.leads c.args.least c.args.text.now (c.run_at-last.ensures.run _ _ blocks) (c.run_at-other.ensures.run _ _ blocks) in
    (run.are).few

pub block_of-requires : goal.block_of-requires
block_of-requires c =
    let blocks = c.self.invariant.are_blocks in
    rest_few _ _ c.turned_to-turned.result.leads c.args.least c.args.text.now c.take_lines.new.run (c.take_lines.ensures _ _ (c.longer-run.ensures.run _ _ _ _ _ (c.run_at-last.ensures.run _ _ blocks) (c.run_at-other.ensures.run _ _ blocks)))

pub invariant_of-self-then-least-eq0 : goal.invariant_of-self-then-least-eq0
invariant_of-self-then-least-eq0 c =
    let own = c.self.inside.facts in
    let known = known_reasons own.stages c.self.inside.notes in
    let leads = c.turned_to-turned.result.leads in
    let blocks = c.self.invariant.are_blocks in
    let run = c.take_lines.ensures c.args.least c.args.text.now (c.longer-run.ensures.run own known leads c.args.least c.args.text.now (c.run_at-last.ensures.run own known blocks) (c.run_at-other.ensures.run own known blocks)) in
    record {
      few = c.self.invariant.few;
      are_held = c.self.invariant.are_held;
      are_read = c.self.invariant.are_read;
      are_leads = c.turned_to-turned.ensures.leads;
      are_blocks = All-set (IsBlock own known) _ _ _ (c.block_of.ensures own known (subst (λ (n : ℕ). IsRun own known leads n c.args.text.now c.take_lines.new.run) c.if-least-eq0.true run)) blocks;
    }

pub returns-then-least-eq0-clause-taken : goal.returns-then-least-eq0-clause-taken
returns-then-least-eq0-clause-taken c =
    let blocks = c.self.invariant.are_blocks in
    taken_by c.args.facts.now _ _ _ c.turned_to-turned.result c.args.folded c.args.least c.args.text.now c.take_lines.new.run c.self.view_is c.turned_to-turned.ensures.leads (c.are_same.ensures.kept c.if-not-are_same.false) c.turned_to-turned.ensures.folded
    (c.take_lines.ensures _ _ (c.longer-run.ensures.run _ _ _ _ _ (c.run_at-last.ensures.run _ _ blocks) (c.run_at-other.ensures.run _ _ blocks)))

pub returns-else-least-eq0-clause-taken : goal.returns-else-least-eq0-clause-taken
returns-else-least-eq0-clause-taken c =
    let blocks = c.self.invariant.are_blocks in
    taken_by c.args.facts.now _ _ _ c.turned_to-turned.result c.args.folded c.args.least c.args.text.now c.take_lines.new.run c.self.view_is c.turned_to-turned.ensures.leads (c.are_same.ensures.kept c.if-not-are_same.false) c.turned_to-turned.ensures.folded
    (c.take_lines.ensures _ _ (c.longer-run.ensures.run _ _ _ _ _ (c.run_at-last.ensures.run _ _ blocks) (c.run_at-other.ensures.run _ _ blocks)))

pub returns-then-not-are_same-clause-taken : goal.returns-then-not-are_same-clause-taken
returns-then-not-are_same-clause-taken c = taken_anyhow c.args.facts.now c.args.self.now c.args.folded c.args.least c.args.text.now c.no_run.result (λ leads. c.no_run.ensures _ _ leads)

pub returns-then-not-begins_with_note-clause-taken : goal.returns-then-not-begins_with_note-clause-taken
returns-then-not-begins_with_note-clause-taken c =
    taken_by c.args.facts.now _ _ _ c.turned_to-turned.result c.args.folded c.args.least c.args.text.now c.run_at-last.result c.self.view_is c.turned_to-turned.ensures.leads (c.are_same.ensures.kept c.if-not-are_same.false) c.turned_to-turned.ensures.folded
    (c.run_at-last.ensures.run _ _ c.self.invariant.are_blocks)
