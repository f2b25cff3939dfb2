use Rattle.std.proofs.Common.{◌≡◌, ℕ, Some, subst, arith, rules}
use Rattle.std.proofs.lemmas.Bool.Decides.{Decides-eqb}
use Rattle.std.proofs.lemmas.Slice.Eq.{strip_prefix_is}
use Rattle.brake_base.specs.declared.mask.Mask.{Mask}
use Rattle.plan_lines.specs.NoteLines.{AreLines}
use Rattle.plan_lines.proofs.note_lines.run_of.Goals as goal

pub returns-in-Some : goal.returns-in-Some
returns-in-Some c = record {
  run = λ facts known are.
      let block = c.args.block.now in
      let bytes = block.text.now in
      let none : 0 ≡ c.args.least = omega (arith, c.if-least-ne0.false) in
      let same : block.leads ≡ c.args.leads = search rules in
      record {
        front = bytes;
        is_text = strip_prefix_is Decides-eqb c.args.text.now bytes (Some c.in-Some.rest) c.in-Some.ensures.cases;
        are = subst (λ (m : Mask). AreLines facts known m c.args.least bytes block.notes block.count block.least) same (subst (λ (n : ℕ). AreLines facts known block.leads n bytes block.notes block.count block.least) none are);
      };
}
