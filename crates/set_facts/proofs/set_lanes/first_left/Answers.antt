use Rattle.std.proofs.Common.{◌≡◌, ◌∙◌, ◌&&◌, ℕ, Bool, not, nat_le, ap, arith}
use Rattle.std.specs.Prelude.{Option, Some, None, IfNone}
use Rattle.std.proofs.lemmas.Option.{IfSome_then}
use Rattle.brake_base.specs.Masks.{has}
use Rattle.job_setup.specs.Setup.{bend_count}
use Rattle.set_facts.proofs.SetLaneSteps.{AreLeft, first_left_is, none_left_is_full}
use Rattle.set_facts.proofs.set_lanes.first_left.Goals as goal

none_then : {P Q : Type 0} (r : Option ℕ) → IfNone r P → (P → Q) → IfNone r Q
none_then (Some x) given follows = tt
none_then None given follows = follows given

pub returns : goal.returns
returns c =
    let job = c.args.job.now in
    let mask = c.args.mask in
    let same : c.bends.result ≡ bend_count job = omega (arith, c.bends.ensures.value) in
    let rest : AreLeft job mask c.without.result = λ b.
    c.without.ensures b ∙ ap (λ (t : Bool). t && not (has mask b)) (c.full.ensures.value b ∙ ap (λ (n : ℕ). nat_le 1 b && nat_le b n) same) in
    record {
      some = IfSome_then c.least.result c.least.ensures.some (λ bend least. first_left_is job mask c.without.result bend rest least);
      none = none_then c.least.result c.least.ensures.none (λ empty. none_left_is_full job mask c.without.result rest empty);
      valid = c.bends.ensures.valid;
    }
