use Rattle.std.specs.Prelude.{Any}
use Rattle.job_setup.specs.Reasons.{MeetsAlong}
use Rattle.sweep_check.proofs.FirstHits.{EachBefore}
use Rattle.sweep_check.proofs.frames.first_in_frame.Given as goal

abbrev pub invariant-loop-body : goal.invariant-loop-body
invariant-loop-body l = EachBefore (λ body. Any (MeetsAlong body) l.frames → ⊥) l.boxes l.body-index
