use Rattle.std.proofs.Common.{◌≡◌, Some, refl, sym, ◌∙◌, ap, subst}
use Rattle.brake_base.specs.declared.stroke.Worth.TheVariants as worth
use Rattle.job_setup.specs.Setup.{JobData}
use Rattle.bb_search.specs.declared.outcome.Outcome.{Outcome}
use Rattle.bb_search.specs.declared.outcome.Outcome.TheVariants.{Best, Blocked, Spent}
use Rattle.bb_search.specs.Outcomes.{IsAnswer}
use Rattle.bb_search.specs.Searches.{SearchData}
use Rattle.bb_search.specs.Certificates.{HasAnswer}
use Rattle.certificate_tests.proofs.bb_search_tests.certificate_of.Goals as goal

-- an outcome that isn't Spent claims something
has_answer : (search : SearchData) (outcome : Outcome) → (outcome ≡ Spent → ⊥) → search.outcome ≡ Some outcome → IsAnswer search.job search.pool search.budget search.steps outcome → HasAnswer search
has_answer search (Best cost) other is answer = (worth.Cost cost, is, answer)
has_answer search Blocked other is answer = (worth.Blocked, is, answer)
has_answer search Spent other is answer = absurd (other refl)

pub write-requires : goal.write-requires
write-requires c =
    let search = c.run.new.self in
    let job : c.args.job.now ≡ search.job = sym (c.run.ensures.job ∙ ap (λ (s : SearchData). s.job) c.in_ok-search.ensures) in
    record {
      job = job;
      answered = has_answer search c.run.result c.in_default.not-Spent c.run.ensures.outcome (subst (λ (j : JobData). IsAnswer j search.pool search.budget search.steps c.run.result) job c.run.ensures.answer);
    }
