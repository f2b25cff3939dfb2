-- What is written of a pool after a run is its certificate.
use Rattle.std.proofs.Common.{◌≡◌, inl, inr, ℕ, ◌*◌, ◌^◌, ◌≤◌, List, ◌++◌, get_or, codes, min, Some, arith, refl, sym, ◌∙◌, ap, subst}
use Rattle.std.specs.Prelude.{slice_get, option_and_then}
use Rattle.std.proofs.Math.Pow.{pow_mono}
use Rattle.std.proofs.lemmas.List.Elements.{All-map}
use Rattle.std.proofs.lemmas.Option.{slice_get_cases, slice_get-get_or, same_Some, none-some}
use Rattle.brake_base.specs.declared.stroke.Key.{Key}
use Rattle.brake_base.specs.declared.stroke.Half.{Half}
use Rattle.brake_base.specs.declared.stroke.Half.TheVariants.{Back, Front}
use Rattle.brake_base.specs.declared.stroke.Step.{Step}
use Rattle.brake_base.specs.declared.stroke.Worth.{Worth}
use Rattle.brake_base.specs.declared.reason.Reason.{Reason}
use Rattle.brake_base.specs.declared.reason.Reason.TheVariants.{Cover, Rest, Frame, Upper, Nose, Lower, SelfHit, NoGauge, Load}
use Rattle.stage_lanes.specs.Codes.{IsCoded}
use Rattle.job_setup.specs.Setup.{JobData, bend_count, stage_count}
use Rattle.job_setup.specs.ValidJob.{IsJob}
use Rattle.handling_cost.specs.StepCost.{IsKeyOf}
use Rattle.handling_cost.specs.Reach.{nodes}
use Rattle.handling_cost.proofs.Actions.{few_bends}
use Rattle.handling_cost.proofs.Nodes.{reached_in_range}
use Rattle.row_pool.specs.Index.{HasPlace}
use Rattle.row_pool.specs.Rows.{Pool, PoolRow, IsPool}
use Rattle.plan_cert.specs.Cert.{CertData}
use Rattle.plan_cert.specs.CertText.{cert_text2}
use Rattle.plan_lines.specs.LinesFit.{IsReasonInRange}
use Rattle.plan_cert.specs.WellFormed.{IsWellFormed}
use Rattle.plan_cert.proofs.ReasonRanges.{reason_ranged}
use Rattle.bb_search.specs.declared.written.WrittenCert.{WrittenCert}
use Rattle.bb_search.specs.Outcomes.{outcome_of, IsAnswer}
use Rattle.bb_search.specs.Searches.{SearchData}
use Rattle.bb_search.specs.Certificates.{HasAnswer, IsWritten}
use Rattle.bb_search.specs.WrittenRows.{without_rows, AreWritable, IsWholeText}
use Rattle.bb_search.proofs.CertLemmas.{reason_of_row}
use Rattle.bb_search.proofs.CertForms.{worth_ranged, claim_ranged, steps_fit, each_step, rows_of_answer, all_done, certificate_is}
use Rattle.bb_search.proofs.WrittenLemmas.{text_parts}

half_few : (half : Half) → IsCoded (Rest half)
half_few Back = record { body = omega arith; index = omega arith }
half_few Front = record { body = omega arith; index = omega arith }

-- a reason that is in range has a code
coded_is : (job : JobData) (reason : Reason) → stage_count job ≤ 6 → IsReasonInRange job reason → IsCoded reason
coded_is job Cover few is = record { body = omega arith; index = omega arith }
coded_is job (Rest half) few is = half_few half
coded_is job (Frame box) few is = record { body = omega (arith, is); index = omega arith }
coded_is job (Upper box quarter index) few is = let (a, b) = is in record { body = omega (arith, a); index = omega (arith, b) }
coded_is job (Nose box quarter stage) few is = let (a, b) = is in record { body = omega (arith, a); index = omega (arith, b, few) }
coded_is job (Lower box quarter index) few is = let (a, b) = is in record { body = omega (arith, a); index = omega (arith, b) }
coded_is job (SelfHit box quarter other) few is = let (a, b) = is in record { body = omega (arith, a); index = omega (arith, b) }
coded_is job NoGauge few is = record { body = omega arith; index = omega arith }
coded_is job Load few is = record { body = omega arith; index = omega arith }

module _ (job : JobData) (is_job : IsJob job) (pool : Pool) (budget : ℕ) (steps : List Step) (claim : Worth) (answer : IsAnswer job pool budget steps (outcome_of claim)) where
  few : stage_count job ≤ 6
  few = is_job.setup.stages.few_stages

  -- a key in range is one of 12 bends at a stage of the machine
  key_placed : (key : Key) → pool.actions ≡ 24 * stage_count job → IsKeyOf job key → HasPlace pool.actions key
  key_placed key actions is =
      let wide = is.mask in
      let most : 2 ^ bend_count job ≤ 2 ^ 12 = pow_mono (few_bends job is_job) in
      let stage = is.stage in
      record { mask = omega (arith, wide, most); attitude = is.attitude; stage = omega (arith, actions, stage) }

  -- the rows that a run with a claim leaves can be written
  pub can_write : pool.actions ≡ 24 * stage_count job → AreWritable (stage_count job) pool
  can_write actions =
      let good = rows_of_answer job pool budget steps claim answer in
      record {
        few = few;
        actions = actions;
        done = all_done job pool budget steps claim answer;
        worths = λ i row worth at is. worth_ranged worth (λ cost same. good.most i row cost at (is ∙ ap Some same));
        placed = All-map (HasPlace pool.actions) (λ (r : PoolRow). r.key) pool.rows (λ i d within.
            key_placed (get_or pool.rows i d).key actions (reached_in_range job is_job (get_or pool.rows i d).key (good.nodes i (get_or pool.rows i d) (slice_get-get_or pool.rows i d within)).reached));
        coded = λ row action reason has. elim (slice_get_cases pool.rows row).1 [
          | inl here ↦
              let noted = good.noted row here.0 here.2 action reason (sym (reason_of_row pool row action here.0 here.2) ∙ has) in
              coded_is job reason few (reason_ranged job is_job here.0.key.mask noted.0 reason noted.3)
          | inr past ↦ absurd (none-some reason (sym (ap (option_and_then (λ (r : PoolRow). option_and_then (λ reason. reason) (slice_get r.reasons action))) past.1) ∙ has))
        ];
      }

  -- without its rows the certificate is well formed
  pub begins_well : IsWellFormed job (without_rows claim steps)
  begins_well = record {
    claim = claim_ranged job is_job pool budget steps claim answer;
    has_steps = steps_fit job is_job pool budget steps claim answer;
    steps = each_step job is_job pool budget steps claim answer;
    rows = record {
      each_row = λ k d within. absurd (omega (arith, within));
      row_order = λ i j d before within. absurd (omega (arith, within));
      each_note = λ k d within. absurd (omega (arith, within));
      note_order = λ i j d before within. absurd (omega (arith, within));
    };
  }

-- the answer of a search with this claim
pub claim_answered : (search : SearchData) → HasAnswer search → (claim : Worth) → search.outcome ≡ Some (outcome_of claim) → IsAnswer search.job search.pool search.budget search.steps (outcome_of claim)
claim_answered search answered claim is =
    subst (IsAnswer search.job search.pool search.budget search.steps) (same_Some (outcome_of answered.0) (outcome_of claim) (sym answered.1 ∙ is)) answered.2

-- what is written is the search's certificate
pub written_is : (search : SearchData) (job : JobData) → job ≡ search.job → IsJob job → IsPool search.pool → search.pool.limit ≡ min search.budget (nodes search.job) → HasAnswer search → (written : WrittenCert) → search.outcome ≡ Some (outcome_of written.claim)
    → written.steps.items ≡ search.steps → IsWholeText job written.claim written.steps.items search.pool written.text → IsWritten search written
written_is search job of_job is_job is_pool limit answered written claim steps (rows, (orders, are, all), ended) =
    let cert : CertData = record { claim = written.claim; steps = written.steps.items; rows = all.rows; notes = all.notes } in (
      cert,
      certificate_is search job of_job is_job is_pool limit answered written.claim claim written.steps.items steps orders are all.rows all.heads all.notes all.listed,
      record {
        claim = refl;
        steps = refl;
        text = ended ∙ ap (λ (t : List ℕ). t ++ codes "end\n") all.text ∙ text_parts job cert ∙ ap (λ (j : JobData). cert_text2 j cert) of_job;
      },
    )

-- what a search with this claim has can be written
module _ (search : SearchData) (job : JobData) (of_job : job ≡ search.job) (is_job : IsJob job) (answered : HasAnswer search) (claim : Worth) (is : search.outcome ≡ Some (outcome_of claim)) where
  valid : IsJob search.job
  valid = subst IsJob of_job is_job

  pub rows_written : search.pool.actions ≡ 24 * stage_count search.job → AreWritable (stage_count job) search.pool
  rows_written actions =
      subst (λ (j : JobData). AreWritable (stage_count j) search.pool) (sym of_job)
      (can_write search.job valid search.pool search.budget search.steps claim (claim_answered search answered claim is) actions)

  pub begun_well : (steps : List Step) → steps ≡ search.steps → IsWellFormed job (without_rows claim steps)
  begun_well steps same =
      subst (λ (j : JobData). IsWellFormed j (without_rows claim steps)) (sym of_job)
      (subst (λ (xs : List Step). IsWellFormed search.job (without_rows claim xs)) (sym same)
      (begins_well search.job valid search.pool search.budget search.steps claim (claim_answered search answered claim is)))
