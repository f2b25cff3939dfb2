use Rattle.std.proofs.Common.{◌≡◌, ◌≢◌, ℕ, Some, None, inl, refl, sym, ◌∙◌, ap, subst}
use Rattle.brake_base.specs.declared.mask.Mask.{Mask}
use Rattle.brake_base.specs.Actions.{IsActionAmong, number_of_action}
use Rattle.stage_lanes.specs.ActionSets.{place_of}
use Rattle.row_pool.specs.Rows.{reason_at, common_at}
use Rattle.plan_lines.proofs.NoteSets.{number_of_place, place_below}
use Rattle.row_text.proofs.BlockTexts.{stages_of_some, first_among, fewer}
use Rattle.bb_search.specs.WrittenRows.{IsWriterOf}
use Rattle.bb_search.proofs.WriterLemmas.{reason_more, waiting_less, none_waits, known_stays, left_among}
use Rattle.bb_search.proofs.written.set_reasons.Goals as goal

pub loop-action-init : goal.loop-action-init
loop-action-init c = record {
  writer = c.requires.writer;
  mask = refl;
  waiting = λ place within is. inl is;
  kept = λ place within is. is;
  among = λ place within is. is;
}

pub action_number-requires-clause-action : goal.action_number-requires-clause-action
action_number-requires-clause-action c =
    first_among c.args.stages c.loop-action.rest c.in-Some.action (stages_of_some c.args.stages c.loop-action.rest c.args.actions c.loop-action.invariant.among c.requires.actions) c.in-Some.ensures.some

pub known_reason-reason-requires-clause-known : goal.known_reason-reason-requires-clause-known
known_reason-reason-requires-clause-known c =
    let pool = c.args.pool.now in
    let action = c.in-Some.action in
    let first = c.in-Some.ensures.some in
    let within = place_below action first.among in
    subst (λ (n : ℕ). reason_at pool c.args.row n ≢ None) (number_of_place c.args.stages action first.among.stage ∙ sym c.action_number.ensures.value)
    (c.requires.known (place_of action) within (c.loop-action.invariant.among (place_of action) within first.member))

pub set_reason-requires-clause-action : goal.set_reason-requires-clause-action
set_reason-requires-clause-action c =
    subst (λ (s : ℕ). IsActionAmong 12 s c.in-Some.action) (sym c.loop-action.invariant.writer.its_stages)
    (first_among c.args.stages c.loop-action.rest c.in-Some.action (stages_of_some c.args.stages c.loop-action.rest c.args.actions c.loop-action.invariant.among c.requires.actions) c.in-Some.ensures.some)

pub loop-action-preserved : goal.loop-action-preserved
loop-action-preserved c =
    let pool = c.args.pool.now in
    let action = c.in-Some.action in
    let told = c.in_ok-set_reason.ensures in
    let before = c.loop-action.writer in
    let after = c.set_reason.new.self in
    let invariant = c.loop-action.invariant in
    let common : common_at pool before.mask (number_of_action c.args.stages action) ≡ Some c.known_reason-reason.result =
    ap (λ (m : Mask). common_at pool m (number_of_action c.args.stages action)) invariant.mask
    ∙ subst (λ (n : ℕ). common_at pool c.args.writer.now.mask n ≡ Some c.known_reason-reason.result) c.action_number.ensures.value (c.requires.common c.action_number.result c.known_reason-reason.result c.known_reason-reason.ensures) in
    record {
      writer = reason_more pool c.args.stages before after action c.known_reason-reason.result c.in-Some.ensures.some.among c.set_reason.ensures.stages c.set_reason.ensures.mask told.known told.reasons common invariant.writer;
      mask = c.set_reason.ensures.mask ∙ invariant.mask;
      waiting = waiting_less c.args.actions c.loop-action.rest c.except-rest.result before.known after.known (place_of action) c.except-rest.ensures.places told.known invariant.waiting;
      kept = known_stays c.args.writer.now.known before.known after.known (place_of action) told.known invariant.kept;
      among = left_among c.args.actions c.loop-action.rest c.except-rest.result (place_of action) c.except-rest.ensures.places invariant.among;
    }

pub loop-action-smaller : goal.loop-action-smaller
loop-action-smaller c = fewer c.loop-action.rest c.except-rest.result c.in-Some.action c.in-Some.ensures.some c.except-rest.ensures.places

pub returns-clause-known : goal.returns-clause-known
returns-clause-known c = none_waits c.args.actions c.loop-action.rest c.loop-action.writer.known c.in_default.ensures.none c.loop-action.invariant.waiting

pub returns-in_err-set_reason-clause-writer : goal.returns-in_err-set_reason-clause-writer
returns-in_err-set_reason-clause-writer c = subst (IsWriterOf c.args.pool.now c.args.stages) (sym c.in_err-set_reason.ensures.err) c.loop-action.invariant.writer
