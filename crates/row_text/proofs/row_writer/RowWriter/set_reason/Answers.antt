use Rattle.std.proofs.Common.{◌==◌, if◌then◌else◌, set, get_or, ◌≡◌, ℕ, ◌*◌, ◌<◌, length, subst, sym, ◌∙◌, arith, rules}
use Rattle.brake_base.specs.Actions.{IsActionAmong, number_of_action}
use Rattle.brake_base.specs.declared.reason.Reason.TheVariants.{Cover}
use Rattle.row_text.specs.Notes.{SetNotes}
use Rattle.row_text.proofs.ActionPlaces.{among_eight}
use Rattle.row_text.proofs.WriterKept.{with_reason, reason_set}
use Rattle.row_text.proofs.row_writer.RowWriter.set_reason.Goals as goal

pub action_number-requires-clause-action : goal.action_number-requires-clause-action
action_number-requires-clause-action c = subst (λ (s : SetNotes). IsActionAmong 12 s.stages c.args.action) (sym c.self.view_is) c.requires.action

pub place-requires : goal.place-requires
place-requires c =
    among_eight c.self.inside.stages c.args.action (omega (arith, c.self.invariant.few)) (subst (λ (s : SetNotes). IsActionAmong 12 s.stages c.args.action) (sym c.self.view_is) c.requires.action)

pub invariant_of-self-2 : goal.invariant_of-self-2
invariant_of-self-2 c =
    let w = c.self.inside in
    let said : SetNotes = record { stages = w.stages; mask = w.mask; known = w.known; reasons = w.reasons } in
    let among : IsActionAmong 12 w.stages c.args.action = subst (λ (s : SetNotes). IsActionAmong 12 s.stages c.args.action) (sym c.self.view_is) c.requires.action in
    let below : c.from-number.result < 24 * w.stages = omega (arith, c.from-number.ensures, c.action_number.ensures.below) in
    let long : length w.reasons ≡ 144 = search rules in
    with_reason said w.start w.keys.items w.lines.items w.block c.clear.new.self c.with-self-inside.result c.args.action c.args.reason c.in_ok-line.line c.from-number.result c.from.result c.self.invariant among
    (c.from-number.ensures ∙ c.action_number.ensures.value) below (c.from.ensures ∙ c.place.ensures.value) (omega (arith, c.from.ensures, c.place.ensures.below)) long c.with-self-inside.ensures.places c.in_ok-line.ensures c.clear.ensures.notes c.clear.ensures.text

pub returns-clause-reasons : goal.returns-clause-reasons
returns-clause-reasons c =
    let w = c.self.inside in
    let below : c.from-number.result < 24 * w.stages = omega (arith, c.from-number.ensures, c.action_number.ensures.below) in
    let long : length w.reasons ≡ 144 = search rules in
    let within : c.from-number.result < length w.reasons = omega (arith, below, long, c.self.invariant.few) in
    subst
    (λ (s : SetNotes). (number : ℕ) → get_or (set w.reasons c.from-number.result c.args.reason) number Cover
    ≡ (if number == number_of_action s.stages c.args.action then c.args.reason else get_or s.reasons number Cover))
    c.self.view_is (λ number. reason_set w.reasons number c.from-number.result _ c.args.reason (c.from-number.ensures ∙ c.action_number.ensures.value) within)
