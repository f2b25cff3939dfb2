use Rattle.std.proofs.Common.{◌≡◌, ℕ, ◌+◌, ◌-◌, get_or, Some, None, arith, sym, ◌∙◌, ap, subst}
use Rattle.std.proofs.lemmas.List.{get_or_default}
use Rattle.brake_base.specs.declared.stroke.Worth.TheVariants.{Blocked}
use Rattle.handling_cost.specs.StepCost.{IsKeyOf}
use Rattle.cert_lines.specs.declared.row_head.RowHead.{RowHead}
use Rattle.plan_cert.specs.KeyPlaces.{key_place}
use Rattle.cert_check.specs.RowTable.{RowsOf, IsWorthAt}
use Rattle.cert_check.proofs.Indexes.{key_within, no_worth, some_worth}
use Rattle.cert_check.proofs.row_table.RowTable.worth.Goals as goal

pub index-place-requires : goal.index-place-requires
index-place-requires c =
    let key : IsKeyOf c.self.inside.job c.args.key.now = subst (λ (t : RowsOf). IsKeyOf t.job c.args.key.now) (sym c.self.view_is) c.requires in
    let within = key_within c.self.inside.job c.self.invariant.valid c.self.inside.rows.items c.self.inside.places.items c.self.invariant c.args.key.now key in
    omega (arith, within, c.key_place.ensures)

pub index-requires : goal.index-requires
index-requires c =
    let key : IsKeyOf c.self.inside.job c.args.key.now = subst (λ (t : RowsOf). IsKeyOf t.job c.args.key.now) (sym c.self.view_is) c.requires in
    let places = c.self.inside.places.items in
    let within = key_within c.self.inside.job c.self.invariant.valid c.self.inside.rows.items places c.self.invariant c.args.key.now key in
    let read : get_or places (key_place c.args.key.now) 0 ≡ c.index-place.result.now =
    get_or_default places (key_place c.args.key.now) 0 c.index-place.result.now within ∙ (ap (λ (n : ℕ). get_or places n c.index-place.result.now) (sym c.key_place.ensures) ∙ sym c.index-place.ensures) in
    let some : c.index-place.result.now ≡ (c.index-place.result.now - 1) + 1 = let no = c.if-place-eq0.false in omega (arith, no) in
    let found = (some_worth c.self.inside.job c.self.invariant.valid c.self.inside.rows.items places c.self.invariant c.args.key.now key (c.index-place.result.now - 1) (record { key = c.args.key.now; worth = Blocked }) (read ∙ some)).0 in
    omega (arith, found)

pub returns-then-place-eq0 : goal.returns-then-place-eq0
returns-then-place-eq0 c =
    let key : IsKeyOf c.self.inside.job c.args.key.now = subst (λ (t : RowsOf). IsKeyOf t.job c.args.key.now) (sym c.self.view_is) c.requires in
    let places = c.self.inside.places.items in
    let within = key_within c.self.inside.job c.self.invariant.valid c.self.inside.rows.items places c.self.invariant c.args.key.now key in
    let read : get_or places (key_place c.args.key.now) 0 ≡ c.index-place.result.now =
    get_or_default places (key_place c.args.key.now) 0 c.index-place.result.now within ∙ (ap (λ (n : ℕ). get_or places n c.index-place.result.now) (sym c.key_place.ensures) ∙ sym c.index-place.ensures) in
    subst (λ (t : RowsOf). IsWorthAt t.rows c.args.key.now None) c.self.view_is
    (no_worth c.self.inside.job c.self.invariant.valid c.self.inside.rows.items places c.self.invariant c.args.key.now key (read ∙ c.if-place-eq0.true))

pub returns-else-place-eq0 : goal.returns-else-place-eq0
returns-else-place-eq0 c =
    let key : IsKeyOf c.self.inside.job c.args.key.now = subst (λ (t : RowsOf). IsKeyOf t.job c.args.key.now) (sym c.self.view_is) c.requires in
    let places = c.self.inside.places.items in
    let rows = c.self.inside.rows.items in
    let within = key_within c.self.inside.job c.self.invariant.valid rows places c.self.invariant c.args.key.now key in
    let read : get_or places (key_place c.args.key.now) 0 ≡ c.index-place.result.now =
    get_or_default places (key_place c.args.key.now) 0 c.index-place.result.now within ∙ (ap (λ (n : ℕ). get_or places n c.index-place.result.now) (sym c.key_place.ensures) ∙ sym c.index-place.ensures) in
    let some : c.index-place.result.now ≡ (c.index-place.result.now - 1) + 1 = let no = c.if-place-eq0.false in omega (arith, no) in
    let found = some_worth c.self.inside.job c.self.invariant.valid rows places c.self.invariant c.args.key.now key (c.index-place.result.now - 1) c.index.result.now (read ∙ some) in
    subst (λ (t : RowsOf). IsWorthAt t.rows c.args.key.now (Some c.index.result.now.worth)) c.self.view_is
    (subst (λ (row : RowHead). IsWorthAt rows c.args.key.now (Some row.worth)) (sym c.index.ensures) found.1)
