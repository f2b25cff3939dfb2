use Rattle.std.proofs.Common.{◌≡◌, ◌∙◌, ◌≤◌, ℕ, sym, subst, arith, List, Option}
use Rattle.job_setup.specs.Setup.{JobData}
use Rattle.stroke_table.specs.declared.known.KeptStroke.{KeptStroke}
use Rattle.stroke_table.specs.Table.{IsTable, IsHoldAt}
use Rattle.stroke_table.proofs.Places.{place_within, kept_hold}
use Rattle.stroke_table.proofs.table.StrokeTable.held.Goals as goal

pub known_hold-requires : goal.known_hold-requires
known_hold-requires c =
    let strokes = c.self.inside.strokes.items in
    let job : c.args.job.now ≡ c.self.inside.job = c.requires.job ∙ sym c.self.view_is in
    let table : IsTable c.args.job.now strokes = subst (λ (j : JobData). IsTable j strokes) (sym job) c.self.invariant.0 in
    let last : c.args.lead ≤ 12 = omega (arith, c.requires.last, table.few) in
    let within = place_within c.args.job.now c.args.mask c.args.lead c.args.back c.requires.mask c.requires.first last in
    rw (c.deref.ensures.value, c.place_of-place.ensures, table.count) within

pub returns-in-Some-clause-hold : goal.returns-in-Some-clause-hold
returns-in-Some-clause-hold c =
    let strokes = c.self.inside.strokes.items in
    let job : c.args.job.now ≡ c.self.inside.job = c.requires.job ∙ sym c.self.view_is in
    let table : IsTable c.args.job.now strokes = subst (λ (j : JobData). IsTable j strokes) (sym job) c.self.invariant.0 in
    let at = subst (λ (xs : List (Option KeptStroke)). IsHoldAt xs c.place_of-place.result c.in-Some.hold) c.deref.ensures.value c.in-Some.ensures in
    kept_hold c.args.job.now strokes c.args.mask c.args.lead c.args.back c.in-Some.hold table c.requires.first c.requires.last (subst (λ (place : ℕ). IsHoldAt strokes place c.in-Some.hold) c.place_of-place.ensures at)

pub returns-in-None-clause-hold : goal.returns-in-None-clause-hold
returns-in-None-clause-hold c = record { attitude = c.kept_stroke-kept.ensures.kept.attitude; gauge = c.gauge_of-gauge.ensures }
