use Rattle.std.proofs.Common.{◌≡◌, ◌∙◌, ◌≤◌, ℕ, sym, subst, arith, List, Option}
use Rattle.job_setup.specs.Setup.{JobData}
use Rattle.job_setup.specs.StrokeGroup.{group_of}
use Rattle.stroke_table.specs.Codes.{IsFirstCode}
use Rattle.stroke_table.specs.declared.known.KeptStroke.{KeptStroke}
use Rattle.stroke_table.specs.Table.{IsTable, IsCodeAt}
use Rattle.stroke_table.proofs.Places.{place_within, kept_code}
use Rattle.stroke_table.proofs.table.StrokeTable.first_code.Goals as goal

pub known_code-requires-clause-place : goal.known_code-requires-clause-place
known_code-requires-clause-place c =
    let strokes = c.self.inside.strokes.items in
    let job : c.args.job.now ≡ c.self.inside.job = c.requires.job ∙ sym c.self.view_is in
    let table : IsTable c.args.job.now strokes = subst (λ (j : JobData). IsTable j strokes) (sym job) c.self.invariant.0 in
    let last : c.args.action.bend ≤ 12 = omega (arith, c.requires.last, table.few) in
    let within = place_within c.args.job.now c.args.mask c.args.action.bend c.args.action.back c.requires.mask c.requires.first last in
    rw (c.deref.ensures.value, c.place_of-place.ensures, table.count) within

pub known_code-requires-clause-stage : goal.known_code-requires-clause-stage
known_code-requires-clause-stage c = omega (arith, c.requires.stage, c.recall_valid.ensures.setup.stages.few_stages)

pub returns-in-Some-clause-code : goal.returns-in-Some-clause-code
returns-in-Some-clause-code c =
    let strokes = c.self.inside.strokes.items in
    let job : c.args.job.now ≡ c.self.inside.job = c.requires.job ∙ sym c.self.view_is in
    let table : IsTable c.args.job.now strokes = subst (λ (j : JobData). IsTable j strokes) (sym job) c.self.invariant.0 in
    let at = subst (λ (xs : List (Option KeptStroke)). IsCodeAt xs c.place_of-place.result c.args.action.stage c.in-Some.code) c.deref.ensures.value c.in-Some.ensures in
    kept_code c.args.job.now strokes c.args.mask c.args.action.bend c.args.action.back c.args.action.stage c.in-Some.code table c.requires.first c.requires.last c.requires.stage (subst (λ (place : ℕ). IsCodeAt strokes place c.args.action.stage c.in-Some.code) c.place_of-place.ensures at)

pub code-requires : goal.code-requires
code-requires c = omega (arith, c.requires.stage, c.recall_valid.ensures.setup.stages.few_stages)

pub returns-in-None-clause-code : goal.returns-in-None-clause-code
returns-in-None-clause-code c =
    let action = c.args.action in
    subst (IsFirstCode c.args.job.now c.args.mask (group_of c.args.job.now c.args.mask action.bend) action.back action.stage) (sym c.code.ensures) (c.kept_stroke-kept.ensures.kept.codes.each action.stage c.requires.stage)
