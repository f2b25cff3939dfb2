use Rattle.std.proofs.Common.{◌≡◌, ◌∙◌, ◌≤◌, ℕ, ap, sym, subst, arith, List, Option, Some, None}
use Rattle.std.specs.Prelude.{slice_index_or, slice_set}
use Rattle.job_setup.specs.Setup.{JobData}
use Rattle.stroke_table.specs.declared.known.KeptStroke.{KeptStroke}
use Rattle.stroke_table.specs.Table.{IsTable}
use Rattle.stroke_table.specs.Records.{AreKept}
use Rattle.stroke_table.proofs.Places.{one_more}
use Rattle.stroke_table.proofs.table.StrokeTable.kept_stroke.Goals as goal

pub invariant_of-self : goal.invariant_of-self
invariant_of-self c =
    let inside = c.self.inside in
    let strokes = inside.strokes.items in
    let job : c.args.job.now ≡ inside.job = c.requires.job ∙ sym c.self.view_is in
    let table : IsTable c.args.job.now strokes = subst (λ (j : JobData). IsTable j strokes) (sym job) c.self.invariant.0 in
    let last : c.args.lead ≤ 12 = omega (arith, c.requires.last, table.few) in
    let more = one_more c.args.job.now strokes c.args.mask c.args.lead c.args.back c.find_stroke-stroke.result c.requires.mask c.requires.first last c.find_stroke-stroke.ensures.stroke table in (
      subst (λ (j : JobData). IsTable j (slice_set strokes c.place_of-place.result (Some c.find_stroke-stroke.result))) job
          (subst (λ (place : ℕ). IsTable c.args.job.now (slice_set strokes place (Some c.find_stroke-stroke.result))) (sym c.place_of-place.ensures) more),
      subst (λ (j : JobData). AreKept j c.find_stroke-stroke.new.kept) job c.find_stroke-stroke.ensures.kept,
    )

pub find_stroke-stroke-requires-clause-kept : goal.find_stroke-stroke-requires-clause-kept
find_stroke-stroke-requires-clause-kept c =
    let job : c.args.job.now ≡ c.self.inside.job = c.requires.job ∙ sym c.self.view_is in
    subst (λ (j : JobData). AreKept j c.self.inside.kept) (sym job) c.self.invariant.1

pub returns-in-Some-clause-kept : goal.returns-in-Some-clause-kept
returns-in-Some-clause-kept c =
    let inside = c.self.inside in
    let strokes = inside.strokes.items in
    let job : c.args.job.now ≡ inside.job = c.requires.job ∙ sym c.self.view_is in
    let table : IsTable c.args.job.now strokes = subst (λ (j : JobData). IsTable j strokes) (sym job) c.self.invariant.0 in
    let last : c.args.lead ≤ 12 = omega (arith, c.requires.last, table.few) in
    let at_place = ap (λ (xs : List (Option KeptStroke)). slice_index_or xs c.place_of-place.result None) c.deref.ensures.value ∙ ap (λ (place : ℕ). slice_index_or strokes place None) c.place_of-place.ensures in
    table.each c.args.mask c.args.lead c.args.back c.in-Some.known c.requires.first last (sym at_place ∙ sym c.known_at.ensures ∙ c.in-Some.is)
