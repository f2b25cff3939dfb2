use Rattle.std.proofs.Common.{◌≡◌, ◌∙◌, ◌<◌, ◌-◌, ◌^◌, length, ap, sym, subst}
use Rattle.fold_boxes.specs.Shapes.{ShapeData}
use Rattle.fold_boxes.specs.Places.{ArePlaces}
use Rattle.fold_boxes.specs.Pose.{attitude_of}
use Rattle.job_setup.specs.Setup.{shape_of}
use Rattle.stroke_table.specs.declared.keys.StrokeKey.{StrokeKey}
use Rattle.stroke_table.specs.declared.known.KeptStroke.{KeptStroke}
use Rattle.stroke_table.specs.Finding.{IsFound}
use Rattle.stroke_table.proofs.Places.{kept_of}
use Rattle.stroke_table.proofs.table.find_stroke.Goals as goal

pub find_codes-found-requires-clause-places : goal.find_codes-found-requires-clause-places
find_codes-found-requires-clause-places c = subst (λ (s : StrokeKey). ArePlaces (shape_of c.args.job.now) s.mask c.args.places.now) (sym c.stroke_key-stroke.ensures.value) c.requires.places

pub find_codes-found-requires-clause-mask : goal.find_codes-found-requires-clause-mask
find_codes-found-requires-clause-mask c = subst (λ (s : StrokeKey). s.mask.0 < 2 ^ (length c.args.job.now.part.faces - 1)) (sym c.stroke_key-stroke.ensures.value) c.requires.mask

pub returns-clause-stroke : goal.returns-clause-stroke
returns-clause-stroke c =
    let job = c.args.job.now in
    let known = c.find_codes-found.result in
    let attitude = c.attitude_from-attitude.result in
    let same : attitude ≡ attitude_of (shape_of job) c.args.mask c.args.lead c.args.back =
    c.attitude_from-attitude.ensures.value ∙ ap (λ (s : ShapeData). attitude_of s c.args.mask c.args.lead c.args.back) c.shape.ensures.value in
    let kept : KeptStroke = record { attitude = attitude; found = known } in
    kept_of job c.find_codes-found.ensures.valid c.args.mask c.args.lead c.args.back kept same (subst (λ (s : StrokeKey). IsFound job s known) c.stroke_key-stroke.ensures.value c.find_codes-found.ensures.found)
