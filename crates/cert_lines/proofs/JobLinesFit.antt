-- The lines of a valid job are job lines that can be told and read.
use Rattle.std.proofs.Common.{ℕ, zero, suc, ◌==◌, ◌<◌, ◌≤◌, ℤ, pos, ◌+ℤ◌, ◌≤ℤ◌, Bool, true, false, List, [], ◌∷◌, ◌++◌, length, map, filter, cond, get_or, All, Option, Some, rules, refl, sym, subst, arith}
use Rattle.std.specs.Prelude.{if◌then◌else◌}
use Rattle.std.specs.List.{flat_map, AllByRecursion}
use Rattle.std.proofs.lemmas.Int.{ints}
use Rattle.std.proofs.lemmas.List.{get_or_default}
use Rattle.toml_fields.specs.Ranges.{IsWithin}
use Rattle.brake_base.specs.declared.plane.Rect.{Rect}
use Rattle.part_file.specs.declared.part.Side.{Side}
use Rattle.part_file.specs.declared.part.Side.TheVariants.{N, E, S, W}
use Rattle.part_file.specs.declared.part.Joint.{Joint}
use Rattle.part_file.specs.Part.{FaceData, PartData, no_face, face_at, side_length, IsPart, IsFaceOf, HasSizes}
use Rattle.unfolder.specs.Extent.{IsNear}
use Rattle.fold_boxes.proofs.PartBounds.{small_numbers}
use Rattle.machine_file.specs.declared.machine.Fixed.{Fixed}
use Rattle.machine_file.specs.Machine.{IsPiece}
use Rattle.job_setup.specs.Setup.{StageData, JobData, shape_of}
use Rattle.job_setup.specs.Near.{IsNearBox, IsNearProfile, IsNearStage, HasNearTools}
use Rattle.job_setup.specs.ValidJob.{IsStage, IsJob}
use Rattle.job_setup.proofs.Near.{setup_near}
use Rattle.cert_lines.specs.declared.format.Format.{Format}
use Rattle.cert_lines.specs.declared.format.Format.TheVariants.{Version1, Version2, Table}
use Rattle.cert_lines.specs.Lines.{CertLine, face_line, frame_line, upper_line, lower_line, gauge_line, fine_line, box_line, pieces_line, load_line}
use Rattle.cert_lines.specs.JobText.{costs_line, gang_number, part_lines, fixture_lines, fine_lines, rule_lines, punch_lines, die_lines, stage_lines, job_lines}
use Rattle.cert_lines.specs.Lines.{is_of_version1, lines_of_format}
use Rattle.cert_lines.proofs.WordsRead.{IsSmall}
use Rattle.cert_lines.proofs.TextLines.{ArePlainLines}
use Rattle.cert_lines.proofs.JobLineRead.{AllSmall, IsToldFace, IsJobLine, job_lines_read}

abbrev pub AreJobLines : List CertLine → Type 0
AreJobLines lines = AllByRecursion IsJobLine lines

both : (xs ys : List CertLine) → AreJobLines xs → AreJobLines ys → AreJobLines (xs ++ ys)
both [] ys one two = two
both (x ∷ xs) ys one two = (one.0, both xs ys one.1 two)

-- a line for each item
of_each : {A : Type 0} (line : A → CertLine) (xs : List A) → All (λ x. IsJobLine (line x)) xs → AreJobLines (map line xs)
of_each line [] each = tt
of_each line (x ∷ xs) each = (each 0 x (omega arith), of_each line xs (λ k d within. each (suc k) d (omega arith)))

-- numbers near 0, and between two that aren't below 0
near_small : (z : ℤ) → IsNear z → IsSmall z
near_small z near = omega (arith, ints, near.0, near.1)

literal : (a b : ℕ) (z : ℤ) → b ≤ 1000000000000 → IsWithin (pos a) (pos b) z → IsSmall z
literal a b z few within = omega (arith, ints, few, within.bottom, within.top)

-- the part
side_short : (side : Side) (face : FaceData) → HasSizes face → side_length side face ≤ℤ pos 10000000
side_short N face sizes = sizes.wide.top
side_short E face sizes = sizes.long.top
side_short S face sizes = sizes.wide.top
side_short W face sizes = sizes.long.top

between : (at width long : ℤ) → pos 0 ≤ℤ at → (at +ℤ width) ≤ℤ long → pos 1 ≤ℤ width → long ≤ℤ pos 10000000 → IsSmall at
between at width long low high some side = omega (arith, ints, low, high, some, side)

face_told : (faces : List FaceData) → length faces ≤ 13 → ((f : ℕ) → f < length faces → IsFaceOf faces f) → (b : ℕ) → b < length faces → IsJobLine (face_line (face_at faces b))
face_told faces few rules zero within =
    let mine = rules 0 within in
    let sizes = mine.placed.sizes in
    let f = face_at faces 0 in
    subst (λ (j : Option Joint). IsToldFace f j) (sym (mine.placed.joined.root refl)) (mine.name, (literal 1 10000000 f.width (omega arith) sizes.wide, (literal 1 10000000 f.length (omega arith) sizes.long, tt)))
face_told faces few rules (suc b) within =
    let mine = rules (suc b) within in
    let (joint, is) = mine.placed.joined.joint (omega arith) in
    let parent = rules joint.on (omega (arith, is.earlier, within)) in
    let sizes = mine.placed.sizes in
    let f = face_at faces (suc b) in
    let side = side_short joint.side (face_at faces joint.on) parent.placed.sizes in
    let told : IsToldFace f (Some joint) = (
      record {
        name = mine.name;
        width = literal 1 10000000 f.width (omega arith) sizes.wide;
        long = literal 1 10000000 f.length (omega arith) sizes.long;
        at = between joint.at f.width (side_length joint.side (face_at faces joint.on)) is.within.at_low is.within.at_high sizes.wide.bottom side;
        on = omega (arith, is.earlier, within, few);
      },
      omega (arith, is.earlier, within, few),
    ) in
    subst (λ (j : Option Joint). IsToldFace f j) (sym is.has) told

part_told : (p : PartData) (q : ℤ) → IsPart p → IsSmall q → AreJobLines (part_lines p q)
part_told p q is small = (
  (is.sheet.material, (literal 2 50000 p.thickness (omega arith) is.sheet.thickness.range, (literal 1 50000 p.radius (omega arith) is.sheet.radius, (small, tt)))),
  of_each face_line p.faces (λ k d within. subst (λ face. IsJobLine (face_line face)) (get_or_default p.faces k no_face d within) (face_told p.faces is.few_faces is.each_face k within)),
)

-- what is fixed on the machine
fixed_small : (f : Fixed) → IsNearBox f → IsJobLine (upper_line f)
fixed_small f near = search (rules, near_small)

fixtures_told : (job : JobData) → IsJob job → AreJobLines (fixture_lines job.setup)
fixtures_told job valid =
    let s = job.setup in
    let near = setup_near job valid in
    let frames = of_each frame_line s.frames (λ k d within. (near_small (get_or s.frames k d).0 (near.frames_from k d within), (near_small (get_or s.frames k d).1 (near.frames_to k d within), tt))) in
    let upper = of_each upper_line s.upper (λ k d within. fixed_small (get_or s.upper k d) (near.upper k d within)) in
    let lower = of_each lower_line s.lower (λ k d within. fixed_small (get_or s.lower k d) (near.lower k d within)) in
    ((near_small s.bed.0 near.bed_from, (near_small s.bed.1 near.bed_to, tt)), both (map frame_line s.frames ++ map upper_line s.upper) (map lower_line s.lower) (both (map frame_line s.frames) (map upper_line s.upper) frames upper) lower)

-- the rules
short_cost : (n : ℕ) → n ≤ 1000000 → IsSmall (pos n)
short_cost n few = omega (arith, few)

gang_small : (gang : Bool) → IsSmall (gang_number gang)
gang_small true = omega arith
gang_small false = omega arith

fine_told : (depth : ℕ) → depth ≤ 12 → AreJobLines (fine_lines depth)
fine_told depth few = by_test (depth == 0)
  where
    by_test : (none : Bool) → AreJobLines (if none then [] else fine_line (pos depth) ∷ [])
    by_test true = tt
    by_test false = ((short_cost depth (omega (arith, few)), tt), tt)

rules_told : (job : JobData) → IsJob job → AreJobLines (rule_lines job.setup)
rules_told job valid =
    let s = job.setup in
    let near = (setup_near job valid).gauge in
    let fit = valid.setup.rules in
    let gauge : IsJobLine (gauge_line s.gauge) = search (rules, near_small) in
    let costs : IsJobLine (costs_line s.cost) = search (rules, short_cost) in (
      (literal 0 1000000 s.uncovered (omega arith) fit.uncovered, tt),
      (gauge, (costs, ((gang_small s.gang, tt), ((literal 0 100000000 s.force (omega arith) fit.force, tt), fine_told s.fine fit.fine)))),
    )

-- the stages
box_small : (r : Rect) → IsNearProfile r → IsJobLine (box_line r)
box_small r near = search (rules, near_small)

pieces_small : (zs : List ℤ) → All IsPiece zs → AllSmall zs
pieces_small [] all = tt
pieces_small (z ∷ zs) all = (literal 1 10000000 z (omega arith) (all 0 z (omega arith)), pieces_small zs (λ k d within. all (suc k) d (omega arith)))

stage_told : (s : StageData) → IsStage s → IsNearStage s → HasNearTools s → AreJobLines (stage_lines s)
stage_told s is near tools =
    let sizes = is.punch.sizes in
    let die = is.die.sizes in
    let nose : IsSmall s.punch.nose = omega (arith, ints, sizes.height.top, sizes.nose.bottom, sizes.nose.top) in
    let punch_is : AreJobLines (punch_lines s.punch) = ((is.punch.name, (literal 1 1000000 s.punch.height (omega arith) sizes.height, (nose, tt))), of_each box_line s.punch.body (λ k d within. box_small (get_or s.punch.body k d) (tools.punch k d within))) in
    let die_is : AreJobLines (die_lines s.die) = (
      (is.die.name, (literal 1 1000000 s.die.height (omega arith) die.height, (literal 2 1000000 s.die.v (omega arith) die.v.range, (literal 0 1000000 s.die.least_flange (omega arith) die.least_flange, tt)))),
      of_each box_line s.die.body (λ k d within. box_small (get_or s.die.body k d) (tools.die k d within)),
    ) in
    let load_is : AreJobLines (pieces_line s.pieces ∷ load_line s.load s.limit ∷ []) = (
      (is.some_piece, is.few_pieces, pieces_small s.pieces is.pieces),
      ((literal 0 1000000 s.load (omega arith) is.load, (literal 0 1000000 s.limit (omega arith) is.limit, tt)), tt),
    ) in
    ((near_small s.x0 near.x0, (near_small s.x1 near.x1, tt)), both (punch_lines s.punch ++ die_lines s.die) (pieces_line s.pieces ∷ load_line s.load s.limit ∷ []) (both (punch_lines s.punch) (die_lines s.die) punch_is die_is) load_is)

stages_told : (stages : List StageData) → All IsStage stages → All IsNearStage stages → All HasNearTools stages → AreJobLines (flat_map stage_lines stages)
stages_told [] each near tools = tt
stages_told (s ∷ stages) each near tools =
    both (stage_lines s) (flat_map stage_lines stages) (stage_told s (each 0 s (omega arith)) (near 0 s (omega arith)) (tools 0 s (omega arith)))
    (stages_told stages (λ k d within. each (suc k) d (omega arith)) (λ k d within. near (suc k) d (omega arith)) (λ k d within. tools (suc k) d (omega arith)))

-- the job
pub job_told : (job : JobData) → IsJob job → AreJobLines (job_lines job)
unfolding job_lines
job_told job valid =
    let sizes = small_numbers (shape_of job) (record { part = valid.part; q_low = valid.q_low; q_high = valid.q_high; unfolds = valid.unfolds }) in
    let small : IsSmall job.q = omega (arith, ints, sizes.thick, sizes.deep, sizes.shallow) in
    let near = setup_near job valid in
    let p = part_lines job.part job.q in
    let f = fixture_lines job.setup in
    let r = rule_lines job.setup in
    both ((p ++ f) ++ r) (flat_map stage_lines job.setup.stages) (both (p ++ f) r (both p f (part_told job.part job.q valid.part small) (fixtures_told job valid)) (rules_told job valid)) (stages_told job.setup.stages valid.setup.stages.each near.stages near.tools)

-- those of the lines that a format has
kept : (b : Bool) (line : CertLine) (lines : List CertLine) → IsJobLine line → AreJobLines lines → AreJobLines (cond b (line ∷ lines) lines)
kept true line lines one more = (one, more)
kept false line lines one more = more

pub told_of_format : (format : Format) (lines : List CertLine) → AreJobLines lines → AreJobLines (lines_of_format format lines)
told_of_format Version1 [] are = tt
told_of_format Version1 (line ∷ lines) are = kept (is_of_version1 line) line (filter is_of_version1 lines) are.0 (told_of_format Version1 lines are.1)
told_of_format Version2 lines are = are
told_of_format Table lines are = are

-- the words of job lines are plain
pub plain_of_told : (lines : List CertLine) → AreJobLines lines → ArePlainLines lines
plain_of_told [] are = tt
plain_of_told (line ∷ lines) are = (job_lines_read.plain line are.0, plain_of_told lines are.1)
