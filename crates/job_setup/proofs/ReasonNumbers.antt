-- The numbers in reasons that hold: of boxes 0 to 24, of obstacles below 64.
use Rattle.std.proofs.Common.{◌≡◌, ℕ, suc, ◌+◌, ◌-◌, ◌*◌, ◌<◌, ◌≤◌, List, [], ◌∷◌, map, filter, length, ℤ, neg_ℤ, arith, refl, ◌∙◌, ap, subst, length-append}
use Rattle.std.specs.Prelude.{All, Any}
use Rattle.std.specs.List.{flat_map, enumerate_from}
use Rattle.std.proofs.lemmas.List.{length-map}
use Rattle.std.proofs.lemmas.List.Elements.{All-nil, All-cons, All-head, All-tail, All-append, All-map}
use Rattle.brake_base.specs.declared.mask.Mask.{Mask}
use Rattle.brake_base.specs.declared.stroke.Back.{Back}
use Rattle.brake_base.specs.Masks.{has}
use Rattle.unfolder.specs.Blank.{face_numbers, bend_numbers}
use Rattle.machine_file.specs.declared.machine.Fixed.{Fixed}
use Rattle.fold_boxes.specs.declared.posed_part.PoseBox.{PoseBox}
use Rattle.fold_boxes.specs.Shapes.{ShapeData, IsShape}
use Rattle.fold_boxes.specs.Pose.{pose_box, box_ids, pose_of}
use Rattle.fold_boxes.proofs.Picked.{all_numbers, all_picked}
use Rattle.job_setup.specs.declared.obstacle.Obstacle.{Obstacle}
use Rattle.job_setup.specs.Setup.{StageData, JobData, shape_of}
use Rattle.job_setup.specs.StageOf.{stage_of}
use Rattle.job_setup.specs.ValidJob.{IsJob, IsStage}
use Rattle.job_setup.specs.Obstacles.{raised_box, along_stage, upper_boxes, lower_boxes, half_opening, upper_obstacle, lower_obstacle, upper_group, lower_group}
use Rattle.job_setup.specs.Reasons.{SomeBox, SomeObstacle, pose_at}
use Rattle.job_setup.proofs.Validity.{shape_of_job}

-- ---- boxes
ids_few : (shape : ShapeData) → IsShape shape → (mask : Mask) → All (λ id. id ≤ 24) (box_ids shape mask)
ids_few shape rules mask =
    let folded = filter (has mask) (bend_numbers shape.part.faces) in
    All-append (λ id. id ≤ 24) (face_numbers shape.part.faces) (map (λ b. 12 + b) folded)
    (all_numbers (λ f. f ≤ 24) 0 (length shape.part.faces) (λ k low high. omega (arith, high, rules.part.few_faces)))
    (All-map (λ id. id ≤ 24) (λ b. 12 + b) folded
    (all_picked (λ b. 12 + b ≤ 24) (has mask) 1 (length shape.part.faces - 1) (λ k low high member. omega (arith, high, rules.part.few_faces))))

boxes_few : (shape : ShapeData) → IsShape shape → (mask group : Mask) (back : Back) (x0 x1 : ℤ) → All (λ box. box.id ≤ 24) (pose_of shape mask group back x0 x1).boxes
boxes_few shape rules mask group back x0 x1 = All-map (λ (box : PoseBox). box.id ≤ 24) (pose_box shape mask group back x0 x1) (box_ids shape mask) (ids_few shape rules mask)

-- what holds of all elements holds of the one that has a number
numbered : {X : Type 0} (number : X → ℕ) (Q : ℕ → Type 0) (P : X → Type 0) (n : ℕ) (xs : List X) → All (λ x. Q (number x)) xs → Any (λ x. (number x ≡ n) × P x) xs → Q n
numbered number Q P n xs all some = subst Q (ap number some.3 ∙ some.4.0) (all some.0 some.1 some.2)

pub some_box : (job : JobData) → IsJob job → (mask group : Mask) (back : Back) (stage number : ℕ) (P : PoseBox → Type 0) → SomeBox (pose_at job mask group back stage) number P → number ≤ 24
some_box job is_job mask group back stage number P some =
    numbered (λ (box : PoseBox). box.id) (λ n. n ≤ 24) P number (pose_at job mask group back stage).boxes
    (boxes_few (shape_of job) (shape_of_job job is_job) mask group back (stage_of job stage).x0 (stage_of job stage).x1) some

-- ---- obstacles
all_indexed : {X Y : Type 0} (index : Y → ℕ) (f : ℕ × X → Y) (most n : ℕ) (xs : List X) → ((k : ℕ) (x : X) → index (f (k, x)) ≡ k) → n + length xs ≤ most → All (λ y. index y < most) (map f (enumerate_from n xs))
all_indexed index f most n [] same few = All-nil (λ y. index y < most)
all_indexed index f most n (x ∷ xs) same few =
    All-cons (λ y. index y < most) (f (n, x)) (map f (enumerate_from (n + 1) xs)) (let is = same n x in omega (arith, is, few)) (all_indexed index f most (n + 1) xs same (omega (arith, few)))

flat_few : {X Y : Type 0} (f : X → List Y) (Q : X → Type 0) (most : ℕ) (xs : List X) → ((x : X) → Q x → length (f x) ≤ most) → All Q xs → length (flat_map f xs) ≤ most * length xs
flat_few f Q most [] each all = omega arith
flat_few f Q most (x ∷ xs) each all =
    let here = each x (All-head Q x xs all) in
    let rest = flat_few f Q most xs each (All-tail Q x xs all) in
    let both = length-append (f x) (flat_map f xs) in
    let more : most * suc (length xs) ≡ most * length xs + most = omega arith in
    omega (arith, here, rest, both, more)

few_upper : (job : JobData) → IsJob job → length (upper_boxes job) ≤ 64
few_upper job is_job =
    let machine = map (raised_box (stage_of job 0).punch.height) job.setup.upper in
    let punch : StageData → List Fixed = λ stage. map (along_stage stage) stage.punch.body in
    let both = length-append machine (flat_map punch job.setup.stages) in
    let fixed = length-map job.setup.upper (raised_box (stage_of job 0).punch.height) in
    let punches = flat_few punch IsStage 8 job.setup.stages (λ stage is. let same = length-map stage.punch.body (along_stage stage) in omega (arith, same, is.punch.lists.few_boxes)) is_job.setup.stages.each in
    omega (arith, both, fixed, punches, is_job.setup.fixtures.few_upper, is_job.setup.stages.few_stages)

few_lower : (job : JobData) → IsJob job → length (lower_boxes job) ≤ 64
few_lower job is_job =
    let height = neg_ℤ (stage_of job 0).die.height in
    let machine = map (raised_box height) job.setup.lower in
    let die : StageData → List Fixed = λ stage. map (along_stage stage) stage.die.body in
    let both = length-append machine (flat_map die job.setup.stages) in
    let fixed = length-map job.setup.lower (raised_box height) in
    let dies = flat_few die IsStage 8 job.setup.stages (λ stage is. let same = length-map stage.die.body (along_stage stage) in omega (arith, same, is.die.lists.few_boxes)) is_job.setup.stages.each in
    omega (arith, both, fixed, dies, is_job.setup.fixtures.few_lower, is_job.setup.stages.few_stages)

pub some_upper : (job : JobData) → IsJob job → (index : ℕ) (P : Obstacle → Type 0) → SomeObstacle (upper_group job) index P → index ≤ 63
some_upper job is_job index P some =
    let below : index < 64 = numbered (λ (o : Obstacle). o.index) (λ n. n < 64) P index (upper_group job) (all_indexed (λ (o : Obstacle). o.index) upper_obstacle 64 0 (upper_boxes job) (λ k box. refl) (omega (arith, few_upper job is_job))) some in
    omega (arith, below)

pub some_lower : (job : JobData) → IsJob job → (stage index : ℕ) (P : Obstacle → Type 0) → SomeObstacle (lower_group job stage) index P → index ≤ 63
some_lower job is_job stage index P some =
    let lower = lower_obstacle job.part.thickness (half_opening (stage_of job stage)) in
    let below : index < 64 = numbered (λ (o : Obstacle). o.index) (λ n. n < 64) P index (lower_group job stage) (all_indexed (λ (o : Obstacle). o.index) lower 64 0 (lower_boxes job) (λ k box. refl) (omega (arith, few_lower job is_job))) some in
    omega (arith, below)
