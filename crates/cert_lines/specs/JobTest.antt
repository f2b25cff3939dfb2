-- Whether values are a valid job, as a test: each test stands with the proof that it decides its
-- rule. Lengths are in micrometres, costs in tenths of a second, forces in newtons.
use Rattle.std.specs.Prelude.{◌≡◌, ℕ, zero, suc, ◌<◌, ◌≤◌, ◌%◌, ◌==◌, ℤ, pos, neg_ℤ, ◌+ℤ◌, int_le}
use Rattle.std.specs.Prelude.{unsigned_abs, Bool, true, false, not, ◌&&◌, nat_lt, nat_le, List, []}
use Rattle.std.specs.Prelude.{length, All, IsTrue, Decides, Result, Ok, Err}
use Rattle.std.specs.List.{list_all}
use Rattle.std.specs.Ordering.{int_eq}
use Rattle.std.specs.Result.{is_ok}
use Rattle.std.proofs.Common.{refl, ap, rules}
use Rattle.std.proofs.lemmas.Bool.{false≢true, leb-true, le-leb}
use Rattle.std.proofs.lemmas.Bool.Decides.{Decides-and, Decides-like, Decides-by_and, Decides-eqb}
use Rattle.std.proofs.lemmas.Bool.Decides.{Decides-below_and, Decides-ltb, Decides-int_eq}
use Rattle.std.proofs.lemmas.List.{nil_from_length}
use Rattle.toml_fields.specs.Fields.{is_name}
use Rattle.toml_fields.specs.Ranges.{IsWithin, is_within, is_range}
use Rattle.toml_fields.proofs.Decided.{at_most_decided, within_decided, range_decided}
use Rattle.brake_base.specs.declared.plane.Rect.{Rect}
use Rattle.part_file.specs.Bounds.{least_thickness, greatest_thickness, least_radius}
use Rattle.part_file.specs.Bounds.{greatest_radius, most_faces}
use Rattle.part_file.specs.Part.{FaceData, PartData, face_at, half_thickness, IsThickness, IsSheet}
use Rattle.part_file.specs.Part.{IsFaceOf, IsPart}
use Rattle.part_file.specs.Rules.{has_namesake, is_placed}
use Rattle.part_file.proofs.PartRules.{new_name_decided, placed_decided}
use Rattle.allowance.specs.Bounds.{greatest_half_deduction}
use Rattle.unfolder.specs.Blank.{blank_of_part}
use Rattle.tool_library.specs.Bounds.{most_body_boxes, most_sections, least_height, greatest_height}
use Rattle.tool_library.specs.Bounds.{least_opening, greatest_opening, greatest_limit}
use Rattle.tool_library.specs.Bounds.{greatest_flange, greatest_load}
use Rattle.tool_library.specs.Tools.{PunchData, DieData, IsOpening, HasPunchSizes, HasDieSizes}
use Rattle.tool_library.specs.Tools.{HasLists, IsPunch, IsDie}
use Rattle.tool_library.specs.ToolsFile.{is_body_box, is_section}
use Rattle.tool_library.proofs.Decided.{boxes_decided, sections_decided}
use Rattle.machine_file.specs.Bounds.{most_frames, most_fixed_boxes, most_stages, most_pieces}
use Rattle.machine_file.specs.Bounds.{least_piece, greatest_piece, greatest_uncovered}
use Rattle.machine_file.specs.Bounds.{greatest_gauge_length, least_finger, greatest_cost}
use Rattle.machine_file.specs.Bounds.{greatest_force, greatest_fine}
use Rattle.machine_file.specs.declared.machine.Fixed.{Fixed}
use Rattle.machine_file.specs.declared.machine.GaugeRule.{GaugeRule}
use Rattle.machine_file.specs.declared.machine.Costs.{Costs}
use Rattle.machine_file.specs.Machine.{coordinate_limit, IsBedRange, IsFixed, IsPiece, IsGaugeRule}
use Rattle.machine_file.specs.Machine.{IsCosts}
use Rattle.machine_file.specs.MachineFile.{is_fixed}
use Rattle.machine_file.proofs.Decided.{fixed_decided}
use Rattle.job_setup.specs.Setup.{StageData, SetupData, JobData}
use Rattle.job_setup.specs.Stages.{total}
use Rattle.job_setup.specs.Places.{places_fit}
use Rattle.job_setup.specs.ValidJob.{IsStage, HasFixtures, HasRules, HasStages, IsSetup, IsJob}

-- a test that decides a rule
abbrev pub Test : Type 0 → Type 0
Test P = (b : Bool) × Decides b P

-- both rules hold
infixr 5 ◌&◌
abbrev ◌&◌ : {P Q : Type 0} → Test P → Test Q → Test (P × Q)
◌&◌ {P} {Q} p q = (p.0 && q.0, Decides-and {P = P} {Q = Q} p.0 q.0 p.1 q.1)

-- the rule says the same as one that is tested
abbrev like : {P Q : Type 0} → (P → Q) → (Q → P) → Test P → Test Q
like {P} {Q} f g p = (p.0, Decides-like {P = P} {Q = Q} p.0 f g p.1)

-- the rule holds of each element
abbrev each : {A : Type 0} (P : A → Type 0) → ((x : A) → Test (P x)) → (xs : List A) → Test (All P xs)
each {A} P test xs =
    let one : A → Bool = λ x. (test x).0 in
    (list_all one xs, Decides-by_and one P (list_all one) (λ x. (test x).1) refl (λ x ys. refl) xs)

-- numbers, names, lists and results
abbrev at_most : (a b : ℕ) → Test (a ≤ b)
at_most a b = (nat_le a b, (leb-true a b, le-leb a b))

abbrev below : (a b : ℕ) → Test (a < b)
below a b = (nat_lt a b, Decides-ltb a b)

abbrev same : (a b : ℕ) → Test (a ≡ b)
same a b = (a == b, Decides-eqb a b)

abbrev same_int : (a b : ℤ) → Test (a ≡ b)
same_int a b = (int_eq a b, Decides-int_eq a b)

abbrev within : (low high n : ℤ) → Test (IsWithin low high n)
within low high n = (is_within low high n, within_decided low high n)

abbrev passes : (b : Bool) → Test (IsTrue b)
passes b = (b, (λ t. t, λ t. t))

abbrev empty : {A : Type 0} (xs : List A) → Test (xs ≡ [])
empty xs = like (nil_from_length xs) (ap length) (same (length xs) 0)

abbrev fits : {E : Type 0} (r : Result (Unit {0}) E) → Test (r ≡ Ok tt)
fits (Ok x) = (true, (λ t. refl, λ e. refl))
fits (Err x) = (false, (λ t. absurd (false≢true t), λ e. absurd (false≢true (ap is_ok e))))

-- a rule that is asked for only where another holds
abbrev where_holds : {P Q : Type 0} → Test P → (P → Test Q) → Test (P → Q)
where_holds (true, decides) then =
    let q = then (decides.0 refl) in
    (q.0, (λ t p. q.1.0 t, λ rule. q.1.1 (rule (decides.0 refl))))
where_holds (false, decides) then =
    (true, (λ t p. absurd (false≢true (decides.1 p)), λ rule. refl))

-- a test passes of each number below another
abbrev all_below : (ℕ → Bool) → ℕ → Bool
all_below test zero = true
all_below test (suc n) = test n && all_below test n

-- the rules of the part file
thickness_test : (n : ℤ) → Test (IsThickness n)
thickness_test n =
    like (λ r. search rules) (λ r. search rules)
    (within least_thickness greatest_thickness n & same (unsigned_abs n % 2) 0)

sheet_test : (p : PartData) → Test (IsSheet p)
sheet_test p =
    like (λ r. search rules) (λ r. search rules)
    (passes (is_name p.material)
    & thickness_test p.thickness & within least_radius greatest_radius p.radius)

face_test : (faces : List FaceData) (b : ℕ) → b < length faces → Test (IsFaceOf faces b)
face_test faces b inside =
    like (λ r. search rules) (λ r. search rules)
    (passes (is_name (face_at faces b).name)
    & (not (has_namesake faces b), new_name_decided faces b inside)
    & (is_placed faces b, placed_decided faces b))

faces_test : (faces : List FaceData) → Test ((b : ℕ) → b < length faces → IsFaceOf faces b)
faces_test faces =
    let n = length faces in
    let Rule : ℕ → Type 0 = λ b. b < n → IsFaceOf faces b in
    let one : (b : ℕ) → Test (Rule b) = λ b. where_holds (below b n) (face_test faces b) in
    let test : ℕ → Bool = λ b. (one b).0 in
    let all = Decides-below_and test Rule (all_below test) (λ b. (one b).1) refl (λ m. refl) n in
    like (λ all b inside. all b inside inside) (λ all b inside _. all b inside)
    (all_below test n, all)

part_test : (p : PartData) → Test (IsPart p)
part_test p =
    like (λ r. search rules) (λ r. search rules)
    (sheet_test p & below 0 (length p.faces) & at_most (length p.faces) most_faces
    & faces_test p.faces)

-- the rules of the tools file
opening_test : (v : ℤ) → Test (IsOpening v)
opening_test v =
    like (λ r. search rules) (λ r. search rules)
    (within least_opening greatest_opening v & same (unsigned_abs v % 2) 0)

punch_sizes : (p : PunchData) → Test (HasPunchSizes p)
punch_sizes p =
    like (λ r. search rules) (λ r. search rules)
    (within least_height greatest_height p.height & within (pos 0) p.height p.nose
    & within (pos 0) greatest_limit p.limit)

die_sizes : (d : DieData) → Test (HasDieSizes d)
die_sizes d =
    like (λ r. search rules) (λ r. search rules)
    (within least_height greatest_height d.height & opening_test d.v
    & within (pos 0) greatest_flange d.least_flange & within (pos 0) greatest_limit d.limit)

lists_test : (low high : ℤ) (body : List Rect) (sections : List (ℤ × ℕ))
    → Test (HasLists low high body sections)
lists_test low high body sections =
    like (λ r. search rules) (λ r. search rules)
    (at_most (length body) most_body_boxes
    & (list_all (is_body_box low high) body, boxes_decided low high body)
    & at_most (length sections) most_sections
    & (list_all (λ s. is_section s.0 (pos s.1)) sections, sections_decided sections))

punch_test : (p : PunchData) → Test (IsPunch p)
punch_test p =
    like (λ r. search rules) (λ r. search rules)
    (passes (is_name p.name) & punch_sizes p & lists_test (pos 0) p.height p.body p.sections)

die_test : (d : DieData) → Test (IsDie d)
die_test d =
    like (λ r. search rules) (λ r. search rules)
    (passes (is_name d.name) & die_sizes d & lists_test (neg_ℤ d.height) (pos 0) d.body d.sections)

-- a stage
stage_test : (s : StageData) → Test (IsStage s)
stage_test s =
    like (λ r. search rules) (λ r. search rules)
    (punch_test s.punch & die_test s.die
    & empty s.punch.sections & empty s.die.sections
    & same_int s.punch.limit (pos 0) & same_int s.die.limit (pos 0)
    & within (neg_ℤ coordinate_limit) coordinate_limit s.x0
    & same_int s.x1 (s.x0 +ℤ total s.pieces)
    & below 0 (length s.pieces) & at_most (length s.pieces) most_pieces
    & each IsPiece (within least_piece greatest_piece) s.pieces
    & within (pos 0) greatest_load s.load & within (pos 0) greatest_limit s.limit)

-- the rules of the machine file
gauge_test : (g : GaugeRule) → Test (IsGaugeRule g)
gauge_test g =
    let size = within (pos 0) greatest_gauge_length in
    let finger = within least_finger greatest_gauge_length in
    like (λ r. search rules) (λ r. search rules)
    (size g.near & size g.far & size g.inset & finger g.finger & size g.gap & finger g.depth
    & size g.above & size g.below)

costs_test : (c : Costs) → Test (IsCosts c)
costs_test c =
    let cost : (n : ℕ) → Test (n ≤ greatest_cost) = λ n. at_most n greatest_cost in
    like (λ r. search rules) (λ r. search rules)
    (cost c.stroke & cost c.quarter & cost c.half & cost c.flip & cost c.roll & cost c.stage)

bed_test : (range : ℤ × ℤ) → Test (IsBedRange range)
bed_test range = (
  is_range (neg_ℤ coordinate_limit) coordinate_limit range.0 range.1,
  range_decided (neg_ℤ coordinate_limit) coordinate_limit range.0 range.1,
)

boxes_test : (low high : ℤ) (boxes : List Fixed) → Test (All (IsFixed low high) boxes)
boxes_test low high =
    each (IsFixed low high) (λ box. (is_fixed low high box, fixed_decided low high box))

fixtures_test : (s : SetupData) → Test (HasFixtures s)
fixtures_test s =
    like (λ r. search rules) (λ r. search rules)
    (each IsBedRange bed_test s.frames & at_most (length s.frames) most_frames
    & boxes_test (pos 0) coordinate_limit s.upper & at_most (length s.upper) most_fixed_boxes
    & boxes_test (neg_ℤ coordinate_limit) (pos 0) s.lower
    & at_most (length s.lower) most_fixed_boxes)

rules_test : (s : SetupData) → Test (HasRules s)
rules_test s =
    like (λ r. search rules) (λ r. search rules)
    (bed_test s.bed & gauge_test s.gauge & costs_test s.cost
    & within (pos 0) greatest_uncovered s.uncovered & within (pos 0) greatest_force s.force
    & at_most s.fine greatest_fine)

stages_test : (s : SetupData) → Test (HasStages s)
stages_test s =
    like (λ r. search rules) (λ r. search rules)
    (each IsStage stage_test s.stages & at_most (length s.stages) most_stages
    & fits (places_fit s.bed s.stages))

setup_test : (s : SetupData) → Test (IsSetup s)
setup_test s =
    like (λ r. search rules) (λ r. search rules)
    (fixtures_test s & rules_test s & stages_test s)

pub job_test : (j : JobData) → Test (IsJob j)
job_test j =
    let half = half_thickness j.part in
    like (λ r. search rules) (λ r. search rules)
    (part_test j.part & (int_le half j.q, at_most_decided half j.q)
    & (int_le j.q greatest_half_deduction, at_most_decided j.q greatest_half_deduction)
    & passes (is_ok (blank_of_part j.part j.q)) & setup_test j.setup)

-- whether the values are a valid job
unfoldable pub is_job : JobData → Bool
is_job job = (job_test job).0
