-- The lines of a job in a format are taken, and give the job; and lines that are taken are those of the job that they give.
use Rattle.std.proofs.Common.{◌≡◌, ℕ, suc, zero, ◌<◌, ◌≤◌, ℤ, pos, Bool, true, false, nat_lt, List, [], ◌∷◌, ◌++◌, length, map, cond, get_or, All, Option, Some, None, refl, sym, ap, subst, ◌∙◌, append_assoc, lt-ltb, arith}
use Rattle.std.specs.Prelude.{if◌then◌else◌}
use Rattle.std.specs.List.{flat_map}
use Rattle.std.proofs.lemmas.Bool.{false≢true}
use Rattle.std.proofs.lemmas.Int.{ints}
use Rattle.std.proofs.lemmas.List.{append-nil, length-append}
use Rattle.std.proofs.lemmas.List.Elements.{All-nil}
use Rattle.std.proofs.Math.Dec.{eqb-suc-zero}
use Rattle.std.proofs.Math.Seq.{get_or-append_seam}
use Rattle.toml_fields.proofs.Decided.{within_decided}
use Rattle.brake_base.specs.declared.plane.Rect.{Rect}
use Rattle.part_file.specs.declared.part.Joint.{Joint}
use Rattle.part_file.specs.Bounds.{most_faces}
use Rattle.part_file.specs.Part.{FaceData, PartData, no_face, face_at, IsPart}
use Rattle.machine_file.specs.Bounds.{most_frames, most_fixed_boxes, most_stages}
use Rattle.tool_library.specs.Bounds.{most_body_boxes}
use Rattle.tool_library.specs.Tools.{PunchData, DieData}
use Rattle.job_setup.specs.Setup.{StageData, SetupData, JobData}
use Rattle.job_setup.specs.ValidJob.{IsStage, IsJob}
use Rattle.cert_words.specs.LineWords.{◌>>=◌}
use Rattle.cert_words.specs.JobWords.{fine_of}
use Rattle.cert_lines.specs.declared.format.Format.{Format}
use Rattle.cert_lines.specs.declared.format.Format.TheVariants.{Version1, Version2, Table}
use Rattle.cert_lines.specs.declared.job_section.JobSection.{JobSection}
use Rattle.cert_lines.specs.declared.job_section.JobSection.TheVariants as sections
use Rattle.cert_lines.specs.Lines.{CertLine, part_line, face_line, bed_line, frame_line, upper_line, lower_line, stage_line, punch_line, die_line, box_line, pieces_line, load_line, is_of_version1, lines_of_format}
use Rattle.cert_lines.specs.JobText.{fine_lines, stage_lines, job_lines, HasNoLoad, IsJobOfVersion1}
use Rattle.cert_lines.specs.JobLines.{JobLinesData, begun_punch, begun_die, begun_stage, begun_setup, no_lines, job_of}
use Rattle.cert_lines.specs.JobFold.{admits, is_complete, stands_behind, has_room, with_values, added, added_in, has_line, all_by, take}
use Rattle.cert_lines.proofs.Naturals.{gang_back, costs_back}
use Rattle.cert_lines.proofs.FormatLines.{lines_append, JobIn}
use Rattle.cert_lines.proofs.FoldShown.{state, plain_rules, complete_shown, then_some, taken_format, all_lead}

pub fold_format : (s t : JobLinesData) (lines : List CertLine) → all_by take s lines ≡ Some t → t.format ≡ s.format
fold_format s t [] e = let same : s ≡ t = cc in ap (λ (x : JobLinesData). x.format) (sym same)
fold_format s t (line ∷ lines) e = let (u, one, more) = then_some (take s line) (λ u. all_by take u lines) t e in fold_format u t lines more ∙ taken_format s u line one

-- complete lines, each value of which makes a job, are those that are written of the job in their format, which tells of all of it
pub spelled : (format : Format) (t : JobLinesData) (lines : List CertLine) → all_by take (no_lines format) lines ≡ Some t → is_complete t.section ≡ true → t.is_sound ≡ true
    → (lines ≡ lines_of_format format (job_lines (job_of t))) × JobIn format (job_of t)
spelled format t lines e complete sound =
    let (none, nothing) = at_first format in
    let is = all_lead format (no_lines format) t lines refl e none tt in
    (sym (ap (λ (ls : List CertLine). lines_of_format format ls) (sym (complete_shown t.section t complete)) ∙ (is.shown sound).1 ∙ ap (λ (ls : List CertLine). ls ++ lines) nothing), is.told)
  where
    at_first : (f : Format) → JobIn f (job_of (no_lines f)) × (lines_of_format f [] ≡ [])
    at_first Version1 = (record { gang = refl; force = refl; fine = refl; loads = All-nil HasNoLoad }, refl)
    at_first Version2 = (tt, refl)
    at_first Table = (tt, refl)

-- lines that are written in a format lead from one state to another
record Runs (f : Format) (s : JobLinesData) (lines : List CertLine) (t : JobLinesData) : Type 0 where
  taken : all_by take s (lines_of_format f lines) ≡ Some t

all_both : (s t u : JobLinesData) (xs ys : List CertLine) → all_by take s xs ≡ Some t → all_by take t ys ≡ Some u → all_by take s (xs ++ ys) ≡ Some u
all_both s t u [] ys one two = let same : s ≡ t = cc in subst (λ (x : JobLinesData). all_by take x ys ≡ Some u) (sym same) two
all_both s t u (x ∷ xs) ys one two =
    let (v, first, rest) = then_some (take s x) (λ v. all_by take v xs) t one in
    ap (λ (o : Option JobLinesData). o >>= λ v. all_by take v (xs ++ ys)) first ∙ all_both v t u xs ys rest two

infixl 5 ◌then◌
◌then◌ : {f : Format} {s t u : JobLinesData} {xs ys : List CertLine} → Runs f s xs t → Runs f t ys u → Runs f s (xs ++ ys) u
◌then◌ {f} {s} {t} {u} {xs} {ys} one two = record { taken = rw (lines_append f xs ys) (all_both s t u (lines_of_format f xs) (lines_of_format f ys) one.taken two.taken) }

nothing : (f : Format) (s : JobLinesData) → Runs f s [] s
nothing Version1 s = record { taken = refl }
nothing Version2 s = record { taken = refl }
nothing Table s = record { taken = refl }

-- a line that each format has, and by which it says all
in_any : (f : Format) (s : JobLinesData) (line : CertLine) → is_of_version1 line ≡ true → added_in Version1 s line ≡ added s line
    → (lines_of_format f (line ∷ []) ≡ line ∷ []) × (has_line f line ≡ true) × (added_in f s line ≡ added s line)
in_any Version1 s line old plain = (ap (λ (b : Bool). cond b (line ∷ []) []) old, old, plain)
in_any Version2 s line old plain = (refl, refl, refl)
in_any Table s line old plain = (refl, refl, refl)

-- such a line is taken where it may stand and there is room
one : (s : JobLinesData) (line : CertLine) → is_of_version1 line ≡ true → added_in Version1 s line ≡ added s line → admits s.section line ≡ true → has_room s line ≡ true → Runs s.format s (line ∷ []) (added s line)
unfolding take
one s line old plain may room =
    let (alone, has, same) = in_any s.format s line old plain in
    record { taken = rw (alone, has, may, room, same) refl }

-- an element of a list, by what stands before it
split : {A : Type 0} (before : List A) (x : A) (behind xs : List A) (d : A) → before ++ x ∷ behind ≡ xs → (length before < length xs) × (get_or xs (length before) d ≡ x)
split before x behind xs d same = (
  omega (arith, ap length same, length-append before (x ∷ behind)),
  subst (λ ys. get_or ys (length before) d ≡ x) same (get_or-append_seam before x behind d),
)

-- lines of a list, where those of each element lead on from what is read before it
list_run : {A : Type 0} (f : Format) (lines : List A → List CertLine) (of : A → List CertLine) → lines [] ≡ [] → ((x : A) (xs : List A) → lines (x ∷ xs) ≡ of x ++ lines xs) → (st : List A → JobLinesData) (done rest : List A)
    → ((before : List A) (x : A) (behind : List A) → before ++ x ∷ behind ≡ done ++ rest → Runs f (st before) (of x) (st (before ++ x ∷ []))) → Runs f (st done) (lines rest) (st (done ++ rest))
list_run f lines of none more st done [] step = rw (none, append-nil done) (nothing f (st done))
list_run f lines of none more st done (x ∷ rest) step =
    let moved = append_assoc done (x ∷ []) rest in
    let there = list_run f lines of none more st (done ++ x ∷ []) rest (λ before y behind same. step before y behind (same ∙ moved)) in
    rw (more x rest, ← moved) (step done x rest refl then there)

few_run : {A : Type 0} (f : Format) (line : A → CertLine) (st : List A → JobLinesData) (most : ℕ) (xs : List A) → length xs ≤ most
    → ((before : List A) (x : A) → nat_lt (length before) most ≡ true → Runs f (st before) (line x ∷ []) (st (before ++ x ∷ []))) → Runs f (st []) (map line xs) (st xs)
few_run f line st most xs few step =
    list_run f (map line) (λ x. line x ∷ []) refl (λ x xs. refl) st [] xs (λ before x behind same. step before x (lt-ltb (length before) most (omega (arith, (split before x behind xs x same).0, few))))

-- a stage
abbrev no_stage : StageData
no_stage = begun_stage (pos 0) (pos 0)

abbrev bare_punch : PunchData → List Rect → PunchData
bare_punch p boxes = record (begun_punch p.name p.height p.nose) { body = boxes }

abbrev bare_die : DieData → List Rect → DieData
bare_die d boxes = record (begun_die d.name d.height d.v d.least_flange) { body = boxes }

-- its tools have neither stock nor a limit
stage_same : (s : StageData) → IsStage s → (record s { punch = bare_punch s.punch s.punch.body; die = bare_die s.die s.die.body }) ≡ s
stage_same s is i = record s {
  punch = record s.punch { sections = sym is.no_punch_sections i; limit = sym is.no_punch_limit i };
  die = record s.die { sections = sym is.no_die_sections i; limit = sym is.no_die_limit i };
}

complete_admits : (at : JobSection) (x0 x1 : ℤ) → is_complete at ≡ true → admits at (stage_line x0 x1) ≡ true
complete_admits sections.Rules x0 x1 is = refl
complete_admits sections.Stages x0 x1 is = refl
complete_admits _ x0 x1 is = absurd (false≢true is)

-- its pieces and its load, which version 1 leaves out where it is 0
load_run : (f : Format) (s : JobLinesData) (pieces : List ℤ) (load limit : ℤ) → s.format ≡ f → admits s.section (pieces_line pieces) ≡ true → nat_lt (length s.setup.stages) most_stages ≡ true
    → (f ≡ Version1 → (load ≡ pos 0) × (limit ≡ pos 0)) → Runs f s (pieces_line pieces ∷ load_line load limit ∷ []) (added (added s (pieces_line pieces)) (load_line load limit))
unfolding take has_room with_values
load_run Version1 s pieces load limit is may room none = record { taken = simp (is, may, room, (none refl).0, (none refl).1) }
load_run Version2 s pieces load limit is may room none = record { taken = simp (is, may, room) }
load_run Table s pieces load limit is may room none = record { taken = simp (is, may, room) }

stage_run : (f : Format) (at : JobSection) (p : PartData) (q : ℤ) (su : SetupData) (s : StageData) → is_complete at ≡ true → nat_lt (length su.stages) most_stages ≡ true → IsStage s → (f ≡ Version1 → HasNoLoad s)
    → Runs f (state f at p q su no_stage true) (stage_lines s) (state f sections.Stages p q (record su { stages = su.stages ++ s ∷ [] }) no_stage true)
unfolding has_room with_values
stage_run f at p q su s complete room is none =
    let st : JobSection → StageData → JobLinesData = λ to stage. state f to p q su stage true in
    let sg = begun_stage s.x0 s.x1 in
    let sgp : List Rect → StageData = λ boxes. record sg { punch = bare_punch s.punch boxes } in
    let sgd : List Rect → StageData = λ boxes. record (sgp s.punch.body) { die = bare_die s.die boxes } in
    let range = one (st at no_stage) (stage_line s.x0 s.x1) refl refl (complete_admits at s.x0 s.x1 complete) room in
    let punch = one (st sections.Stage sg) (punch_line s.punch.name s.punch.height s.punch.nose) refl refl refl refl in
    let punch_boxes = few_run f box_line (λ boxes. st sections.Punch (sgp boxes)) most_body_boxes s.punch.body is.punch.lists.few_boxes (λ before x less. one (st sections.Punch (sgp before)) (box_line x) refl refl refl less) in
    let die = one (st sections.Punch (sgp s.punch.body)) (die_line s.die.name s.die.height s.die.v s.die.least_flange) refl refl refl refl in
    let die_boxes = few_run f box_line (λ boxes. st sections.Die (sgd boxes)) most_body_boxes s.die.body is.die.lists.few_boxes (λ before x less. one (st sections.Die (sgd before)) (box_line x) refl refl refl less) in
    let end = load_run f (st sections.Die (sgd s.die.body)) s.pieces s.load s.limit refl refl room none in
    subst (λ (x : StageData). Runs f (st at no_stage) (stage_lines s) (state f sections.Stages p q (record su { stages = su.stages ++ x ∷ [] }) no_stage true)) (stage_same s is)
    (range then (punch then punch_boxes) then (die then die_boxes) then end)

-- the section behind some stages
abbrev stages_end : JobSection → List StageData → JobSection
stages_end at [] = at
stages_end at (s ∷ stages) = sections.Stages

end_complete : (at : JobSection) (stages : List StageData) → is_complete at ≡ true → is_complete (stages_end at stages) ≡ true
end_complete at [] complete = complete
end_complete at (s ∷ stages) complete = refl

one_more : (at : JobSection) (before : List StageData) (s : StageData) → stages_end at (before ++ s ∷ []) ≡ sections.Stages
one_more at [] s = refl
one_more at (b ∷ before) s = refl

stages_run : (f : Format) (at : JobSection) (p : PartData) (q : ℤ) (su : SetupData) (stages : List StageData) → is_complete at ≡ true → length stages ≤ most_stages → All IsStage stages → (f ≡ Version1 → All HasNoLoad stages)
    → Runs f (state f at p q (record su { stages = [] }) no_stage true) (flat_map stage_lines stages) (state f (stages_end at stages) p q (record su { stages = stages }) no_stage true)
stages_run f at p q su stages complete few each none =
    let st : JobSection → List StageData → JobLinesData = λ to xs. state f to p q (record su { stages = xs }) no_stage true in
    list_run f (flat_map stage_lines) stage_lines refl (λ x xs. refl) (λ xs. st (stages_end at xs) xs) [] stages (λ before s behind same.
    let (inside, is) = split before s behind stages s same in
    let room = lt-ltb (length before) most_stages (omega (arith, inside, few)) in
    subst (λ (to : JobSection). Runs f (st (stages_end at before) before) (stage_lines s) (st to (before ++ s ∷ []))) (sym (one_more at before s))
    (stage_run f (stages_end at before) p q (record su { stages = before }) s (end_complete at before complete) room (subst IsStage is (each (length before) s inside)) (λ old. subst HasNoLoad is (none old (length before) s inside))))

-- the part
face_fits : (p : PartData) → IsPart p → (b : ℕ) → b < length p.faces → stands_behind b (face_at p.faces b).joint ≡ true
face_fits p is zero within = ap (λ (joint : Option Joint). stands_behind 0 joint) ((is.each_face 0 within).placed.joined.root refl)
face_fits p is (suc b) within =
    let (joint, on) = (is.each_face (suc b) within).placed.joined.joint (omega arith) in
    ap (λ (j : Option Joint). stands_behind (suc b) j) on.has ∙ lt-ltb joint.on (suc b) on.earlier

part_run : (f : Format) (p : PartData) (q : ℤ) → IsPart p → Runs f (no_lines f) (part_line p.material p.thickness p.radius q ∷ map face_line p.faces) (state f sections.Part p q (begun_setup (pos 0, pos 0)) no_stage true)
unfolding has_room with_values
part_run f p q is =
    let st : List FaceData → JobLinesData = λ faces. state f sections.Part (record p { faces = faces }) q (begun_setup (pos 0, pos 0)) no_stage true in
    let sheet = one (no_lines f) (part_line p.material p.thickness p.radius q) refl refl refl refl in
    sheet then list_run f (map face_line) (λ x. face_line x ∷ []) refl (λ x xs. refl) st [] p.faces (λ before x behind same.
    let (inside, here) = split before x behind p.faces no_face same in
    let less : nat_lt (length before) most_faces ≡ true = lt-ltb (length before) most_faces (omega (arith, inside, is.few_faces)) in
    let fits : stands_behind (length before) x.joint ≡ true = subst (λ (y : FaceData). stands_behind (length before) y.joint ≡ true) here (face_fits p is (length before) inside) in
    one (st before) (face_line x) refl refl refl (rw (less, fits) refl))

-- the rules, of which version 1 leaves out that there are no gangs and no force
rules_run : (f : Format) (p : PartData) (q : ℤ) (su s : SetupData) → (f ≡ Version1 → (s.gang ≡ false) × (s.force ≡ pos 0))
    → Runs f (state f sections.Fixtures p q su no_stage true) (plain_rules s) (state f sections.Rules p q (record su { uncovered = s.uncovered; gauge = s.gauge; cost = s.cost; gang = s.gang; force = s.force }) no_stage true)
unfolding take has_room with_values
rules_run Version1 p q su s none = record { taken = simp (costs_back s.cost, (none refl).0, (none refl).1) }
rules_run Version2 p q su s none = record { taken = simp (costs_back s.cost, gang_back s.gang) }
rules_run Table p q su s none = record { taken = simp (costs_back s.cost, gang_back s.gang) }

-- the depth, which version 1 hasn't
fine_back : (n : ℕ) → suc n ≤ 12 → fine_of (pos (suc n)) ≡ Some (suc n)
fine_back n few =
    let within = (within_decided (pos 1) (pos 12) (pos (suc n))).1 (record { bottom = omega (arith, ints); top = omega (arith, ints, few) }) in
    ap (λ (b : Bool). if b then Some (suc n) else None) within

depth_run : (f : Format) (p : PartData) (q : ℤ) (su : SetupData) (depth : ℕ) → (f ≡ Version1 → depth ≡ 0) → depth ≤ 12
    → (end : JobSection) × (is_complete end ≡ true) × Runs f (state f sections.Rules p q (record su { fine = 0 }) no_stage true) (fine_lines depth) (state f end p q (record su { fine = depth }) no_stage true)
unfolding take has_room with_values
depth_run f p q su zero old few = (sections.Rules, refl, nothing f (state f sections.Rules p q (record su { fine = 0 }) no_stage true))
depth_run Version1 p q su (suc n) old few = absurd (omega (arith, old refl))
depth_run Version2 p q su (suc n) old few = (sections.Stages, refl, record { taken = simp (eqb-suc-zero n, fine_back n few) })
depth_run Table p q su (suc n) old few = (sections.Stages, refl, record { taken = simp (eqb-suc-zero n, fine_back n few) })

-- the lines of a valid job of which a format tells all are taken one after the other, and give the job
pub written : (format : Format) (job : JobData) → IsJob job → JobIn format job
    → (end : JobSection) × (is_complete end ≡ true) × (all_by take (no_lines format) (lines_of_format format (job_lines job)) ≡ Some (state format end job.part job.q job.setup (begun_stage (pos 0) (pos 0)) true))
unfolding has_room with_values job_lines
written f job valid told =
    let p = job.part in
    let q = job.q in
    let s = job.setup in
    let fixed = valid.setup.fixtures in
    let at = sections.Fixtures in
    let st : JobSection → SetupData → JobLinesData = λ to su. state f to p q su no_stage true in
    let su0 = begun_setup (pos 0, pos 0) in
    let su1 = begun_setup s.bed in
    let su2 = record su1 { frames = s.frames } in
    let su3 = record su2 { upper = s.upper } in
    let su4 = record su3 { lower = s.lower } in
    let su5 = record su4 { uncovered = s.uncovered; gauge = s.gauge; cost = s.cost; gang = s.gang; force = s.force } in
    let su6 = record su5 { fine = s.fine } in
    let bed = one (st sections.Part su0) (bed_line s.bed) refl refl refl (lt-ltb 0 (length p.faces) valid.part.some_face) in
    let frames = few_run f frame_line (λ xs. st at (record su1 { frames = xs })) most_frames s.frames fixed.few_frames (λ before x less. one (st at (record su1 { frames = before })) (frame_line x) refl refl refl (rw less refl)) in
    let upper = few_run f upper_line (λ xs. st at (record su2 { upper = xs })) most_fixed_boxes s.upper fixed.few_upper (λ before x less. one (st at (record su2 { upper = before })) (upper_line x) refl refl refl (rw less refl)) in
    let lower = few_run f lower_line (λ xs. st at (record su3 { lower = xs })) most_fixed_boxes s.lower fixed.few_lower (λ before x less. one (st at (record su3 { lower = before })) (lower_line x) refl refl refl less) in
    let rules = rules_run f p q su4 s (λ old. let is = old_job f old told in (is.gang, is.force)) in
    let (rules_end, complete, depth) = depth_run f p q su5 s.fine (λ old. (old_job f old told).fine) valid.setup.rules.fine in
    let stages = stages_run f rules_end p q su6 s.stages complete valid.setup.stages.few_stages valid.setup.stages.each (λ old. (old_job f old told).loads) in
    (stages_end rules_end s.stages, end_complete rules_end s.stages complete, (part_run f p q valid.part then (bed then frames then upper then lower) then (rules then depth) then stages).taken)
  where
    old_job : (f : Format) → f ≡ Version1 → JobIn f job → IsJobOfVersion1 job
    old_job f is told = subst (λ (x : Format). JobIn x job) is told
