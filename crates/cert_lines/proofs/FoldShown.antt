-- Each job line that is taken is the next of those that are written of the values so far.
use Rattle.std.proofs.Common.{◌≡◌, ℕ, ◌==◌, ℤ, pos, Bool, true, false, ◌&&◌, nat_lt, List, [], ◌∷◌, ◌++◌, length, map, filter, cond, Option, Some, None, refl, sym, ap, subst, ◌∙◌, append_assoc, eqb-true}
use Rattle.std.specs.Prelude.{is_some, unwrap_or}
use Rattle.std.specs.List.{flat_map}
use Rattle.std.proofs.lemmas.Bool.{false≢true, and_parts}
use Rattle.std.proofs.lemmas.Grind.{flat_map-append}
use Rattle.std.proofs.lemmas.List.{append-nil, map_push, nil_from_length}
use Rattle.std.proofs.lemmas.List.Elements.{All-nil, All-cons, All-append, filter-append}
use Rattle.part_file.specs.Part.{PartData}
use Rattle.machine_file.specs.declared.bounds.TheConstants.{MOST_FRAMES, MOST_BOXES}
use Rattle.machine_file.specs.declared.machine.Fixed.{Fixed}
use Rattle.job_setup.specs.Setup.{StageData, SetupData}
use Rattle.cert_words.specs.JobWords.{costs_of, gang_of, fine_of}
use Rattle.cert_lines.specs.declared.format.Format.{Format}
use Rattle.cert_lines.specs.declared.format.Format.TheVariants.{Version1, Version2, Table}
use Rattle.cert_lines.specs.declared.job_section.JobSection.{JobSection}
use Rattle.cert_lines.specs.declared.job_section.JobSection.TheVariants as sections
use Rattle.cert_lines.specs.Lines.{CertLine, part_line, face_line, bed_line, frame_line, upper_line, lower_line, uncovered_line, gauge_line, cost_line, gang_line, force_line, fine_line, stage_line, punch_line, die_line, box_line, pieces_line, load_line, is_of_version1, lines_of_format}
use Rattle.cert_lines.specs.JobText.{part_lines, fixture_lines, fine_lines, rule_lines, punch_lines, die_lines, stage_lines, costs_line, gang_number, job_lines, HasNoLoad, IsJobOfVersion1}
use Rattle.cert_words.specs.LineWords.{◌>>=◌}
use Rattle.cert_lines.specs.LineReading.{only_if}
use Rattle.cert_lines.specs.JobLines.{JobLinesData, job_of}
use Rattle.cert_lines.specs.JobFold.{admits, is_complete, has_room, with_values, added, added_in, has_line, all_by, take}
use Rattle.cert_lines.proofs.Each.{Each}
use Rattle.cert_lines.proofs.FormatLines.{JobIn}
use Rattle.cert_lines.proofs.Naturals.{costs_are, gang_is, fine_is}

-- the lines up to the rules
abbrev front : JobLinesData → List CertLine
front s = part_lines s.part s.q ++ fixture_lines s.setup

-- the lines up to one of a section
abbrev shown : JobSection → JobLinesData → List CertLine
shown sections.Start s = []
shown sections.Part s = part_lines s.part s.q
shown sections.Fixtures s = front s
shown sections.Uncovered s = front s ++ uncovered_line s.setup.uncovered ∷ []
shown sections.Gauge s = front s ++ uncovered_line s.setup.uncovered ∷ gauge_line s.setup.gauge ∷ []
shown sections.Costs s = front s ++ uncovered_line s.setup.uncovered ∷ gauge_line s.setup.gauge ∷ costs_line s.setup.cost ∷ []
shown sections.Gang s = front s ++ uncovered_line s.setup.uncovered ∷ gauge_line s.setup.gauge ∷ costs_line s.setup.cost ∷ gang_line (gang_number s.setup.gang) ∷ []
shown sections.Stage s = job_lines (job_of s) ++ stage_line s.stage.x0 s.stage.x1 ∷ []
shown sections.Punch s = job_lines (job_of s) ++ (stage_line s.stage.x0 s.stage.x1 ∷ punch_lines s.stage.punch)
shown sections.Die s = job_lines (job_of s) ++ (stage_line s.stage.x0 s.stage.x1 ∷ punch_lines s.stage.punch ++ die_lines s.stage.die)
shown sections.Pieces s = job_lines (job_of s) ++ (stage_line s.stage.x0 s.stage.x1 ∷ punch_lines s.stage.punch ++ die_lines s.stage.die ++ pieces_line s.stage.pieces ∷ [])
shown _ s = job_lines (job_of s)

abbrev pub lines_so_far : JobLinesData → List CertLine
lines_so_far s = shown s.section s

-- the rules but for the depth
abbrev pub plain_rules : SetupData → List CertLine
plain_rules su = uncovered_line su.uncovered ∷ gauge_line su.gauge ∷ costs_line su.cost ∷ gang_line (gang_number su.gang) ∷ force_line su.force ∷ []

-- what complete lines show is what is written of their values
pub complete_shown : (at : JobSection) (s : JobLinesData) → is_complete at ≡ true → shown at s ≡ job_lines (job_of s)
complete_shown sections.Rules s is = refl
complete_shown sections.Stages s is = refl
complete_shown _ s is = absurd (false≢true is)

-- neither stages nor a depth are kept yet
pub record IsBare (stages : List StageData) (fine : ℕ) : Type 0 where
  pub no_stages : stages ≡ []
  pub no_depth : fine ≡ 0

-- nothing is kept yet of what stands behind the rules
abbrev pub IsFresh : JobSection → SetupData → Type 0
IsFresh sections.Fixtures su = IsBare su.stages su.fine
IsFresh sections.Uncovered su = IsBare su.stages su.fine
IsFresh sections.Gauge su = IsBare su.stages su.fine
IsFresh sections.Costs su = IsBare su.stages su.fine
IsFresh sections.Gang su = IsBare su.stages su.fine
IsFresh sections.Rules su = IsBare su.stages su.fine
IsFresh _ su = Unit {0}

abbrev pub state : Format → JobSection → PartData → ℤ → SetupData → StageData → Bool → JobLinesData
state format at part q setup stage sound = record { format = format; section = at; part = part; q = q; setup = setup; stage = stage; is_sound = sound }

-- lines are the last that are kept of those that a state shows, where its values make a job
abbrev Adds : (List CertLine → List CertLine) → JobLinesData → List CertLine → JobLinesData → Type 0
Adds keep s lines t = t.is_sound ≡ true → (s.is_sound ≡ true) × (keep (lines_so_far t) ≡ keep (lines_so_far s) ++ lines)

adds_both : (keep : List CertLine → List CertLine) (s t u : JobLinesData) (xs ys : List CertLine) → Adds keep s xs t → Adds keep t ys u → Adds keep s (xs ++ ys) u
adds_both keep s t u xs ys one two sound =
    let (between, last) = two sound in
    let (start, first) = one between in
    (start, last ∙ ap (λ (ls : List CertLine). ls ++ ys) first ∙ append_assoc (keep (lines_so_far s)) xs ys)

-- lines lead from one state to another
abbrev Grows : JobLinesData → List CertLine → JobLinesData → Type 0
Grows s lines t = IsFresh t.section t.setup × Adds (λ ls. ls) s lines t

none_there : {A : Type 0} (xs : List A) → (length xs == 0) ≡ true → xs ≡ []
none_there xs is = nil_from_length xs (eqb-true (length xs) 0 is)

-- a value that is there, or makes no job
by_value : {A : Type 0} (P : A → Type 0) (Q : A → Type 0) (sound : Bool) (x : Option A) (other : A) → Each P x → ((a : A) → P a → Q a) → (is_some x && sound) ≡ true → (sound ≡ true) × Q (unwrap_or x other)
by_value P Q sound (Some a) other each all is = (is, all a each)
by_value P Q sound None other each all is = absurd (false≢true is)

ruleset joins = (map_push, flat_map-append, append-nil, append_assoc)

-- one more line at the end
appended : (a b : List CertLine) (l m : CertLine) → l ≡ m → a ++ (b ++ m ∷ []) ≡ (a ++ b) ++ l ∷ []
appended a b l m is = ap (λ (x : CertLine). a ++ (b ++ x ∷ [])) (sym is) ∙ sym (append_assoc a b (l ∷ []))

pushed : {A : Type 0} (a b : List CertLine) (line : A → CertLine) (xs : List A) (x : A) → a ++ (b ++ map line (xs ++ x ∷ [])) ≡ (a ++ (b ++ map line xs)) ++ line x ∷ []
pushed a b line xs x = simp joins

-- what stands behind a line in the text isn't kept yet
frame_shown : (a b : List CertLine) (frames : List (ℤ × ℤ)) (upper lower : List Fixed) (f : ℤ × ℤ) → upper ≡ [] → lower ≡ []
    → a ++ (b ++ map frame_line (frames ++ f ∷ []) ++ map upper_line upper ++ map lower_line lower) ≡ (a ++ (b ++ map frame_line frames ++ map upper_line upper ++ map lower_line lower)) ++ frame_line f ∷ []
frame_shown a b frames upper lower f no_upper no_lower = simp (no_upper, no_lower, joins)

upper_shown : (a b : List CertLine) (upper lower : List Fixed) (x : Fixed) → lower ≡ [] → a ++ (b ++ map upper_line (upper ++ x ∷ []) ++ map lower_line lower) ≡ (a ++ (b ++ map upper_line upper ++ map lower_line lower)) ++ upper_line x ∷ []
upper_shown a b upper lower x no_lower = simp (no_lower, joins)

force_shown : (a b : List CertLine) (n : ℤ) (stages : List StageData) (fine : ℕ) → IsBare stages fine → a ++ (b ++ force_line n ∷ fine_lines fine) ++ flat_map stage_lines stages ≡ (a ++ b) ++ force_line n ∷ []
force_shown a b n stages fine bare = simp (bare.no_stages, bare.no_depth, joins)

fine_shown : (a b : List CertLine) (n : ℤ) (depth : ℕ) (stages : List StageData) (fine : ℕ) → IsBare stages fine → (depth == 0) ≡ false → n ≡ pos depth
    → a ++ (b ++ fine_lines depth) ++ flat_map stage_lines stages ≡ (a ++ (b ++ fine_lines fine) ++ flat_map stage_lines stages) ++ fine_line n ∷ []
fine_shown a b n depth stages fine bare some is = simp (bare.no_stages, bare.no_depth, some, is, joins)

load_shown : (a b : List CertLine) (stages : List StageData) (stage : StageData) (last : CertLine) → stage_lines stage ≡ b ++ last ∷ [] → a ++ flat_map stage_lines (stages ++ stage ∷ []) ≡ ((a ++ flat_map stage_lines stages) ++ b) ++ last ∷ []
load_shown a b stages stage last is =
    ap (λ (ls : List CertLine). a ++ ls) (flat_map-append stage_lines stages (stage ∷ []) ∙ ap (λ (ls : List CertLine). flat_map stage_lines stages ++ ls) (append-nil (stage_lines stage) ∙ is)) ∙ simp append_assoc

-- a line that may stand behind a section, and for which there is room, is the next that is shown
grows : (at : JobSection) (s : JobLinesData) (line : CertLine) → admits at line ≡ true → has_room (record s { section = at }) line ≡ true → IsFresh at s.setup → Grows (record s { section = at }) (line ∷ []) (added (record s { section = at }) line)
unfolding has_room with_values job_lines
grows sections.Start s (part_line material thickness radius q) may room fresh = (tt, λ sound. (sound, refl))
grows sections.Part s (face_line face) may room fresh = (tt, λ sound. (sound, simp joins))
grows sections.Part s (bed_line bed) may room fresh = (record { no_stages = refl; no_depth = refl }, λ sound. (sound, refl))
grows sections.Fixtures s (frame_line frame) may room fresh =
    let none = and_parts (length s.setup.upper == 0) (length s.setup.lower == 0) ((and_parts (nat_lt (length s.setup.frames) MOST_FRAMES) ((length s.setup.upper == 0) && (length s.setup.lower == 0)) room).1) in
    (fresh, λ sound. (sound, frame_shown (part_lines s.part s.q) (bed_line s.setup.bed ∷ []) s.setup.frames s.setup.upper s.setup.lower frame (none_there s.setup.upper none.0) (none_there s.setup.lower none.1)))
grows sections.Fixtures s (upper_line box) may room fresh =
    let none = and_parts (nat_lt (length s.setup.upper) MOST_BOXES) (length s.setup.lower == 0) room in
    (fresh, λ sound. (sound, upper_shown (part_lines s.part s.q) (bed_line s.setup.bed ∷ map frame_line s.setup.frames) s.setup.upper s.setup.lower box (none_there s.setup.lower none.1)))
grows sections.Fixtures s (lower_line box) may room fresh = (fresh, λ sound. (sound, pushed (part_lines s.part s.q) (bed_line s.setup.bed ∷ map frame_line s.setup.frames ++ map upper_line s.setup.upper) lower_line s.setup.lower box))
grows sections.Fixtures s (uncovered_line n) may room fresh = (fresh, λ sound. (sound, refl))
grows sections.Uncovered s (gauge_line rule) may room fresh = (fresh, λ sound. (sound, sym (append_assoc (front s) (uncovered_line s.setup.uncovered ∷ []) (gauge_line rule ∷ []))))
grows sections.Gauge s (cost_line c0 c1 c2 c3 c4 c5) may room fresh =
    let line = cost_line c0 c1 c2 c3 c4 c5 in
    let before = uncovered_line s.setup.uncovered ∷ gauge_line s.setup.gauge ∷ [] in
    (fresh, by_value (λ costs. line ≡ costs_line costs) (λ costs. front s ++ (before ++ costs_line costs ∷ []) ≡ (front s ++ before) ++ line ∷ []) s.is_sound (costs_of ((c0, c1), ((c2, c3), (c4, c5)))) s.setup.cost (costs_are c0 c1 c2 c3 c4 c5) (λ costs is. appended (front s) before line (costs_line costs) is))
grows sections.Costs s (gang_line n) may room fresh =
    let before = uncovered_line s.setup.uncovered ∷ gauge_line s.setup.gauge ∷ costs_line s.setup.cost ∷ [] in
    (fresh, by_value (λ gang. n ≡ gang_number gang) (λ gang. front s ++ (before ++ gang_line (gang_number gang) ∷ []) ≡ (front s ++ before) ++ gang_line n ∷ []) s.is_sound (gang_of n) s.setup.gang (gang_is n) (λ gang is. appended (front s) before (gang_line n) (gang_line (gang_number gang)) (ap gang_line is)))
grows sections.Gang s (force_line n) may room fresh =
    let before = uncovered_line s.setup.uncovered ∷ gauge_line s.setup.gauge ∷ costs_line s.setup.cost ∷ gang_line (gang_number s.setup.gang) ∷ [] in
    (fresh, λ sound. (sound, force_shown (front s) before n s.setup.stages s.setup.fine fresh))
grows sections.Rules s (fine_line n) may room fresh =
    let after : ℕ → List CertLine = λ depth. job_lines (record { part = s.part; q = s.q; setup = record s.setup { fine = depth } }) in
    (tt, by_value (λ depth. ((depth == 0) ≡ false) × (n ≡ pos depth)) (λ depth. after depth ≡ job_lines (job_of s) ++ fine_line n ∷ []) s.is_sound (fine_of n) s.setup.fine (fine_is n) (λ depth is. fine_shown (front s) (plain_rules s.setup) n depth s.setup.stages s.setup.fine fresh is.0 is.1))
grows sections.Rules s (stage_line x0 x1) may room fresh = (tt, λ sound. (sound, refl))
grows sections.Stages s (stage_line x0 x1) may room fresh = (tt, λ sound. (sound, refl))
grows sections.Stage s (punch_line name height nose) may room fresh = (tt, λ sound. (sound, sym (append_assoc (job_lines (job_of s)) (stage_line s.stage.x0 s.stage.x1 ∷ []) (punch_line name height nose ∷ []))))
grows sections.Punch s (box_line box) may room fresh =
    let p = s.stage.punch in
    (tt, λ sound. (sound, pushed (job_lines (job_of s)) (stage_line s.stage.x0 s.stage.x1 ∷ punch_line p.name p.height p.nose ∷ []) box_line p.body box))
grows sections.Punch s (die_line name height v least) may room fresh = (tt, λ sound. (sound, sym (append_assoc (job_lines (job_of s)) (stage_line s.stage.x0 s.stage.x1 ∷ punch_lines s.stage.punch) (die_line name height v least ∷ []))))
grows sections.Die s (box_line box) may room fresh =
    let d = s.stage.die in
    let before = stage_line s.stage.x0 s.stage.x1 ∷ punch_lines s.stage.punch in
    (tt, λ sound. (sound, ap (λ (ls : List CertLine). job_lines (job_of s) ++ ls) (pushed before (die_line d.name d.height d.v d.least_flange ∷ []) box_line d.body box) ∙ sym (append_assoc (job_lines (job_of s)) (before ++ die_lines d) (box_line box ∷ []))))
grows sections.Die s (pieces_line pieces) may room fresh = (tt, λ sound. (sound, sym (append_assoc (job_lines (job_of s)) (stage_line s.stage.x0 s.stage.x1 ∷ punch_lines s.stage.punch ++ die_lines s.stage.die) (pieces_line pieces ∷ []))))
grows sections.Pieces s (load_line load limit) may room fresh =
    let stage = record s.stage { load = load; limit = limit } in
    let before = stage_line stage.x0 stage.x1 ∷ punch_lines stage.punch ++ die_lines stage.die in
    (tt, λ sound. (sound, load_shown (front s ++ rule_lines s.setup) (before ++ pieces_line stage.pieces ∷ []) s.setup.stages stage (load_line load limit) (sym (append_assoc before (pieces_line stage.pieces ∷ []) (load_line load limit ∷ [])))))
grows _ s _ may room fresh = absurd (false≢true may)

grows_both : (s t u : JobLinesData) (xs ys : List CertLine) → Grows s xs t → Grows t ys u → Grows s (xs ++ ys) u
grows_both s t u xs ys one two = (two.0, adds_both (λ ls. ls) s t u xs ys one.1 two.1)

-- a line of version 1, with what it leaves out
old_grows : (s : JobLinesData) (line : CertLine) → is_of_version1 line ≡ true → admits s.section line ≡ true → has_room s line ≡ true → IsFresh s.section s.setup
    → (full : List CertLine) × (filter is_of_version1 full ≡ line ∷ []) × Grows s full (added_in Version1 s line)
unfolding has_room with_values
old_grows s (cost_line a b c d e f) is may room fresh =
    let line = cost_line a b c d e f in
    let gang = gang_line (pos 0) in
    let force = force_line (pos 0) in
    let t = added s line in
    let one = grows s.section s line may room fresh in
    let two = grows sections.Costs t gang refl refl one.0 in
    let three = grows sections.Gang (added t gang) force refl refl two.0 in
    let end = added (added t gang) force in
    (line ∷ gang ∷ force ∷ [], refl, grows_both s t end (line ∷ []) (gang ∷ force ∷ []) one (grows_both t (added t gang) end (gang ∷ []) (force ∷ []) two three))
old_grows s (pieces_line pieces) is may room fresh =
    let line = pieces_line pieces in
    let load = load_line (pos 0) (pos 0) in
    let t = added s line in
    let one = grows s.section s line may room fresh in
    (line ∷ load ∷ [], refl, grows_both s t (added t load) (line ∷ []) (load ∷ []) one (grows sections.Pieces t load refl room one.0))
old_grows s line is may room fresh = (line ∷ [], ap (λ (b : Bool). cond b (line ∷ []) []) is, grows s.section s line may room fresh)

-- version 1 tells all of what is kept so far
old_told : (s : JobLinesData) (line : CertLine) → is_of_version1 line ≡ true → IsJobOfVersion1 (job_of s) → IsJobOfVersion1 (job_of (added_in Version1 s line))
unfolding with_values
old_told s (bed_line bed) is told = record { gang = refl; force = refl; fine = refl; loads = All-nil HasNoLoad }
old_told s (cost_line a b c d e f) is told = record { gang = refl; force = refl; fine = told.fine; loads = told.loads }
old_told s (pieces_line pieces) is told =
    let stage = record s.stage { pieces = pieces; load = pos 0; limit = pos 0 } in
    record { gang = told.gang; force = told.force; fine = told.fine; loads = All-append HasNoLoad s.setup.stages (stage ∷ []) told.loads (All-cons HasNoLoad stage [] (refl, refl) (All-nil HasNoLoad)) }
old_told s (gang_line n) is told = absurd (false≢true is)
old_told s (force_line n) is told = absurd (false≢true is)
old_told s (fine_line n) is told = absurd (false≢true is)
old_told s (load_line load limit) is told = absurd (false≢true is)
old_told s _ is told = record { gang = told.gang; force = told.force; fine = told.fine; loads = told.loads }

-- lines of a format lead from one state to another, and are the last of the format that the other shows
pub record Leads (f : Format) (s : JobLinesData) (lines : List CertLine) (t : JobLinesData) : Type 0 where
  pub told : JobIn f (job_of t)
  pub fresh : IsFresh t.section t.setup
  pub shown : Adds (lines_of_format f) s lines t

one_leads : (f : Format) (s : JobLinesData) (line : CertLine) → has_line f line ≡ true → admits s.section line ≡ true → has_room s line ≡ true → JobIn f (job_of s) → IsFresh s.section s.setup → Leads f s (line ∷ []) (added_in f s line)
one_leads Version1 s line has may room told fresh =
    let (full, kept, g) = old_grows s line has may room fresh in record {
      told = old_told s line has told;
      fresh = g.0;
      shown = λ sound. let (start, e) = g.1 sound in (start, ap (λ (ls : List CertLine). filter is_of_version1 ls) e ∙ filter-append is_of_version1 (lines_so_far s) full ∙ ap (λ (ls : List CertLine). filter is_of_version1 (lines_so_far s) ++ ls) kept);
    }
one_leads Version2 s line has may room told fresh = let g = grows s.section s line may room fresh in record { told = tt; fresh = g.0; shown = g.1 }
one_leads Table s line has may room told fresh = let g = grows s.section s line may room fresh in record { told = tt; fresh = g.0; shown = g.1 }

-- a line that is taken
only_some : {A : Type 0} (b : Bool) (x : Option A) (a : A) → only_if b x ≡ Some a → (b ≡ true) × (x ≡ Some a)
only_some true x a e = (refl, e)
only_some false x a e = absurd (cc)

pub then_some : {A B : Type 0} (x : Option A) (f : A → Option B) (b : B) → (x >>= f) ≡ Some b → (a : A) × (x ≡ Some a) × (f a ≡ Some b)
then_some (Some a) f b e = (a, refl, e)
then_some None f b e = absurd (cc)

taken : (s u : JobLinesData) (line : CertLine) → take s line ≡ Some u → ((has_line s.format line && (admits s.section line && has_room s line)) ≡ true) × (added_in s.format s line ≡ u)
unfolding take
taken s u line e =
    let (may, there) = only_some (has_line s.format line && (admits s.section line && has_room s line)) (Some (added_in s.format s line)) u e in
    let same : added_in s.format s line ≡ u = cc in (may, same)

-- the format stays
added_format : (f : Format) (s : JobLinesData) (line : CertLine) → (added_in f s line).format ≡ s.format
unfolding with_values
added_format Version1 s (part_line material thickness radius q) = refl
added_format Version1 s _ = refl
added_format Version2 s (part_line material thickness radius q) = refl
added_format Version2 s _ = refl
added_format Table s (part_line material thickness radius q) = refl
added_format Table s _ = refl

pub taken_format : (s u : JobLinesData) (line : CertLine) → take s line ≡ Some u → u.format ≡ s.format
taken_format s u line e = ap (λ (x : JobLinesData). x.format) (sym (taken s u line e).1) ∙ added_format s.format s line

-- lines that are taken one after the other
pub all_lead : (f : Format) (s t : JobLinesData) (lines : List CertLine) → s.format ≡ f → all_by take s lines ≡ Some t → JobIn f (job_of s) → IsFresh s.section s.setup → Leads f s lines t
all_lead f s t [] is e told fresh =
    let same : s ≡ t = cc in
    subst (λ (x : JobLinesData). Leads f s [] x) same (record { told = told; fresh = fresh; shown = λ sound. (sound, sym (append-nil (lines_of_format f (lines_so_far s)))) })
all_lead f s t (line ∷ lines) is e told fresh =
    let (u, first, rest) = then_some (take s line) (λ u. all_by take u lines) t e in
    let (may, next) = taken s u line first in
    let has = and_parts (has_line s.format line) (admits s.section line && has_room s line) may in
    let stands = and_parts (admits s.section line) (has_room s line) has.1 in
    let one = one_leads s.format s line has.0 stands.0 stands.1 (subst (λ (x : Format). JobIn x (job_of s)) (sym is) told) fresh in
    let here : Leads f s (line ∷ []) u = subst (λ (x : Format). Leads x s (line ∷ []) u) is (subst (λ (x : JobLinesData). Leads s.format s (line ∷ []) x) next one) in
    let more = all_lead f u t lines (taken_format s u line first ∙ is) rest here.told here.fresh in
    record { told = more.told; fresh = more.fresh; shown = adds_both (lines_of_format f) s u t (line ∷ []) lines here.shown more.shown }
