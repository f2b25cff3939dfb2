-- The text of a job, put together from its parts.
use Rattle.std.proofs.Common.{◌≡◌, ℕ, ℤ, List, [], ◌∷◌, ◌++◌, map, ap, sym, ◌∙◌, refl, append_assoc}
use Rattle.std.specs.List.{flat_map}
use Rattle.std.proofs.lemmas.Grind.{flat_map-append}
use Rattle.std.proofs.lemmas.List.Folds.{flat_map-map}
use Rattle.part_file.specs.Part.{PartData}
use Rattle.job_setup.specs.declared.setup.Stage.{Stage}
use Rattle.job_setup.specs.Setup.{SetupData, JobData, stage_data}
use Rattle.cert_lines.specs.Lines.{CertLine, line_text, lines_text, bed_line, frame_line, upper_line, lower_line}
use Rattle.cert_lines.specs.JobText.{part_lines, fixture_lines, rule_lines, stage_lines, job_lines, job_text}

-- four pieces behind a text, one after the other
pub joined : (a p q r s b c d e : List ℕ) → b ≡ a ++ p → c ≡ b ++ q → d ≡ c ++ r → e ≡ d ++ s → e ≡ a ++ (p ++ (q ++ (r ++ s)))
joined a p q r s b c d e first second third fourth =
    fourth ∙ ap (λ (t : List ℕ). t ++ s) (third ∙ ap (λ (t : List ℕ). t ++ r) (second ∙ ap (λ (t : List ℕ). t ++ q) first)) ∙ simp append_assoc

-- the text of three lists of lines
pub three : (xs ys zs : List CertLine) → lines_text ((xs ++ ys) ++ zs) ≡ lines_text xs ++ (lines_text ys ++ lines_text zs)
three xs ys zs =
    flat_map-append line_text (xs ++ ys) zs ∙ ap (λ (t : List ℕ). t ++ lines_text zs) (flat_map-append line_text xs ys) ∙ append_assoc (lines_text xs) (lines_text ys) (lines_text zs)

-- and of four
pub four : (ws xs ys zs : List CertLine) → lines_text (((ws ++ xs) ++ ys) ++ zs) ≡ lines_text ws ++ (lines_text xs ++ (lines_text ys ++ lines_text zs))
four ws xs ys zs =
    three (ws ++ xs) ys zs ∙ ap (λ (t : List ℕ). t ++ (lines_text ys ++ lines_text zs)) (flat_map-append line_text ws xs) ∙ append_assoc (lines_text ws) (lines_text xs) (lines_text ys ++ lines_text zs)

-- a list of lines of one kind
pub of_kind : {A : Type 0} → (line : A → CertLine) (xs : List A) (b c : List ℕ) → c ≡ b ++ flat_map (λ x. line_text (line x)) xs → c ≡ b ++ lines_text (map line xs)
of_kind {A} line xs b c e = e ∙ ap (λ (t : List ℕ). b ++ t) (sym (flat_map-map line_text line xs))

-- the bed, the frames, and the boxes above the bed and of it
pub fixtures_written : (setup : SetupData) (a b c d e : List ℕ) → b ≡ a ++ line_text (bed_line setup.bed)
    → c ≡ b ++ flat_map (λ frame. line_text (frame_line frame)) setup.frames → d ≡ c ++ flat_map (λ fixed. line_text (upper_line fixed)) setup.upper
    → e ≡ d ++ flat_map (λ fixed. line_text (lower_line fixed)) setup.lower → e ≡ a ++ lines_text (fixture_lines setup)
fixtures_written setup a b c d e first second third fourth =
    joined a (line_text (bed_line setup.bed)) (lines_text (map frame_line setup.frames)) (lines_text (map upper_line setup.upper)) (lines_text (map lower_line setup.lower)) b c d e
    first (of_kind frame_line setup.frames b c second) (of_kind upper_line setup.upper c d third) (of_kind lower_line setup.lower d e fourth)
    ∙ ap (λ (t : List ℕ). a ++ (line_text (bed_line setup.bed) ++ t)) (sym (three (map frame_line setup.frames) (map upper_line setup.upper) (map lower_line setup.lower)))

stages_text : (stages : List Stage) → flat_map line_text (flat_map stage_lines (map stage_data stages)) ≡ flat_map (λ stage. lines_text (stage_lines (stage_data stage))) stages
stages_text [] = refl
stages_text (stage ∷ stages) =
    flat_map-append line_text (stage_lines (stage_data stage)) (flat_map stage_lines (map stage_data stages))
    ∙ ap (λ (t : List ℕ). lines_text (stage_lines (stage_data stage)) ++ t) (stages_text stages)

-- the lines of a job's part, and of the three parts of its setup
pub job_written : (job : JobData) (part : PartData) (q : ℤ) (setup : SetupData) (stages : List Stage) (a b c d e : List ℕ)
    → part ≡ job.part → q ≡ job.q → setup ≡ job.setup → setup.stages ≡ map stage_data stages
    → b ≡ a ++ lines_text (part_lines part q) → c ≡ b ++ lines_text (fixture_lines setup) → d ≡ c ++ lines_text (rule_lines setup)
    → e ≡ d ++ flat_map (λ stage. lines_text (stage_lines (stage_data stage))) stages → e ≡ a ++ job_text job
unfolding job_text job_lines
job_written job part q setup stages a b c d e part_is q_is setup_is are first second third fourth =
    let all : flat_map (λ stage. lines_text (stage_lines (stage_data stage))) stages ≡ lines_text (flat_map stage_lines setup.stages) =
    sym (stages_text stages) ∙ ap (λ xs. lines_text (flat_map stage_lines xs)) (sym are) in
    joined a (lines_text (part_lines part q)) (lines_text (fixture_lines setup)) (lines_text (rule_lines setup)) (lines_text (flat_map stage_lines setup.stages)) b c d e
    first second third (fourth ∙ ap (λ (t : List ℕ). d ++ t) all)
    ∙ ap (λ (t : List ℕ). a ++ t) (sym (four (part_lines part q) (fixture_lines setup) (rule_lines setup) (flat_map stage_lines setup.stages)))
    ∙ λ i. a ++ job_text (record { part = part_is i; q = q_is i; setup = setup_is i })
