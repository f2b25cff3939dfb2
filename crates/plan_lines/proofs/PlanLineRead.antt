-- A line behind the job is read exactly where it is the text of a line that fits the job.
use Rattle.std.proofs.Common.{◌≡◌, ℕ, zero, suc, ◌+◌, ◌-◌, ◌^◌, ◌<◌, ◌≤◌, List, [], ◌∷◌, ◌++◌, codes, Option, Some, None, refl, sym, ap, subst, ◌∙◌, arith}
use Rattle.std.specs.Prelude.{◌↔◌}
use Rattle.std.proofs.lemmas.Grind.{flat_map-append}
use Rattle.std.proofs.Math.Nat.{pow-le-pow_right}
use Rattle.brake_base.specs.declared.plane.Quarter.{Quarter}
use Rattle.brake_base.specs.declared.stroke.Action.{Action}
use Rattle.brake_base.specs.declared.stroke.Gauge.{Gauge}
use Rattle.brake_base.specs.declared.stroke.Key.{Key}
use Rattle.brake_base.specs.declared.stroke.Worth.{Worth}
use Rattle.brake_base.specs.declared.reason.Reason.{Reason}
use Rattle.brake_base.specs.declared.reason.Reason.TheVariants.{Cover, Rest, Frame, Upper, Nose, Lower, SelfHit, NoGauge, Load}
use Rattle.brake_base.specs.Actions.{IsActionAmong}
use Rattle.brake_base.specs.Reasons.{kind_of, quarter_number}
use Rattle.job_setup.specs.Setup.{JobData, bend_count, stage_count}
use Rattle.handling_cost.specs.StepCost.{IsActionOf}
use Rattle.cert_words.specs.LineWords.{◌>>=◌, then_in, as_in, count_at, kind_at, back_of, half_of, quarter_of, worth_of}
use Rattle.cert_words.specs.PlanWords.{action_at, gauge_at, step_in, claim_in, key_at, row_in, meeting_in, arguments_in, reason_in, note_in}
use Rattle.cert_lines.specs.declared.row_head.RowHead.{RowHead}
use Rattle.plan_lines.specs.declared.section.PlanLine.{PlanLine}
use Rattle.plan_lines.specs.declared.section.PlanLine.TheVariants as kinds
use Rattle.cert_lines.specs.Lines.{CertLine, claim_line, step_line, row_line, note_line, number, spaced, back_word, half_word, worth_word, action_words, meeting_words, argument_words, reason_words, keyword_of, words_of}
use Rattle.cert_lines.specs.Lines.{IsWorth}
use Rattle.plan_lines.specs.LinesFit.{IsStep, IsRow, IsReasonInRange}
use Rattle.cert_lines.specs.LineReading.{keyword_in, behind_keyword}
use Rattle.plan_lines.specs.PlanReading.{plan_line_of, plan_words_in, plan_line_in}
use Rattle.cert_lines.proofs.Each.{Each, Any, each_any, each_then, each_weaker, each_end}
use Rattle.cert_lines.proofs.WordsRead.{spelled, back_plain, half_plain, quarter_plain, worth_plain, back_back, half_back, quarter_back, worth_back, number_plain}
use Rattle.cert_lines.proofs.TextLines.{ArePlain, line_bytes}
use Rattle.cert_lines.proofs.Spelling.{by_word, back_is, half_is, quarter_is, worth_is, each_line}
use Rattle.cert_lines.proofs.Readers.{ReadsWords, ReadsAll, ReadsLines, ends_words, both_reads, as_reads, alone_reads, then_reads, kind_reads, any_kind, IsCount, count_reads}

-- a job has at most 12 bends and 6 stages
pub record IsSmall (job : JobData) : Type 0 where
  pub bends : bend_count job ≤ 12
  pub stages : stage_count job ≤ 6

back_reads : ReadsWords Any (λ x. back_word x ∷ []) (kind_at back_of)
back_reads = any_kind back_word back_of back_back back_is back_plain

half_reads : ReadsWords Any (λ x. half_word x ∷ []) (kind_at half_of)
half_reads = any_kind half_word half_of half_back half_is half_plain

quarter_reads : ReadsWords Any (λ x. number (quarter_number x) ∷ []) (kind_at quarter_of)
quarter_reads = any_kind (λ x. number (quarter_number x)) quarter_of quarter_back quarter_is quarter_plain

worth_reads : ReadsWords IsWorth (λ x. worth_word x ∷ []) (kind_at worth_of)
worth_reads = kind_reads IsWorth worth_word worth_of worth_back worth_is worth_plain

-- an action, whatever the numbers of bends and stages are
record IsToldAction (bends stages : ℕ) (a : Action) : Type 0 where
  bend : IsCount 1 (bends + 1) a.bend
  stage : IsCount 0 stages a.stage

action_told : (bends stages : ℕ) → ReadsWords (IsToldAction bends stages) action_words (action_at bends stages)
unfolding action_at
action_told bends stages =
    as_reads (IsToldAction bends stages) action_words (λ x. record { bend = x.0; back = x.1.0; stage = x.1.1 }) (λ a. (a.bend, (a.back, a.stage))) (λ a. refl) (λ a is. (is.bend, (tt, is.stage))) (λ x is. record { bend = is.0; stage = is.1.1 }) (λ a. refl) (λ x. refl)
    (both_reads (count_reads 1 (bends + 1)) (both_reads back_reads (count_reads 0 stages)))

-- the action of a note that is read
pub note_among : (bends stages : ℕ) (text : List ℕ) (action : Action) (reason : Reason) → note_in bends stages text ≡ Some (action, reason) → IsActionAmong bends stages action
unfolding note_in
note_among bends stages text action reason e = subst (λ x. Each Among x) e each_note
  where
    Among : Action × Reason → Type 0
    Among x = IsActionAmong bends stages x.0

    each_note : Each Among (then_in (action_at bends stages) (reason_in stages) text)
    each_note =
        each_then (λ (a : Action × List ℕ). IsToldAction bends stages a.0 × (text ≡ spelled (action_words a.0) ++ a.1)) Among (action_at bends stages text) (λ a. reason_in stages a.1 >>= λ r. Some (a.0, r)) ((action_told bends stages).only text)
        (λ a is. each_then Any Among (reason_in stages a.1) (λ r. Some (a.0, r)) (each_any (reason_in stages a.1)) (λ r any. let low = is.0.bend.low in let high = is.0.bend.high in record { first = low; last = omega (arith, high); stage = is.0.stage.high }))

-- the same of what meets a rule that says as much
fits_reads : {A : Type 0} {P : A → Type 0} {v : A → List (List ℕ)} {f : List ℕ → Option (A × List ℕ)} (Q : A → Type 0) → ((x : A) → Q x → P x) → ((x : A) → P x → Q x) → ReadsWords P v f → ReadsWords Q v f
fits_reads {A} {P} {v} {f} Q from to one = record {
  back = λ x rest fits ends. one.back x rest (from x fits) ends;
  only = λ text.
      each_weaker (λ (x : A × List ℕ). P x.0 × (text ≡ spelled (v x.0) ++ x.1)) (λ (x : A × List ℕ). Q x.0 × (text ≡ spelled (v x.0) ++ x.1)) (f text)
      (λ x is. (to x.0 is.0, is.1)) (one.only text);
  plain = λ x fits. one.plain x (from x fits);
}

-- a number below an end that isn't large
abbrev InRange : ℕ → ℕ → ℕ → Type 0
InRange low end n = (low ≤ n) × (n < end)

range_reads : (low end : ℕ) → end ≤ 4096 → ReadsWords (InRange low end) (λ n. number n ∷ []) (count_at low end)
range_reads low end few =
    fits_reads (InRange low end) (λ n fits. record { low = fits.0; high = fits.1; short = omega (arith, few, fits.1) }) (λ n is. (is.low, is.high)) (count_reads low end)

-- what is read to the end, as something else
only_as : {A B : Type 0} {P : A → Type 0} {v : A → List (List ℕ)} {f : List ℕ → Option A} (Q : B → Type 0) (to : A → B) (text : List ℕ) → ((a : A) → P a → text ≡ spelled (v a) → Q (to a)) → ReadsAll P v f → Each Q (as_in to f text)
only_as {A} {B} {P} {v} {f} Q to text fits reads =
    each_then (λ (a : A). P a × (text ≡ spelled (v a))) Q (f text) (λ a. Some (to a)) (reads.only text) (λ a is. fits a is.0 is.1)

told_as : {A B : Type 0} {P : A → Type 0} {v : A → List (List ℕ)} {f : List ℕ → Option A} (to : A → B) (a : A) → P a → ReadsAll P v f → (as_in to f (spelled (v a)) ≡ Some (to a)) × ArePlain (v a)
told_as {A} to a fits reads = (ap (λ (o : Option A). o >>= λ x. Some (to x)) (reads.back a fits), reads.plain a fits)

-- steps
action_reads : (job : JobData) → IsSmall job → ReadsWords (IsActionOf job) action_words (action_at (bend_count job) (stage_count job))
action_reads job small =
    let bends = small.bends in
    let stages = small.stages in
    fits_reads (IsActionOf job)
    (λ a is. let last = is.last in let stage = is.stage in record {
      bend = record { low = is.first; high = omega (arith, last); short = omega (arith, last, bends) };
      stage = record { low = omega arith; high = stage; short = omega (arith, stage, stages) };
    })
    (λ a is. let high = is.bend.high in record { first = is.bend.low; last = omega (arith, high); stage = is.stage.high }) (action_told (bend_count job) (stage_count job))

abbrev gauge_words : Gauge → List (List ℕ)
gauge_words gauge = number gauge.left_face ∷ number gauge.right_face ∷ []

abbrev HasFaces : JobData → Gauge → Type 0
HasFaces job gauge = (gauge.left_face ≤ bend_count job) × (gauge.right_face ≤ bend_count job)

gauge_reads : (job : JobData) → IsSmall job → ReadsWords (HasFaces job) gauge_words (gauge_at (bend_count job))
unfolding gauge_at
gauge_reads job small =
    let face = range_reads 0 (bend_count job + 1) (omega (arith, small.bends)) in
    as_reads (HasFaces job) gauge_words (λ x. record { left_face = x.0; right_face = x.1 }) (λ g. (g.left_face, g.right_face)) (λ g. refl)
    (λ g is. ((omega arith, omega (arith, is.0)), (omega arith, omega (arith, is.1)))) (λ x is. (omega (arith, is.0.1), omega (arith, is.1.1))) (λ g. refl) (λ x. refl) (both_reads face face)

step_reads : (job : JobData) → IsSmall job → ReadsAll (IsStep job) (λ s. words_of (step_line s)) (step_in (bend_count job) (stage_count job))
unfolding step_in
step_reads job small =
    alone_reads (as_reads (IsStep job) (λ s. words_of (step_line s)) (λ x. record { action = x.0; gauge = x.1 }) (λ s. (s.action, s.gauge)) (λ s. refl)
    (λ s is. (is.action, (is.left, is.right))) (λ x is. record { action = is.0; left = is.1.0; right = is.1.1 }) (λ s. refl) (λ x. refl) (both_reads (action_reads job small) (gauge_reads job small)))

-- the claim
pub claim_reads : ReadsAll IsWorth (λ w. words_of (claim_line w)) claim_in
unfolding claim_in
claim_reads = alone_reads worth_reads

-- rows
abbrev IsKey : JobData → ℕ × ℕ × ℕ → Type 0
IsKey job k = (k.0 + 1 < 2 ^ bend_count job) × (k.1 < 24) × (k.2 < stage_count job)

key_reads : (job : JobData) → IsSmall job → ReadsWords (IsKey job) (λ k. number k.0 ∷ number k.1 ∷ number k.2 ∷ []) (key_at (bend_count job) (stage_count job))
unfolding key_at
key_reads job small =
    let masks : 2 ^ bend_count job ≤ 2 ^ 12 = pow-le-pow_right (omega arith) small.bends in
    as_reads (IsKey job) (λ k. number k.0 ∷ number k.1 ∷ number k.2 ∷ []) (λ x. (x.0, x.1.0, x.1.1)) (λ k. (k.0, (k.1, k.2))) (λ k. refl)
    (λ k is. ((omega arith, (edge k.0 (2 ^ bend_count job)).0 is.0), ((omega arith, is.1), (omega arith, is.2)))) (λ x is. ((edge x.0 (2 ^ bend_count job)).1 is.0.1, is.1.0.1, is.1.1.1)) (λ k. refl) (λ x. refl)
    (both_reads (range_reads 0 (2 ^ bend_count job - 1) (omega (arith, masks))) (both_reads (range_reads 0 24 (omega arith)) (range_reads 0 (stage_count job) (omega (arith, small.stages)))))
  where
    edge : (n end : ℕ) → (n + 1 < end) ↔ (n < end - 1)
    edge n end = (λ lt. omega (arith, lt), λ lt. omega (arith, lt))

abbrev pub row_of : Key × Worth → RowHead
row_of x = record { key = x.0; worth = x.1 }

pub row_reads : (job : JobData) → IsSmall job → ReadsAll (λ x. IsRow job (row_of x)) (λ x. words_of (row_line (row_of x))) (row_in (bend_count job) (stage_count job))
unfolding row_in
row_reads job small =
    alone_reads (as_reads (λ x. IsRow job (row_of x)) (λ x. words_of (row_line (row_of x))) (λ x. (record { mask = record { 0 = x.0.0 }; attitude = x.0.1; stage = x.0.2 }, x.1)) (λ r. ((r.0.mask.0, r.0.attitude, r.0.stage), r.1)) (λ r. refl)
    (λ r is. ((is.mask, is.attitude, is.stage), is.worth)) (λ x is. record { mask = is.0.0; attitude = is.0.1; stage = is.0.2; worth = is.1 }) (λ r. refl) (λ x. refl) (both_reads (key_reads job small) worth_reads))

-- reasons
abbrev IsMeeting : ℕ → ℕ × Quarter × ℕ → Type 0
IsMeeting end m = (m.0 ≤ 24) × (m.2 < end)

box_reads : ReadsWords (InRange 0 25) (λ n. number n ∷ []) (count_at 0 25)
box_reads = range_reads 0 25 (omega arith)

meeting_reads : (end : ℕ) → end ≤ 64 → ReadsAll (IsMeeting end) (λ m. meeting_words m.0 m.1 m.2) (meeting_in end)
unfolding meeting_in
meeting_reads end few =
    alone_reads (as_reads (IsMeeting end) (λ m. meeting_words m.0 m.1 m.2) (λ x. (x.0, x.1.0, x.1.1)) (λ m. (m.0, (m.1, m.2))) (λ m. refl) (λ m is. ((omega arith, omega (arith, is.0)), (tt, (omega arith, is.1))))
    (λ x is. (omega (arith, is.0.1), is.1.1.1)) (λ m. refl) (λ x. refl) (both_reads box_reads (both_reads quarter_reads (range_reads 0 end (omega (arith, few))))))

-- a reason of a kind that fits the job
abbrev OfKind : JobData → ℕ → List ℕ → Reason → Type 0
OfKind job kind text reason = IsReasonInRange job reason × (kind_of reason ≡ kind) × (text ≡ spelled (argument_words reason))

arguments_only : (job : JobData) (kind : ℕ) (text : List ℕ) → IsSmall job → 1 ≤ kind → kind < 10 → Each (OfKind job kind text) (arguments_in (stage_count job) kind text)
unfolding arguments_in
arguments_only job zero text small low high = absurd (omega (arith, low))
arguments_only job (suc zero) text small low high = each_end (OfKind job 1 text) Cover text (λ none. (tt, refl, none))
arguments_only job (suc (suc zero)) text small low high = only_as (OfKind job 2 text) (λ x. Rest x) text (λ x any is. (tt, refl, is)) (alone_reads half_reads)
arguments_only job (suc (suc (suc zero))) text small low high = only_as (OfKind job 3 text) (λ n. Frame n) text (λ n fits is. (omega (arith, fits.1), refl, is)) (alone_reads box_reads)
arguments_only job (suc (suc (suc (suc zero)))) text small low high =
    only_as (OfKind job 4 text) (λ m. Upper m.0 m.1 m.2) text (λ m fits is. ((fits.0, omega (arith, fits.1)), refl, is)) (meeting_reads 64 (omega arith))
arguments_only job (suc (suc (suc (suc (suc zero))))) text small low high =
    only_as (OfKind job 5 text) (λ m. Nose m.0 m.1 m.2) text (λ m fits is. (fits, refl, is)) (meeting_reads (stage_count job) (omega (arith, small.stages)))
arguments_only job (suc (suc (suc (suc (suc (suc zero)))))) text small low high =
    only_as (OfKind job 6 text) (λ m. Lower m.0 m.1 m.2) text (λ m fits is. ((fits.0, omega (arith, fits.1)), refl, is)) (meeting_reads 64 (omega arith))
arguments_only job (suc (suc (suc (suc (suc (suc (suc zero))))))) text small low high =
    only_as (OfKind job 7 text) (λ m. SelfHit m.0 m.1 m.2) text (λ m fits is. ((fits.0, omega (arith, fits.1)), refl, is)) (meeting_reads 25 (omega arith))
arguments_only job (suc (suc (suc (suc (suc (suc (suc (suc zero)))))))) text small low high = each_end (OfKind job 8 text) NoGauge text (λ none. (tt, refl, none))
arguments_only job (suc (suc (suc (suc (suc (suc (suc (suc (suc zero))))))))) text small low high = each_end (OfKind job 9 text) Load text (λ none. (tt, refl, none))
arguments_only job (suc (suc (suc (suc (suc (suc (suc (suc (suc (suc kind)))))))))) text small low high = absurd (omega (arith, high))

-- a reason's arguments are read back, and its kind has a number
read_back : (job : JobData) (r : Reason) → IsSmall job → IsReasonInRange job r → ((arguments_in (stage_count job) (kind_of r) (spelled (argument_words r)) ≡ Some r) × ArePlain (argument_words r)) × InRange 1 10 (kind_of r)
unfolding arguments_in
read_back job Cover small is = ((refl, tt), (omega arith, omega arith))
read_back job (Rest half) small is = (told_as (λ x. Rest x) half tt (alone_reads half_reads), (omega arith, omega arith))
read_back job (Frame box) small is = (told_as (λ n. Frame n) box (omega arith, omega (arith, is)) (alone_reads box_reads), (omega arith, omega arith))
read_back job (Upper box q other) small is = (told_as (λ m. Upper m.0 m.1 m.2) (box, q, other) (is.0, omega (arith, is.1)) (meeting_reads 64 (omega arith)), (omega arith, omega arith))
read_back job (Nose box q other) small is = (told_as (λ m. Nose m.0 m.1 m.2) (box, q, other) is (meeting_reads (stage_count job) (omega (arith, small.stages))), (omega arith, omega arith))
read_back job (Lower box q other) small is = (told_as (λ m. Lower m.0 m.1 m.2) (box, q, other) (is.0, omega (arith, is.1)) (meeting_reads 64 (omega arith)), (omega arith, omega arith))
read_back job (SelfHit box q other) small is = (told_as (λ m. SelfHit m.0 m.1 m.2) (box, q, other) (is.0, omega (arith, is.1)) (meeting_reads 25 (omega arith)), (omega arith, omega arith))
read_back job NoGauge small is = ((refl, tt), (omega arith, omega arith))
read_back job Load small is = ((refl, tt), (omega arith, omega arith))

reason_reads : (job : JobData) → IsSmall job → ReadsAll (IsReasonInRange job) reason_words (reason_in (stage_count job))
unfolding reason_in
reason_reads job small = record {
  back = λ r is.
      ap (λ (t : List ℕ). reason_in (stage_count job) t) (flat_map-append spaced (number (kind_of r) ∷ []) (argument_words r))
      ∙ ap (λ (o : Option (ℕ × List ℕ)). o >>= λ k. arguments_in (stage_count job) k.0 k.1) (kind.back (kind_of r) (spelled (argument_words r)) (read_back job r small is).1 (ends_words (argument_words r))) ∙ (read_back job r small is).0.0;
  only = λ text.
      let Is : Reason → Type 0 = λ r. IsReasonInRange job r × (text ≡ spelled (reason_words r)) in
      each_then (λ (k : ℕ × List ℕ). InRange 1 10 k.0 × (text ≡ spelled (number k.0 ∷ []) ++ k.1)) Is (count_at 1 10 text) (λ k. arguments_in (stage_count job) k.0 k.1) (kind.only text)
      (λ k is. each_weaker (OfKind job k.0 k.1) Is (arguments_in (stage_count job) k.0 k.1) (λ r of. (of.0, is.1 ∙ ap (λ (t : List ℕ). spelled (number k.0 ∷ []) ++ t) of.2 ∙ sym (flat_map-append spaced (number k.0 ∷ []) (argument_words r)) ∙ ap (λ (n : ℕ). spelled (number n ∷ argument_words r)) (sym of.1)))
      (arguments_only job k.0 k.1 small is.0.0 is.0.1));
  plain = λ r is. let told = read_back job r small is in let high = told.1.1 in (number_plain (kind_of r) (omega (arith, high)), told.0.1);
}
  where
    kind : ReadsWords (InRange 1 10) (λ n. number n ∷ []) (count_at 1 10)
    kind = range_reads 1 10 (omega arith)

pub note_reads : (job : JobData) → IsSmall job → ReadsAll (λ n. IsActionOf job n.0 × IsReasonInRange job n.1) (λ n. words_of (note_line n.0 n.1)) (note_in (bend_count job) (stage_count job))
unfolding note_in
note_reads job small = then_reads (action_reads job small) (reason_reads job small)

-- a line behind the job, but for the end, that fits the job
abbrev pub IsPlanLine : JobData → CertLine → Type 0
IsPlanLine job (claim_line claim) = IsWorth claim
IsPlanLine job (step_line step) = IsStep job step
IsPlanLine job (row_line row) = IsRow job row
IsPlanLine job (note_line action reason) = IsActionOf job action × IsReasonInRange job reason
IsPlanLine job _ = ⊥

-- it is read back, and its words are plain
line_told : (job : JobData) (line : CertLine) → IsSmall job → IsPlanLine job line
    → (plan_line_in (bend_count job) (stage_count job) (keyword_in (line_bytes line)) (behind_keyword (line_bytes line)) ≡ Some line) × ArePlain (words_of line)
unfolding plan_line_in plan_words_in
line_told job (claim_line claim) small is = told_as (λ c. claim_line c) claim is claim_reads
line_told job (step_line step) small is = told_as (λ s. step_line s) step is (step_reads job small)
line_told job (row_line row) small is = told_as (λ r. row_line (row_of r)) (row.key, row.worth) is (row_reads job small)
line_told job (note_line action reason) small is = told_as (λ n. note_line n.0 n.1) (action, reason) is (note_reads job small)
line_told job _ small is = absurd is

-- nothing else is read
abbrev IsTold : JobData → List ℕ → List ℕ → CertLine → Type 0
IsTold job keyword text line = IsPlanLine job line × (keyword ≡ keyword_of line) × (text ≡ spelled (words_of line))

abbrev keyword_for : PlanLine → List ℕ
keyword_for kinds.Claim = codes "claim"
keyword_for kinds.Step = codes "step"
keyword_for kinds.Row = codes "row"
keyword_for kinds.Note = codes "x"

keyword_is : (w : List ℕ) → Each (λ kind. w ≡ keyword_for kind) (plan_line_of w)
keyword_is w =
    let P : PlanLine → Type 0 = λ kind. w ≡ keyword_for kind in
    by_word P w (codes "claim") kinds.Claim _ (λ e. e) (by_word P w (codes "step") kinds.Step _ (λ e. e) (by_word P w (codes "row") kinds.Row _ (λ e. e) (by_word P w (codes "x") kinds.Note None (λ e. e) tt)))

words_only : (job : JobData) (kind : PlanLine) (text : List ℕ) → IsSmall job → Each (IsTold job (keyword_for kind) text) (plan_words_in (bend_count job) (stage_count job) kind text)
unfolding plan_words_in
words_only job kinds.Claim text small = only_as (IsTold job (codes "claim") text) (λ c. claim_line c) text (λ c fits is. (fits, refl, is)) claim_reads
words_only job kinds.Step text small = only_as (IsTold job (codes "step") text) (λ s. step_line s) text (λ s fits is. (fits, refl, is)) (step_reads job small)
words_only job kinds.Row text small = only_as (IsTold job (codes "row") text) (λ r. row_line (row_of r)) text (λ r fits is. (fits, refl, is)) (row_reads job small)
words_only job kinds.Note text small = only_as (IsTold job (codes "x") text) (λ n. note_line n.0 n.1) text (λ n fits is. (fits, refl, is)) (note_reads job small)

plan_line_only : (job : JobData) (text : List ℕ) → IsSmall job → Each (λ (line : CertLine). IsPlanLine job line × (text ≡ line_bytes line)) (plan_line_in (bend_count job) (stage_count job) (keyword_in text) (behind_keyword text))
unfolding plan_line_in
plan_line_only job text small =
    let key = keyword_in text in
    let Is : CertLine → Type 0 = λ line. IsPlanLine job line × (text ≡ line_bytes line) in
    each_then (λ kind. key ≡ keyword_for kind) Is (plan_line_of key) (λ kind. plan_words_in (bend_count job) (stage_count job) kind (behind_keyword text)) (keyword_is key)
    (λ kind of. each_weaker (IsTold job (keyword_for kind) (behind_keyword text)) Is (plan_words_in (bend_count job) (stage_count job) kind (behind_keyword text)) (λ line is. (is.0, each_line text line (of ∙ is.1) is.2)) (words_only job kind (behind_keyword text) small))

pub plan_lines_read : (job : JobData) → IsSmall job → ReadsLines (IsPlanLine job) (λ text. plan_line_in (bend_count job) (stage_count job) (keyword_in text) (behind_keyword text))
plan_lines_read job small = record { back = λ line is. (line_told job line small is).0; only = λ text. plan_line_only job text small; plain = λ line is. (line_told job line small is).1 }
