-- How many answers a text has.
use Rattle.std.proofs.Common.{inl, inr, map, ◌≡◌, ℕ, zero, suc, ◌+◌, ◌<◌, ◌≤◌, List, [], ◌∷◌, length, drop, Some, Result, refl, ap, sym, ◌∙◌, arith}
use Rattle.std.specs.Prelude.{slice_get}
use Rattle.std.proofs.lemmas.Bool.{cond_both}
use Rattle.std.proofs.lemmas.List.{drop-drop, length-append, length-drop}
use Rattle.std.proofs.lemmas.List.Splits.{length-slice_split}
use Rattle.std.proofs.lemmas.List.Sums.{count_by-le-length}
use Rattle.brake_text.specs.Lines.{is_line_feed}
use Rattle.job_setup.specs.Setup.{JobData}
use Rattle.cert_lines.specs.declared.format.TextKind.{TextKind}
use Rattle.cert_lines.specs.declared.format.Format.{Format}
use Rattle.plan_lines.specs.declared.item.Item.{Item}
use Rattle.plan_lines.specs.declared.item.CertFault.{CertFault}
use Rattle.plan_lines.specs.declared.section.Section.{Section}
use Rattle.plan_lines.specs.PlanReading.{first_section}
use Rattle.cert_lines.specs.JobText.{job_lines}
use Rattle.cert_lines.specs.Lines.{lines_of_format}
use Rattle.cert_lines.specs.LineReading.{lines_in}
use Rattle.plan_lines.specs.Items.{next_number, is_over, plan_item, plan_items, items_of_lines, items}
use Rattle.cert_lines.proofs.TextLines.{line_bytes}
use Rattle.cert_lines.proofs.WholeLines.{some_line}
use Rattle.plan_lines.proofs.JobSplits.{Shaped, Begins, lines_begin}

-- a line behind the job has at most one answer
few_behind : (format : Format) (job : JobData) (n : ℕ) (section : Section) (lines : List (List ℕ)) → length (plan_items format job n section lines) ≤ length lines
unfolding plan_items
few_behind format job n section [] = omega arith
few_behind format job n section (line ∷ rest) =
    let next = plan_item format job n section line rest in
    let more = plan_items format job (next_number n) next.1 rest in
    let few = few_behind format job (next_number n) next.1 rest in
    cond_both (is_over section) [] (next.0 ∷ more) (λ answers. length answers ≤ length (line ∷ rest)) (λ over. omega arith) (λ on. omega (arith, few))

few_of_lines : (kind : TextKind) (lines : List (List ℕ)) → 0 < length lines → length (items_of_lines kind lines) ≤ length lines + 1
few_of_lines kind lines some = by_shape (lines_begin kind lines some)
  where
    answers : List (Result Item CertFault)
    answers = items_of_lines kind lines

    by_shape : Shaped answers (Begins kind lines answers) → length answers ≤ length lines + 1
    by_shape (inl refused) = let one = ap (λ (a : List (Result Item CertFault)). length a) refused.1 in omega (arith, one)
    by_shape (inr begins) =
        let own = map line_bytes (lines_of_format begins.format (job_lines begins.job)) in
        let all = ap (λ (ls : List (List ℕ)). length ls) begins.lines_are in
        let both = length-append own begins.rest in
        let gives = ap (λ (a : List (Result Item CertFault)). length a) begins.behind in
        let few = few_behind begins.format begins.job begins.number (first_section begins.format) begins.rest in
        omega (arith, all, both, gives, few)

-- a text has at most two more answers than bytes
pub few_items : (kind : TextKind) (text : List ℕ) → length (items kind text) ≤ length text + 2
unfolding items
few_items kind text = omega (arith, few_of_lines kind (lines_in text) (some_line text), length-slice_split is_line_feed text, count_by-le-length is_line_feed text)

-- the answer at a number, and those behind it
pub answer_at : (answers more : List (Result Item CertFault)) (i : ℕ) (given : Result Item CertFault) → drop i answers ≡ given ∷ more → slice_get answers i ≡ Some given
answer_at answers more i given e = first answers i ∙ ap (λ (left : List (Result Item CertFault)). slice_get left 0) e
  where
    first : (xs : List (Result Item CertFault)) (i : ℕ) → slice_get xs i ≡ slice_get (drop i xs) 0
    first [] zero = refl
    first [] (suc i) = refl
    first (x ∷ xs) zero = refl
    first (x ∷ xs) (suc i) = first xs i

pub answers_behind : (answers more : List (Result Item CertFault)) (i : ℕ) (given : Result Item CertFault) → drop i answers ≡ given ∷ more → drop (i + 1) answers ≡ more
answers_behind answers more i given e = sym (drop-drop 1 i answers) ∙ ap (λ (left : List (Result Item CertFault)). drop 1 left) e

pub some_left : (answers : List (Result Item CertFault)) (i : ℕ) → i < length answers → 0 < length (drop i answers)
some_left answers i within = omega (arith, within, length-drop i answers)
