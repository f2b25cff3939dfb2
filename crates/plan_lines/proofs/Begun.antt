-- What a reader of a whole text knows by how many answers it gave, and what the next answer leaves.
use Rattle.std.proofs.Common.{◌≡◌, ℕ, ◌+◌, ◌<◌, List, [], ◌++◌, drop, Some, Result, Ok, Err, sym, ap, subst, ◌∙◌, lt-ltb, arith}
use Rattle.std.specs.Prelude.{nat_lt, slice_get}
use Rattle.std.proofs.lemmas.List.{append-nil}
use Rattle.cert_lines.specs.declared.format.TextKind.{TextKind}
use Rattle.plan_lines.specs.declared.item.Item.{Item}
use Rattle.plan_lines.specs.declared.item.Item.TheVariants as item
use Rattle.plan_lines.specs.declared.item.CertFault.{CertFault}
use Rattle.plan_lines.specs.declared.item.CertFault.TheVariants as faults
use Rattle.plan_lines.specs.declared.line_place.LinePlace.{LinePlace}
use Rattle.plan_lines.specs.Reading.{Leaves, LeavesBy, LeavesAt, GivesNext, HoldsBefore}
use Rattle.plan_lines.specs.Items.{items}
use Rattle.plan_lines.proofs.ItemCounts.{answer_at, answers_behind}

-- behind the first answer those behind the job are left
pub leaves_at : (kind : TextKind) (place : LinePlace) (rest : List ℕ) (left : List (Result Item CertFault)) (answered : ℕ) → 0 < answered → Leaves answered kind place rest left → LeavesAt place (rest ++ []) left
leaves_at kind place rest left answered some leaves = subst (λ (t : List ℕ). LeavesAt place t left) (sym (append-nil rest)) (subst (λ b. LeavesBy b kind place rest left) (lt-ltb 0 answered some) leaves)

-- what is left behind an answer
pub leaves_next : (answered : ℕ) (kind : TextKind) (place : LinePlace) (rest : List ℕ) (answers more : List (Result Item CertFault)) → 0 < answered → answers ≡ more → LeavesAt place (rest ++ []) more → Leaves answered kind place rest answers
leaves_next answered kind place rest answers more some same left =
    subst (λ b. LeavesBy b kind place rest answers) (sym (lt-ltb 0 answered some)) (subst (λ (t : List ℕ). LeavesAt place t answers) (append-nil rest) (subst (λ a. LeavesAt place (rest ++ []) a) (sym same) left))

-- what is given is the next of all answers, and the others are left
pub answered_on : (kind : TextKind) (place : LinePlace) (rest : List ℕ) (all : List (Result Item CertFault)) (answered : ℕ) (given : Result Item CertFault) → GivesNext (drop answered all) given place (rest ++ [])
    → (slice_get all answered ≡ Some given) × Leaves (answered + 1) kind place rest (drop (answered + 1) all)
answered_on kind place rest all answered given gives =
    let (more, first, left) = gives in (
      answer_at all more answered given first,
      leaves_next (answered + 1) kind place rest (drop (answered + 1) all) more (omega arith) (answers_behind all more answered given first) left,
    )

-- the same of the first answer, before which those of the whole text are left
pub first_answered : (kind : TextKind) (place next : LinePlace) (text rest : List ℕ) (all : List (Result Item CertFault)) (answered : ℕ) (given : Result Item CertFault) → answered ≡ 0 → Leaves answered kind place text (drop answered all)
    → GivesNext (items kind (text ++ [])) given next (rest ++ []) → (slice_get all answered ≡ Some given) × Leaves (answered + 1) kind next rest (drop (answered + 1) all)
first_answered kind place next text rest all answered given none leaves gives =
    let left : drop answered all ≡ items kind text = subst (λ b. LeavesBy b kind place text (drop answered all)) (ap (λ (n : ℕ). nat_lt 0 n) none) leaves in
    answered_on kind next rest all answered given (subst (λ answers. GivesNext answers given next (rest ++ [])) (ap (λ (t : List ℕ). items kind t) (append-nil text) ∙ sym left) gives)

-- where nothing is behind the bytes that were read, any answer is the text's
pub holds_last : {behind : List ℕ} (given : Result Item CertFault) → behind ≡ [] → HoldsBefore given behind
holds_last (Ok (item.Job job)) last = tt
holds_last (Ok (item.Claim claim)) last = tt
holds_last (Ok (item.Step step)) last = tt
holds_last (Ok (item.Row row)) last = tt
holds_last (Ok (item.Note action reason)) last = tt
holds_last (Ok item.End) last = last
holds_last (Err (faults.BadLine line)) last = tt
holds_last (Err faults.Unended) last = last
holds_last (Err faults.Trailing) last = tt
holds_last (Err faults.BadJob) last = tt
holds_last (Err faults.NoMemory) last = tt
