-- Known notes that are taken at once: what is made of their answers, and that others stand behind them.
use Rattle.std.proofs.Common.{◌≡◌, ℕ, ◌+◌, ◌<◌, ◌==◌, List, [], ◌∷◌, ◌++◌, length, drop, map, inl, inr, subst, Result, refl, sym, ap, ◌∙◌, arith}
use Rattle.std.specs.List.{list_any}
use Rattle.std.proofs.lemmas.List.{append_assoc, append-nil, length-append, length-drop, length-map}
use Rattle.stage_lanes.specs.declared.actions.ActionSet.{ActionSet}
use Rattle.stage_lanes.specs.ActionSets.{IsNone, places_of}
use Rattle.plan_lines.specs.declared.note.Note.{Note}
use Rattle.plan_lines.specs.declared.item.Item.{Item}
use Rattle.plan_lines.specs.declared.item.Item.TheVariants as given
use Rattle.plan_lines.specs.declared.item.CertFault.{CertFault}
use Rattle.plan_lines.specs.Reading.{Reading}
use Rattle.plan_cert.specs.Cert.{CertData}
use Rattle.plan_lines.specs.Items.{items}
use Rattle.plan_cert.specs.CertReading.{cert_of, with_item, with_known, last_row}
use Rattle.plan_lines.specs.NoteLines.{note_by}
use Rattle.plan_lines.specs.NoteLines.{KnownReasons, number_at, reason_at, or_cover, note_told}
use Rattle.std.proofs.lemmas.Bool.{false≢true}
use Rattle.plan_cert.proofs.Runs.{Ends}
use Rattle.plan_cert.proofs.Collecting.{ends_items, ends_at, some_by}
use Rattle.plan_lines.proofs.NoteSets.{any_place}

-- what is made of the answers of known notes
pub known_read : (known : KnownReasons) (places : List ℕ) (before : CertData) (left : List (Result Item CertFault)) → cert_of before (map (note_told known) places ++ left) ≡ cert_of (with_known before known places) left
unfolding cert_of
known_read known [] before left = ap (λ (ns : List Note). cert_of (record before { notes = ns }) left) (sym (append-nil before.notes))
known_read known (place ∷ places) before left =
    let item : Item = given.Note (number_at known.stages place) (or_cover (reason_at known place)) in
    known_read known places (with_item before item) left
    ∙ ap (λ (ns : List Note). cert_of (record before { notes = ns }) left)
    (append_assoc before.notes (note_by (last_row before) known place ∷ []) (map (note_by (last_row before) known) places))

-- behind known notes an answer is left
ends_behind : (known : KnownReasons) (places : List ℕ) (left : List (Result Item CertFault)) → Ends (map (note_told known) places ++ left) → Ends left
ends_behind known [] left ends = ends
ends_behind known (place ∷ places) left (inl last) = absurd (false≢true last.0)
ends_behind known (place ∷ places) left (inr rest) = ends_behind known places left rest.1

pub known_behind : (r : Reading) (known : KnownReasons) (places : List ℕ) → 0 < length places
    → drop r.answered (items r.kind r.text) ≡ map (note_told known) places ++ drop (r.answered + length places) (items r.kind r.text) → r.answered + length places < length (items r.kind r.text)
known_behind r known places some told =
    let all = items r.kind r.text in
    let behind = drop (r.answered + length places) all in
    let count = length-map places (note_told known) in
    let within : r.answered < length all = omega (arith, ap length told, count, some, length-append (map (note_told known) places) behind, length-drop r.answered all) in
    let ends = ends_behind known places behind (subst (λ a. Ends a) told (ends_at all r.answered (ends_items r.kind r.text) within)) in
    omega (arith, some_by behind ends, length-drop (r.answered + length places) all)

-- a set that isn't empty has a place
some_or_none : (places : List ℕ) → (places ≡ [] → ⊥) → 0 < length places
some_or_none [] some = absurd (some refl)
some_or_none (place ∷ places) some = omega arith

pub some_places : (set : ActionSet) → (IsNone set → ⊥) → 0 < length (places_of set)
some_places set some =
    some_or_none (places_of set) (λ none. some (λ place within. sym (any_place (λ k. k == place) set place within (λ k low is. refl)) ∙ ap (list_any (λ k. k == place)) none))
