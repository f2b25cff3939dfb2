-- The items of a certificate give it back, and their lines are those that are written of it.
use Rattle.std.proofs.Common.{◌≡◌, ℕ, suc, ◌+◌, ◌-◌, ◌^◌, ◌<◌, ◌≤◌, Bool, true, List, [], ◌∷◌, ◌++◌, length, map, filter, drop, get_or, All, Result, Ok, refl, sym, ap, subst, ◌∙◌, append_assoc, lt-ltb, eqb-true, min, arith}
use Rattle.std.specs.Prelude.{if◌then◌else◌}
use Rattle.std.specs.List.{flat_map, enumerate_from, prefix_len}
use Rattle.std.proofs.lemmas.List.{append-nil, length-append, map-append, take-append-drop}
use Rattle.std.proofs.lemmas.List.Elements.{All-drop, All-tail, All-weaker, filter_passes}
use Rattle.brake_base.specs.declared.stroke.Step.{Step}
use Rattle.plan_lines.specs.declared.item.Item.{Item}
use Rattle.plan_lines.specs.declared.item.Item.TheVariants as given
use Rattle.cert_lines.specs.declared.row_head.RowHead.{RowHead}
use Rattle.plan_lines.specs.declared.note.Note.{Note}
use Rattle.plan_lines.specs.declared.item.CertFault.{CertFault}
use Rattle.job_setup.specs.Setup.{JobData}
use Rattle.plan_cert.specs.Cert.{CertData}
use Rattle.plan_cert.specs.CertItems.{row_items}
use Rattle.plan_cert.specs.CertReading.{cert_of}
use Rattle.plan_cert.specs.WellFormed.{AreRows}
use Rattle.plan_cert.proofs.NoteOrder.{is_of, Ascend, ascend, split, same_rows}

abbrev pub item_of : Note → Item
item_of note = given.Note note.action note.reason

-- the certificate that the items give
abbrev pub oks : List Item → List (Result Item CertFault)
oks items = map Ok items

pub fold_steps : (c : CertData) (steps : List Step) (more : List (Result Item CertFault)) → length c.steps + length steps ≤ 12 → cert_of c (oks (map given.Step steps) ++ more) ≡ cert_of (record c { steps = c.steps ++ steps }) more
unfolding cert_of
fold_steps c [] more few = ap (λ (xs : List Step). cert_of (record c { steps = xs }) more) (sym (append-nil c.steps))
fold_steps c (s ∷ steps) more few =
    let longer : length (c.steps ++ s ∷ []) ≡ length c.steps + 1 = length-append c.steps (s ∷ []) in
    ap (λ (b : Bool). cert_of (if b then record c { steps = c.steps ++ s ∷ [] } else c) (oks (map given.Step steps) ++ more)) (lt-ltb (length c.steps) 12 (omega (arith, few)))
    ∙ fold_steps (record c { steps = c.steps ++ s ∷ [] }) steps more (omega (arith, longer, few))
    ∙ ap (λ (xs : List Step). cert_of (record c { steps = xs }) more) (append_assoc c.steps (s ∷ []) steps)

number_of_row : (n i : ℕ) → n ≡ i + 1 → i < 2 ^ 20 → min (n - 1) (2 ^ 32 - 1) ≡ i
number_of_row n i is few = omega (arith, is, few)

fold_notes : (c : CertData) (i : ℕ) (own : List Note) (more : List (Result Item CertFault)) → length c.rows ≡ i + 1 → i < 2 ^ 20 → All (λ note. note.row ≡ i) own → cert_of c (oks (map item_of own) ++ more) ≡ cert_of (record c { notes = c.notes ++ own }) more
unfolding cert_of
fold_notes c i [] more rows few all = ap (λ (ns : List Note). cert_of (record c { notes = ns }) more) (sym (append-nil c.notes))
fold_notes c i (note ∷ own) more rows few all =
    let here : min (length c.rows - 1) (2 ^ 32 - 1) ≡ note.row = number_of_row (length c.rows) i rows few ∙ sym (all 0 note (omega arith)) in
    ap (λ (r : ℕ). cert_of (record c { notes = c.notes ++ record { row = r; action = note.action; reason = note.reason } ∷ [] }) (oks (map item_of own) ++ more)) here
    ∙ fold_notes (record c { notes = c.notes ++ note ∷ [] }) i own more rows few (All-tail (λ n. n.row ≡ i) note own all)
    ∙ ap (λ (ns : List Note). cert_of (record c { notes = ns }) more) (append_assoc c.notes (note ∷ []) own)

abbrev pub own_notes : List Note → ℕ × RowHead → List Note
own_notes notes row = filter (is_of row.0) notes

pub of_own : (row : ℕ) (notes : List Note) → All (λ note. note.row ≡ row) (filter (is_of row) notes)
of_own row notes = All-weaker (λ note. is_of row note ≡ true) (λ note. note.row ≡ row) (λ note e. eqb-true note.row row e) (filter (is_of row) notes) (filter_passes (is_of row) notes)

pub fold_rows : (c : CertData) (i : ℕ) (rest : List RowHead) (notes : List Note) (more : List (Result Item CertFault)) → length c.rows ≡ i → i + length rest ≤ 2 ^ 20
    → cert_of c (oks (flat_map (row_items notes) (enumerate_from i rest)) ++ more) ≡ cert_of (record c { rows = c.rows ++ rest; notes = c.notes ++ flat_map (own_notes notes) (enumerate_from i rest) }) more
unfolding cert_of
fold_rows c i [] notes more at few =
    ap (λ (rs : List RowHead). cert_of (record c { rows = rs }) more) (sym (append-nil c.rows)) ∙ ap (λ (ns : List Note). cert_of (record c { rows = c.rows ++ []; notes = ns }) more) (sym (append-nil c.notes))
fold_rows c i (row ∷ rest) notes more at few =
    let own = filter (is_of i) notes in
    let later = flat_map (own_notes notes) (enumerate_from (i + 1) rest) in
    let behind = flat_map (row_items notes) (enumerate_from (i + 1) rest) in
    let c1 : CertData = record c { rows = c.rows ++ row ∷ [] } in
    let longer : length (c.rows ++ row ∷ []) ≡ i + 1 = length-append c.rows (row ∷ []) ∙ ap (λ n. n + 1) at in
    ap (λ (a : List (Result Item CertFault)). cert_of c1 (a ++ more)) (map-append Ok (map item_of own) behind) ∙ ap (cert_of c1) (append_assoc (oks (map item_of own)) (oks behind) more)
    ∙ fold_notes c1 i own (oks behind ++ more) longer (omega (arith, few)) (of_own i notes)
    ∙ fold_rows (record c1 { notes = c.notes ++ own }) (i + 1) rest notes more longer (omega (arith, few))
    ∙ ap (λ (rs : List RowHead). cert_of (record c { rows = rs; notes = (c.notes ++ own) ++ later }) more) (append_assoc c.rows (row ∷ []) rest)
    ∙ ap (λ (ns : List Note). cert_of (record c { rows = c.rows ++ row ∷ rest; notes = ns }) more) (append_assoc c.notes own later)

-- the notes of the rows in order are the notes
pub all_own : (i : ℕ) (rest : List RowHead) (notes : List Note) → Ascend i notes → ((k : ℕ) (d : Note) → k < length notes → (get_or notes k d).row < i + length rest) → flat_map (own_notes notes) (enumerate_from i rest) ≡ notes
all_own i [] [] up below = refl
all_own i [] (note ∷ notes) up below = absurd (let less = below 0 note (omega arith) in omega (arith, less, up.0))
all_own i (row ∷ rest) notes up below =
    let count = prefix_len (is_of i) notes in
    let s = split i notes up in
    let one : suc i ≡ i + 1 = omega arith in
    let dropped = All-weaker (λ n. n.row < i + length (row ∷ rest)) (λ n. n.row < (i + 1) + length rest) (λ n less. omega (arith, less)) (drop count notes) (All-drop (λ n. n.row < i + length (row ∷ rest)) count notes below) in
    let more = all_own (i + 1) rest (drop count notes) (subst (λ n. Ascend n (drop count notes)) one s.rest) dropped in
    let others = same_rows (λ row own. own) (i + 1) rest (drop count notes) notes (λ j le. s.others j (omega (arith, le))) in
    ap (λ (ns : List Note). filter (is_of i) notes ++ ns) (sym others ∙ more) ∙ ap (λ (ns : List Note). ns ++ drop count notes) (sym s.front) ∙ take-append-drop count notes

pub all_notes : (job : JobData) (rows : List RowHead) (notes : List Note) → AreRows job rows notes → flat_map (own_notes notes) (enumerate_from 0 rows) ≡ notes
all_notes job rows notes are = all_own 0 rows notes (ascend 0 notes (λ d some. omega arith) are.note_order) (λ k d within. let inside = (are.each_note k d within).row in omega (arith, inside))
