-- The text of the keys that are left, and that of a table put together from it.
use Rattle.std.proofs.Common.{◌≡◌, inl, inr, ℕ, zero, suc, ◌+◌, ◌-◌, ◌*◌, ◌/◌, ◌%◌, ◌^◌, ◌<◌, ◌≤◌, Bool, true, false, if◌then◌else◌, List, [], ◌∷◌, ◌++◌, length, map, All, Option, Some, None, refl, sym, ◌∙◌, ap, subst, arith, append_assoc, append-nil, length-append}
use Rattle.std.specs.Prelude.{codes, slice_get, slice_index_or, min, nat_lt}
use Rattle.std.proofs.Math.Nat.{pow-le-pow_right}
use Rattle.std.proofs.lemmas.Bool.{cases_lt}
use Rattle.std.proofs.lemmas.Int.{clamps}
use Rattle.std.proofs.lemmas.Grind.{common_steps}
use Rattle.std.proofs.lemmas.List.{map-append}
use Rattle.std.proofs.lemmas.Option.{same_Some}
use Rattle.brake_base.specs.declared.stroke.Key.{Key}
use Rattle.brake_base.specs.declared.stroke.Worth.{Worth}
use Rattle.brake_base.specs.declared.reason.Reason.{Reason}
use Rattle.job_setup.specs.Setup.{JobData, bend_count, stage_count}
use Rattle.job_setup.specs.ValidJob.{IsJob}
use Rattle.plan_lines.specs.declared.note.Note.{Note}
use Rattle.cert_lines.specs.declared.row_head.RowHead.{RowHead}
use Rattle.cert_lines.specs.JobText.{job_text}
use Rattle.cert_lines.specs.Lines.{CertLine, lines_text, row_line}
use Rattle.plan_cert.specs.CertText.{line_of_note, rows_lines}
use Rattle.plan_cert.proofs.RowOrder.{few_stages}
use Rattle.handling_cost.proofs.Actions.{few_bends}
use Rattle.row_text.proofs.MoreRows.{AreAt, more_text}
use Rattle.cert_merge.specs.declared.set_writer.SetWriter.{SetWriter}
use Rattle.cert_merge.specs.declared.settled_sets.SettledSet.{SettledSet}
use Rattle.cert_merge.specs.declared.settled_sets.SettledSets.{SettledSets}
use Rattle.cert_merge.specs.Table.{TableData}
use Rattle.cert_merge.specs.MergeSteps.{head_of, noted_as, notes_upto, most_actions, with_row, written}
use Rattle.cert_merge.specs.Settling.{key_of, AreSettledBy, HasSets, IsKeyAt}
use Rattle.cert_merge.specs.SetRows.{CanBeWritten, IsSetOf, IsWriterOf, row_of, rows_text, IsRowPut}
use Rattle.cert_merge.specs.SettledPieces.{AreRowsPut, row_text, place_text, rest_text, CanBePut, CanGoOn, GoesOnTo, IsWholeText}
use Rattle.cert_merge.proofs.SetNotes.{worth_written}
use Rattle.cert_merge.specs.TextLeft.{end_text, text_left, GoesOn}
use Rattle.cert_merge.proofs.TextEnds.{gone_further}
use Rattle.cert_merge.proofs.PutRows.{ArePutBefore, key_among, put_none, put_more, put_same, put_all, set_there}

-- ---- the text of a row by itself
-- the notes of a row are of it
at_all : (row : ℕ) (xs ys : List Note) → AreAt row xs → AreAt row ys → AreAt row (xs ++ ys)
at_all row [] ys first last = last
at_all row (x ∷ xs) ys first last = (first.0, at_all row xs ys first.1 last)

noted_at : (row action : ℕ) (reason : Option Reason) → AreAt row (noted_as row action reason)
noted_at row action None = tt
noted_at row action (Some reason) = (refl, tt)

pub notes_at : (row : ℕ) (reasons : ℕ → Option Reason) (count : ℕ) → AreAt row (notes_upto row reasons count)
notes_at row reasons zero = tt
notes_at row reasons (suc count) = at_all row (notes_upto row reasons count) (noted_as row count (reasons count)) (notes_at row reasons count) (noted_at row count (reasons count))

-- their lines don't tell its number
same_line : (stages row other action : ℕ) (reason : Option Reason) → map (line_of_note stages) (noted_as row action reason) ≡ map (line_of_note stages) (noted_as other action reason)
same_line stages row other action None = refl
same_line stages row other action (Some reason) = refl

pub same_lines : (stages row other : ℕ) (reasons : ℕ → Option Reason) (count : ℕ) → map (line_of_note stages) (notes_upto row reasons count) ≡ map (line_of_note stages) (notes_upto other reasons count)
same_lines stages row other reasons zero = refl
same_lines stages row other reasons (suc count) =
    map-append (line_of_note stages) (notes_upto row reasons count) (noted_as row count (reasons count))
    ∙ (λ i. same_lines stages row other reasons count i ++ same_line stages row other count (reasons count) i)
    ∙ sym (map-append (line_of_note stages) (notes_upto other reasons count) (noted_as other count (reasons count)))

pub no_lines : (stages : ℕ) → rows_text stages (written []) ≡ []
unfolding rows_lines
no_lines stages = refl

module _ (stages : ℕ) (key : Key) (set : SettledSet) where
  abbrev head : RowHead
  head = head_of (row_of set key)

  abbrev reasons : ℕ → Option Reason
  reasons action = slice_index_or set.reasons action None

  abbrev own : ℕ → List Note
  own row = notes_upto row reasons most_actions

  -- the lines of the row, which don't tell its number
  abbrev lines : ℕ → List ℕ
  lines row = lines_text (row_line head ∷ map (line_of_note stages) (own row))

  one_row : row_text stages key (Some set) ≡ lines 0
  one_row = more_text stages [] head [] (own 0) (λ i d within. absurd (omega (arith, within))) (notes_at 0 reasons most_actions) ∙ ap (λ (t : List ℕ). t ++ lines 0) (no_lines stages)

  more_row : (t : TableData) → All (λ note. note.row < length t.rows) t.notes → rows_text stages (with_row t (row_of set key)) ≡ rows_text stages t ++ row_text stages key (Some set)
  more_row t all =
      more_text stages t.rows head t.notes (own (length t.rows)) all (notes_at (length t.rows) reasons most_actions)
      ∙ ap (λ (ls : List CertLine). rows_text stages t ++ lines_text (row_line head ∷ ls)) (same_lines stages (length t.rows) 0 reasons most_actions)
      ∙ ap (λ (text : List ℕ). rows_text stages t ++ text) (sym one_row)

-- a text that goes on with a row is one of a row more
row_goes_on : (settled : SettledSets) (stages : ℕ) (key : Key) (set : SettledSet) (old : List ℕ) → IsSetOf settled key.mask set → IsRowPut stages settled key old (old ++ row_text stages key (Some set))
row_goes_on settled stages key set old is other its before t all text =
    let same : other ≡ set = same_Some other set (sym its ∙ is) in
    ap (λ (x : List ℕ). x ++ row_text stages key (Some set)) text ∙ append_assoc before (rows_text stages t) (row_text stages key (Some set))
    ∙ ap (λ (x : List ℕ). before ++ x) (sym (more_row stages key set t all)) ∙ ap (λ (s : SettledSet). before ++ rows_text stages (with_row t (row_of s key))) (sym same)

-- ---- the text of the key of a number
is_less : (m n : ℕ) → m < n → nat_lt m n ≡ true
is_less m n lt = grind arith

is_not_less : (m n : ℕ) → n ≤ m → nat_lt m n ≡ false
is_not_less m n le = grind arith

pub row_there : (settled : SettledSets) (stages place : ℕ) (set : SettledSet) → place % 6 < stages → IsSetOf settled (key_of place).mask set → place_text settled stages place ≡ row_text stages (key_of place) (Some set)
unfolding place_text
row_there settled stages place set stage is =
    ap (λ (b : Bool). if b then row_text stages (key_of place) (slice_get settled.sets.items (settled.high - (key_of place).mask.0)) else []) (is_less (place % 6) stages stage)
    ∙ ap (row_text stages (key_of place)) is

pub no_row_there : (settled : SettledSets) (stages place : ℕ) → stages ≤ place % 6 → place_text settled stages place ≡ []
unfolding place_text
no_row_there settled stages place past =
    ap (λ (b : Bool). if b then row_text stages (key_of place) (slice_get settled.sets.items (settled.high - (key_of place).mask.0)) else []) (is_not_less (place % 6) stages past)

-- a row that is put is the text of its number
pub place_put : (settled : SettledSets) (stages place : ℕ) (set : SettledSet) (old new : List ℕ) → place % 6 < stages → IsSetOf settled (key_of place).mask set → IsRowPut stages settled (key_of place) old new → new ≡ old ++ place_text settled stages place
place_put settled stages place set old new stage is put =
    put set is old (written []) (λ i d within. absurd (omega (arith, within))) (sym (append-nil old) ∙ ap (λ (t : List ℕ). old ++ t) (sym (no_lines stages)))
    ∙ ap (λ (t : List ℕ). old ++ t) (sym (row_there settled stages place set stage is))

pub place_skipped : (settled : SettledSets) (stages place : ℕ) (old new : List ℕ) → stages ≤ place % 6 → new ≡ old → new ≡ old ++ place_text settled stages place
place_skipped settled stages place old new past same = same ∙ sym (append-nil old) ∙ ap (λ (t : List ℕ). old ++ t) (sym (no_row_there settled stages place past))

-- ---- the text that is left
rest_more : (settled : SettledSets) (stages place end : ℕ) → place < end → rest_text settled stages place (end - place) ≡ place_text settled stages place ++ rest_text settled stages (place + 1) (end - (place + 1))
rest_more settled stages place end less =
    let one : end - place ≡ suc (end - (place + 1)) = omega (arith, less) in
    ap (rest_text settled stages place) one

pub goes_on : (settled : SettledSets) (stages end from next : ℕ) (old middle new : List ℕ) → next < end → GoesOnTo settled stages end from next old middle → new ≡ middle ++ place_text settled stages next → GoesOnTo settled stages end from (next + 1) old new
goes_on settled stages end from next old middle new less before told =
    let on = before.from_on in
    let so_far : GoesOn old middle (rest_text settled stages from (end - from)) (rest_text settled stages next (end - next)) = record { piece = before.piece; text = before.text; rest = before.rest } in
    let gone = gone_further old middle new (rest_text settled stages from (end - from)) (rest_text settled stages next (end - next)) (rest_text settled stages (next + 1) (end - (next + 1))) (place_text settled stages next) so_far told (rest_more settled stages next end less) in
    record {
      piece = gone.piece;
      text = gone.text;
      rest = gone.rest;
      from_on = omega (arith, on);
      within = omega (arith, less);
    }

-- the keys that are left can be put from the next on
pub can_still : (settled : SettledSets) (stages next end later : ℕ) (w w2 : SetWriter) → CanGoOn settled stages w next end → next ≤ later → later ≤ end → (later < end → IsWriterOf stages settled w2) → CanGoOn settled stages w2 later end
can_still settled stages next end later w w2 can on within writer = record {
  writable = can.writable;
  writer = writer;
  within = within;
  few = can.few;
  rows = λ place from less stage. can.rows place (omega (arith, from, on)) less stage;
}

pub none_left : (settled : SettledSets) (stages end next : ℕ) → end ≤ next → rest_text settled stages next (end - next) ≡ []
none_left settled stages end next past =
    let none : end - next ≡ 0 = omega (arith, past) in
    ap (rest_text settled stages next) none

no_piece : (old new piece : List ℕ) → new ≡ old ++ piece → length new ≤ length old → piece ≡ []
no_piece old new [] is few = refl
no_piece old new (byte ∷ piece) is few =
    let long = ap (λ (t : List ℕ). length t) is ∙ length-append old (byte ∷ piece) in
    let more : length (byte ∷ piece) ≡ suc (length piece) = refl in
    absurd (omega (arith, long, few, more))

-- where no byte is given, nothing is left of the rows
pub none_gone : (settled : SettledSets) (stages end from next : ℕ) (old new : List ℕ) → GoesOnTo settled stages end from next old new → (next < end → length old < length new) → length new ≤ length old
    → (new ≡ old) × (rest_text settled stages from (end - from) ≡ []) × (rest_text settled stages next (end - next) ≡ [])
none_gone settled stages end from next old new on more few = elim (cases_lt next end) [
  | inl less ↦ let grown = more less in absurd (omega (arith, grown, few))
  | inr past ↦
      let none = no_piece old new on.piece on.text few in
      let rest = none_left settled stages end next past in
      (on.text ∙ (ap (λ (t : List ℕ). old ++ t) none ∙ append-nil old), on.rest ∙ (λ i. none i ++ rest i), rest)
]

-- ---- how many keys there are
-- of so many numbers, on a machine of so many stages
abbrev keys_upto : ℕ → ℕ → ℕ
keys_upto stages place = place / 6 * stages + min (place % 6) stages

same_turn : (place : ℕ) → place % 6 < 5 → (place + 1) / 6 ≡ place / 6
same_turn place low = omega (arith, low)

next_turn : (place : ℕ) → place % 6 ≡ 5 → (place + 1) / 6 ≡ place / 6 + 1
next_turn place last = omega (arith, last)

turn_more : (turn stages : ℕ) → (turn + 1) * stages ≡ turn * stages + stages
turn_more turn stages = grind (arith, common_steps)

key_more : (stages place : ℕ) → stages ≤ 6 → place % 6 < stages → keys_upto stages (place + 1) ≡ keys_upto stages place + 1
key_more stages place few stage = elim (cases_lt (place % 6) 5) [
  | inl low ↦
      let turn = ap (λ (n : ℕ). n * stages) (same_turn place low) in
      let rest : (place + 1) % 6 ≡ place % 6 + 1 = omega (arith, low) in
      omega (arith, clamps, stage, turn, rest)
  | inr last ↦
      let at : place % 6 ≡ 5 = omega (arith, last) in
      let turn = ap (λ (n : ℕ). n * stages) (next_turn place at) ∙ turn_more (place / 6) stages in
      let rest : (place + 1) % 6 ≡ 0 = omega (arith, at) in
      omega (arith, clamps, stage, few, turn, rest, at)
]

key_same : (stages place : ℕ) → stages ≤ 6 → stages ≤ place % 6 → keys_upto stages (place + 1) ≡ keys_upto stages place
key_same stages place few past = elim (cases_lt (place % 6) 5) [
  | inl low ↦
      let turn = ap (λ (n : ℕ). n * stages) (same_turn place low) in
      let rest : (place + 1) % 6 ≡ place % 6 + 1 = omega (arith, low) in
      omega (arith, clamps, past, turn, rest)
  | inr last ↦
      let at : place % 6 ≡ 5 = omega (arith, last) in
      let turn = ap (λ (n : ℕ). n * stages) (next_turn place at) ∙ turn_more (place / 6) stages in
      let rest : (place + 1) % 6 ≡ 0 = omega (arith, at) in
      omega (arith, clamps, past, turn, rest)
]

keys_of_sets : (stages sets : ℕ) → keys_upto stages (sets * 144) ≡ sets * 24 * stages
keys_of_sets stages sets =
    let turn : sets * 144 / 6 ≡ sets * 24 = omega arith in
    let rest : sets * 144 % 6 ≡ 0 = omega arith in
    let first = ap (λ (n : ℕ). n * stages) turn in
    omega (arith, clamps, first, rest)

count_of : (stages low high so_far : ℕ) → low ≤ high → so_far + low * 24 * stages ≡ (high + 1) * 24 * stages → so_far ≡ (high + 1 - low) * (24 * stages)
count_of stages low high so_far order same =
    let more : high + 1 ≡ (high + 1 - low) + low = omega (arith, order) in
    let parts = same ∙ ap (λ (n : ℕ). n * 24 * stages) more ∙ split (high + 1 - low) low stages in
    omega (arith, parts)
  where
    split : (a b c : ℕ) → (a + b) * 24 * c ≡ a * (24 * c) + b * 24 * c
    split a b c = grind (arith, common_steps)

-- ---- all rows of a range
module _ (job : JobData) (is_job : IsJob job) (low high : ℕ) (settled : SettledSets) (has : HasSets low high settled) (order : low ≤ high) (below : high + 1 < 2 ^ bend_count job) (proved : Key → Worth) (are : AreSettledBy job proved settled) where
  few_places : (high + 1) * 144 < 2 ^ 20
  few_places =
      let most : 2 ^ bend_count job ≤ 2 ^ 12 = pow-le-pow_right (omega arith) (few_bends job is_job) in
      omega (arith, below, most)

  -- the key of a number is one of the job
  key_there : (place : ℕ) → place < (high + 1) * 144 → place % 6 < stage_count job → IsKeyAt job place (Some (key_of place))
  key_there place less stage =
      let mask : place / 144 < 2 ^ bend_count job = omega (arith, less, below) in
      (record { mask = mask; attitude = omega arith; stage = stage }, omega arith)

  no_key_there : (place : ℕ) → stage_count job ≤ place % 6 → IsKeyAt job place None
  no_key_there place past key ranged at =
      let stage = ranged.stage in
      let few = few_stages job is_job in
      omega (arith, stage, few, at, past)

  rows_from : (old : List ℕ) (count place so_far : ℕ) (new : List ℕ) → place + count ≡ (high + 1) * 144 → low * 144 ≤ place → ArePutBefore job low high settled place old new so_far
      → so_far + low * 24 * stage_count job ≡ keys_upto (stage_count job) place → AreRowsPut job low high settled old (new ++ rest_text settled (stage_count job) place count) ((high + 1 - low) * (24 * stage_count job))
  rows_from old zero place so_far new all from before counted =
      let stages = stage_count job in
      let at : place ≡ (high + 1) * 144 = omega (arith, all) in
      let sum = count_of stages low high so_far order (counted ∙ ap (keys_upto stages) at ∙ keys_of_sets stages (high + 1)) in
      subst (λ (n : ℕ). AreRowsPut job low high settled old (new ++ []) n) sum
      (subst (λ (t : List ℕ). AreRowsPut job low high settled old t so_far) (sym (append-nil new)) (put_all job is_job low high settled has below proved are place old new so_far (omega (arith, at)) before))
  rows_from old (suc count) place so_far new all from before counted =
      let stages = stage_count job in
      let few = few_stages job is_job in
      let less : place < (high + 1) * 144 = omega (arith, all) in
      let here = place_text settled stages place in
      let end : place + 1 + count ≡ (high + 1) * 144 = omega (arith, all) in
      let told = append_assoc new here (rest_text settled stages (place + 1) count) in
      subst (λ (t : List ℕ). AreRowsPut job low high settled old t ((high + 1 - low) * (24 * stages))) told (elim (cases_lt (place % 6) stages) [
        | inl stage ↦
            let at = key_there place less stage in
            let among = key_among job is_job low high settled has below proved are place (key_of place) from less at in
            let set = set_there settled (key_of place).mask among in
            let put = subst (λ (t : List ℕ). IsRowPut stages settled (key_of place) new (new ++ t)) (sym (row_there settled stages place set.0 stage set.1)) (row_goes_on settled stages (key_of place) set.0 new set.1) in
            rows_from old count (place + 1) (so_far + 1) (new ++ here) end (omega (arith, from))
            (put_more job is_job low high settled has below proved are place (key_of place) set.0 old new (new ++ here) so_far from less at among.high set.1 put before)
            (let more = key_more stages place few stage in omega (arith, counted, more))
        | inr past ↦
            rows_from old count (place + 1) so_far (new ++ here) end (omega (arith, from))
            (subst (λ (t : List ℕ). ArePutBefore job low high settled (place + 1) old t so_far) (sym (append-nil new) ∙ ap (λ (t : List ℕ). new ++ t) (sym (no_row_there settled stages place past)))
            (put_same job is_job low high settled has below proved are place old new so_far (no_key_there place past) before))
            (counted ∙ sym (key_same stages place few past))
      ])

  -- all of a table's text is left
  pub opened_whole : (beginning before behind : List ℕ) (stages next end : ℕ) → beginning ≡ codes "brake-table 1\n" ++ job_text job → stages ≡ stage_count job → next ≡ low * 144 → end ≡ (high + 1) * 144
      → IsWholeText job low high settled before behind (text_left beginning (before ++ (rest_text settled stages next (end - next) ++ behind)) false)
  unfolding end_text
  opened_whole beginning before behind stages next end begins same at last =
      let count : next + (end - next) ≡ (high + 1) * 144 = omega (arith, at, last, order) in
      let none = sym (keys_of_sets (stage_count job) low) in
      let rows = rows_from [] (end - next) next 0 [] count (omega (arith, at)) (put_none job low high settled next [] [] at refl) (let zero = none ∙ ap (keys_upto (stage_count job)) (sym at) in omega (arith, zero)) in (
        rest_text settled stages next (end - next),
        subst (λ (s : ℕ). AreRowsPut job low high settled [] (rest_text settled s next (end - next)) ((high + 1 - low) * (24 * stage_count job))) (sym same) rows,
        (λ i. (begins i ++ (before ++ (rest_text settled stages next (end - next) ++ behind))) ++ codes "end\n"),
      )

  can_be_put : (place : ℕ) → low * 144 ≤ place → place < (high + 1) * 144 → place % 6 < stage_count job → CanBePut settled (key_of place)
  can_be_put place from less stage =
      let at = key_there place less stage in
      let among = key_among job is_job low high settled has below proved are place (key_of place) from less at in
      record { among = among; worth = λ set is. worth_written job is_job low high settled has below proved are (key_of place) set at.0 among.high is }

  -- what it needs to go on
  pub can_go_on : (stages next end : ℕ) (w : SetWriter) → stages ≡ stage_count job → next ≡ low * 144 → end ≡ (high + 1) * 144 → CanBeWritten stages settled → IsWriterOf stages settled w → CanGoOn settled stages w next end
  can_go_on stages next end w same at last writable writer = record {
    writable = writable;
    writer = λ less. writer;
    within = omega (arith, at, last, order);
    few = let few = few_places in omega (arith, last, few);
    rows = λ place from less stage. can_be_put place (omega (arith, from, at)) (omega (arith, less, last)) (let count = same in omega (arith, stage, count));
  }
