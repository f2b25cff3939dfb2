-- What a writer keeps, from call to call.
use Rattle.std.proofs.Common.{◌≡◌, ◌≢◌, ℕ, ◌*◌, ◌<◌, ◌≤◌, ◌||◌, ◌==◌, Bool, true, false, if◌then◌else◌, List, [], ◌∷◌, ◌++◌, length, map, set, get_or, refl, sym, ap, ◌∙◌, subst, append_assoc, arith, inl, inr}
use Rattle.std.proofs.lemmas.List.{length-set, get_or-set_same, get_or-set_other}
use Rattle.std.proofs.lemmas.Bool.{cases_eq}
use Rattle.brake_base.specs.declared.stroke.Action.{Action}
use Rattle.brake_base.specs.declared.reason.Reason.{Reason}
use Rattle.brake_base.specs.declared.reason.Reason.TheVariants.{Cover}
use Rattle.brake_base.specs.Actions.{IsActionAmong, number_of_action}
use Rattle.stage_lanes.specs.declared.actions.ActionSet.{ActionSet}
use Rattle.stage_lanes.specs.ActionSets.{has_place, place_of, ArePlaces, IsNone}
use Rattle.cert_lines.specs.declared.row_head.RowHead.{RowHead}
use Rattle.cert_lines.specs.Lines.{line_text, lines_text, row_line, note_line}
use Rattle.plan_cert.specs.CertText.{line_of_note}
use Rattle.row_text.specs.declared.block.NoteBlock.{NoteBlock}
use Rattle.row_text.specs.RowWords.{row_start}
use Rattle.row_text.specs.Notes.{SetNotes, IsAmong, AreOfStages, notes_of}
use Rattle.row_text.specs.Blocks.{block_text, IsBlock}
use Rattle.row_text.specs.Writer.{AreKeyWords, AreLines, IsWriter}
use Rattle.row_text.proofs.BlockTexts.{block_is, block_done, lines_more, stages_more, lines_of_none, stages_of_none}

-- a set of folded bends is begun
pub begun : (said : SetNotes) (start : List ℕ) (keys lines : List (List ℕ)) (block : NoteBlock) → said.stages ≤ 6 → start ≡ row_start said.mask.0 → AreKeyWords keys → length lines ≡ 192 → IsNone said.known → IsBlock lines block
    → IsWriter said start keys lines block
begun said start keys lines block few begins words count none is_block = record {
  few = few;
  begins = begins;
  words = words;
  count = count;
  stages = stages_of_none said.stages said.known none;
  are_lines = lines_of_none said lines none;
  is_block = is_block;
}

pub empty_block : (lines : List (List ℕ)) (notes : ActionSet) (text : List ℕ) → IsNone notes → text ≡ [] → text ≡ block_text lines notes
empty_block lines notes text none empty = empty ∙ sym (block_done lines notes none)

-- an action has a reason
pub with_reason : (said : SetNotes) (start : List ℕ) (keys lines : List (List ℕ)) (block after : NoteBlock) (more : ActionSet) (action : Action) (reason : Reason) (line : List ℕ) (number place : ℕ) → IsWriter said start keys lines block
    → IsActionAmong 12 said.stages action → number ≡ number_of_action said.stages action → number < 24 * said.stages → place ≡ place_of action → place < 192 → length said.reasons ≡ 144 → ArePlaces more (λ here. has_place said.known here || here == place_of action)
    → line ≡ line_text (note_line action reason) → IsNone after.notes → after.text.items ≡ []
    → IsWriter (record { stages = said.stages; mask = said.mask; known = more; reasons = set said.reasons number reason }) start keys (set lines place line) after
with_reason said start keys lines block after more action reason line number place w among is below at within long places told none empty = record {
  few = few;
  begins = w.begins;
  words = w.words;
  count = length-set lines place line ∙ w.count;
  stages = stages_more said.stages said.known more action few among places w.stages;
  are_lines = subst (λ (p : ℕ). AreLines (record { stages = said.stages; mask = said.mask; known = more; reasons = set said.reasons number reason }) (set lines p line)) (sym at)
      (subst (λ (n : ℕ). AreLines (record { stages = said.stages; mask = said.mask; known = more; reasons = set said.reasons n reason }) (set lines (place_of action) line)) (sym is)
      (lines_more said (record { stages = said.stages; mask = said.mask; known = more; reasons = set said.reasons (number_of_action said.stages action) reason }) lines action reason line few among refl places refl
      (omega (arith, at, within, count)) (omega (arith, is, below, few, long)) told w.stages w.are_lines));
  is_block = empty_block (set lines place line) after.notes after.text.items none empty;
}
  where
    few : said.stages ≤ 6
    few = w.few

    count : length lines ≡ 192
    count = w.count

-- another block is kept
pub with_block : (said : SetNotes) (start : List ℕ) (keys lines : List (List ℕ)) (block after : NoteBlock) → IsWriter said start keys lines block → IsBlock lines after → IsWriter said start keys lines after
with_block said start keys lines block after w is = record {
  few = w.few;
  begins = w.begins;
  words = w.words;
  count = w.count;
  stages = w.stages;
  are_lines = w.are_lines;
  is_block = is;
}

-- a row's line and then the block of its notes are the row's text
pub row_written : (said : SetNotes) (row : RowHead) (notes blocked : ActionSet) (lines : List (List ℕ)) (text old middle last new : List ℕ) → AreOfStages said.stages said.known → AreLines said lines → IsAmong notes said.known
    → blocked ≡ notes → text ≡ block_text lines blocked → middle ≡ old ++ line_text (row_line row) → last ≡ text → new ≡ middle ++ last
    → new ≡ old ++ lines_text (row_line row ∷ map (line_of_note said.stages) (notes_of said 0 notes))
row_written said row notes blocked lines text old middle last new stages are among same block first rest all =
    let own : last ≡ lines_text (map (line_of_note said.stages) (notes_of said 0 notes)) =
    rest ∙ block ∙ ap (λ (s : ActionSet). block_text lines s) same ∙ block_is said 0 lines notes stages are among in
    all ∙ (λ i. first i ++ own i) ∙ append_assoc old (line_text (row_line row)) (lines_text (map (line_of_note said.stages) (notes_of said 0 notes)))

-- the reasons by number after one more is set
pub reason_set : (reasons : List Reason) (number place here : ℕ) (reason : Reason) → place ≡ here → place < length reasons → get_or (set reasons place reason) number Cover ≡ (if number == here then reason else get_or reasons number Cover)
reason_set reasons number place here reason is within = elim (cases_eq number here) [
  | inl same ↦
      ap (λ (n : ℕ). get_or (set reasons place reason) n Cover) (same ∙ sym is) ∙ get_or-set_same reasons place reason Cover within
      ∙ sym (ap (λ (t : Bool). if t then reason else get_or reasons number Cover) (equal number here same))
  | inr apart ↦
      get_or-set_other reasons place number reason Cover (λ e. apart (e ∙ is))
      ∙ sym (ap (λ (t : Bool). if t then reason else get_or reasons number Cover) (differ number here apart))
]
  where
    equal : (m n : ℕ) → m ≡ n → (m == n) ≡ true
    equal m n h = grind arith

    differ : (m n : ℕ) → m ≢ n → (m == n) ≡ false
    differ m n h = grind arith
