use Rattle.std.proofs.Common.{◌≡◌, ℕ, ◌<◌, [], ◌∷◌, ◌++◌, length, map, get_or, OnOk, subst, sym, ap, ◌∙◌, arith}
use Rattle.std.proofs.lemmas.List.{get_or_default}
use Rattle.std.proofs.lemmas.Result.{on_ok_weaker}
use Rattle.brake_base.specs.declared.mask.Mask.{Mask}
use Rattle.cert_lines.specs.Lines.{lines_text, row_line}
use Rattle.plan_cert.specs.CertText.{line_of_note}
use Rattle.row_text.specs.RowWords.{row_start}
use Rattle.row_text.specs.Notes.{SetNotes, IsAmong, notes_of}
use Rattle.row_text.proofs.MoreRows.{goes_on}
use Rattle.row_text.proofs.WriterKept.{with_block, row_written}
use Rattle.row_text.proofs.row_writer.RowWriter.put_row.Goals as goal

pub turn_to-requires : goal.turn_to-requires
turn_to-requires c =
    let w = c.self.invariant in
    record { lines = rw c.as_slice.ensures.value w.count; block = rw c.as_slice.ensures.value w.is_block }

pub key_place-requires : goal.key_place-requires
key_place-requires c =
    let stage : c.args.row.now.key.stage < c.self.inside.stages = subst (λ (s : SetNotes). c.args.row.now.key.stage < s.stages) (sym c.self.view_is) c.requires.stage in
    omega (arith, stage, c.self.invariant.few)

pub put_row_line-requires : goal.put_row_line-requires
put_row_line-requires c =
    let w = c.self.invariant in
    let key = c.args.row.now.key in
    let keys = c.self.inside.keys.items in
    let mask : key.mask ≡ c.self.inside.mask = subst (λ (s : SetNotes). key.mask ≡ s.mask) (sym c.self.view_is) c.requires.mask in
    let stage : key.stage < c.self.inside.stages = subst (λ (s : SetNotes). key.stage < s.stages) (sym c.self.view_is) c.requires.stage in
    let within : c.key_place.result < length keys = omega (arith, c.key_place.ensures.few, w.words.count) in
    let attitude : key.attitude < 24 = omega (arith, c.key_place.ensures.few, c.key_place.ensures.value) in
    record {
      start = w.begins ∙ sym (ap (λ (m : Mask). row_start m.0) mask);
      key = c.index.ensures ∙ get_or_default keys c.key_place.result c.index.result.now [] within ∙ ap (λ (n : ℕ). get_or keys n []) c.key_place.ensures.value
          ∙ w.words.words key.attitude key.stage attitude (omega (arith, stage, w.few));
      worth = c.requires.worth;
    }

pub invariant_of-self : goal.invariant_of-self
invariant_of-self c = with_block _ _ _ _ _ _ c.self.invariant (rw c.as_slice.ensures.value at c.turn_to.ensures.block)

pub returns-clause-text : goal.returns-clause-text
returns-clause-text c =
    let w = c.self.inside in
    let row = c.args.row.now in
    let notes = c.args.notes in
    let old = c.args.out.now.items in
    let new = c.put_word.new.out.items in
    let said : SetNotes = record { stages = w.stages; mask = w.mask; known = w.known; reasons = w.reasons } in
    let among : IsAmong notes w.known = subst (λ (s : SetNotes). IsAmong notes s.known) (sym c.self.view_is) c.requires.notes in
    subst (λ (s : SetNotes). OnOk c.put_word.result (new ≡ old ++ lines_text (row_line row ∷ map (line_of_note s.stages) (notes_of s 0 notes)))) c.self.view_is
    (on_ok_weaker c.put_word.result
    (row_written said row notes c.turn_to.new.self.notes w.lines.items c.turn_to.new.self.text.items old c.put_row_line.new.out.items c.as_slice-2.result.now new
    c.self.invariant.stages c.self.invariant.are_lines among c.in_ok-turn_to.ensures.notes (rw c.as_slice.ensures.value at c.turn_to.ensures.block) c.in_ok-put_row_line.ensures c.as_slice-2.ensures.value)
    c.put_word.ensures.ok)

pub returns-clause-rows : goal.returns-clause-rows
returns-clause-rows c =
    on_ok_weaker c.put_word.result (goes_on c.args.self.now c.args.row.now c.args.notes c.args.out.now.items c.put_word.new.out.items) (returns-clause-text c)
