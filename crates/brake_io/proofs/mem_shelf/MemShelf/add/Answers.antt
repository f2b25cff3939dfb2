use Rattle.std.proofs.Common.{arith, ◌≡◌, Some, ap}
use Rattle.std.proofs.Math.Path.{fun_ext}
use Rattle.std.proofs.lemmas.Map.Text.{text_keys}
use Rattle.brake_io.specs.Meanings.{Names, ShelfState, with_bytes}
use Rattle.brake_io.specs.MemShelfState.{names_of}
use Rattle.brake_io.proofs.mem_shelf.MemShelf.add.Goals as goal

pub returns-clause-ok : goal.returns-clause-ok
returns-clause-ok c =
    let here = c.args.self.now in
    let held : names_of c.insert.new.self ≡ with_bytes c.args.name.now c.args.bytes.now (names_of here.files) = fun_ext (λ other. grind (arith, text_keys)) in
    let state : Names → ShelfState = λ names. record { content = Some (record { held = names; due = here.due.items }); calls = here.calls; faults = here.faults; longs = here.longs } in
    ap state held
