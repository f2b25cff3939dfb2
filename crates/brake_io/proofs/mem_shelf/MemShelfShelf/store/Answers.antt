use Rattle.std.proofs.Common.{◌≡◌, rules, refl, ap, ◌∙◌, inl}
use Rattle.brake_io.specs.Meanings.{Content, HoldsPart, with_bytes}
use Rattle.brake_io.specs.MemShelfState.{content_of, state_of, holding}
use Rattle.brake_io.proofs.Naming.{same_content, changes_nothing, changes_one, holds_given}
use Rattle.brake_io.proofs.mem_shelf.MemShelfShelf.store.Goals as goal

-- a refusal of memory changes nothing held
unchanged : (c : goal.After-from_residual) → content_of c.add.new.self ≡ content_of c.args.self.now
unchanged c =
    same_content (content_of c.count_call.new.self) (content_of c.add.new.self) (state_of c.count_call.new.self) (state_of c.add.new.self) refl refl c.in_err-add.ensures.err
    ∙ ap content_of c.count_call.ensures.counted

pub returns-in_err-add-clause-others : goal.returns-in_err-add-clause-others
returns-in_err-add-clause-others c = changes_nothing c.args.name.now (content_of c.args.self.now) (content_of c.add.new.self) (unchanged c)

pub returns-in_err-add-clause-err : goal.returns-in_err-add-clause-err
returns-in_err-add-clause-err c =
    let part : HoldsPart c.args.name.now c.args.bytes.now (content_of c.args.self.now) (content_of c.add.new.self) = inl (ap (λ (content : Content). content.held c.args.name.now) (unchanged c)) in
    search (rules, part)

-- after Ok the name was given the bytes
given : (c : goal.In_ok-add) → content_of c.add.new.self ≡ record (content_of c.args.self.now) { held = with_bytes c.args.name.now c.args.bytes.now (content_of c.args.self.now).held }
given c =
    let with : Content → Content = λ content. record content { held = with_bytes c.args.name.now c.args.bytes.now content.held } in
    same_content (with (content_of c.count_call.new.self)) (content_of c.add.new.self) (holding c.args.name.now c.args.bytes.now c.count_call.new.self) (state_of c.add.new.self) refl refl c.in_ok-add.ensures.ok
    ∙ ap (λ s. with (content_of s)) c.count_call.ensures.counted

pub returns-clause-others : goal.returns-clause-others
returns-clause-others c = changes_one c.args.name.now c.args.bytes.now (content_of c.args.self.now) (content_of c.add.new.self) (given c)

pub returns-clause-ok : goal.returns-clause-ok
returns-clause-ok c = holds_given c.args.name.now c.args.bytes.now (content_of c.args.self.now) (content_of c.add.new.self) (given c)
