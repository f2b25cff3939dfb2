use Rattle.std.proofs.Common.{◌+◌, ◌++◌, List, Result, true, refl, length, ◌∙◌, ap, subst, arith}
use Rattle.std.proofs.lemmas.List.{length-map}
use Rattle.stage_lanes.specs.ActionSets.{places_of}
use Rattle.plan_lines.specs.declared.item.Item.{Item}
use Rattle.plan_lines.specs.declared.item.CertFault.{CertFault}
use Rattle.plan_lines.specs.PlanItem.{plan_answer}
use Rattle.plan_lines.specs.Reading.{Reading}
use Rattle.plan_lines.specs.NoteLines.{KnownReasons, LearnsFrom, note_told, notes_told}
use Rattle.plan_cert.specs.CertReading.{answers_left, cert_of, with_known}
use Rattle.plan_cert.proofs.KnownRead.{known_read, some_places}
use Rattle.cert_check.specs.ReadCert.{IsUnderway}
use Rattle.cert_check.proofs.ItemLemmas.{some_left}
use Rattle.cert_check.proofs.KnownLemmas.{known_behind, learned_answer, underway_known}
use Rattle.cert_check.proofs.ReadLemmas.{all_given, moved, none_told, reads_on}
use Rattle.cert_lines.proofs.WholeLines.{behind_both}
use Rattle.cert_check.proofs.read_cert.take_items.Goals as goal

pub returns-then-not-is_empty-clause-shorter : goal.returns-then-not-is_empty-clause-shorter
returns-then-not-is_empty-clause-shorter c =
    let took = c.take_known-known in
    let some = some_places took.result (λ none. let is = c.is_empty.ensures.1 none in let isnt = c.if-not-is_empty.true in cc) in
    let shorter = took.ensures.shorter in
    omega (arith, some, shorter)

pub returns-then-not-is_empty-clause-item : goal.returns-then-not-is_empty-clause-item
returns-then-not-is_empty-clause-item c = λ kind text behind may reads.
    let read = c.args.read.now in
    let r = reads.reader in
    let before = reads.reads.before in
    let has = reads.reads.has in
    let took = c.take_known-known in
    let lines = c.args.lines.now in
    let places = places_of took.result in
    let some = some_places took.result (λ none. let is = c.is_empty.ensures.1 none in let isnt = c.if-not-is_empty.true in cc) in
    let next : Reading = record r { answered = r.answered + length places } in
    let place = took.new.self.place in
    let rest = took.new.self.rest.now ++ behind in
    let given = all_given r (notes_told lines took.result) (length places) place rest (length-map places (note_told lines)) (took.ensures.told behind (answers_left r) reads.leaves) in
    reads_on kind text read r reads.reads (record read { notes = c.add_known.new.self }) next place rest true refl given.1 (c.add_known.ensures.testing read.job c.requires.testing) (
      with_known before lines places,
      record { claim = has.claim; steps = has.steps; rows = has.rows },
      ap (cert_of before) given.0 ∙ known_read lines places before (answers_left next),
      known_behind r next lines places some given.0 refl,
      λ cert under.
          underway_known read.job cert before (answers_left next) lines took.result read.notes c.add_known.new.self some (subst (λ (left : List (Result Item CertFault)). IsUnderway read.job cert before left read.notes) given.0 under)
          c.requires.lines took.ensures.reasons c.add_known.ensures.sets c.add_known.ensures.mask c.add_known.ensures.unsound,
    )

pub returns-in_err-answer-clause-none : goal.returns-in_err-answer-clause-none
returns-in_err-answer-clause-none c = λ none kind text behind reads.
    let read = c.args.read.now in
    let r = reads.reader in
    let took = c.take_known-known in
    let next = c.next_kept.new.self in
    let empty = c.is_empty.ensures.0 c.if-not-is_empty.false in
    moved kind text read read took.new.self.place next.place took.new.self.rest.now next.rest.now behind refl (c.in_err-answer.ensures.place refl) (c.in_err-answer.ensures.unread refl)
    (record { reader = r; reads = reads.reads; leaves = none_told c.args.lines.now took.result (answers_left r) took.new.self.place _ empty (took.ensures.told behind (answers_left r) reads.leaves) })

pub keep_answer-requires-clause-lines : goal.keep_answer-requires-clause-lines
keep_answer-requires-clause-lines c =
    let learned = subst (λ (known : KnownReasons). LearnsFrom known (plan_answer c.in_ok-answer.answer) c.next_kept.new.known) c.take_known-known.ensures.known c.in_ok-answer.ensures.known in
    learned_answer c.args.read.now.job c.args.read.now.notes c.in_ok-answer.answer c.args.lines.now c.next_kept.new.known c.requires.lines learned

pub returns-clause-rest : goal.returns-clause-rest
returns-clause-rest c = behind_both c.args.reader.now.rest.now c.take_known-known.new.self.rest.now c.next_kept.new.self.rest.now c.take_known-known.ensures.rest c.in_ok-answer.ensures.rest

pub returns-clause-item : goal.returns-clause-item
returns-clause-item c = λ kind text behind may reads.
    let r = reads.reader in
    let took = c.take_known-known in
    let empty = c.is_empty.ensures.0 c.if-not-is_empty.false in
    let leaves = none_told c.args.lines.now took.result (answers_left r) took.new.self.place _ empty (took.ensures.told behind (answers_left r) reads.leaves) in
    c.keep_answer.ensures.item kind text r _ _ reads.reads (c.in_ok-answer.ensures.given behind (answers_left r) may leaves (some_left r reads.reads.more))
