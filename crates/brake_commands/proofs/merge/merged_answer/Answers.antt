use Rattle.std.proofs.Common.{◌≡◌, [], refl, sym, subst}
use Rattle.job_setup.specs.Setup.{JobData}
use Rattle.cert_merge.specs.MergedRows.{AreTextsOf}
use Rattle.cert_merge.specs.Table.{TableData}
use Rattle.cert_merge.specs.TableTexts.{IsTextOfTable}
use Rattle.brake_commands.specs.declared.table_check.CheckedText.{CheckedText}
use Rattle.brake_commands.specs.TableAnswer.{IsTrueTable, stored_table, table_answer, stored_table_answer}
use Rattle.brake_commands.specs.TableStops.{checked_file, IsCheckedText}
use Rattle.brake_commands.specs.MergeAnswer.{IsMergedAnswer}
use Rattle.brake_commands.proofs.TableAnswers.{merged_answers, stored_first, stored_begun, table_of_text, true_table}
use Rattle.brake_commands.proofs.merge.merged_answer.Goals as goal

-- the texts of two closed tables of one job
texts_of : (a b : CheckedText) (x y : TableData) → a.job ≡ b.job → IsCheckedText x a → IsCheckedText y b → AreTextsOf a.job x y a.text.now b.text.now
texts_of a b x y same first second = record {
  text_is = first.written;
  other_is = subst (λ (job : JobData). IsTextOfTable (record { job = job; table = y }) b.text.now) (sym same) second.written;
}

-- what is told of a checked table is true
checked_true : (a : CheckedText) (x : TableData) → IsCheckedText x a → IsTrueTable a.job x
checked_true a x is = true_table a.job x (table_of_text (checked_file a x) a.text.now is.written) is.closed

pub merge_texts-requires : goal.merge_texts-requires
merge_texts-requires g c =
    let of = c.requires.checked in
    (of.0, of.1, texts_of c.args.a.now c.args.b.now of.0 of.1 c.requires.one_job of.2 of.3)

pub merged_text_answer-requires-clause-told : goal.merged_text_answer-requires-clause-told
merged_text_answer-requires-clause-told g c =
    let of = c.requires.checked in
    let merge = c.in_ok-merged.ensures.merged of.0 of.1 (texts_of c.args.a.now c.args.b.now of.0 of.1 c.requires.one_job of.2 of.3) in
    (merge.table, merge.told)

pub returns-clause-answer : goal.returns-clause-answer
returns-clause-answer g c = λ x y first second.
    let a = c.args.a.now in
    let b = c.args.b.now in
    let name = c.args.name.now in
    let merge = c.in_ok-merged.ensures.merged x y (texts_of a b x y c.requires.one_job first second) in
    let stored = c.merged_text_answer in
    stored_first (IsMergedAnswer name (checked_file a x) (checked_file b y)) (stored_table name a.job merge.table) (table_answer [] a.job merge.table)
    (merged_answers name (checked_file a x) (checked_file b y) merge.table (stored_table_answer name a.job merge.table) c.requires.one_job (checked_true a x first) (checked_true b y second)
    merge.is_merged merge.form merge.closed refl) refl
    stored.result (g.H.Shelf.state c.args.shelf.now) (g.H.Shelf.state stored.new.shelf) (stored.ensures.answer merge.table merge.told) (stored.ensures.ok merge.table merge.told) stored.ensures.faults

pub returns-clause-begins : goal.returns-clause-begins
returns-clause-begins g c = λ x y first second.
    let a = c.args.a.now in
    let b = c.args.b.now in
    let name = c.args.name.now in
    let merge = c.in_ok-merged.ensures.merged x y (texts_of a b x y c.requires.one_job first second) in
    let stored = c.merged_text_answer in
    stored_begun (IsMergedAnswer name (checked_file a x) (checked_file b y)) (stored_table name a.job merge.table) (table_answer [] a.job merge.table)
    (merged_answers name (checked_file a x) (checked_file b y) merge.table (stored_table_answer name a.job merge.table) c.requires.one_job (checked_true a x first) (checked_true b y second)
    merge.is_merged merge.form merge.closed refl) refl
    stored.result (g.H.Shelf.state c.args.shelf.now) (g.H.Shelf.state stored.new.shelf) (stored.ensures.err merge.table merge.told)
