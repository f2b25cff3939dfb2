use Rattle.std.proofs.Common.{Bool, List, Result, Ok, Err, not, sym, ap, subst, ◌∙◌}
use Rattle.plan_lines.specs.declared.item.Item.{Item}
use Rattle.plan_lines.specs.declared.item.CertFault.{CertFault}
use Rattle.plan_lines.specs.PlanItem.{item_of, plan_answer}
use Rattle.plan_lines.specs.declared.item.PlanItem.{PlanItem}
use Rattle.plan_lines.specs.Reading.{GivesNext}
use Rattle.plan_cert.specs.CertReading.{answers_left, is_last, cert_of}
use Rattle.cert_check.specs.ReadCert.{ItemAnswer, PieceAnswer, behind}
use Rattle.cert_check.proofs.ItemLemmas.{left_on, of_fault, item_read, answer_behind}
use Rattle.cert_check.proofs.ReadLemmas.{next_given, reads_on, refused_on}
use Rattle.cert_check.proofs.read_cert.keep_answer.Goals as goal

pub returns-in_ok-keep-in-Ok-clause-item : goal.returns-in_ok-keep-in-Ok-clause-item
returns-in_ok-keep-in-Ok-clause-item c = λ kind text reader place rest reads gives.
    let item = item_of c.in-Ok.item in
    let old = c.args.read.now in
    let read = c.keep.new.read in
    let kept = c.in_ok-keep-in-Ok.ensures in
    let before = reads.before in
    let next = next_given reader (Ok item) place rest (subst (λ (a : Result PlanItem CertFault). GivesNext (answers_left reader) (plan_answer a) place rest) c.in-Ok.is gives) in
    let answer : ItemAnswer (Ok (not (is_last item))) before old (answers_left reader) read (answers_left (behind reader)) =
    subst (λ (left : List (Result Item CertFault)). ItemAnswer (Ok (not (is_last item))) before old left read (answers_left (behind reader))) (sym (left_on reader (Ok item) next.0))
    (item_read old read before item (answers_left (behind reader)) (kept.kept before reads.has) (λ goes. answer_behind reader item next.0 goes) (λ cert under. kept.notes cert before (answers_left (behind reader)) under)) in
    subst (λ (more : Bool). PieceAnswer (Ok more) kind text read place rest) (sym kept.more)
    (reads_on kind text old reader reads read (behind reader) place rest (not (is_last item)) c.keep.ensures.job next.1 kept.testing answer)

pub returns-in-Err-clause-item : goal.returns-in-Err-clause-item
returns-in-Err-clause-item c = λ kind text reader place rest reads gives.
    let next = next_given reader (Err c.in-Err.fault) place rest (subst (λ (a : Result PlanItem CertFault). GivesNext (answers_left reader) (plan_answer a) place rest) c.in-Err.is gives) in
    refused_on kind text c.args.read.now reader reads c.in-Err.fault (ap (cert_of reads.before) (left_on reader (Err c.in-Err.fault) next.0) ∙ of_fault reads.before (answers_left (behind reader)) c.in-Err.fault)
