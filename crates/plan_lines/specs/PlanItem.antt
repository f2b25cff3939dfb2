-- What a line behind the job gives, and the job, as answers of a reader.
use Rattle.std.specs.Prelude.{Result, Ok, Err}
use Rattle.job_setup.specs.Setup.{JobData}
use Rattle.plan_lines.specs.declared.item.Item.{Item}
use Rattle.plan_lines.specs.declared.item.Item.TheVariants as given
use Rattle.plan_lines.specs.declared.item.PlanItem.{PlanItem}
use Rattle.plan_lines.specs.declared.item.PlanItem.TheVariants as plan
use Rattle.plan_lines.specs.declared.item.CertFault.{CertFault}
use Rattle.plan_lines.specs.declared.section.Section.{Section}

-- what a line behind the job gives, as an item
abbrev pub item_of : PlanItem → Item
item_of (plan.Claim claim) = given.Claim claim
item_of (plan.Step step) = given.Step step
item_of (plan.Row row) = given.Row row
item_of (plan.Note action reason) = given.Note action reason
item_of plan.End = given.End

-- the item, and where the next line stands
abbrev pub placed : PlanItem × Section → Item × Section
placed taken = (item_of taken.0, taken.1)

-- the item or the refusal, as an answer
abbrev pub plan_answer : Result PlanItem CertFault → Result Item CertFault
plan_answer (Ok item) = Ok (item_of item)
plan_answer (Err fault) = Err fault

-- the job or the refusal, as an answer
abbrev pub job_answer : Result JobData CertFault → Result Item CertFault
job_answer (Ok job) = Ok (given.Job job)
job_answer (Err fault) = Err fault
