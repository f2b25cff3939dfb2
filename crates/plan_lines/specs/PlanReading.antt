-- Reading the lines behind the job: which line may stand where, and what it gives.
use Rattle.std.specs.Prelude.{ℕ, ◌+◌, ◌==◌, Bool, true, false, ◌&&◌, ◌||◌, nat_le, nat_lt, List}
use Rattle.std.specs.Prelude.{bytes_eq, codes, Option, Some, None, is_some, if◌then◌else◌}
use Rattle.brake_base.specs.declared.stroke.Action.{Action}
use Rattle.brake_base.specs.declared.stroke.Key.{Key}
use Rattle.brake_base.specs.declared.stroke.Worth.{Worth}
use Rattle.brake_base.specs.declared.stroke.Worth.TheVariants.{Cost, Blocked}
use Rattle.brake_base.specs.declared.reason.Reason.{Reason}
use Rattle.brake_base.specs.Actions.{number_of_action}
use Rattle.job_setup.specs.Setup.{JobData, bend_count, stage_count}
use Rattle.job_setup.specs.StrokeGroup.{is_lead}
use Rattle.cert_lines.specs.declared.format.Format.{Format}
use Rattle.cert_lines.specs.declared.format.Format.TheVariants.{Version1, Table}
use Rattle.plan_lines.specs.declared.section.Section.{Section}
use Rattle.plan_lines.specs.declared.section.Section.TheVariants as sections
use Rattle.plan_lines.specs.declared.section.PlanLine.{PlanLine}
use Rattle.plan_lines.specs.declared.section.PlanLine.TheVariants as kinds
use Rattle.plan_lines.specs.declared.item.Item.{Item}
use Rattle.plan_lines.specs.declared.item.Item.TheVariants as given
use Rattle.cert_words.specs.LineWords.{◌>>=◌}
use Rattle.cert_words.specs.PlanWords.{step_in, claim_in, row_in, note_in}
use Rattle.cert_lines.specs.Lines.{CertLine, claim_line, step_line, row_line, note_line}
use Rattle.cert_lines.specs.LineReading.{only_if, keyword_in, behind_keyword}

-- the first key stands before the second in the order of keys
abbrev pub is_before : Key → Key → Bool
is_before a b = nat_lt a.mask.0 b.mask.0
    || ((a.mask.0 == b.mask.0)
    && (nat_lt a.attitude b.attitude || ((a.attitude == b.attitude) && nat_lt a.stage b.stage)))

-- behind a cost as the claim come the steps, and behind `none` the rows
abbrev pub behind_claim : Worth → Section
behind_claim (Cost cost) = sections.Steps 0
behind_claim Blocked = sections.Rows

-- version 1 has a step for each bend
abbrev pub are_enough : Format → ℕ → ℕ → Bool
are_enough Version1 bends steps = steps == bends
are_enough _ bends steps = true

-- a line behind the steps may stand here: a row, or the end
abbrev pub may_leave : Format → ℕ → Section → Bool
may_leave format bends (sections.Steps steps) = are_enough format bends steps
may_leave format bends sections.Rows = true
may_leave format bends (sections.Notes key number) = true
may_leave format bends _ = false

-- a row of this key may stand here: rows stand in the order of their keys
abbrev pub may_be_row : Format → ℕ → Section → Key → Bool
may_be_row format bends (sections.Notes last number) key = is_before last key
may_be_row format bends section key = may_leave format bends section

-- a reason against an action at a key, where the next note's number is at least the least
unfoldable pub noted : JobData → Key → ℕ → Action → Reason → Option (Item × Section)
noted job key least action reason = let number = number_of_action (stage_count job) action in
    only_if (nat_le least number
    && is_lead job key.mask action.bend) (Some (
      given.Note number reason,
      sections.Notes key (number + 1),
    ))

-- what a line gives where it stands, and where the next one stands: the claim first, then at most a
-- step for each bend, then rows, each with its notes in the order of their actions
unfoldable pub give : Format → JobData → CertLine → Section → Option (Item × Section)
give format job (claim_line claim) sections.Claim = Some (given.Claim claim, behind_claim claim)
give format job (step_line step) (sections.Steps steps) =
    only_if (nat_lt steps (bend_count job)) (Some (given.Step step, sections.Steps (steps + 1)))
give format job (row_line row) section =
    only_if (may_be_row format (bend_count job) section row.key) (Some (
      given.Row row,
      sections.Notes row.key 0,
    ))
give format job (note_line action reason) (sections.Notes key least) =
    noted job key least action reason
give format job _ _ = None

-- the same of a line that was read, if one was
abbrev pub give_read : Format → JobData → Section → Option CertLine → Option (Item × Section)
give_read format job section read = read >>= λ line. give format job line section

-- the kind of a line behind the job by its keyword
abbrev pub plan_line_of : List ℕ → Option PlanLine
plan_line_of keyword = if bytes_eq keyword (codes "claim") then Some kinds.Claim
    else if bytes_eq keyword (codes "step") then Some kinds.Step
    else if bytes_eq keyword (codes "row") then Some kinds.Row
    else if bytes_eq keyword (codes "x") then Some kinds.Note
    else None

-- the line of a kind by its words, in a job of so many bends and stages
unfoldable pub plan_words_in : ℕ → ℕ → PlanLine → List ℕ → Option CertLine
plan_words_in bends stages kinds.Claim text = claim_in text >>= λ claim. Some (claim_line claim)
plan_words_in bends stages kinds.Step text =
    step_in bends stages text >>= λ step. Some (step_line step)
plan_words_in bends stages kinds.Row text = row_in bends stages text >>= λ row.
    Some (row_line (record {
      key = row.0;
      worth = row.1;
    }))
plan_words_in bends stages kinds.Note text =
    note_in bends stages text >>= λ note. Some (note_line note.0 note.1)

-- the line behind the job that a keyword and the text behind it are, if they are one but the end
unfoldable pub plan_line_in : ℕ → ℕ → List ℕ → List ℕ → Option CertLine
plan_line_in bends stages keyword text =
    plan_line_of keyword >>= λ kind. plan_words_in bends stages kind text

-- what a line gives, and where the next one stands
unfoldable pub take_plan_line : Format → JobData → Section → List ℕ → List ℕ
    → Option (Item × Section)
take_plan_line format job section keyword text =
    give_read format job section (plan_line_in (bend_count job) (stage_count job) keyword text)

-- the line that ends a certificate or a table file
abbrev pub is_end_line : List ℕ → Bool
is_end_line line = bytes_eq line (codes "end")

-- a line of a claim
abbrev pub is_claim_line : List ℕ → Bool
is_claim_line line =
    bytes_eq (keyword_in line) (codes "claim") && is_some (claim_in (behind_keyword line))

-- a line of a row of a job of so many bends and stages
abbrev pub is_row_line : ℕ → ℕ → List ℕ → Bool
is_row_line bends stages line =
    bytes_eq (keyword_in line) (codes "row") && is_some (row_in bends stages (behind_keyword line))

-- the first line behind the job: the claim, or in a table file a row or the end
abbrev pub may_follow_job : Format → ℕ → ℕ → List ℕ → Bool
may_follow_job Table bends stages line = is_end_line line || is_row_line bends stages line
may_follow_job _ bends stages line = is_claim_line line

-- where the first line behind the job stands
abbrev pub first_section : Format → Section
first_section Table = sections.Rows
first_section _ = sections.Claim
