-- The page of a certificate. Costs are in tenths of a second.
use Rattle.std.specs.Prelude.{◌≡◌, ℕ, ◌+◌, ℤ, pos, List, [], ◌∷◌, ◌++◌, codes, length}
use Rattle.brake_base.specs.declared.stroke.Step.{Step}
use Rattle.job_setup.specs.Setup.{JobData, stage_count}
use Rattle.handling_cost.specs.Plan.{start}
use Rattle.plan_cert.specs.Cert.{CertData}
use Rattle.svg_text.specs.Forms.{line_of}
use Rattle.sheet_words.specs.Lists.{plural, seconds}
use Rattle.sheet_page.specs.declared.forms.TheConstants.{PAGE_END}
use Rattle.sheet_page.specs.declared.no_plan.TheConstants.{NO_PLAN, NO_ORDER}
use Rattle.sheet_page.specs.declared.plan.TheConstants.{LEAST_OF_ALL}
use Rattle.sheet_figures.specs.declared.blank.Flat.{Flat}
use Rattle.sheet_page.specs.BlankPart.{IsFlatOf, HasBlank}
use Rattle.sheet_page.specs.Blocks.{AreBlocks}
use Rattle.sheet_page.specs.FaceTable.{faces_text}
use Rattle.sheet_page.specs.Head.{head_text}
use Rattle.sheet_page.specs.Kept.{states_of}
use Rattle.sheet_page.specs.NoPlan.{verdict_text, HasRefusals}
use Rattle.sheet_page.specs.Orders.{order_text}
use Rattle.sheet_page.specs.Stations.{HasStations}

-- how long the strokes take
unfoldable pub time_words : ℕ → List ℕ
time_words cost = codes "time " ++ seconds cost ++ LEAST_OF_ALL.now

-- the head of the page of a plan: the number of its strokes and their time; the certificate has so
-- many bytes
unfoldable pub plan_head : JobData → (strokes cost : ℕ) → (size : ℤ) → List ℕ
plan_head job strokes cost size =
    head_text job (plural strokes (codes "stroke")) (time_words cost) size

-- the table of the strokes, where there is one
abbrev pub order_part : JobData → List Step → (cost : ℕ) → List ℕ
order_part job [] cost = []
order_part job (step ∷ steps) cost = order_text job (step ∷ steps) cost

-- The text goes on with the parts before the strokes: the blank, a table of so many strokes, the
-- faces, and the stations. The blank is that of the job's part.
pub record HasParts (job : JobData) (strokes : ℕ) (table : List ℕ) (before after : List ℕ)
    : Type 0 where
  pub flat : Flat
  pub of_part : IsFlatOf job flat
  pub behind : List ℕ
  pub blank : HasBlank flat (pos strokes) before behind
  pub stations : HasStations job (behind ++ table ++ faces_text job flat) after

-- the end of a page
abbrev pub page_end : List ℕ
page_end = line_of PAGE_END.now []

-- the number of the first figure behind those of the blank, the bed and the stations
abbrev pub first_figure : JobData → ℤ
first_figure job = pos (4 + stage_count job)

-- The page of a plan of this cost: its head, the blank, the table of the strokes in order, the
-- faces and the stations, a block for each stroke with its pictures, and the end.
pub record IsPlanPage (job : JobData) (steps : List Step) (cost size : ℕ) (page : List ℕ)
    : Type 0 where
  pub told : List ℕ
  pub parts :
      HasParts job (length steps) (order_part job steps cost)
      (plan_head job (length steps) cost (pos size)) told
  pub blocks : List ℕ
  pub strokes : AreBlocks job (length steps) 1 (first_figure job) start steps told blocks
  pub text : page ≡ blocks ++ page_end

-- The page of a job without a plan: its head, which says so, the blank, the faces and the stations,
-- the verdict, the refusals of the states in its certificate, and the end.
pub record IsNoPlanPage (job : JobData) (cert : CertData) (size : ℕ) (page : List ℕ)
    : Type 0 where
  pub told : List ℕ
  pub parts : HasParts job 0 [] (head_text job NO_PLAN.now NO_ORDER.now (pos size)) told
  pub refusals : List ℕ
  pub refused :
      HasRefusals job (states_of cert) (first_figure job) (told ++ verdict_text) refusals
  pub text : page ≡ refusals ++ page_end
