use Rattle.std.proofs.Common.{◌≡◌, ℕ, ◌<◌, length, sym, subst}
use Rattle.fold_boxes.specs.Pose.{lead_of}
use Rattle.fold_boxes.proofs.Leads.{lead_is, least_is_lead}
use Rattle.fold_boxes.proofs.posing.lead_of.Goals as goal

pub returns-clause-value : goal.returns-clause-value
returns-clause-value c = least_is_lead c.args.shape.now c.args.group c.in-Some.lead c.requires c.in-Some.ensures.some

pub returns-clause-some : goal.returns-clause-some
returns-clause-some c =
    let lead = lead_is c.args.shape.now c.args.group c.requires in
    let is : c.in-Some.lead ≡ lead_of c.args.shape.now c.args.group = returns-clause-value c in
    subst (λ (b : ℕ). 0 < b) (sym is) lead.some

pub returns-clause-bend : goal.returns-clause-bend
returns-clause-bend c =
    let lead = lead_is c.args.shape.now c.args.group c.requires in
    let is : c.in-Some.lead ≡ lead_of c.args.shape.now c.args.group = returns-clause-value c in
    subst (λ (b : ℕ). b < length c.args.shape.now.part.faces) (sym is) lead.inside
