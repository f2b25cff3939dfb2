use Rattle.std.proofs.Common.{◌≡◌, ◌∙◌, ℕ, ap, sym, subst, get_or, arith, rules}
use Rattle.job_setup.specs.Setup.{bend_count}
use Rattle.set_facts.specs.LaneFacts.{IsSetLanes}
use Rattle.set_facts.proofs.OtherBends.{others_are, within_full, farthest_there}
use Rattle.set_facts.proofs.set_lanes.ways_to.Goals as goal

pub bounds-sets-from : goal.bounds-sets-from
bounds-sets-from c =
    let job = c.args.job.now in
    let all : c.bends.result ≡ bend_count job = omega (arith, c.bends.ensures.value) in
    let within = within_full job c.full.result c.args.group c.without-others.result c.bends.result all c.full.ensures.number c.without-others.ensures (search rules) in
    omega (arith, c.from.ensures, within, c.requires.greater.places)

pub bounds-sets-from-then-mask-others : goal.bounds-sets-from-then-mask-others
bounds-sets-from-then-mask-others c = bounds-sets-from c

pub returns-then-mask-others : goal.returns-then-mask-others
returns-then-mask-others c =
    let job = c.args.job.now in
    let others = c.without-others.result in
    let set = c.index-sets-from.result in
    let valid = c.bends.ensures.valid in
    let left = c.requires.bend in
    let all : c.bends.result ≡ bend_count job = omega (arith, c.bends.ensures.value) in
    let are = others_are job c.args.mask c.args.bend c.bends.result c.args.group c.full.result others all c.requires.group c.full.ensures.value c.without-others.ensures in
    let within = within_full job c.full.result c.args.group others c.bends.result all c.full.ensures.number c.without-others.ensures (search rules) in
    let read : get_or c.args.sets.now others.0 set ≡ get_or c.args.sets.now c.from.result set = ap (λ (n : ℕ). get_or c.args.sets.now n set) (sym c.from.ensures) in
    let there : IsSetLanes job others (get_or c.args.sets.now c.from.result set) =
    subst (IsSetLanes job others) read (c.requires.greater.each others set (omega (arith, c.if-mask-others.true)) within) in
    λ stage d below. there.farthest stage d below ∙ farthest_there job valid c.args.mask c.args.bend left others are stage
