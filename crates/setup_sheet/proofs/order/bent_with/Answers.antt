use Rattle.std.proofs.Common.{◌≡◌, ◌∙◌, not, ◌&&◌, ◌||◌, ◌==◌, ap}
use Rattle.brake_base.specs.Masks.{has}
use Rattle.setup_sheet.proofs.Groups.{others_are}
use Rattle.setup_sheet.proofs.order.bent_with.Goals as goal

pub returns : goal.returns
returns c =
    c.bends.ensures
    ∙ others_are c.args.job.now c.args.mask c.group.result c.without.result c.args.lead c.group.ensures.value
    (λ b. c.without.ensures b ∙ ap (λ t. has c.group.result b && not t) (c.with-alone.ensures b ∙ ap (λ t. t || (b == c.args.lead)) (c.empty.ensures.value b)))
