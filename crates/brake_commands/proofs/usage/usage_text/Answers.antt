use Rattle.std.proofs.Common.{◌∙◌, ◌++◌, ap}
use Rattle.brake_commands.specs.Commands.{usage_text}
use Rattle.brake_commands.proofs.usage.usage_text.Goals as goal

pub returns : goal.returns
unfolding usage_text
returns c = c.in_ok-put_lines.ensures ∙ ap (λ start. start ++ usage_text) c.new-text.ensures.items
