use Rattle.std.proofs.Common.{◌∙◌}
use Rattle.parse_frames.specs.Stacks.{stack_view}
use Rattle.frame_steps.proofs.Outermost.{outer_count}
use Rattle.frame_steps.proofs.steps.count_items.Goals as goal

pub returns : goal.returns
returns c f S at st = c.items.ensures ∙ outer_count c.args.stack.now.text f S at (stack_view c.args.stack.now.frames) st
