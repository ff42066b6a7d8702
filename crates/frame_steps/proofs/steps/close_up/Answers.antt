use Rattle.std.proofs.Common.{◌∙◌, ap, drop, sym}
use Rattle.grammar_model.specs.Named.{items_of}
use Rattle.parse_frames.specs.Stacks.{stack_view}
use Rattle.frame_steps.proofs.Outermost.{items_onto}
use Rattle.frame_steps.proofs.steps.close_up.Goals as goal

pub returns-clause-tree : goal.returns-clause-tree
returns-clause-tree c f S at st =
    let w = c.in_ok-whole.ensures.whole f S at st in
    c.in_ok-nodes_from.ensures c.in_ok-whole.ensures.few ∙ ap (drop c.args.from) (sym (items_onto (stack_view c.in_ok-whole.whole.frames).top.done) ∙ ap items_of w.node)
