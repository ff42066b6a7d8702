use Rattle.std.proofs.Common.{◌++◌, map, option_map, refl, ◌∙◌, ap}
use Rattle.syntax_tree.specs.View.{tok_of}
use Rattle.frame_steps.specs.Told.{listed}
use Rattle.frame_steps.specs.View.{fault_of}
use Rattle.frame_parser.proofs.OneStep.{go_on_shows}
use Rattle.frame_parser.proofs.cuts.go_on.Goals as goal

pub returns : goal.returns
returns c text x i put item =
    go_on_shows text x i (tok_of c.args.token.now) c.args.put _ put refl (c.item_after-item.ensures text x (tok_of c.args.token.now) i refl put item)
    (c.in_ok-add_fault.ensures ∙ ap (λ xs. map fault_of xs ++ listed (option_map fault_of c.args.put.fault)) c.new-faults.ensures.items)
