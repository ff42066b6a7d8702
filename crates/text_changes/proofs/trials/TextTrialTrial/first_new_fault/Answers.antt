use Rattle.std.proofs.Common.{rules, ◌≡◌, ◌≤◌, [], ◌∷◌, length}
use Rattle.text_model.specs.Edits.{text_limit}
use Rattle.asked_node.specs.Trials.{replaced}
use Rattle.asked_node.proofs.Tried.{tried_one}
use Rattle.text_changes.proofs.trials.TextTrialTrial.first_new_fault.Goals as goal

pub returns-in-Ok-clause-spends : goal.returns-in-Ok-clause-spends
returns-in-Ok-clause-spends g c =
    let text = c.args.self.now.of.now.text.items in
    let same : c.in-Ok.text.now ≡ replaced text c.args.replacement.now = search rules in
    let short : length c.in-Ok.text.now ≤ text_limit = search rules in
    (c.in-Ok.text.now ∷ [], tried_one text c.in-Ok.text.now c.args.replacement.now same short, (c.first_in.ensures.same_reference, c.first_in.ensures.tries))
