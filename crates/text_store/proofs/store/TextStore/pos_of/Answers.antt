use Rattle.std.proofs.Common.{sym, Some, ◌≡◌, subst}
use Rattle.text_model.specs.Positions.{offset}
use Rattle.text_model.proofs.Positions.{position_of-offset}
use Rattle.text_store.proofs.store.TextStore.pos_of.Goals as goal

pub returns-clause-value : goal.returns-clause-value
returns-clause-value c =
    let p = c.find_position.result in
    sym (position_of-offset c.args.self.now p.line p.col c.args.place
    (subst (λ t. offset t p.line p.col ≡ Some c.args.place) c.self.view_is c.find_position.ensures))
