use Rattle.std.proofs.Common.{◌≤◌, length, sym, subst}
use Rattle.type_nodes.specs.States.{State, Restored}
use Rattle.type_nodes.specs.Views.{state_of}
use Rattle.type_nodes.proofs.Trails.{restored_store}
use Rattle.type_nodes.proofs.Undo.{rolled_back}
use Rattle.type_nodes.proofs.store.Store.rollback.Goals as goal

pub invariant_of-self : goal.invariant_of-self
invariant_of-self c =
    let old : State = state_of c.self.inside.cells c.self.inside.trail in
    let new : State = state_of c.undo_to.new.on c.undo_to.new.self in
    let at : c.args.mark.0 ≤ length old.trail = subst (λ s. c.args.mark.0 ≤ length s.trail) (sym c.self.view_is) c.requires in
    restored_store old new c.args.mark.0 at
    (rolled_back c.self.inside.cells c.undo_to.new.on c.self.inside.trail c.undo_to.new.self c.args.mark.0 c.undo_to.ensures.cells c.undo_to.ensures.trail) c.self.invariant

pub returns : goal.returns
returns c =
    let old : State = state_of c.self.inside.cells c.self.inside.trail in
    let new : State = state_of c.undo_to.new.on c.undo_to.new.self in
    subst (λ s. Restored s new c.args.mark.0) c.self.view_is
    (rolled_back c.self.inside.cells c.undo_to.new.on c.self.inside.trail c.undo_to.new.self c.args.mark.0 c.undo_to.ensures.cells c.undo_to.ensures.trail)
