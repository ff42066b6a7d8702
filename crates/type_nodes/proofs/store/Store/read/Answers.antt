use Rattle.std.proofs.Common.{◌<◌, ◌∙◌, length, sym, ap, subst}
use Rattle.std.specs.Prelude.{slice_get}
use Rattle.type_nodes.specs.Nodes.{IsNode}
use Rattle.type_nodes.specs.States.{State}
use Rattle.type_nodes.specs.Views.{state_of}
use Rattle.type_nodes.proofs.Trails.{sound_now}
use Rattle.type_nodes.proofs.Roots.{root_inside, root_no_link}
use Rattle.type_nodes.proofs.store.Store.read.Goals as goal

pub view_of-requires-clause-inside : goal.view_of-requires-clause-inside
view_of-requires-clause-inside c =
    let old : State = state_of c.self.inside.cells c.self.inside.trail in
    let inside : IsNode old.nodes c.args.n.0 = subst (λ s. IsNode s.nodes c.args.n.0) (sym c.self.view_is) c.requires in
    subst (λ k. k < length old.nodes) (sym c.root_of.ensures) (root_inside old.nodes (sound_now old c.self.invariant) c.args.n.0 inside)

pub view_of-requires-clause-end : goal.view_of-requires-clause-end
view_of-requires-clause-end c = λ x e.
    let old : State = state_of c.self.inside.cells c.self.inside.trail in
    let inside : IsNode old.nodes c.args.n.0 = subst (λ s. IsNode s.nodes c.args.n.0) (sym c.self.view_is) c.requires in
    root_no_link old.nodes (sound_now old c.self.invariant) c.args.n.0 x inside (ap (slice_get old.nodes) (sym c.root_of.ensures) ∙ e)
