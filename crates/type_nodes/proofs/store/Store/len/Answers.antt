use Rattle.std.proofs.Common.{subst}
use Rattle.type_nodes.specs.Nodes.{IsSound, IsPlain}
use Rattle.type_nodes.specs.States.{State}
use Rattle.type_nodes.specs.Views.{state_of}
use Rattle.type_nodes.proofs.Trails.{sound_now, plain_now}
use Rattle.type_nodes.proofs.store.Store.len.Goals as goal

pub returns-clause-sound : goal.returns-clause-sound
returns-clause-sound c =
    let old : State = state_of c.self.inside.cells c.self.inside.trail in
    subst (λ s. IsSound s.nodes) c.self.view_is (sound_now old c.self.invariant)

pub returns-clause-plain : goal.returns-clause-plain
returns-clause-plain c =
    let old : State = state_of c.self.inside.cells c.self.inside.trail in
    subst (λ s. IsPlain s.nodes) c.self.view_is (plain_now old c.self.invariant)
