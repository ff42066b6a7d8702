use Rattle.std.proofs.Common.{◌<◌, length, sym, subst}
use Rattle.std.specs.Prelude.{OnOk}
use Rattle.type_nodes.specs.Nodes.{Link, IsNode, Apart}
use Rattle.type_nodes.specs.Links.{root, ReadsAsComposite}
use Rattle.type_nodes.specs.Readings.{ReadAlike, SameReadings}
use Rattle.type_nodes.specs.States.{State, Keeps}
use Rattle.type_nodes.specs.Changes.{Redirects}
use Rattle.type_nodes.specs.Views.{state_of}
use Rattle.type_nodes.proofs.Trails.{sound_now}
use Rattle.type_nodes.proofs.Roots.{root_inside}
use Rattle.type_nodes.proofs.Answered.{redirected_store, redirected, done_keeps, redirected_roots, redirected_readings}
use Rattle.type_nodes.proofs.store.Store.redirect.Goals as goal

pub replace-requires : goal.replace-requires
replace-requires c =
    let old : State = state_of c.self.inside.cells c.self.inside.trail in
    let inside : IsNode old.nodes c.args.from.0 = subst (λ s. IsNode s.nodes c.args.from.0) (sym c.self.view_is) c.requires.from in
    subst (λ k. k < length old.nodes) (sym c.root_of-from.ensures) (root_inside old.nodes (sound_now old c.self.invariant) c.args.from.0 inside)

pub invariant_of-self : goal.invariant_of-self
invariant_of-self c =
    let old : State = state_of c.self.inside.cells c.self.inside.trail in
    let new : State = state_of c.replace.new.cells c.replace.new.trail in
    let to = subst (λ s. IsNode s.nodes c.args.to.0) (sym c.self.view_is) c.requires.to in
    let apart = subst (λ s. Apart s.nodes (root s.nodes c.args.from.0) c.args.to.0) (sym c.self.view_is) c.requires.apart in
    redirected_store c.replace.result old new c.args.from.0 c.args.to.0 c.self.invariant to apart
    (redirected_roots c.replace.result old new c.args.from.0 c.args.to.0 c.root_of-from.result.0 c.root_of-to.result.0 c.root_of-from.ensures c.root_of-to.ensures c.replace.ensures.done) c.replace.ensures.failed

pub returns-clause-done : goal.returns-clause-done
returns-clause-done c =
    let old : State = state_of c.self.inside.cells c.self.inside.trail in
    let new : State = state_of c.replace.new.cells c.replace.new.trail in
    let from = subst (λ s. IsNode s.nodes c.args.from.0) (sym c.self.view_is) c.requires.from in
    let to = subst (λ s. IsNode s.nodes c.args.to.0) (sym c.self.view_is) c.requires.to in
    let apart = subst (λ s. Apart s.nodes (root s.nodes c.args.from.0) c.args.to.0) (sym c.self.view_is) c.requires.apart in
    subst (λ s. OnOk c.replace.result (Redirects s new c.args.from.0 c.args.to.0)) c.self.view_is
    (redirected c.replace.result old new c.args.from.0 c.args.to.0 c.self.invariant from to apart
    (redirected_roots c.replace.result old new c.args.from.0 c.args.to.0 c.root_of-from.result.0 c.root_of-to.result.0 c.root_of-from.ensures c.root_of-to.ensures c.replace.ensures.done))

pub returns-clause-keeps : goal.returns-clause-keeps
returns-clause-keeps c =
    let old : State = state_of c.self.inside.cells c.self.inside.trail in
    let new : State = state_of c.replace.new.cells c.replace.new.trail in
    subst (λ s. Keeps s new) c.self.view_is
    (done_keeps c.replace.result old new c.root_of-from.result.0 (Link c.root_of-to.result.0) c.replace.ensures.done c.replace.ensures.failed)

pub returns-clause-readings : goal.returns-clause-readings
returns-clause-readings c =
    let old : State = state_of c.self.inside.cells c.self.inside.trail in
    let new : State = state_of c.replace.new.cells c.replace.new.trail in
    let to = subst (λ s. IsNode s.nodes c.args.to.0) (sym c.self.view_is) c.requires.to in
    let apart = subst (λ s. Apart s.nodes (root s.nodes c.args.from.0) c.args.to.0) (sym c.self.view_is) c.requires.apart in
    subst (λ s. OnOk c.replace.result (ReadsAsComposite s.nodes c.args.from.0 → ReadAlike s.nodes c.args.from.0 c.args.to.0 → SameReadings s.nodes new.nodes)) c.self.view_is
    (redirected_readings c.replace.result old new c.args.from.0 c.args.to.0 c.self.invariant to apart
    (redirected_roots c.replace.result old new c.args.from.0 c.args.to.0 c.root_of-from.result.0 c.root_of-to.result.0 c.root_of-from.ensures c.root_of-to.ensures c.replace.ensures.done))
