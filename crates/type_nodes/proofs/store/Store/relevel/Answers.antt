use Rattle.std.proofs.Common.{sym, subst}
use Rattle.std.specs.Prelude.{OnOk}
use Rattle.type_nodes.specs.Nodes.{Var}
use Rattle.type_nodes.specs.Links.{IsVariable}
use Rattle.type_nodes.specs.States.{State, Keeps}
use Rattle.type_nodes.specs.Changes.{Replaced, Relevels}
use Rattle.type_nodes.specs.Views.{state_of}
use Rattle.type_nodes.proofs.Answered.{relevelled_store, relevelled, done_keeps}
use Rattle.type_nodes.proofs.store.Store.relevel.Goals as goal

pub invariant_of-self : goal.invariant_of-self
invariant_of-self c =
    let old : State = state_of c.self.inside.cells c.self.inside.trail in
    let new : State = state_of c.replace.new.cells c.replace.new.trail in
    relevelled_store c.replace.result old new c.args.var.0 c.args.level c.args.scope c.self.invariant
    (subst (λ k. OnOk c.replace.result (Replaced old new k (Var c.args.level c.args.scope))) c.root_of-var.ensures c.replace.ensures.done) c.replace.ensures.failed

pub returns-clause-done : goal.returns-clause-done
returns-clause-done c =
    let old : State = state_of c.self.inside.cells c.self.inside.trail in
    let new : State = state_of c.replace.new.cells c.replace.new.trail in
    let var = subst (λ s. IsVariable s.nodes c.args.var.0) (sym c.self.view_is) c.requires.var in
    subst (λ s. OnOk c.replace.result (Relevels s new c.args.var.0 c.args.level c.args.scope)) c.self.view_is
    (relevelled c.replace.result old new c.args.var.0 c.args.level c.args.scope c.self.invariant var
    (subst (λ k. OnOk c.replace.result (Replaced old new k (Var c.args.level c.args.scope))) c.root_of-var.ensures c.replace.ensures.done))

pub returns-clause-keeps : goal.returns-clause-keeps
returns-clause-keeps c =
    let old : State = state_of c.self.inside.cells c.self.inside.trail in
    let new : State = state_of c.replace.new.cells c.replace.new.trail in
    subst (λ s. Keeps s new) c.self.view_is
    (done_keeps c.replace.result old new c.root_of-var.result.0 (Var c.args.level c.args.scope) c.replace.ensures.done c.replace.ensures.failed)
