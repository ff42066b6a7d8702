use Rattle.std.proofs.Common.{sym, subst}
use Rattle.std.specs.Prelude.{All, IfOk}
use Rattle.type_nodes.specs.Nodes.{IsNode, parts}
use Rattle.type_nodes.specs.States.{Keeps}
use Rattle.type_nodes.specs.Changes.{Makes}
use Rattle.type_nodes.specs.Views.{node_of, state_of}
use Rattle.type_nodes.proofs.Answered.{made_store, made_makes, made_keeps}
use Rattle.type_nodes.proofs.store.Store.add.Goals as goal

pub invariant_of-self : goal.invariant_of-self
invariant_of-self c =
    let inside = subst (λ s. All (IsNode s.nodes) (parts (node_of c.args.cell))) (sym c.self.view_is) c.requires.parts in
    made_store c.make.result (state_of c.self.inside.cells c.self.inside.trail) (state_of c.make.new.cells c.make.new.trail) (node_of c.args.cell) c.self.invariant inside
    c.requires.plain c.make.ensures.made c.make.ensures.failed

pub returns-clause-made : goal.returns-clause-made
returns-clause-made c =
    subst (λ s. IfOk c.make.result (λ n. Makes s (state_of c.make.new.cells c.make.new.trail) n.0 (node_of c.args.cell))) c.self.view_is
    (made_makes c.make.result (state_of c.self.inside.cells c.self.inside.trail) (state_of c.make.new.cells c.make.new.trail) (node_of c.args.cell) c.self.invariant c.requires.no_link c.make.ensures.made)

pub returns-clause-keeps : goal.returns-clause-keeps
returns-clause-keeps c =
    subst (λ s. Keeps s (state_of c.make.new.cells c.make.new.trail)) c.self.view_is
    (made_keeps c.make.result (state_of c.self.inside.cells c.self.inside.trail) (state_of c.make.new.cells c.make.new.trail) (node_of c.args.cell) c.make.ensures.made c.make.ensures.failed)
