use Rattle.std.proofs.Common.{◌∙◌, sym, ap, set}
use Rattle.type_nodes.specs.Nodes.{Link}
use Rattle.type_nodes.proofs.Roots.{apart_other}
use Rattle.std.specs.Prelude.{nat_eq}
use Rattle.std.specs.HashSet.{contains}
use Rattle.level_unify.proofs.Steps.{linked_sound}
use Rattle.level_unify.proofs.Likeness.{cleared_linked}
use Rattle.level_unify.proofs.solve.bind.Goals as goal

pub returns-clause-sound : goal.returns-clause-sound
returns-clause-sound c =
    let v = c.requires.var_root in let t = c.requires.to_root in
    linked_sound c.args.store.now.nodes c.bind.new.self.nodes c.args.var.0 c.args.to.0 c.requires.var.inside c.requires.to c.requires.sound (c.in_ok-occurs.ensures.no c.if-branch.false)
    (c.in_ok-bind.ensures.done.written.nodes ∙ (λ i. set c.args.store.now.nodes (v i) (Link (t i))))

pub returns-clause-cleared : goal.returns-clause-cleared
returns-clause-cleared c =
    let v = c.requires.var_root in let t = c.requires.to_root in
    let e = c.in_ok-bind.ensures.done.written.nodes ∙ (λ i. set c.args.store.now.nodes (v i) (Link (t i))) in
    let apart = c.in_ok-occurs.ensures.no c.if-branch.false in
    let w = c.in_ok-occurs.ensures.cleared c.if-branch.false in
    cleared_linked c.args.store.now.nodes c.bind.new.self.nodes (contains nat_eq c.occurs.new.cleared) c.args.var.0 c.args.to.0 c.requires.sound
    (linked_sound c.args.store.now.nodes c.bind.new.self.nodes c.args.var.0 c.args.to.0 c.requires.var.inside c.requires.to c.requires.sound apart e)
    c.requires.var.inside c.requires.to v t (apart_other c.args.store.now.nodes c.args.var.0 c.args.to.0 apart) e w.cleared
    (λ has. ap (contains nat_eq c.occurs.new.cleared) (sym t) ∙ w.has)
