use Rattle.std.proofs.Common.{◌∙◌, set}
use Rattle.type_nodes.specs.Nodes.{Link}
use Rattle.type_nodes.proofs.Roots.{apart_other}
use Rattle.level_unify.specs.Solutions.{is_cleared}
use Rattle.level_unify.proofs.Steps.{linked_sound}
use Rattle.level_unify.proofs.Likeness.{cleared_linked}
use Rattle.level_unify.proofs.solve.join.Goals as goal

pub returns-clause-sound : goal.returns-clause-sound
returns-clause-sound c =
    let v = c.requires.left_root in let t = c.requires.right_root in
    linked_sound c.args.store.now.nodes c.link.new.self.nodes c.args.left.0 c.args.right.0 c.requires.left c.requires.right c.requires.sound c.requires.apart
    (c.in_ok-link.ensures.done.written.nodes ∙ (λ i. set c.args.store.now.nodes (v i) (Link (t i))))

pub returns-clause-cleared : goal.returns-clause-cleared
returns-clause-cleared c =
    let v = c.requires.left_root in let t = c.requires.right_root in
    let e = c.in_ok-link.ensures.done.written.nodes ∙ (λ i. set c.args.store.now.nodes (v i) (Link (t i))) in
    cleared_linked c.args.store.now.nodes c.link.new.self.nodes (is_cleared c.args.todo.now) c.args.left.0 c.args.right.0 c.requires.sound
    (linked_sound c.args.store.now.nodes c.link.new.self.nodes c.args.left.0 c.args.right.0 c.requires.left c.requires.right c.requires.sound c.requires.apart e)
    c.requires.left c.requires.right v t (apart_other c.args.store.now.nodes c.args.left.0 c.args.right.0 c.requires.apart) e c.requires.cleared c.requires.alike
