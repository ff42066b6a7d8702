use Rattle.type_terms.specs.Views.{path_of}
use Rattle.type_nodes.specs.Nodes.{Var}
use Rattle.level_unify.specs.Copies.{Extends}
use Rattle.typing_state.specs.Types.{level_for}
use Rattle.type_reading.proofs.Extending.{makes_extends}
use Rattle.type_reading.specs.declared.changes.Real.{Real}
use Rattle.sig_template.proofs.Reals.{pushed_unknown, after_any}
use Rattle.std.proofs.Common.{refl}
use Rattle.sig_template.proofs.realising.Realised.unknown.Goals as goal

pub returns-clause-added : goal.returns-clause-added
returns-clause-added c =
    let real : Real = record { origin = c.in_ok-copied_origin.field-0; root = c.in_ok-root.root; arity = 0 } in
    pushed_unknown c.push-2.result (path_of c.args.origin.now) c.args.self.now.changes.real.items c.push-2.new.list.items real c.in_ok-copied_origin.ensures.path refl c.push-2.ensures.pushed

pub returns-clause-extends : goal.returns-clause-extends
returns-clause-extends c = after_any c.push-2.result (Extends c.args.at.now.store.nodes c.var_of_scope.new.self.store.nodes)
    (makes_extends c.args.at.now.store c.var_of_scope.new.self.store c.in_ok-root.root.0 (Var (level_for c.args.at.now.level) 0) c.in_ok-root.ensures.made)

pub returns-in_err-root-clause-goes : goal.returns-in_err-root-clause-goes
returns-in_err-root-clause-goes c = c.var_of_scope.ensures.goes

pub returns-in_err-push-clause-goes : goal.returns-in_err-push-clause-goes
returns-in_err-push-clause-goes c = c.var_of_scope.ensures.goes

pub returns-in_err-copied_origin-clause-goes : goal.returns-in_err-copied_origin-clause-goes
returns-in_err-copied_origin-clause-goes c = c.var_of_scope.ensures.goes

pub returns-clause-goes : goal.returns-clause-goes
returns-clause-goes c = c.var_of_scope.ensures.goes
