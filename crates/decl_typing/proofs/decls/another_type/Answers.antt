use Rattle.type_expressions.proofs.Untyped.{untyped_then, store_untyped}
use Rattle.typing_state.proofs.Going.{goes_trans}
use Rattle.decl_typing.proofs.decls.another_type.Goals as goal

pub returns-clause-goes : goal.returns-clause-goes
returns-clause-goes c = goes_trans c.args.at.now c.read_type.new.at c.declared_root.new.at (goes_trans c.args.at.now c.new_parameters.new.at c.read_type.new.at c.new_parameters.ensures.goes c.read_type.ensures.goes) c.declared_root.ensures.goes

pub returns-in_err-body-clause-goes : goal.returns-in_err-body-clause-goes
returns-in_err-body-clause-goes c = goes_trans c.args.at.now c.new_parameters.new.at c.read_type.new.at c.new_parameters.ensures.goes c.read_type.ensures.goes

pub returns-in_err-nodes-clause-goes : goal.returns-in_err-nodes-clause-goes
returns-in_err-nodes-clause-goes c = c.new_parameters.ensures.goes

pub returns-in_err-parameters-clause-goes : goal.returns-in_err-parameters-clause-goes
returns-in_err-parameters-clause-goes c = c.new_parameters.ensures.goes

pub returns-in_err-root-clause-goes : goal.returns-in_err-root-clause-goes
returns-in_err-root-clause-goes c = goes_trans c.args.at.now c.read_type.new.at c.declared_root.new.at (goes_trans c.args.at.now c.new_parameters.new.at c.read_type.new.at c.new_parameters.ensures.goes c.read_type.ensures.goes) c.declared_root.ensures.goes

pub returns-clause-untyped : goal.returns-clause-untyped
returns-clause-untyped c = untyped_then (untyped_then (store_untyped c.args.at.now c.new_parameters.new.at c.new_parameters.ensures.rest) c.in_ok-body.ensures.untyped) (store_untyped c.read_type.new.at c.declared_root.new.at c.declared_root.ensures.rest)
