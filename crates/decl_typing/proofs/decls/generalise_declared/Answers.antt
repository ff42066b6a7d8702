use Rattle.std.proofs.Common.{[], ◌∷◌}
use Rattle.typing_state.proofs.Going.{goes_trans}
use Rattle.typing_steps.proofs.Schemes.{plain_nodes}
use Rattle.decl_typing.specs.Parameters.{shape_roots}
use Rattle.type_reading.proofs.Filling.{store_then}
use Rattle.decl_typing.proofs.Parameters.{closes_both, closes_root}
use Rattle.decl_typing.proofs.decls.generalise_declared.Goals as goal

pub returns-clause-closes : goal.returns-clause-closes
returns-clause-closes c =
    let at = c.args.at.now in
    let mid = c.generalise.new.self in
    closes_both at mid c.generalise_shape.new.at (c.args.root.0 ∷ []) (shape_roots c.args.shape.now) (closes_root at mid c.args.root.0 c.in_ok-generalise.ensures.bound) c.generalise.ensures.rest c.in_ok-generalise_shape.ensures.closes

pub returns-clause-plain : goal.returns-clause-plain
returns-clause-plain c = plain_nodes c.generalise_shape.new.at.store.nodes c.len-nodes.ensures.plain

pub returns-clause-rest : goal.returns-clause-rest
returns-clause-rest c = store_then c.generalise.ensures.rest c.generalise_shape.ensures.rest

pub returns-clause-goes : goal.returns-clause-goes
returns-clause-goes c = goes_trans c.args.at.now c.generalise.new.self c.generalise_shape.new.at c.generalise.ensures.goes c.generalise_shape.ensures.goes

pub returns-in_err-generalise-clause-rest : goal.returns-in_err-generalise-clause-rest
returns-in_err-generalise-clause-rest c = c.generalise.ensures.rest

pub returns-in_err-generalise-clause-goes : goal.returns-in_err-generalise-clause-goes
returns-in_err-generalise-clause-goes c = c.generalise.ensures.goes

pub returns-in_err-generalise_shape-clause-rest : goal.returns-in_err-generalise_shape-clause-rest
returns-in_err-generalise_shape-clause-rest c = store_then c.generalise.ensures.rest c.generalise_shape.ensures.rest

pub returns-in_err-generalise_shape-clause-goes : goal.returns-in_err-generalise_shape-clause-goes
returns-in_err-generalise_shape-clause-goes c = goes_trans c.args.at.now c.generalise.new.self c.generalise_shape.new.at c.generalise.ensures.goes c.generalise_shape.ensures.goes
