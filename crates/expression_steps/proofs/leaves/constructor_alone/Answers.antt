use Rattle.std.specs.Prelude.{option_map}
use Rattle.type_terms.specs.declared.types.NodeRef.{NodeRef}
use Rattle.row_parts.specs.Numbered.{path_view}
use Rattle.typing_rows.proofs.Constructed.{alone_typed}
use Rattle.expression_steps.proofs.leaves.constructor_alone.Goals as goal

pub returns-clause-carries : goal.returns-clause-carries
returns-clause-carries c = λ n.
    let p = path_view c.args.path.now in
    let found = c.in_ok-found.found in
    alone_typed c.args.at.now c.constructor.new.at {env = c.args.env.now} p.qualifiers p.last found.known found.built.0 (option_map (λ (m : NodeRef). m.0) found.argument) n c.in_ok-found.ensures.carries

pub returns-clause-goes : goal.returns-clause-goes
returns-clause-goes c = c.constructor.ensures.goes

pub returns-in_err-found-clause-goes : goal.returns-in_err-found-clause-goes
returns-in_err-found-clause-goes c = c.constructor.ensures.goes
