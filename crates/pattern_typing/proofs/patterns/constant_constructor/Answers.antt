use Rattle.typing_state.proofs.Going.{goes_trans, goes_refl}
use Rattle.std.proofs.Common.{ap, subst, option_map, refl}
use Rattle.std.specs.Prelude.{Some}
use Rattle.syntax_tree.specs.View.{node_view}
use Rattle.row_parts.specs.Numbered.{path_view}
use Rattle.type_terms.specs.declared.types.NodeRef.{NodeRef}
use Rattle.operand_laws.specs.Operands.{path_of}
use Rattle.typing_steps.specs.Building.{TypesConstructor}
use Rattle.pattern_rows.proofs.Matching.{con_matches}
use Rattle.use_typing.specs.Uses.{TellsUse}
use Rattle.use_typing.proofs.Telling.{use_stays}
use Rattle.pattern_typing.proofs.patterns.constant_constructor.Goals as goal

pub returns-clause-tells : goal.returns-clause-tells
returns-clause-tells c =
    subst (λ p. TellsUse p 0 c.args.at.now c.note.new.self c.args.env.now) c.in_ok-path.ensures
    (use_stays (path_view c.in_ok-path.path) 0 c.args.env.now c.args.at.now c.constructor.new.at c.note.new.self c.in_ok-found.ensures.tells (ap (λ f. f.list.items) c.note.ensures.rest.faults))

pub returns-clause-carries : goal.returns-clause-carries
returns-clause-carries c = λ names seen.
    let found = c.in_ok-found.found in
    let argument = option_map (λ (m : NodeRef). m.0) found.argument in
    con_matches c.args.at.now c.constructor.new.at c.note.new.self c.args.env.now c.args.number (node_view c.args.node.now) found.built found.known argument (record { env = c.args.env.now; ty = Some found.built; names = found.names }) names seen refl refl
    (subst (λ p. TypesConstructor c.args.at.now c.constructor.new.at c.args.env.now (path_of p) 0 found.known found.built.0 argument) c.in_ok-path.ensures c.in_ok-found.ensures.carries) c.constructor.ensures.goes c.in_ok-note.ensures.noted c.note.ensures.rest

pub returns-clause-goes : goal.returns-clause-goes
returns-clause-goes c = goes_trans c.args.at.now c.constructor.new.at c.note.new.self c.constructor.ensures.goes c.note.ensures.goes

pub returns-in_err-found-clause-goes : goal.returns-in_err-found-clause-goes
returns-in_err-found-clause-goes c = c.constructor.ensures.goes

pub returns-in_err-note-clause-goes : goal.returns-in_err-note-clause-goes
returns-in_err-note-clause-goes c = goes_trans c.args.at.now c.constructor.new.at c.note.new.self c.constructor.ensures.goes c.note.ensures.goes

pub returns-in_err-path-clause-goes : goal.returns-in_err-path-clause-goes
returns-in_err-path-clause-goes c = goes_refl c.args.at.now
