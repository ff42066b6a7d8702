use Rattle.typing_state.proofs.Going.{goes_trans, goes_refl}
use Rattle.std.proofs.Common.{map}
use Rattle.type_nodes.specs.Views.{numbers}
use Rattle.syntax_tree.specs.View.{node_view}
use Rattle.row_parts.specs.Numbered.{operand_view, path_view, path_in}
use Rattle.typing_steps.proofs.Rows.{var_any}
use Rattle.typing_rows.specs.Asked.{expressions_of}
use Rattle.expression_steps.proofs.EndingLaws.{settable_found, settable_lost}
use Rattle.expression_steps.proofs.ends.settable.Goals as goal

pub returns-in-Some-clause-carries : goal.returns-in-Some-clause-carries
returns-in-Some-clause-carries c =
    settable_found c.args.at.now c.field_label.new.at c.has.new.at c.ask_settable.new.at c.args.env.now c.args.parts.now (numbers c.args.types.now) (path_view c.in_ok-path.path) (path_in (node_view c.args.node.now) 2 3) c.in_ok-found.found c.in-Some.used c.in_ok-path.ensures c.in-Some.is
    c.in_ok-found.ensures.carries c.field_label.ensures.goes c.in_ok-has-in-Some.ensures.carries c.has.ensures.goes c.in_ok-ask_settable-in-Some.ensures.carries

pub returns-clause-carries : goal.returns-clause-carries
returns-clause-carries c =
    settable_lost c.args.at.now c.field_label.new.at c.var.new.self c.args.env.now (expressions_of c.args.at.now.item (map operand_view c.args.parts.now)) (numbers c.args.types.now) (path_view c.in_ok-path.path) (path_in (node_view c.args.node.now) 2 3) c.in_ok-found.found c.in_ok-var-in-None.field-0.0
    c.in_ok-path.ensures c.in-None.is c.in_ok-found.ensures.carries c.field_label.ensures.goes (var_any c.field_label.new.at c.var.new.self c.in_ok-var-in-None.ensures.made c.var.ensures.rest)

pub returns-clause-goes : goal.returns-clause-goes
returns-clause-goes c = goes_trans c.args.at.now c.field_label.new.at c.var.new.self c.field_label.ensures.goes c.var.ensures.goes

pub returns-in-Some-clause-goes : goal.returns-in-Some-clause-goes
returns-in-Some-clause-goes c = goes_trans c.args.at.now c.has.new.at c.ask_settable.new.at (goes_trans c.args.at.now c.field_label.new.at c.has.new.at c.field_label.ensures.goes c.has.ensures.goes) c.ask_settable.ensures.goes

pub returns-in_err-ask_settable-in-Some-clause-goes : goal.returns-in_err-ask_settable-in-Some-clause-goes
returns-in_err-ask_settable-in-Some-clause-goes c = goes_trans c.args.at.now c.has.new.at c.ask_settable.new.at (goes_trans c.args.at.now c.field_label.new.at c.has.new.at c.field_label.ensures.goes c.has.ensures.goes) c.ask_settable.ensures.goes

pub returns-in_err-found-clause-goes : goal.returns-in_err-found-clause-goes
returns-in_err-found-clause-goes c = c.field_label.ensures.goes

pub returns-in_err-has-in-Some-clause-goes : goal.returns-in_err-has-in-Some-clause-goes
returns-in_err-has-in-Some-clause-goes c = goes_trans c.args.at.now c.field_label.new.at c.has.new.at c.field_label.ensures.goes c.has.ensures.goes

pub returns-in_err-path-clause-goes : goal.returns-in_err-path-clause-goes
returns-in_err-path-clause-goes c = goes_refl c.args.at.now

pub returns-in_err-var-in-None-clause-goes : goal.returns-in_err-var-in-None-clause-goes
returns-in_err-var-in-None-clause-goes c = goes_trans c.args.at.now c.field_label.new.at c.var.new.self c.field_label.ensures.goes c.var.ensures.goes
