use Rattle.std.proofs.Common.{◌≡◌, ◌∙◌, ◌++◌, length, refl, ap, sym, subst}
use Rattle.std.proofs.lemmas.Result.{IfOk-weaker}
use Rattle.std.proofs.lemmas.List.{length-map}
use Rattle.text_terms.specs.Bytes.{str_bytes}
use Rattle.syntax_tree.specs.View.{node_view}
use Rattle.tree_model.specs.Trees.{yield_of}
use Rattle.typing_model.specs.Items.{variables_written}
use Rattle.typing_model.specs.Modules.{once_each}
use Rattle.declared_rows.specs.Operands.{DenotesOperand}
use Rattle.decl_typing.specs.Parameters.{token_names}
use Rattle.type_expressions.specs.declared.types.Parameter.{Parameter}
use Rattle.type_expressions.specs.Items.{names_of, nodes_of}
use Rattle.typing_state.proofs.Going.{goes_trans}
use Rattle.signature_typing.specs.Values.{variables_of}
use Rattle.signature_typing.proofs.Values.{value_denotes}
use Rattle.signature_typing.proofs.items.specified.Goals as goal

pub returns-clause-goes : goal.returns-clause-goes
returns-clause-goes c = goes_trans c.args.at.now c.new_parameters.new.at c.read_type.new.at c.new_parameters.ensures.goes c.read_type.ensures.goes

pub returns-clause-means : goal.returns-clause-means
returns-clause-means c =
    let t = node_view c.args.node.now in
    let ps = c.in_ok-parameters.parameters.items in
    let named : names_of ps ≡ variables_of t = c.in_ok-parameters.ensures.named ∙ ap token_names c.deref.ensures.value ∙ c.in_ok-add_variables.ensures
    ∙ ap (λ ns. token_names ns ++ once_each (token_names ns) (variables_written (yield_of t))) c.new-names.ensures.items in
    let many : length (nodes_of ps) ≡ length (variables_of t) = length-map ps (λ (p : Parameter). p.node.0) ∙ sym (length-map ps (λ (p : Parameter). str_bytes p.name)) ∙ ap length named in
    IfOk-weaker c.read_type.result _ _ (λ m means. value_denotes c.args.at.now c.new_parameters.new.at c.read_type.new.at c.args.env.now c.args.number t (nodes_of ps) m.0 many
    c.in_ok-parameters.ensures.means c.new_parameters.ensures.rest c.new_parameters.ensures.goes (subst (λ o. DenotesOperand c.new_parameters.new.at c.read_type.new.at c.args.env.now (variables_of t) (nodes_of ps) o m.0) c.operand_in.ensures (means (variables_of t) (nodes_of ps) named refl))) c.read_type.ensures.means
