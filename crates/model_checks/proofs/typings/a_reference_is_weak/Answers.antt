use Rattle.std.proofs.Common.{refl}
use Rattle.type_model.specs.Types.{Var}
use Rattle.typing_model.specs.BuiltIns.{int_type, list_type}
use Rattle.model_checks.proofs.Apart.{yes_no}
use Rattle.model_checks.specs.Chosen.{reference_choice}
use Rattle.tree_model.specs.Slots.{is_operand}
use Rattle.grammar_model.specs.Rows.{chain_of, grower_of}
use Rattle.grammar_model.specs.Ocaml.{rows}
use Rattle.grammar_model.specs.Tables.{first_place}
use Rattle.grammar_model.specs.Keys.{kind_key, key_of}
use Rattle.recovery_model.specs.Steps as rules
use Rattle.recovery_model.specs.Recovery.{step, close, recover}
use Rattle.typing_model.specs.BuiltIns.{constant_by}
use Rattle.typing_model.specs.Patterns.{pattern_row}
use Rattle.typing_model.specs.Expressions.{expression_row}
use Rattle.typing_model.specs.TypeExpressions.{type_row}
use Rattle.typing_model.specs.Modules.{module_expression_row, module_type_row, item_row, signature_item_row}
use Rattle.model_checks.proofs.typings.a_reference_is_weak.Goals as goal

pub returns-clause-typed : goal.returns-clause-typed
unfolding recover step close rules.step rows chain_of grower_of first_place kind_key key_of is_operand constant_by pattern_row expression_row type_row module_expression_row module_type_row item_row signature_item_row
returns-clause-typed c = record { choice = reference_choice; chosen = λ n. refl; holds = (tt, (tt, (tt, ((refl, ((refl, (tt, tt)), tt)), (tt, (((refl, (tt, tt)), (refl, ((refl, (tt, tt)), tt))), ((λ h. refl), ((record { fill = λ o. int_type; instance = ((λ v. list_type (Var 9)), (λ v h. absurd (yes_no h)), refl) }), ((λ h. refl), (tt, ((refl, (tt, tt)), (refl, ((λ h. refl), (refl, (tt, ((refl, ((refl, (tt, tt)), tt)), ((λ h. refl), ((λ h. refl), ((refl, ((refl, (tt, tt)), tt)), tt))))))))))))))))))) }

pub returns-clause-weak : goal.returns-clause-weak
unfolding recover step close rules.step rows chain_of grower_of first_place kind_key key_of is_operand constant_by pattern_row expression_row type_row module_expression_row module_type_row item_row signature_item_row
returns-clause-weak c = refl

pub returns-clause-strong : goal.returns-clause-strong
unfolding recover step close rules.step rows chain_of grower_of first_place kind_key key_of is_operand constant_by pattern_row expression_row type_row module_expression_row module_type_row item_row signature_item_row
returns-clause-strong c = refl
