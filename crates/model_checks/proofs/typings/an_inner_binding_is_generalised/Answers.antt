use Rattle.std.proofs.Common.{true, false, refl}
use Rattle.type_model.specs.Types.{Var, Arrow}
use Rattle.typing_model.specs.BuiltIns.{int_type, string_type}
use Rattle.model_checks.specs.Typings.{first}
use Rattle.model_checks.proofs.Apart.{yes_no}
use Rattle.model_checks.specs.Chosen.{inner_choice, pair_type}
use Rattle.tree_model.specs.Slots.{is_operand}
use Rattle.grammar_model.specs.Rows.{chain_of, grower_of}
use Rattle.grammar_model.specs.Ocaml.{rows}
use Rattle.grammar_model.specs.Tables.{first_place}
use Rattle.grammar_model.specs.Keys.{kind_key, key_of}
use Rattle.recovery_model.specs.Steps as rules
use Rattle.recovery_model.specs.Recovery.{step, close, recover}
use Rattle.typing_model.specs.BuiltIns.{constant_by}
use Rattle.typing_model.specs.Patterns.{pattern_row}
use Rattle.typing_model.specs.Expressions.{expression_row}
use Rattle.typing_model.specs.TypeExpressions.{type_row}
use Rattle.typing_model.specs.Modules.{module_expression_row, module_type_row, item_row, signature_item_row}
use Rattle.model_checks.proofs.typings.an_inner_binding_is_generalised.Goals as goal

pub returns : goal.returns
unfolding recover step close rules.step rows chain_of grower_of first_place kind_key key_of is_operand constant_by pattern_row expression_row type_row module_expression_row module_type_row item_row signature_item_row
returns c = record { choice = inner_choice; chosen = λ n. refl; holds = (tt, (tt, (tt, (((refl {a = false}, tt), ((refl {a = false}, tt), tt)), (tt, (tt, ((tt, tt), (tt, (tt, ((λ h. refl {a = true}), (tt, (tt, ((λ h. refl {a = true}), ((record { fill = λ o. int_type; instance = ((λ v. Var v), (λ v h. refl), refl {a = Var (first 7)}) }), ((refl {a = (Arrow (Var (first 7)) (Var (first 7)))}), (tt, ((tt, tt), ((λ h. refl {a = true}), ((λ h. refl {a = (Arrow (Var (first 7)) (Var (first 7)))}), (tt, (((refl {a = false}, tt), ((refl {a = false}, tt), tt)), (tt, (((refl {a = false}, tt), ((refl {a = false}, tt), tt)), (tt, ((refl {a = false}, tt), (tt, (((refl {a = false}, tt), (refl {a = false}, tt)), ((λ h. refl {a = true}), ((record { fill = λ o. int_type; instance = ((λ v. int_type), (λ v h. absurd (yes_no h)), refl {a = Arrow int_type int_type}) }), ((λ h. refl {a = (Arrow (int_type) (int_type))}), (tt, ((refl {a = false}, tt), ((λ h. refl {a = true}), ((refl {a = int_type}), ((λ h. refl {a = int_type}), ((refl {a = int_type}), (tt, ((refl {a = false}, tt), (tt, (((refl {a = false}, tt), (refl {a = false}, tt)), ((λ h. refl {a = true}), ((record { fill = λ o. int_type; instance = ((λ v. string_type), (λ v h. absurd (yes_no h)), refl {a = Arrow string_type string_type}) }), ((λ h. refl {a = (Arrow (string_type) (string_type))}), (tt, ((refl {a = false}, tt), ((refl {a = string_type}), ((λ h. refl {a = string_type}), ((refl {a = string_type}), ((refl {a = pair_type}), ((refl {a = pair_type}), ((refl {a = pair_type}), (tt, (((refl {a = false}, tt), ((refl {a = false}, tt), tt)), ((λ h. refl {a = true}), ((λ h. refl {a = pair_type}), (((refl {a = true}, tt), ((refl {a = true}, tt), tt)), tt)))))))))))))))))))))))))))))))))))))))))))))))))))))))) }
