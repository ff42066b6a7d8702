use Rattle.std.proofs.Common.{true, refl}
use Rattle.type_model.specs.Types.{Var, Arrow}
use Rattle.model_checks.specs.Scopes.{ref_type}
use Rattle.tree_model.specs.Slots.{is_operand}
use Rattle.grammar_model.specs.Rows.{chain_of, grower_of}
use Rattle.grammar_model.specs.Ocaml.{rows}
use Rattle.grammar_model.specs.Tables.{first_place}
use Rattle.grammar_model.specs.Keys.{kind_key, key_of}
use Rattle.recovery_model.specs.Steps as rules
use Rattle.recovery_model.specs.Recovery.{step, close, recover}
use Rattle.typing_model.specs.BuiltIns.{constant_by}
use Rattle.typing_model.specs.Patterns.{pattern_row}
use Rattle.typing_model.specs.Expressions.{expression_row}
use Rattle.typing_model.specs.TypeExpressions.{type_row}
use Rattle.typing_model.specs.Modules.{module_expression_row, module_type_row, item_row, signature_item_row}
use Rattle.model_checks.proofs.preludes.a_prelude_is_read.Goals as goal

pub returns-clause-typed : goal.returns-clause-typed
unfolding recover step close rules.step rows chain_of grower_of first_place kind_key key_of is_operand constant_by pattern_row expression_row type_row module_expression_row module_type_row item_row signature_item_row
returns-clause-typed c = ((tt), ((λ h. refl {a = true}), ((tt), ((λ h. refl {a = true}), ((tt), ((tt), ((λ h. refl {a = true}), ((refl {a = Var 0}), ((λ h. refl {a = true}), ((tt), ((tt), ((tt), ((λ h. refl {a = true}), ((refl {a = Var 0}), ((tt), ((tt), ((λ h. refl {a = true}), ((refl {a = Var 0}), ((λ h. refl {a = true}), ((λ h. refl {a = true}), ((refl {a = ref_type (Var 0)}), ((refl {a = Arrow (Var 0) (ref_type (Var 0))}), tt))))))))))))))))))))))

pub returns-clause-value : goal.returns-clause-value
unfolding recover step close rules.step rows chain_of grower_of first_place kind_key key_of is_operand constant_by pattern_row expression_row type_row module_expression_row module_type_row item_row signature_item_row
returns-clause-value c = refl

pub returns-clause-label : goal.returns-clause-label
unfolding recover step close rules.step rows chain_of grower_of first_place kind_key key_of is_operand constant_by pattern_row expression_row type_row module_expression_row module_type_row item_row signature_item_row
returns-clause-label c = refl

pub returns-clause-built_in : goal.returns-clause-built_in
unfolding recover step close rules.step rows chain_of grower_of first_place kind_key key_of is_operand constant_by pattern_row expression_row type_row module_expression_row module_type_row item_row signature_item_row
returns-clause-built_in c = refl
