-- All that is to be known of the first environment's names is.
use Rattle.std.proofs.Common.{◌≡◌, true, refl}
use Rattle.tree_model.specs.Slots.{is_operand}
use Rattle.grammar_model.specs.Rows.{chain_of, grower_of}
use Rattle.grammar_model.specs.Ocaml.{rows}
use Rattle.grammar_model.specs.Tables.{first_place}
use Rattle.grammar_model.specs.Keys.{kind_key, key_of}
use Rattle.recovery_model.specs.Steps as rules
use Rattle.recovery_model.specs.Recovery.{step, close, recover}
use Rattle.typing_model.specs.BuiltIns.{constant_by}
use Rattle.typing_model.specs.Patterns.{pattern_row}
use Rattle.typing_model.specs.Expressions.{expression_row}
use Rattle.typing_model.specs.TypeExpressions.{type_row}
use Rattle.typing_model.specs.Modules.{module_expression_row, module_type_row, item_row, signature_item_row}
use Rattle.typing_model.specs.First.{behind_prelude}
use Rattle.prelude_checks.proofs.Chosen.{choice}
use Rattle.prelude_checks.proofs.Plain.{knows_names}
use Rattle.prelude_checks.proofs.Tokens.{tokens}

pub first_known : knows_names (behind_prelude tokens choice) ≡ true
unfolding recover step close rules.step rows chain_of grower_of first_place kind_key key_of is_operand constant_by pattern_row expression_row type_row module_expression_row module_type_row item_row signature_item_row
first_known = refl
