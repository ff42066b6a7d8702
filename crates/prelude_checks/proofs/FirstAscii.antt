-- The types and the modules of a first environment have names of one byte for each character.
use Rattle.std.proofs.Common.{◌≡◌, true, refl, sym, subst}
use Rattle.tree_model.specs.Slots.{is_operand}
use Rattle.grammar_model.specs.Rows.{chain_of, grower_of}
use Rattle.grammar_model.specs.Ocaml.{rows}
use Rattle.grammar_model.specs.Tables.{first_place}
use Rattle.grammar_model.specs.Keys.{kind_key, key_of}
use Rattle.recovery_model.specs.Steps as rules
use Rattle.recovery_model.specs.Recovery.{step, close, recover}
use Rattle.signature_model.specs.Entries.{Environment}
use Rattle.typing_model.specs.BuiltIns.{constant_by}
use Rattle.typing_model.specs.Patterns.{pattern_row}
use Rattle.typing_model.specs.Expressions.{expression_row}
use Rattle.typing_model.specs.TypeExpressions.{type_row}
use Rattle.typing_model.specs.Modules.{module_expression_row, module_type_row, item_row, signature_item_row}
use Rattle.typing_model.specs.First.{behind_prelude, IsFirst}
use Rattle.print_laws.specs.Ascii.{names_ascii}
use Rattle.prelude_checks.proofs.Chosen.{choice}
use Rattle.prelude_checks.proofs.Ones.{first_one}
use Rattle.prelude_checks.proofs.Tokens.{tokens}

one_ascii : names_ascii (behind_prelude tokens choice) ≡ true
unfolding recover step close rules.step rows chain_of grower_of first_place kind_key key_of is_operand constant_by pattern_row expression_row type_row module_expression_row module_type_row item_row signature_item_row
one_ascii = refl

pub first_ascii : (env : Environment) → IsFirst env → names_ascii env ≡ true
first_ascii env first = subst (λ z. names_ascii z ≡ true) (sym (first_one env first)) one_ascii
