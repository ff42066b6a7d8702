-- The prelude's tree has items that are specified and nothing else.
use Rattle.std.proofs.Common.{◌≡◌, true, refl}
use Rattle.tree_model.specs.Slots.{is_operand}
use Rattle.grammar_model.specs.Rows.{chain_of, grower_of}
use Rattle.grammar_model.specs.Ocaml.{interface_text, grammar, row_name, rows}
use Rattle.grammar_model.specs.Tables.{first_place}
use Rattle.grammar_model.specs.Keys.{kind_key, key_of}
use Rattle.grammar_model.specs.Named.{named}
use Rattle.recovery_model.specs.Steps as rules
use Rattle.recovery_model.specs.Recovery.{step, close, recover}
use Rattle.row_parts.specs.Numbered.{operands_from}
use Rattle.prelude_checks.proofs.Items.{tree_fits}
use Rattle.prelude_checks.proofs.Tokens.{tokens}

pub fitting : tree_fits (named row_name (recover (grammar interface_text) tokens).0) ≡ true
unfolding recover step close rules.step rows chain_of grower_of first_place kind_key key_of is_operand operands_from
fitting = refl
