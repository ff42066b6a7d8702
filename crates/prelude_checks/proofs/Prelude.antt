-- The first environment.
use Rattle.std.proofs.Common.{refl, arith}
use Rattle.token_model.specs.Tokens.{Lex}
use Rattle.signature_model.specs.Entries.{Environment}
use Rattle.typing_model.specs.PreludeText.{prelude_text}
use Rattle.typing_model.specs.BuiltIns.{built_in_names}
use Rattle.typing_model.specs.Parts.{no_names}
use Rattle.typing_model.specs.Items.{items_ask}
use Rattle.typing_model.specs.Typings.{outermost}
use Rattle.typing_model.specs.First.{every_site, prelude_items, behind_prelude, IsFirst}
use Rattle.prelude_checks.proofs.Checked.{holding}
use Rattle.prelude_checks.proofs.Chosen.{choice}
use Rattle.ml_lexer.proofs.Columns.{column_start}
use Rattle.prelude_checks.proofs.Lexed.{scanned}
use Rattle.prelude_checks.proofs.Spelled.{spelled}
use Rattle.prelude_checks.proofs.Tokens.{tokens}
use Rattle.prelude_checks.proofs.Typed.{typed}

pub lexed : Lex prelude_text tokens
unfolding Lex
lexed = scanned 2000 prelude_text 0 0 tokens (column_start prelude_text) (omega arith) spelled

abbrev pub first_names : Environment
first_names = behind_prelude tokens choice

pub is_first : IsFirst first_names
is_first = record {
  tokens = tokens;
  lexed = lexed;
  choice = choice;
  holds = holding (items_ask (outermost built_in_names every_site choice) no_names (prelude_items tokens)) typed;
  stands = refl;
}
