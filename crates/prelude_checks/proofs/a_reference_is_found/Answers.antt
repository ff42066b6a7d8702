use Rattle.std.proofs.Common.{◌≡◌, codes, Some, refl, arith}
use Rattle.token_model.specs.Tokens.{Lex}
use Rattle.token_model.specs.Words.{other_word_kind, last_word_kind, late_word_kind, middle_word_kind, early_word_kind, word_kind, sign_kind}
use Rattle.ml_lexer.specs.Scans.{word_found, upper_found, escape_size, char_size, tick_found, literal_found, numeral_found, quote_found, brace_found, bracket_found, paren_found, sign_found, mark_or_stray, found_from}
use Rattle.typing_model.specs.First.{program_items}
use Rattle.model_checks.specs.Texts.{reference}
use Rattle.ml_lexer.proofs.Columns.{column_start}
use Rattle.prelude_checks.proofs.Lexed.{scan, scanned}
use Rattle.prelude_checks.proofs.Prelude.{first_names, is_first}
use Rattle.prelude_checks.proofs.Reference.{kept_ones, principal}
use Rattle.prelude_checks.proofs.a_reference_is_found.Goals as goal

spelled : scan 10 0 0 (codes "let r = ref []") ≡ Some reference
unfolding other_word_kind last_word_kind late_word_kind middle_word_kind early_word_kind word_kind sign_kind word_found upper_found escape_size char_size tick_found literal_found numeral_found quote_found brace_found bracket_found paren_found sign_found mark_or_stray found_from
spelled = refl

lexed : Lex (codes "let r = ref []") reference
unfolding Lex
lexed = scanned 10 (codes "let r = ref []") 0 0 reference (column_start (codes "let r = ref []")) (omega arith) spelled

pub returns : goal.returns
returns c = record {
  env = first_names;
  items = program_items reference;
  setting = record { tokens = reference; lexed = lexed; parsed = refl; first = is_first };
  keeps = kept_ones;
  principal = principal;
}
