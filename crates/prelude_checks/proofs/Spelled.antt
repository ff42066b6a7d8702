-- The tokens of the prelude's text.
use Rattle.std.proofs.Common.{◌≡◌, Some, refl}
use Rattle.token_model.specs.Words.{other_word_kind, last_word_kind, late_word_kind, middle_word_kind, early_word_kind, word_kind, sign_kind}
use Rattle.ml_lexer.specs.Scans.{word_found, upper_found, escape_size, char_size, tick_found, literal_found, numeral_found, quote_found, brace_found, bracket_found, paren_found, sign_found, mark_or_stray, found_from}
use Rattle.typing_model.specs.PreludeText.{prelude_text}
use Rattle.prelude_checks.proofs.Lexed.{scan}
use Rattle.prelude_checks.proofs.Tokens.{tokens}

pub spelled : scan 2000 0 0 prelude_text ≡ Some tokens
unfolding prelude_text other_word_kind last_word_kind late_word_kind middle_word_kind early_word_kind word_kind sign_kind word_found upper_found escape_size char_size tick_found literal_found numeral_found quote_found brace_found bracket_found paren_found sign_found mark_or_stray found_from
spelled = refl
