-- The tokens that the parser keeps, as it may take them again.
use Rattle.std.specs.Prelude.{ℕ, List}
use Rattle.token_model.specs.Kinds.{Tok}
use Rattle.grammar_model.specs.Ocaml.{Text}
use Rattle.frame_parser.specs.Run.{run, kept_in}

-- how many tokens are kept behind the first tokens of a text
abbrev pub kept_behind : Text → List Tok → ℕ
kept_behind text ts = kept_in (run text ts).item
