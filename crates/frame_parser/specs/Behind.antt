-- The tokens behind which a stack is.
use Rattle.std.specs.Prelude.{List}
use Rattle.token_model.specs.Kinds.{Tok}
use Rattle.grammar_model.specs.Ocaml.{Text}
use Rattle.frame_parser.specs.Run.{run}
use Rattle.frame_parser.specs.Shown.{Shows}
use Rattle.frame_parser.specs.declared.stack.Stack.{Stack}

-- the stack stands for the parser behind these tokens of a text
abbrev pub Behind : Text → List Tok → Stack → Type 0
Behind text ts s = Shows text (run text ts) s
