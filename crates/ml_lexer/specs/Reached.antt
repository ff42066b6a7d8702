-- Tokens with their reaches.
use Rattle.std.specs.Prelude.{◌≡◌, ℕ, List, Option, Some, None}
use Rattle.syntax_tree.specs.View.{tok_of}
use Rattle.syntax_tree.specs.declared.tree.Token.{Token}
use Rattle.token_model.specs.Kinds.{Tok}
use Rattle.token_model.specs.Tokens.{FirstToken}
use Rattle.ml_lexer.specs.Reaches.{reach_at}

-- a token and its reach
pub record Reached : Type 0 where
  pub token : Tok
  pub reach : ℕ

-- a token of the code, with its reach
abbrev pub reached_of : Token → Reached
reached_of t = record { token = tok_of t; reach = t.reach }

-- where a token ends
abbrev pub end_of : Reached → ℕ
end_of t = t.token.end

-- how far the bytes go that decided a token
abbrev pub reach_of : Reached → ℕ
reach_of t = t.reach

-- the first token of a text at or behind a place, with its reach
abbrev pub FirstReached : List ℕ → ℕ → Option Reached → Type 0
FirstReached text at None = FirstToken text at None
FirstReached text at (Some t) = FirstToken text at (Some t.token) × (t.reach ≡ reach_at text t.token.start)
