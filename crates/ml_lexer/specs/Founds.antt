-- What a found token is, and that it lies in what is left.
use Rattle.std.specs.Prelude.{ℕ, ◌+◌, ◌<◌, ◌≤◌, List, length, take, drop}
use Rattle.ml_lexer.specs.declared.found.Found.{Found}
use Rattle.ml_lexer.specs.declared.brackets.Ended.{Ended}
use Rattle.ml_lexer.specs.Scans as scan
use Rattle.token_model.specs.Kinds.{Kind, Tok}
use Rattle.syntax_tree.specs.Names.{kind_of}

-- a found token without its reach
abbrev pub found_of : Found → scan.Found
found_of f = record { kind = kind_of f.kind; size = f.size; name_start = f.name_start; name_size = f.name_size }

-- the token has a byte, and lies with its name in what is left; what decided it goes at most one byte behind the end
pub record Fits (f : Found) (bytes : List ℕ) : Type 0 where
  pub some : 0 < f.size
  pub within : f.size ≤ length bytes
  pub name : f.name_start + f.name_size ≤ f.size
  pub reached : f.size ≤ f.reach
  pub near : f.reach ≤ length bytes + 1

-- what the code's scan of an operator gives: its kind and its end
abbrev pub ended_of : Ended → Kind × ℕ
ended_of e = (kind_of e.kind, e.end)

-- a found token at its place and column in the text, before some bytes of which it is the front
abbrev pub placed_tok : ℕ → ℕ → scan.Found → List ℕ → Tok
placed_tok at col f bytes = record { kind = f.kind; start = at; end = at + f.size; col = col; name = take f.name_size (drop f.name_start bytes) }
