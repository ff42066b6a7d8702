-- A text with what is kept of it: its tokens, and what the parser made of them.
use Rattle.std.specs.Prelude.{◌≡◌, ℕ, ◌+◌, ◌-◌, ◌*◌, ◌≤◌, List, [], length, take, Bool, true, false, Option, Some, None, if◌then◌else◌, nat_lt}
use Rattle.token_model.specs.Kinds.{Tok}
use Rattle.tree_model.specs.Trees.{Tree}
use Rattle.grammar_model.specs.Ocaml.{program_text}
use Rattle.ml_lexer.specs.Reached.{end_of, reach_of, FirstReached, Reached}
use Rattle.ml_lexer.specs.Steady.{ends_at, steady, AllTokens}
use Rattle.token_store.specs.Stored.{toks_of}
use Rattle.resume_parser.specs.Kept.{text_in, trees_behind, HasParsed, IsWhole}
use Rattle.resume_parser.specs.Retaken.{kept_behind}
use Rattle.resume_parser.specs.declared.kept.KeptParse.{KeptParse}

-- a text, the tokens that are kept of it with their reaches, and the first byte that may have changed since they were read; none, where they are those of the text
pub record Kept : Type 0 where
  pub text : List ℕ
  pub tokens : List Reached
  pub changed : Option ℕ

-- the first changed byte where bytes from one place on are changed and had been from another, or nothing had been
abbrev pub sooner : ℕ → Option ℕ → ℕ
sooner first None = first
sooner first (Some before) = if nat_lt first before then first else before

-- where a token ends
abbrev pub tok_end : Tok → ℕ
tok_end t = t.end

-- How many tokens are read anew at most where bytes from a place on were changed: 32 more than those of the text that end there or behind.
abbrev pub read_behind : ℕ → List Tok → ℕ
read_behind from ts = 32 + ends_at tok_end from ts

-- How many are shifted at most: each of these twice, and those before them that the parser keeps, as it may take them again.
abbrev pub shifted_behind : ℕ → List Tok → ℕ
shifted_behind from ts = kept_behind program_text (take (length ts - read_behind from ts) ts) + 2 * read_behind from ts

-- All tokens are there that a change at a place leaves as they are: those of a text that was read whole, with the same bytes before the place.
pub record AreLeft (text : List ℕ) (from : ℕ) (tokens : List Reached) : Type 0 where
  pub read : List ℕ
  pub all : List Reached
  pub lexed : AllTokens FirstReached end_of read 0 all
  pub same : take from read ≡ take from text
  pub left : steady reach_of from tokens ≡ steady reach_of from all

-- the tokens are those of the text, or all those are among them which the first changed byte leaves as they are
abbrev pub AreTokens : List ℕ → Option ℕ → List Reached → Type 0
AreTokens text None ts = AllTokens FirstReached end_of text 0 ts
AreTokens text (Some from) ts = AreLeft text from ts

-- the parser has taken these tokens, as those of a program; none, where it hasn't begun
abbrev pub IsParserOf : List Tok → Option KeptParse → Type 0
IsParserOf ts None = ts ≡ []
IsParserOf ts (Some k) = HasParsed ts k × (text_in k ≡ program_text)

-- the parser has taken tokens of which so many are the first of these
pub record IsParsedUpTo (same : ℕ) (ts : List Tok) (parse : Option KeptParse) : Type 0 where
  pub old : List Tok
  pub parsed : IsParserOf old parse
  pub known : same ≤ length old
  pub within : same ≤ length ts
  pub first : take same old ≡ take same ts

-- the parser has begun, has taken these tokens and no others, and keeps their tree
abbrev pub IsParsedWhole : List Tok → Option KeptParse → Type 0
IsParsedWhole ts None = ⊥
IsParsedWhole ts (Some k) = IsWhole ts k × (text_in k ≡ program_text)

-- where nothing was changed, the parser has taken all tokens, and they are few enough for it
abbrev pub IsUpToDate : Option ℕ → List Tok → Option KeptParse → Type 0
IsUpToDate None ts parse = IsParsedWhole ts parse × (length ts ≤ 1048576)
IsUpToDate (Some from) ts parse = Unit {0}

-- where there is a tree, it is that of these tokens, and they are few enough for the parser
abbrev pub HasTree : Bool → List Tok → Option KeptParse → Type 0
HasTree true ts parse = IsParsedWhole ts parse × (length ts ≤ 1048576)
HasTree false ts parse = Unit {0}

-- the items of a program with these tokens
abbrev pub trees_in : List Reached → List Tree
trees_in ts = trees_behind program_text (toks_of ts)

-- the parser knows all tokens that the change left, or all of them where nothing was changed
abbrev pub IsKnown : Option ℕ → List Reached → ℕ → Type 0
IsKnown None ts same = length ts ≤ same
IsKnown (Some from) ts same = length (steady reach_of from ts) ≤ same

-- what ties the tokens and the parser to the text
pub record IsKept (text : List ℕ) (tokens : List Reached) (parse : Option KeptParse) (changed : Option ℕ) (same : ℕ) (has_tree : Bool) : Type 0 where
  pub lexed : AreTokens text changed tokens
  pub parsed : IsParsedUpTo same (toks_of tokens) parse
  pub known : IsKnown changed tokens same
  pub whole : IsUpToDate changed (toks_of tokens) parse
  pub tree : HasTree has_tree (toks_of tokens) parse
