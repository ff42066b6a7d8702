-- What a text was parsed as.
use Rattle.std.specs.Prelude.{◌≡◌, ℕ, List, map}
use Rattle.text_terms.specs.Bytes.{str_bytes}
use Rattle.token_model.specs.Kinds.{Tok}
use Rattle.token_model.specs.Tokens.{Lex}
use Rattle.tree_model.specs.Trees as plain
use Rattle.service_model.specs.Structure.{items_in, faults_in}
use Rattle.syntax_tree.specs.View.{trees_of}
use Rattle.frame_parser.specs.declared.whole.Parsed.{Parsed}
use Rattle.text_queries.specs.Faults.{fault_of}
use Rattle.query_engine.specs.declared.types.Typed as engine
use Rattle.text_reading.specs.declared.structure.ParsedText.{ParsedText}
use Rattle.text_reading.specs.declared.structure.ParsedText.TheVariants.{Kept, New}

-- the tree and the faults that are kept or new
abbrev pub parsed_in : ParsedText → Parsed
parsed_in (Kept p) = p.now
parsed_in (New p) = p

-- the text of a node's type
abbrev pub type_text_of : engine.Typed → List ℕ
type_text_of t = str_bytes t.ty

-- the text's tokens, with the items and the faults of these
pub record IsParsedAs (text : List ℕ) (parsed : Parsed) : Type 0 where
  pub tokens : List Tok
  pub lexed : Lex text tokens
  pub items : trees_of parsed.tree ≡ items_in tokens
  pub faults : map fault_of parsed.faults.items ≡ faults_in tokens

-- these trees are the items of the text
pub record AreItemsOf (text : List ℕ) (items : List plain.Tree) : Type 0 where
  pub tokens : List Tok
  pub lexed : Lex text tokens
  pub are : items ≡ items_in tokens
