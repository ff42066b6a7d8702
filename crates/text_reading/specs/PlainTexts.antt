-- What a text was read as.
use Rattle.std.specs.Prelude.{◌≡◌, ℕ, List, map, length, option_map}
use Rattle.token_model.specs.Kinds.{Tok, AllWithin}
use Rattle.token_model.specs.Tokens.{Lex}
use Rattle.tree_model.specs.Trees.{Tree}
use Rattle.plain_model.specs.Plain as plain
use Rattle.service_model.specs.Structure.{items_in, faults_in}
use Rattle.service_model.specs.WellTyped.{is_well_typed}
use Rattle.syntax_tree.specs.View.{trees_of}
use Rattle.plain_typing.specs.View.{seen_of}
use Rattle.text_queries.specs.Faults.{fault_of}
use Rattle.text_reading.specs.declared.plain.PlainText.{PlainText}
use Rattle.text_reading.specs.declared.reading.ReadText.{ReadText}
use Rattle.text_reading.specs.Structures.{parsed_in}

-- a plain text of the code: its items, and its typed nodes with their types
abbrev pub plain_of : PlainText → List Tree × List plain.Seen
plain_of p = (trees_of p.tree, map seen_of p.seen.items)

-- the text's tokens, what they are parsed as, what they are as those of a plain text, where they are, and whether that is well typed
pub record IsReadAs (text : List ℕ) (read : ReadText) : Type 0 where
  pub tokens : List Tok
  pub lexed : Lex text tokens
  pub within : AllWithin (length text) tokens
  pub items : trees_of (parsed_in read.parsed).tree ≡ items_in tokens
  pub faults : map fault_of (parsed_in read.parsed).faults.items ≡ faults_in tokens
  pub plain : option_map plain_of read.plain ≡ plain.plain_text tokens
  pub well_typed : read.is_well_typed ≡ is_well_typed tokens
