-- What the names are in the definitions.
use Rattle.text_terms.specs.Bytes.{str_bytes}
use Rattle.query_model.specs.NameTokens.{Name}
use Rattle.syntax_tree.specs.View.{id_of, place_of}
use Rattle.name_queries.specs.declared.name_tokens.NameToken.{NameToken}

-- a name token of the code
abbrev pub name_of : NameToken → Name
name_of n = record { node = id_of n.node; index = n.index; span = place_of n.span; name = str_bytes n.name }
