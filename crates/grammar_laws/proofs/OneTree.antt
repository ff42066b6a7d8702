-- What holds of the named trees in the grammar of a text.
use Rattle.std.proofs.Common.{◌≡◌, List, sym, ◌∙◌, ap}
use Rattle.token_model.specs.Kinds.{Tok}
use Rattle.tree_model.specs.Trees as plain
use Rattle.grammar_model.specs.Named.{named}
use Rattle.grammar_model.specs.Ocaml.{Text, row_name}
use Rattle.grammar_laws.proofs.Promises as promises
use Rattle.grammar_laws.specs.Trees.{IsTreeOf}

-- at most one tree has these tokens
pub one_tree : (text : Text) (ts : List Tok) (T U : plain.Tree) → IsTreeOf text ts T → IsTreeOf text ts U → T ≡ U
one_tree text ts T U t u = t.named ∙ ap (named row_name) (promises.one_tree text ts t.tree u.tree t.inside u.inside) ∙ sym u.named
