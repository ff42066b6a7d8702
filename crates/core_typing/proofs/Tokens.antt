-- Tokens that may be there.
use Rattle.std.proofs.Common.{◌≡◌, ◌∙◌, sym, ap}
use Rattle.std.specs.Prelude.{Option, Some, None, option_map}
use denote.Ref.{Bor}
use Rattle.tree_model.specs.Trees.{Tree}
use Rattle.syntax_tree.specs.View.{tok_of}
use Rattle.syntax_tree.specs.declared.tree.Token.{Token}
use Rattle.row_parts.specs.Numbered.{token_in}

-- one that isn't there
pub no_token : (t : Tree) (k : Option (Bor Token)) → option_map (λ w. tok_of w.now) k ≡ token_in t 1 → k ≡ None → token_in t 1 ≡ None
no_token t k e is = sym e ∙ ap (option_map (λ w. tok_of w.now)) is

-- one that is
pub some_token : (t : Tree) (k : Option (Bor Token)) (w : Bor Token) → option_map (λ w. tok_of w.now) k ≡ token_in t 1 → k ≡ Some w → token_in t 1 ≡ Some (tok_of w.now)
some_token t k w e is = sym e ∙ ap (option_map (λ w. tok_of w.now)) is
