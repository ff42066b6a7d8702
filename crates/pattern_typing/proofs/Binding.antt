-- Names that patterns bind, one after another.
use Rattle.std.proofs.Common.{◌≡◌, ◌∙◌, ◌++◌, List, [], ◌∷◌, refl, sym, ap, append_assoc, append-nil}
use Rattle.std.specs.Prelude.{OnOk, Result, Ok, Err}
use Rattle.token_model.specs.Kinds.{Tok}
use Rattle.syntax_tree.specs.View.{tok_of}
use Rattle.pattern_typing.specs.Matching.{tokens_of, Binds}
use Rattle.pattern_typing.specs.declared.patterns.BoundName.{BoundName}

-- no name
pub binds_none : (xs : List BoundName) → Binds xs xs []
binds_none xs = record { bound = sym (append-nil (tokens_of xs)) }

-- some names, and then others
pub binds_both : (a b c : List BoundName) (x y : List Tok) → Binds a b x → Binds b c y → Binds a c (x ++ y)
binds_both a b c x y p q = record { bound = q.bound ∙ ap (λ ts. ts ++ y) p.bound ∙ append_assoc (tokens_of a) x y }

-- the same, where the last call's result is the result
pub binds_ends : {A E : Type 0} (r : Result A E) (a b c : List BoundName) (x y : List Tok) → Binds a b x → OnOk r (Binds b c y) → OnOk r (Binds a c (x ++ y))
binds_ends (Ok v) a b c x y p q = binds_both a b c x y p q
binds_ends (Err e) a b c x y p q = q

-- the tokens of two lists
pub tokens_both : (a b : List BoundName) → tokens_of (a ++ b) ≡ tokens_of a ++ tokens_of b
tokens_both [] b = refl
tokens_both (x ∷ xs) b = ap (λ ts. tok_of x.token.now ∷ ts) (tokens_both xs b)

-- a name behind others
pub binds_one : (a b : List BoundName) (x : BoundName) → b ≡ a ++ x ∷ [] → Binds a b (tok_of x.token.now ∷ [])
binds_one a b x e = record { bound = ap tokens_of e ∙ tokens_both a (x ∷ []) }
