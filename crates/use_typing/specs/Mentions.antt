-- Names that are written one after another, and where each of them is.
use denote.Ref.{Bor}
use Rattle.std.specs.Prelude.{◌≡◌, ℕ, suc, Bool, false, List, [], ◌∷◌, slice_get, Option, Some, None, option_map, if◌then◌else◌}
use Rattle.std.specs.Str.{bytes_eq}
use Rattle.std.specs.HashMap.{HashMap, get_by}
use Rattle.token_model.specs.Kinds.{Tok}
use Rattle.signature_model.specs.Declarations.{Name}
use Rattle.syntax_tree.specs.declared.tree.Token.{Token}

-- tokens of names, in order
pub record Mentions : Type 0 where
  pub items : List (Bor Token)

-- where the first of some tokens with a name is
abbrev pub place_of : Name → List Tok → Option ℕ
place_of n [] = None
place_of n (t ∷ ts) = if bytes_eq t.name n then Some 0 else option_map (λ i. suc i) (place_of n ts)

-- whether a token is there and has a name
abbrev pub named_at : Name → Option Tok → Bool
named_at n None = false
named_at n (Some t) = bytes_eq t.name n

-- whether the token at a place, where one is known, has a name
abbrev pub found_at : Name → List Tok → Option ℕ → Bool
found_at n ts None = false
found_at n ts (Some i) = named_at n (slice_get ts i)

-- the place that a map has for a name
abbrev pub place_in : {S : Type 0} → HashMap (Bor (List ℕ)) ℕ S → Name → Option ℕ
place_in m n = get_by (λ k. bytes_eq n k.now) m

-- a map has for each name of some tokens where it is first
abbrev pub HasPlaces : {S : Type 0} → HashMap (Bor (List ℕ)) ℕ S → List Tok → Type 0
HasPlaces m ts = (n : Name) (i : ℕ) → place_of n ts ≡ Some i → place_in m n ≡ Some i
