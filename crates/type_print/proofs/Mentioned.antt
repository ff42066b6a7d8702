-- Each origin in a type that nodes show is declared by one of them.
use Rattle.std.proofs.Common.{◌≡◌, inl, inr, ℕ, zero, suc, true, List, [], ◌∷◌, map, length, Option, Some, None, refl, sym, ◌∙◌, ap, subst}
use Rattle.std.specs.Prelude.{slice_get}
use Rattle.std.specs.Str.{bytes_eq}
use Rattle.std.proofs.lemmas.Slice.Eq.{bytes_eq-Decides}
use Rattle.type_model.specs.Types.{Path, types_of}
use Rattle.signature_model.specs.Declarations.{Name}
use Rattle.type_nodes.specs.Nodes.{Node, Var, Rigid, Link, Arrow, Tuple, Con}
use Rattle.type_nodes.specs.Readings.{Types}
use Rattle.type_nodes.proofs.Roots.{next_stays, root_here}
use Rattle.type_print_model.specs.Printing.{mentions, mentions_any}
use Rattle.type_print.specs.Shown.{shown_from, shown_in, shown}
use Rattle.type_print.specs.Texts.{IsDeclared}
use Rattle.type_print.proofs.Ranks.{or_cases}

-- some name by which a node declares an origin
abbrev pub HasDeclared : List Node → Path → Type 0
HasDeclared nodes o = (name : Name) × IsDeclared nodes o name

-- an origin in one of several types is in one of them
any_declared : (nodes : List Node) (below : Types) (o : Path) → ((m : ℕ) → mentions o (below m) ≡ true → HasDeclared nodes o) → (ms : List ℕ) → mentions_any o (types_of (map below ms)) ≡ true → HasDeclared nodes o
any_declared nodes below o each [] h = absurd (cc)
any_declared nodes below o each (m ∷ ms) h = elim (or_cases (mentions o (below m)) (mentions_any o (types_of (map below ms))) h) [
  | inl here ↦ each m here
  | inr later ↦ any_declared nodes below o each ms later
]

-- a node that is a constructor declares its path by its name
here_declared : (nodes : List Node) (n : ℕ) (o p : Path) (name ms : List ℕ) → slice_get nodes n ≡ Some (Con p name ms) → o ≡ p → HasDeclared nodes o
here_declared nodes n o p name ms e same =
    let reads : slice_get nodes n ≡ Some (Con o name ms) = subst (λ q. slice_get nodes n ≡ Some (Con q name ms)) (sym same) e in
    (name, (n, ms, ap (slice_get nodes) (root_here nodes n (next_stays nodes n (Con p name ms) e tt)) ∙ reads))

-- an origin in what is built from a node is that of the node or in a part
from_declared : (nodes : List Node) (below : Types) (n : ℕ) (o : Path) → ((m : ℕ) → mentions o (below m) ≡ true → HasDeclared nodes o) → (c : Option Node) → slice_get nodes n ≡ c → mentions o (shown_from below n c) ≡ true → HasDeclared nodes o
from_declared nodes below n o each None e h = absurd (cc)
from_declared nodes below n o each (Some (Var level scope)) e h = absurd (cc)
from_declared nodes below n o each (Some Rigid) e h = absurd (cc)
from_declared nodes below n o each (Some (Link m)) e h = each m h
from_declared nodes below n o each (Some (Arrow a b)) e h = elim (or_cases (mentions o (below a)) (mentions o (below b)) h) [
  | inl left ↦ each a left
  | inr right ↦ each b right
]
from_declared nodes below n o each (Some (Tuple ms)) e h = any_declared nodes below o each ms h
from_declared nodes below n o each (Some (Con p name ms)) e h = elim (or_cases (bytes_eq o p) (mentions_any o (types_of (map below ms))) h) [
  | inl here ↦ here_declared nodes n o p name ms e ((bytes_eq-Decides o p).0 here)
  | inr later ↦ any_declared nodes below o each ms later
]

-- an origin in what is read in so many steps is that of a node
in_declared : (nodes : List Node) (k n : ℕ) (o : Path) → mentions o (shown_in k nodes n) ≡ true → HasDeclared nodes o
unfolding shown_in
in_declared nodes zero n o h = absurd (cc)
in_declared nodes (suc k) n o h = from_declared nodes (shown_in k nodes) n o (λ m i. in_declared nodes k m o i) (slice_get nodes n) refl h

-- an origin in a node's type is declared by a node
pub shown_declared : (nodes : List Node) (n : ℕ) (o : Path) → mentions o (shown nodes n) ≡ true → HasDeclared nodes o
unfolding shown
shown_declared nodes n o h = in_declared nodes (suc (length nodes)) n o h
