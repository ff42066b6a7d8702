-- Whose type variables those of a type expression are.
use Rattle.std.specs.Prelude.{◌≡◌, ℕ, List, [], ◌∷◌, map, Option, Some, None, if◌then◌else◌}
use Rattle.std.specs.Option.{option_or}
use Rattle.std.specs.Str.{bytes_eq}
use Rattle.text_terms.specs.Bytes.{str_bytes}
use Rattle.signature_model.specs.Declarations.{Name}
use Rattle.type_terms.specs.declared.types.NodeRef.{NodeRef}
use Rattle.type_expressions.specs.declared.types.Parameter.{Parameter}
use Rattle.type_expressions.specs.declared.types.Variables.{Variables}
use Rattle.type_expressions.specs.declared.types.Variables.TheVariants.{OfItem, Parameters}

-- type variables are those of an item
abbrev pub IsOfItem : Variables → Type 0
IsOfItem variables = variables ≡ OfItem

-- the names of parameters
abbrev pub names_of : List Parameter → List Name
names_of ps = map (λ (p : Parameter). str_bytes p.name) ps

-- type variables are parameters of a declaration, with these names
abbrev pub IsOver : Variables → List Name → Type 0
IsOver OfItem names = ⊥
IsOver (Parameters ps) names = names_of ps.items ≡ names

-- the nodes of parameters
abbrev pub nodes_of : List Parameter → List ℕ
nodes_of ps = map (λ (p : Parameter). p.node.0) ps

-- type variables are parameters of a declaration, with these nodes
abbrev pub HasNodes : Variables → List ℕ → Type 0
HasNodes OfItem ms = ⊥
HasNodes (Parameters ps) ms = nodes_of ps.items ≡ ms

-- the node of the parameter of a name, of two the later one
abbrev pub parameter_in : Name → List Parameter → Option NodeRef
parameter_in n [] = None
parameter_in n (p ∷ ps) = option_or (parameter_in n ps) (if bytes_eq (str_bytes p.name) n then Some p.node else None)
